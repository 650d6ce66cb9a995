-- What the next word chooses: readings that go on in one of several ways.
use Rattle.std.proofs.Common.{◌≡◌, ◌≢◌, ℕ, ◌⊎◌, inl, inr, List, [], ◌∷◌, Option, None, Some, sym, ap, ◌∙◌, subst}
use Rattle.derivation.specs.declared.rule.Rule.TheVariants.{Expected}
use Rattle.derivation.specs.Pieces.{Token, token, look, Rest, first, first_before, Fits}
use Rattle.derivation.specs.Limits.{IsWithin, count_on}
use Rattle.derivation.specs.Comes.{IsNext}
use Rattle.derivation.specs.Grammars.{Grammar, Trees, pieces, Leads, Stops}
use Rattle.derivation.proofs.Grammars.{Lawful, turns, looks, sticks, Headed, read}

-- the first word of a tree
abbrev pub begins : (G : Grammar) (A : G.Sequence) → Trees G A → Option G.language.Word
begins G A f = first_before (pieces G A f) None

-- this opening lets the tree begin, and what is then left has a tree of which this one is made
abbrev pub Way : (G : Grammar) {Opening : Type 0} (A : G.Sequence) (IsOpen : Opening → Type 0) (rest : Opening → G.Sequence)
    (fill : (o : Opening) → Trees G (rest o) → Trees G A) → Opening → Trees G A → Type 0
Way G A IsOpen rest fill o f = IsOpen o × (g : Trees G (rest o)) × (f ≡ fill o g)

-- Things to be read that open in several ways, told by their first word. Where that lets none begin, none of them has it.
pub record Choice (G : Grammar) {Opening : Type 0} (A : G.Sequence) (classify : Option G.language.Word → Opening) (IsOpen : Opening → Type 0)
    (rest : Opening → G.Sequence) (fill : (o : Opening) → Trees G (rest o) → Trees G A) : Type 0 where
  pub spells : (o : Opening) (g : Trees G (rest o)) → pieces G A (fill o g) ≡ pieces G (rest o) g
  pub view : (f : Trees G A) → Way G A IsOpen rest fill (classify (begins G A f)) f

module _ {G : Grammar} {Opening : Type 0} {A : G.Sequence} {classify : Option G.language.Word → Opening} {IsOpen : Opening → Type 0}
    {rest : Opening → G.Sequence} {fill : (o : Opening) → Trees G (rest o) → Trees G A} (x : Choice G A classify IsOpen rest fill) where
  pub goes : (c : ℕ) (from : Rest G.language) (o : Opening) → o ≡ classify (first from.words) → Leads G c A from c (rest o) from (fill o)
  goes c from o e =
      turns (λ next. classify next ≡ o) (x.spells o)
      (λ f fits is. let way = subst (λ o. Way G A IsOpen rest fill o f) is (x.view f) in (way.1, way.2)) (sym e)

  pub stuck : (laws : Lawful G) (c : ℕ) (from : Rest G.language) (o : Opening) → (IsOpen o → ⊥) → o ≡ classify (first from.words)
      → Stops G c A from Expected from
  stuck laws c from o closed e =
      sticks laws A c from (λ next. classify next ≡ o) (λ f fits is. closed (subst IsOpen is (x.view f).0)) (sym e)

-- where the way that a token opens begins with that token
pub headed : {G : Grammar} {Opening : Type 0} {A : G.Sequence} {classify : Option G.language.Word → Opening} {IsOpen : Opening → Type 0}
    {rest : Opening → G.Sequence} {fill : (o : Opening) → Trees G (rest o) → Trees G A} {t : Token G.language} {B : G.Sequence} (o : Opening)
    {inner : Trees G B → Trees G (rest o)} (x : Choice G A classify IsOpen rest fill) → classify (Some t.word) ≡ o → Headed G (rest o) t B inner
    → Headed G A t B (λ g. fill o (inner g))
headed {G} {Opening} {A} {classify} {IsOpen} {rest} {fill} {t} {B} o {inner} x is h = record {
  spells = λ g. x.spells o (inner g) ∙ h.spells g;
  view = λ n f fits next.
      let way = subst (λ o. Way G A IsOpen rest fill o f) (ap classify next ∙ is) (x.view f) in
      let same : pieces G A f ≡ pieces G (rest o) way.1 = ap (pieces G A) way.2 ∙ x.spells o way.1 in
      let found = h.view n way.1 (subst (Fits n) same fits) (sym (ap (λ ps. first_before ps None) same) ∙ next) in
      (found.0, way.2 ∙ ap (fill o) found.1);
}

-- a tree that begins with a token, or is made as others are that don't begin with its word
abbrev pub Sides : (G : Grammar) (A : G.Sequence) (t : Token G.language) (B : G.Sequence) (fill : Trees G B → Trees G A) (C : G.Sequence)
    (other : Trees G C → Trees G A) → Trees G A → Type 0
Sides G A t B fill C other f = ((g : Trees G B) × (f ≡ fill g)) ⊎ ((g : Trees G C) × (f ≡ other g) × (begins G A f ≢ Some t.word))

-- things to be read of which each tree is so
pub record Fork (G : Grammar) (A : G.Sequence) (t : Token G.language) (B : G.Sequence) (fill : Trees G B → Trees G A) (C : G.Sequence)
    (other : Trees G C → Trees G A) : Type 0 where
  pub spells : (g : Trees G B) → pieces G A (fill g) ≡ token t ∷ pieces G B g
  pub spells_other : (g : Trees G C) → pieces G A (other g) ≡ pieces G C g
  pub view : (f : Trees G A) → Sides G A t B fill C other f

-- where a word isn't the first, it isn't the next
pub not_next : {W : Type 0} (w : W) (ws : List W) → ((to : List W) → ws ≢ w ∷ to) → first ws ≢ Some w
not_next w [] h e = cc
not_next w (v ∷ ws) h e = h ws (let same : v ≡ w = cc in ap (λ x. x ∷ ws) same)

module _ {G : Grammar} {A : G.Sequence} {t : Token G.language} {B : G.Sequence} {fill : Trees G B → Trees G A} {C : G.Sequence}
    {other : Trees G C → Trees G A} (x : Fork G A t B fill C other) where
  pub this_side : Headed G A t B fill
  this_side = record { spells = x.spells; view = λ n f fits next. by_way f next (x.view f) }
    where
      by_way : (f : Trees G A) → begins G A f ≡ Some t.word → Sides G A t B fill C other f → (g : Trees G B) × (f ≡ fill g)
      by_way f next (inl h) = h
      by_way f next (inr h) = absurd (h.2 next)

  that_side : (f : Trees G A) → begins G A f ≢ Some t.word → (g : Trees G C) × (f ≡ other g)
  that_side f differs = by_way (x.view f)
    where
      by_way : Sides G A t B fill C other f → (g : Trees G C) × (f ≡ other g)
      by_way (inl h) = absurd (differs (ap (begins G A) h.1 ∙ ap (λ ps. first_before ps None) (x.spells h.0)))
      by_way (inr h) = (h.0, h.1)

  pub taken : {c : ℕ} {from to : Rest G.language} → IsNext t.word from to → IsWithin c t → Leads G c A from (count_on c t.counting) B to fill
  taken e within = read this_side e within

  pub left_out : {c : ℕ} {from : Rest G.language} → first from.words ≢ Some t.word → Leads G c A from c C from other
  left_out differs = turns (λ next. next ≢ Some t.word) x.spells_other (λ f fits other_word. that_side f other_word) differs

-- Things to be read that hold the number of their first token, and are others but for that.
pub record Held {G : Grammar} (laws : Lawful G) (A : G.Sequence) (B : ℕ → G.Sequence) (fill : (m : ℕ) → Trees G (B m) → Trees G A) : Type 0 where
  pub spells : (m : ℕ) (g : Trees G (B m)) → pieces G A (fill m g) ≡ look (laws.is_at m) ∷ pieces G (B m) g
  pub view : (f : Trees G A) → (m : ℕ) × (g : Trees G (B m)) × (f ≡ fill m g)

module _ {G : Grammar} {laws : Lawful G} {A : G.Sequence} {B : ℕ → G.Sequence} {fill : (m : ℕ) → Trees G (B m) → Trees G A} (x : Held laws A B fill) where
  -- what fits holds the number of its token
  pub placed : (n : ℕ) (f : Trees G A) → Fits n (pieces G A f) → (g : Trees G (B n)) × (f ≡ fill n g) × Fits n (pieces G (B n) g)
  placed n f fits =
      let way = x.view f in
      let parts : Fits n (look (laws.is_at way.0) ∷ pieces G (B way.0) way.1) = subst (Fits n) (ap (pieces G A) way.2 ∙ x.spells way.0 way.1) fits in
      moved way.0 (laws.tells way.0 n _ parts.0) way.1 way.2 parts.1
    where
      moved : (m : ℕ) → m ≡ n → (g : Trees G (B m)) → f ≡ fill m g → Fits n (pieces G (B m) g)
          → (g : Trees G (B n)) × (f ≡ fill n g) × Fits n (pieces G (B n) g)
      moved m e = subst (λ k. (g : Trees G (B k)) → f ≡ fill k g → Fits n (pieces G (B k) g) → (g : Trees G (B n)) × (f ≡ fill n g) × Fits n (pieces G (B n) g))
          (sym e) (λ g same h. (g, same, h))

  pub held : (c : ℕ) (from : Rest G.language) → Leads G c A from c (B from.number) from (fill from.number)
  held c from =
      looks (λ next. Unit {0}) (laws.is_at from.number) (laws.met from.number _) (x.spells from.number)
      (λ f fits any. let here = placed from.number f fits in (here.0, here.1)) tt
