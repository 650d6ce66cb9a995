-- The steps of the calculus, for what is still to be read by a grammar.
use Rattle.std.proofs.Common.{◌≡◌, ◌≢◌, ℕ, ◌+◌, List, [], ◌∷◌, ◌++◌, Option, None, Some, refl, sym, ap, ◌∙◌, subst}
use Rattle.derivation.specs.declared.rule.Rule.{Rule}
use Rattle.derivation.specs.declared.rule.Rule.TheVariants.{Expected}
use Rattle.derivation.specs.Pieces.{Token, Piece, token, look, Rest, spelling, first, first_before, number_behind, FitsBefore, Fits}
use Rattle.derivation.specs.Limits.{IsWithin, AllWithin, count_behind, count_on, BreaksLimit}
use Rattle.derivation.specs.Comes.{MayStandFor, IsNext, AllBreak, Cause}
use Rattle.derivation.specs.Grammars.{Grammar, Trees, pieces, Leads, Stops}
use Rattle.derivation.proofs.Calculus as calculus
use Rattle.derivation.proofs.Calculus.{first_spelling, first_behind, at_once}

-- What the proofs ask of a grammar: all that is to be read can be completed, from the token of any number on, by words of which the first may
-- stand for any other; and a tree may hold the number of its first token.
pub record Lawful (G : Grammar) : Type 0 where
  pub complete : (at : ℕ) (all : G.Sequence) → Trees G all
  pub fits : (at : ℕ) (all : G.Sequence) → Fits at (pieces G all (complete at all))
  pub stands : (at : ℕ) (all : G.Sequence) (next : Option G.language.Word)
      → MayStandFor G.language (first_before (pieces G all (complete at all)) None) next
  pub is_at : ℕ → G.language.Look
  pub met : (n : ℕ) (next : Option G.language.Word) → G.language.Meets (is_at n) n next
  pub tells : (m n : ℕ) (next : Option G.language.Word) → G.language.Meets (is_at m) n next → m ≡ n

module _ {G : Grammar} where
  pub over : {c d e : ℕ} {A B C : G.Sequence} {a b x : Rest G.language} {F : Trees G B → Trees G A} {H : Trees G C → Trees G B}
      → Leads G c A a d B b F → Leads G d B b e C x H → Leads G c A a e C x (λ g. F (H g))
  over p q = record { comes = calculus.over p.comes q.comes }

  pub stay : (c : ℕ) (A : G.Sequence) (from : Rest G.language) → Leads G c A from c A from (λ g. g)
  stay c A from = record { comes = calculus.here c (G.phrase A) from }

  pub fails : {c d : ℕ} {A B : G.Sequence} {a b x : Rest G.language} {F : Trees G B → Trees G A} {rule : Rule}
      → Leads G c A a d B b F → Stops G d B b rule x → Stops G c A a rule x
  fails p q = record { breaks = calculus.fails p.comes q.breaks }

  -- trees made in another way, but the same trees
  pub refilled : {c d : ℕ} {A B : G.Sequence} {a b : Rest G.language} {F H : Trees G B → Trees G A}
      → ((g : Trees G B) → F g ≡ H g) → Leads G c A a d B b F → Leads G c A a d B b H
  refilled {c} {d} {A} {B} {a} {b} {F} {H} same p = record {
    comes = record {
      front = p.comes.front;
      parted = p.comes.parted;
      numbered = p.comes.numbered;
      within = p.comes.within;
      counted = p.comes.counted;
      fits = p.comes.fits;
      spells = λ g. ap (pieces G A) (sym (same g)) ∙ p.comes.spells g;
      only = λ f fits rest e next. let found = p.comes.only f fits rest e next in (found.0, found.1 ∙ same found.0);
    };
  }

module _ {G : Grammar} {A B : G.Sequence} {c : ℕ} {from : Rest G.language} {fill : Trees G B → Trees G A} where
  -- What is still to be read is something else where the next word opens it so: each tree of the one is a tree of the other, with the same
  -- pieces behind `front`, which has no words, and each tree whose first word opens it so is one.
  opens : (Opens : Option G.language.Word → Type 0) → (front : List (Piece G.language)) → (spelling front ≡ [])
      → (from.number ≡ number_behind from.number front) → AllWithin c front → (c ≡ count_behind c front) → FitsBefore from.number front (first from.words)
      → ((g : Trees G B) → pieces G A (fill g) ≡ front ++ pieces G B g)
      → ((f : Trees G A) → Fits from.number (pieces G A f) → Opens (first_before (pieces G A f) None) → (g : Trees G B) × (f ≡ fill g))
      → Opens (first from.words) → Leads G c A from c B from fill
  opens Opens front empty numbered within counted fits spells view is = record {
    comes = record {
      front = front;
      parted = ap (λ ws. ws ++ from.words) (sym empty);
      numbered = numbered;
      within = within;
      counted = counted;
      fits = fits;
      spells = spells;
      only = λ f f_fits rest e next.
          view f f_fits
          (subst Opens (sym (sym (first_spelling (pieces G A f)) ∙ ap first (e ∙ ap (λ ws. ws ++ rest) empty) ∙ next)) is);
    };
  }

  -- where no piece is before them, or what is asked of the next token
  pub turns : (Opens : Option G.language.Word → Type 0) → ((g : Trees G B) → pieces G A (fill g) ≡ pieces G B g)
      → ((f : Trees G A) → Fits from.number (pieces G A f) → Opens (first_before (pieces G A f) None) → (g : Trees G B) × (f ≡ fill g))
      → Opens (first from.words) → Leads G c A from c B from fill
  turns Opens spells view is = opens Opens [] refl refl tt refl tt spells view is

  pub looks : (Opens : Option G.language.Word → Type 0) (l : G.language.Look) → G.language.Meets l from.number (first from.words)
      → ((g : Trees G B) → pieces G A (fill g) ≡ look l ∷ pieces G B g)
      → ((f : Trees G A) → Fits from.number (pieces G A f) → Opens (first_before (pieces G A f) None) → (g : Trees G B) × (f ≡ fill g))
      → Opens (first from.words) → Leads G c A from c B from fill
  looks Opens l meets spells view is = opens Opens (look l ∷ []) refl refl tt refl (meets, tt) spells view is

  -- where each tree of the one is made of one of the other, of the same pieces
  pub becomes : ((g : Trees G B) → pieces G A (fill g) ≡ pieces G B g) → ((f : Trees G A) → (g : Trees G B) × (f ≡ fill g)) → Leads G c A from c B from fill
  becomes spells view = turns (λ next. Unit {0}) spells (λ f fits any. view f) tt

-- no tree goes on with the next word
pub sticks : {G : Grammar} (laws : Lawful G) (A : G.Sequence) → (c : ℕ) → (from : Rest G.language) → (Opens : Option G.language.Word → Type 0)
    → ((f : Trees G A) → Fits from.number (pieces G A f) → Opens (first_before (pieces G A f) None) → ⊥)
    → Opens (first from.words) → Stops G c A from Expected from
sticks {G} laws A c from Opens never is = record {
  breaks = record {
    front = [];
    rest = pieces G A (laws.complete from.number A);
    parted = refl;
    numbered = refl;
    within = tt;
    tree = laws.complete from.number A;
    fits = laws.fits from.number A;
    begins = refl;
    stands = laws.stands from.number A _;
    cause = λ f fits behind e next. never f fits (subst Opens (sym (sym (first_spelling (pieces G A f)) ∙ ap first e ∙ next)) is);
  };
}

-- Things to be read of which each tree that begins with this token is the token and what stands behind it.
pub record Headed (G : Grammar) (A : G.Sequence) (t : Token G.language) (B : G.Sequence) (fill : Trees G B → Trees G A) : Type 0 where
  pub spells : (g : Trees G B) → pieces G A (fill g) ≡ token t ∷ pieces G B g
  pub view : (n : ℕ) (f : Trees G A) → Fits n (pieces G A f) → first_before (pieces G A f) None ≡ Some t.word → (g : Trees G B) × (f ≡ fill g)

module _ {G : Grammar} {A : G.Sequence} {t : Token G.language} {B : G.Sequence} {fill : Trees G B → Trees G A} (x : Headed G A t B fill) where
  -- the token stands where it has to
  pub read : {c : ℕ} {from to : Rest G.language} → IsNext t.word from to → IsWithin c t → Leads G c A from (count_on c t.counting) B to fill
  read {c} {from} {to} e within = record {
    comes = record {
      front = token t ∷ [];
      parted = e.0;
      numbered = e.1;
      within = (within, tt);
      counted = refl;
      fits = tt;
      spells = x.spells;
      only = λ f fits rest same next. x.view from.number f fits (sym (first_spelling (pieces G A f)) ∙ ap first same);
    };
  }

  -- it breaks a limit there, whatever tree spells it
  pub exceeds : (laws : Lawful G) {c : ℕ} {from to : Rest G.language} → IsNext t.word from to → (rule : Rule) → rule ≢ Expected → BreaksLimit c t rule
      → Stops G c A from rule from
  exceeds laws {c} {from} {to} e rule limit breaks =
      let inner = laws.complete (from.number + 1) B in record {
        breaks = record {
          front = [];
          rest = pieces G A (fill inner);
          parted = refl;
          numbered = refl;
          within = tt;
          tree = fill inner;
          fits = subst (Fits from.number) (sym (x.spells inner)) (laws.fits (from.number + 1) B);
          begins = refl;
          stands = subst (MayStandFor G.language (first_before (pieces G A (fill inner)) None))
              (ap (λ ps. first_before ps None) (x.spells inner) ∙ sym (ap first e.0)) (λ l n meets. meets);
          cause = cause rule limit breaks all;
        };
      }
    where
      all : AllBreak from.number c (G.phrase A) rule [] (first from.words)
      all f fits before after u split words same =
          let found = x.view from.number f fits (ap (λ ps. first_before ps None) split ∙ first_behind before after u words ∙ same ∙ ap first e.0) in
          at_once c rule before after (pieces G B found.0) u t (sym split ∙ ap (pieces G A) found.1 ∙ x.spells found.0) words breaks

      cause : (r : Rule) → r ≢ Expected → BreaksLimit c t r → AllBreak from.number c (G.phrase A) r [] (first from.words)
          → Cause from.number c (G.phrase A) r [] (pieces G A (fill (laws.complete (from.number + 1) B))) (first from.words)
      cause Expected h k all = absurd (h refl)
      cause _ h k all = (t, pieces G B (laws.complete (from.number + 1) B), x.spells (laws.complete (from.number + 1) B), ap first e.0, k, all)
