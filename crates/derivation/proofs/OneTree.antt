-- Words are what at most one tree spells: it is so of what is to be read where it is of what that comes to.
use Rattle.std.proofs.Common.{◌≡◌, ◌≢◌, ◌⊎◌, inl, inr, ℕ, zero, suc, ◌+◌, ◌<◌, [], ◌∷◌, ◌++◌, length, Option, None, Some, refl, sym, ap, ◌∙◌, subst, arith}
use Rattle.derivation.specs.Pieces.{Token, token, look, Rest, number_behind, spelling, first, first_before, FitsBefore, Fits}
use Rattle.derivation.specs.Grammars.{Grammar, Trees, pieces, Leads}
use Rattle.derivation.proofs.Calculus.{cancel, spelling-append, fits-behind, first_spelling}
use Rattle.derivation.proofs.Grammars.{Lawful, Headed}
use Rattle.derivation.proofs.Choices.{begins, Choice, Sides, Fork, Held, placed, goes, this_side, left_out}

-- all trees that spell the words of these are these, whatever the number of their first token
pub record IsOnly (G : Grammar) (A : G.Sequence) (trees : Trees G A) : Type 0 where
  pub same : (n : ℕ) (others : Trees G A) → Fits n (pieces G A trees) → Fits n (pieces G A others)
      → spelling (pieces G A trees) ≡ spelling (pieces G A others) → others ≡ trees

abbrev pub own : (G : Grammar) → ℕ → (A : G.Sequence) → Trees G A → Rest G.language
own G n A trees = record { number = n; words = spelling (pieces G A trees) }

module _ {G : Grammar} where
  -- what may be known of the trees: that they fit
  pub fitting : {A : G.Sequence} {trees : Trees G A} → ((n : ℕ) → Fits n (pieces G A trees) → IsOnly G A trees) → IsOnly G A trees
  fitting h = record { same = λ n others fits others_fit e. (h n fits).same n others fits others_fit e }

  -- where reading its own words is reading something else
  pub through : {A B : G.Sequence} {c : ℕ} {fill : Trees G B → Trees G A} (g : Trees G B)
      → ((n : ℕ) → Leads G 0 A (own G n A (fill g)) c B (own G n A (fill g)) fill) → IsOnly G B g → IsOnly G A (fill g)
  through {A} {B} {c} {fill} g goes d = record {
    same = λ n others fits others_fit words.
        let x = (goes n).comes in
        let mine : pieces G A (fill g) ≡ x.front ++ pieces G B g = x.spells g in
        let left : spelling (pieces G A (fill g)) ≡ spelling (pieces G B g) =
        cancel (spelling x.front) (sym x.parted ∙ ap spelling mine ∙ spelling-append x.front (pieces G B g)) in
        let found = x.only others others_fit (spelling (pieces G A (fill g))) (sym words ∙ x.parted) refl in
        let theirs : pieces G A others ≡ x.front ++ pieces G B found.0 = ap (pieces G A) found.1 ∙ x.spells found.0 in
        let their_left : spelling (pieces G A (fill g)) ≡ spelling (pieces G B found.0) =
        cancel (spelling x.front) (sym x.parted ∙ words ∙ ap spelling theirs ∙ spelling-append x.front (pieces G B found.0)) in
        let here : (trees : Trees G B) → FitsBefore (number_behind n x.front) (pieces G B trees) None → Fits n (pieces G B trees) =
        (λ trees h. subst (λ m. Fits m (pieces G B trees)) (sym x.numbered) h) in
        found.1 ∙ ap fill (d.same n found.0 (here g (fits-behind x.front (pieces G B g) n None (subst (Fits n) mine fits)))
        (here found.0 (fits-behind x.front (pieces G B found.0) n None (subst (Fits n) theirs others_fit))) (sym left ∙ their_left));
  }

  -- where a token is its first word
  pub headed_one : {A : G.Sequence} {t : Token G.language} {B : G.Sequence} {fill : Trees G B → Trees G A} (x : Headed G A t B fill) (g : Trees G B)
      → IsOnly G B g → IsOnly G A (fill g)
  headed_one {A} {t} {B} {fill} x g d = record {
    same = λ n others fits others_fit words.
        let mine : pieces G A (fill g) ≡ token t ∷ pieces G B g = x.spells g in
        let next : first_before (pieces G A others) None ≡ Some t.word =
        sym (first_spelling (pieces G A others)) ∙ ap first (sym words) ∙ ap (λ ps. first (spelling ps)) mine in
        let found = x.view n others others_fit next in
        let theirs : pieces G A others ≡ token t ∷ pieces G B found.0 = ap (pieces G A) found.1 ∙ x.spells found.0 in
        let all : t.word ∷ spelling (pieces G B g) ≡ t.word ∷ spelling (pieces G B found.0) = sym (ap spelling mine) ∙ words ∙ ap spelling theirs in
        found.1 ∙ ap fill (d.same (n + 1) found.0 (subst (Fits n) mine fits) (subst (Fits n) theirs others_fit) (cancel (t.word ∷ []) all));
  }

-- what opens in one of several ways
pub chosen : {G : Grammar} {Opening : Type 0} {A : G.Sequence} {classify : Option G.language.Word → Opening} {IsOpen : Opening → Type 0}
    {rest : Opening → G.Sequence} {fill : (o : Opening) → Trees G (rest o) → Trees G A} (x : Choice G A classify IsOpen rest fill) (o : Opening)
    (g : Trees G (rest o)) → classify (begins G A (fill o g)) ≡ o → IsOnly G (rest o) g → IsOnly G A (fill o g)
chosen {G} {Opening} {A} {classify} {IsOpen} {rest} {fill} x o g is d =
    through g (λ n. goes x 0 (own G n A (fill o g)) o (sym (ap classify (first_spelling (pieces G A (fill o g))) ∙ is))) d

-- what begins with a token, or not
module _ {G : Grammar} {A : G.Sequence} {t : Token G.language} {B : G.Sequence} {fill : Trees G B → Trees G A} {C : G.Sequence}
    {other : Trees G C → Trees G A} (x : Fork G A t B fill C other) where
  pub begun : (g : Trees G B) → IsOnly G B g → IsOnly G A (fill g)
  begun g d = headed_one (this_side x) g d

  pub not_begun : (g : Trees G C) → begins G A (other g) ≢ Some t.word → IsOnly G C g → IsOnly G A (other g)
  not_begun g differs d =
      through g (λ n. left_out x {c = 0} {from = own G n A (other g)} (λ e. differs (sym (first_spelling (pieces G A (other g))) ∙ e))) d

-- what holds its number
pub numbered_one : {G : Grammar} {laws : Lawful G} {A : G.Sequence} {B : ℕ → G.Sequence} {fill : (m : ℕ) → Trees G (B m) → Trees G A} (x : Held laws A B fill)
    (m : ℕ) (g : Trees G (B m)) → IsOnly G (B m) g → IsOnly G A (fill m g)
numbered_one {G} {laws} {A} {B} {fill} x m g d = record {
  same = λ n others fits others_fit words.
      let parts : Fits n (look (laws.is_at m) ∷ pieces G (B m) g) = subst (Fits n) (x.spells m g) fits in
      let theirs = placed x n others others_fit in
      let spelled : spelling (pieces G (B m) g) ≡ spelling (pieces G (B n) theirs.0) =
      sym (ap spelling (x.spells m g)) ∙ words ∙ ap spelling (ap (pieces G A) theirs.1 ∙ x.spells n theirs.0) in
      theirs.1 ∙ at_one n m (sym (laws.tells m n _ parts.0)) g d theirs.0 parts.1 theirs.2 spelled;
}
  where
    at_one : (n k : ℕ) → n ≡ k → (g : Trees G (B k)) → IsOnly G (B k) g → (h : Trees G (B n)) → Fits n (pieces G (B k) g) → Fits n (pieces G (B n) h)
        → spelling (pieces G (B k) g) ≡ spelling (pieces G (B n) h) → fill n h ≡ fill k g
    at_one n k e =
        subst (λ k. (g : Trees G (B k)) → IsOnly G (B k) g → (h : Trees G (B n)) → Fits n (pieces G (B k) g) → Fits n (pieces G (B n) h)
        → spelling (pieces G (B k) g) ≡ spelling (pieces G (B n) h) → fill n h ≡ fill k g) e
        (λ g d h fits other_fits words. ap (fill n) (d.same n h fits other_fits words))

-- What these trees are told by: others, which have fewer pieces, or as many and a lower rank. Ranks order what is read with the same pieces.
pub record Next (G : Grammar) (rank : G.Sequence → ℕ) (A : G.Sequence) (trees : Trees G A) : Type 0 where
  pub those : G.Sequence
  pub others : Trees G those
  pub only : IsOnly G those others → IsOnly G A trees
  pub less : (length (pieces G those others) < length (pieces G A trees))
      ⊎ ((length (pieces G those others) ≡ length (pieces G A trees)) × (rank those < rank A))

-- where all trees are told by others, or alone, no others spell their words
module _ (G : Grammar) (rank : G.Sequence → ℕ) (next : (A : G.Sequence) (trees : Trees G A) → IsOnly G A trees ⊎ Next G rank A trees) where
  by_rank : (limit : ℕ) → ((A : G.Sequence) (trees : Trees G A) → length (pieces G A trees) < limit → IsOnly G A trees) → (bound : ℕ) (A : G.Sequence) (trees : Trees G A)
      → length (pieces G A trees) < limit + 1 → rank A < bound → IsOnly G A trees
  by_rank limit shorter zero A trees short low = absurd (omega (arith, low))
  by_rank limit shorter (suc bound) A trees short low = told (by_rank limit shorter bound) (next A trees)
    where
      told : ((B : G.Sequence) (others : Trees G B) → length (pieces G B others) < limit + 1 → rank B < bound → IsOnly G B others)
          → IsOnly G A trees ⊎ Next G rank A trees → IsOnly G A trees
      told again (inl alone) = alone
      told again (inr x) = x.only (by_less x.less)
        where
          by_less : (length (pieces G x.those x.others) < length (pieces G A trees))
              ⊎ ((length (pieces G x.those x.others) ≡ length (pieces G A trees)) × (rank x.those < rank A)) → IsOnly G x.those x.others
          by_less (inl fewer) = shorter x.those x.others (omega (arith, fewer, short))
          by_less (inr lower) = again x.those x.others (omega (arith, lower.0, short)) (omega (arith, lower.1, low))

  by_length : (limit : ℕ) (A : G.Sequence) (trees : Trees G A) → length (pieces G A trees) < limit → IsOnly G A trees
  by_length zero A trees short = absurd (omega (arith, short))
  by_length (suc limit) A trees short = by_rank limit (by_length limit) (rank A + 1) A trees (omega (arith, short)) (omega arith)

  pub unique : (A : G.Sequence) (trees : Trees G A) → IsOnly G A trees
  unique A trees = by_length (length (pieces G A trees) + 1) A trees (omega arith)

-- the ways in which trees are told by others
module _ {G : Grammar} {rank : G.Sequence → ℕ} where
  pub by_token : {A : G.Sequence} {t : Token G.language} {B : G.Sequence} {fill : Trees G B → Trees G A} → Headed G A t B fill → (g : Trees G B)
      → Next G rank A (fill g)
  by_token {A} {t} {B} {fill} x g = record { those = B; others = g; only = headed_one x g; less = inl (omega (arith, ap length (x.spells g))) }

  pub by_number : {laws : Lawful G} {A : G.Sequence} {B : ℕ → G.Sequence} {fill : (m : ℕ) → Trees G (B m) → Trees G A} → Held laws A B fill → (f : Trees G A)
      → Next G rank A f
  by_number {laws} {A} {B} {fill} x f =
      let way = x.view f in record {
        those = B way.0;
        others = way.1;
        only = λ d. subst (IsOnly G A) (sym way.2) (numbered_one x way.0 way.1 d);
        less = inl (omega (arith, ap length (ap (pieces G A) way.2 ∙ x.spells way.0 way.1)));
      }

  pub by_way : {A B : G.Sequence} {c : ℕ} {fill : Trees G B → Trees G A} (g : Trees G B)
      → ((n : ℕ) → Leads G 0 A (own G n A (fill g)) c B (own G n A (fill g)) fill) → pieces G A (fill g) ≡ pieces G B g → rank B < rank A → Next G rank A (fill g)
  by_way {A} {B} g goes spells lower = record { those = B; others = g; only = through g goes; less = inr (ap length (sym spells), lower) }

  module _ {Opening : Type 0} {A : G.Sequence} {classify : Option G.language.Word → Opening} {IsOpen : Opening → Type 0}
      {rest : Opening → G.Sequence} {fill : (o : Opening) → Trees G (rest o) → Trees G A} (x : Choice G A classify IsOpen rest fill) where
    pub by_its_opening : (f : Trees G A) → rank (rest (classify (begins G A f))) < rank A → Next G rank A f
    by_its_opening f lower =
        let way = x.view f in
        let o = classify (begins G A f) in record {
          those = rest o;
          others = way.1;
          only = λ d. subst (IsOnly G A) (sym way.2) (chosen x o way.1 (ap (λ f. classify (begins G A f)) (sym way.2)) d);
          less = inr (ap length (sym (ap (pieces G A) way.2 ∙ x.spells o way.1)), lower);
        }

    pub by_opening : ((o : Opening) → IsOpen o → rank (rest o) < rank A) → (f : Trees G A) → Next G rank A f
    by_opening lower f = by_its_opening f (lower (classify (begins G A f)) (x.view f).0)

  pub by_side : {A : G.Sequence} {t : Token G.language} {B : G.Sequence} {fill : Trees G B → Trees G A} {C : G.Sequence} {other : Trees G C → Trees G A}
      → Fork G A t B fill C other → rank C < rank A → (f : Trees G A) → Next G rank A f
  by_side {A} {t} {B} {fill} {C} {other} x lower f = by_view (x.view f)
    where
      by_view : Sides G A t B fill C other f → Next G rank A f
      by_view (inl h) = record {
        those = B;
        others = h.0;
        only = λ d. subst (IsOnly G A) (sym h.1) (begun x h.0 d);
        less = inl (omega (arith, ap length (ap (pieces G A) h.1 ∙ x.spells h.0)));
      }
      by_view (inr h) = record {
        those = C;
        others = h.0;
        only = λ d. subst (IsOnly G A) (sym h.1) (not_begun x h.0 (λ e. h.2 (ap (begins G A) h.1 ∙ e)) d);
        less = inr (ap length (sym (ap (pieces G A) h.1 ∙ x.spells_other h.0)), lower);
      }
