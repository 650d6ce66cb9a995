-- Why the part of a tree that a path settles is passed once: behind one row more it is settled the same, unless that row is opposed to one of
-- the path.
use Rattle.std.proofs.Common.{◌≡◌, ◌↔◌, ◌⊎◌, ℕ, negsuc, ◌-ℤ◌, ◌<◌, Bool, true, false, cond, ◌||◌, List, [], ◌∷◌, ◌++◌, length, Option, Some, None, refl, sym, ap, ◌∙◌, subst, ⊎_elim, inl, inr, arith}
use Rattle.std.proofs.lemmas.Int.{ints}
use Rattle.std.proofs.Common.{Result, Ok, Err}
use Rattle.std.specs.Result.{OnErr}
use Rattle.std.proofs.lemmas.Bool.{false≢true}
use Rattle.std.proofs.lemmas.List.Folds.{list_any-append}
use Rattle.std.proofs.lemmas.Option.{same_Some}
use Rattle.linear_cons.specs.Functions.{NumbersFit, coefficient, complement_of, constant_of}
use Rattle.linear_cons.specs.Numbers.{at_places, number_at}
use Rattle.linear_cons.specs.Rows.{complement}
use Rattle.linear_cons.specs.Settling.{functions_of_rows, settled, settles, tells}
use Rattle.linear_cons.specs.declared.affine.Affine.{Affine}
use Rattle.linear_cons.specs.declared.row.Row.{Row}
use Rattle.linear_cons.proofs.Forms.{affine_of_parts}
use Rattle.linear_cons.proofs.Places.{length-at_places, number_at_places, places-ext}
use Rattle.linear_cons.proofs.Telling.{settled_by, tells-Decides}
use Rattle.decision_tree.specs.Plans.{Plan, bottom, branch, leaf, top}
use Rattle.tree_unify.specs.Shapes.{OnSide, TrimWithFits, on_side}
use Rattle.tree_widening.specs.Leaves.{AtEach, AtOne, beginning, first_claim, first_left, first_of}
use Rattle.decision_tree.specs.declared.rank.Rank.{Ghosts as Ranks}
use Rattle.decision_tree.specs.declared.reason.Why.{Why}
use Rattle.tree_widening.specs.Widening.{BearsOut, ExtrapolatedFits, GrownFits, IsAgainst, IsHeld, extrapolated, grown}

-- ---- what tells a row

-- what a function tells is told by each one that tells it
tells_along : (first next last : Affine) → tells first next ≡ true → tells next last ≡ true → tells first last ≡ true
tells_along first next last tell later =
    let one = (tells-Decides first next).0 tell in
    let other = (tells-Decides next last).0 later in
    let low = one.1 in
    let high = other.1 in
    (tells-Decides first last).1 (one.0 ∙ other.0, omega (arith, ints))

pub settled_along : (path : List Affine) (next last : Affine) → settled path next ≡ true → tells next last ≡ true → settled path last ≡ true
settled_along [] next last is tell = absurd (false≢true is)
settled_along (given ∷ rest) next last is tell =
    at (tells given next) (tells given last) refl refl is (λ later. settled_along rest next last later tell)
  where
    at : (t u : Bool) → tells given next ≡ t → tells given last ≡ u → (t || settled rest next) ≡ true → (settled rest next ≡ true → settled rest last ≡ true) → (u || settled rest last) ≡ true
    at t true here there is later = refl
    at true false here there is later = absurd (false≢true (sym there ∙ tells_along given next last here tell))
    at false false here there is later = later is

-- the complement of a function that is told tells that of the one that tells it
complement_tells : (first next : Affine) → tells first next ≡ true → tells (complement_of next) (complement_of first) ≡ true
complement_tells first next tell =
    let both = (tells-Decides first next).0 tell in
    let low = both.1 in
    (tells-Decides (complement_of next) (complement_of first)).1 (
      ap (λ t. at_places (λ i. coefficient (constant_of (negsuc 0)) i -ℤ number_at t i)) (sym both.0),
      omega (arith, ints),
    )

-- the complement's complement is the function
complement_back : (a : Affine) → length a.coef ≡ 16 → complement_of (complement_of a) ≡ a
complement_back a long =
    affine_of_parts (complement_of (complement_of a)) a
    (places-ext (complement_of (complement_of a)).coef a.coef (length-at_places _) long (λ i h. same i h))
    (omega (arith, ints))
  where
    same : (i : ℕ) → i < 16 → coefficient (complement_of (complement_of a)) i ≡ coefficient a i
    same i h = simp number_at_places (omega (arith, ints))

-- ---- what rows settle, and one row more

module _ (path : List Row) (row : Row) where
  by_told : (this that : Bool) → cond this (Some true) (cond that (Some false) None) ≡ Some true → this ≡ true
  by_told true that is = refl
  by_told false true is = absurd (false≢true (same_Some false true is))
  by_told false false is = absurd (cc)

  by_refuted : (this that : Bool) → cond this (Some true) (cond that (Some false) None) ≡ Some false → (this ≡ false) × (that ≡ true)
  by_refuted true that is = absurd (false≢true (sym (same_Some true false is)))
  by_refuted false true is = (refl, refl)
  by_refuted false false is = absurd (cc)

  told_of : settles path row ≡ Some true → settled (functions_of_rows path) row.affine ≡ true
  told_of = by_told (settled (functions_of_rows path) row.affine) (settled (functions_of_rows path) (complement_of row.affine))

  refuted_of : settles path row ≡ Some false → (settled (functions_of_rows path) row.affine ≡ false) × (settled (functions_of_rows path) (complement_of row.affine) ≡ true)
  refuted_of = by_refuted (settled (functions_of_rows path) row.affine) (settled (functions_of_rows path) (complement_of row.affine))

  holds_by : settled (functions_of_rows path) row.affine ≡ true → settles path row ≡ Some true
  holds_by is = rw is refl

  fails_by : settled (functions_of_rows path) row.affine ≡ false → settled (functions_of_rows path) (complement_of row.affine) ≡ true → settles path row ≡ Some false
  fails_by is against = rw (is, against) refl

or_false : (t : Bool) → (t || false) ≡ t
or_false true = refl
or_false false = refl

settled_more : (path : List Row) (last : Row) (a : Affine) → settled (functions_of_rows (path ++ last ∷ [])) a ≡ (settled (functions_of_rows path) a || tells last.affine a)
settled_more path last a =
    settled_by (path ++ last ∷ []) a
    ∙ list_any-append (λ (given : Row). tells given.affine a) path (last ∷ [])
    ∙ ap (λ t. t || (tells last.affine a || false)) (sym (settled_by path a))
    ∙ ap (λ t. settled (functions_of_rows path) a || t) (or_false (tells last.affine a))

settled_still : (path : List Row) (last : Row) (a : Affine) → settled (functions_of_rows path) a ≡ true → settled (functions_of_rows (path ++ last ∷ [])) a ≡ true
settled_still path last a is = settled_more path last a ∙ ap (λ t. t || tells last.affine a) is

pub holds_still : (path : List Row) (last row : Row) → settles path row ≡ Some true → settles (path ++ last ∷ []) row ≡ Some true
holds_still path last row is = holds_by (path ++ last ∷ []) row (settled_still path last row.affine (told_of path row is))

-- a row that is refuted stays so, unless the row that comes is refuted itself
pub fails_still : (path : List Row) (last row : Row) → (settles path last ≡ Some false → ⊥) → settles path row ≡ Some false → settles (path ++ last ∷ []) row ≡ Some false
fails_still path last row open_row is =
    let refuted = refuted_of path row is in
    fails_by (path ++ last ∷ []) row
    (settled_more path last row.affine ∙ ap (λ t. t || tells last.affine row.affine) refuted.0 ∙ untold (tells last.affine row.affine) refl)
    (settled_still path last (complement_of row.affine) refuted.1)
  where
    untold : (t : Bool) → tells last.affine row.affine ≡ t → t ≡ false
    untold false tell = refl
    untold true tell =
        absurd (at (settled (functions_of_rows path) last.affine) refl)
      where
        at : (u : Bool) → settled (functions_of_rows path) last.affine ≡ u → ⊥
        at true told = false≢true (sym (refuted_of path row is).0 ∙ settled_along (functions_of_rows path) last.affine row.affine told tell)
        at false told =
            open_row (fails_by path last told
            (settled_along (functions_of_rows path) (complement_of row.affine) (complement_of last.affine) (refuted_of path row is).1 (complement_tells last.affine row.affine tell)))

-- what refutes a complement tells the row
told_by_complement : (path : List Row) (row : Row) → length row.affine.coef ≡ 16 → settles path (complement row) ≡ Some false → settles path row ≡ Some true
told_by_complement path row long is =
    holds_by path row (subst (λ t. settled (functions_of_rows path) t ≡ true) (complement_back row.affine long) (refuted_of path (complement row) is).1)

-- ---- where a tree begins

-- what a path passes is passed behind one row more too
pub beginning_more : {R : Type 0} (path : List Row) (last : Row) (plan : Plan R) → (settles path last ≡ Some false → ⊥)
    → beginning (path ++ last ∷ []) (beginning path plan) ≡ beginning (path ++ last ∷ []) plan
beginning_more path last bottom open_row = refl
beginning_more path last (top cause) open_row = refl
beginning_more path last (leaf why rank) open_row = refl
beginning_more path last (branch row this that) open_row =
    at (settles path row) refl (beginning_more path last this open_row) (beginning_more path last that open_row)
  where
    at : (side : Option Bool) → settles path row ≡ side
        → beginning (path ++ last ∷ []) (beginning path this) ≡ beginning (path ++ last ∷ []) this
        → beginning (path ++ last ∷ []) (beginning path that) ≡ beginning (path ++ last ∷ []) that
        → beginning (path ++ last ∷ []) (on_side side (beginning path this) (beginning path that) (branch row this that)) ≡ beginning (path ++ last ∷ []) (branch row this that)
    at (Some true) is here there =
        here ∙ sym (ap (λ t. on_side t (beginning (path ++ last ∷ []) this) (beginning (path ++ last ∷ []) that) (branch row this that)) (holds_still path last row is))
    at (Some false) is here there =
        there ∙ sym (ap (λ t. on_side t (beginning (path ++ last ∷ []) this) (beginning (path ++ last ∷ []) that) (branch row this that)) (fails_still path last row open_row is))
    at None is here there = refl

-- two trees that begin alike do so behind a row more where the one is passed
pub begins_behind : {R : Type 0} (path : List Row) (last : Row) (next rest new : Plan R) → (settles path last ≡ Some false → ⊥)
    → next ≡ beginning path rest → beginning path rest ≡ beginning path new
    → beginning (path ++ last ∷ []) next ≡ beginning (path ++ last ∷ []) new
begins_behind path last next rest new open_row is begins =
    ap (λ t. beginning (path ++ last ∷ []) t) (is ∙ begins) ∙ beginning_more path last new open_row

-- the same on the no side
pub begins_beside : {R : Type 0} (path : List Row) (row : Row) (next rest new : Plan R) → length row.affine.coef ≡ 16 → (settles path row ≡ Some true → ⊥)
    → next ≡ beginning path rest → beginning path rest ≡ beginning path new
    → beginning (path ++ complement row ∷ []) next ≡ beginning (path ++ complement row ∷ []) new
begins_beside path row next rest new long open_row =
    begins_behind path (complement row) next rest new (λ opposed. open_row (told_by_complement path row long opposed))

-- ---- what a tree says behind a path, it says where it begins

on_this : (This That Neither : Type 0) (side : Option Bool) → side ≡ Some true → OnSide side This That Neither ↔ This
on_this This That Neither side is = subst (λ t. OnSide t This That Neither ↔ This) (sym is) (λ it. it, λ it. it)

on_that : (This That Neither : Type 0) (side : Option Bool) → side ≡ Some false → OnSide side This That Neither ↔ That
on_that This That Neither side is = subst (λ t. OnSide t This That Neither ↔ That) (sym is) (λ it. it, λ it. it)

module _ {R : Type 0} (path : List Row) (Q : Plan R → Type 0)
    (this_side : (row : Row) (this that : Plan R) → settles path row ≡ Some true → Q (branch row this that) ↔ Q this)
    (that_side : (row : Row) (this that : Plan R) → settles path row ≡ Some false → Q (branch row this that) ↔ Q that) where
  passed : (plan : Plan R) → Q (beginning path plan) ↔ Q plan
  passed bottom = (λ it. it, λ it. it)
  passed (top cause) = (λ it. it, λ it. it)
  passed (leaf why rank) = (λ it. it, λ it. it)
  passed (branch row this that) = at (settles path row) refl (passed this) (passed that)
    where
      at : (side : Option Bool) → settles path row ≡ side → Q (beginning path this) ↔ Q this → Q (beginning path that) ↔ Q that
          → Q (on_side side (beginning path this) (beginning path that) (branch row this that)) ↔ Q (branch row this that)
      at (Some true) is here there = let own = this_side row this that is in (λ it. own.1 (here.0 it), λ it. here.1 (own.0 it))
      at (Some false) is here there = let own = that_side row this that is in (λ it. own.1 (there.0 it), λ it. there.1 (own.0 it))
      at None is here there = (λ it. it, λ it. it)

  carried : (rest new : Plan R) → beginning path rest ≡ beginning path new → Q rest → Q new
  carried rest new begins it = (passed new).0 (subst Q begins ((passed rest).1 it))

module _ {R : Type 0} (ranks : Ranks R) where
  each_carried : (rank : R) (path : List Row) (rest new : Plan R) → beginning path rest ≡ beginning path new
      → AtEach (BearsOut ranks rank) path rest → AtEach (BearsOut ranks rank) path new
  each_carried rank path = carried path (λ t. AtEach (BearsOut ranks rank) path t)
      (λ row this that is. on_this (AtEach (BearsOut ranks rank) path this) (AtEach (BearsOut ranks rank) path that) (AtEach (BearsOut ranks rank) (path ++ row ∷ []) this × AtEach (BearsOut ranks rank) (path ++ complement row ∷ []) that) (settles path row) is)
      (λ row this that is. on_that (AtEach (BearsOut ranks rank) path this) (AtEach (BearsOut ranks rank) path that) (AtEach (BearsOut ranks rank) (path ++ row ∷ []) this × AtEach (BearsOut ranks rank) (path ++ complement row ∷ []) that) (settles path row) is)

  one_carried : (rank : R) (path : List Row) (rest new : Plan R) → beginning path rest ≡ beginning path new
      → AtOne (IsAgainst ranks rank) path rest → AtOne (IsAgainst ranks rank) path new
  one_carried rank path = carried path (λ t. AtOne (IsAgainst ranks rank) path t)
      (λ row this that is. on_this (AtOne (IsAgainst ranks rank) path this) (AtOne (IsAgainst ranks rank) path that) (AtOne (IsAgainst ranks rank) (path ++ row ∷ []) this ⊎ AtOne (IsAgainst ranks rank) (path ++ complement row ∷ []) that) (settles path row) is)
      (λ row this that is. on_that (AtOne (IsAgainst ranks rank) path this) (AtOne (IsAgainst ranks rank) path that) (AtOne (IsAgainst ranks rank) (path ++ row ∷ []) this ⊎ AtOne (IsAgainst ranks rank) (path ++ complement row ∷ []) that) (settles path row) is)

  pub held_carried : (why : Why) (rank : R) (path : List Row) (rest new made : Plan R) → beginning path rest ≡ beginning path new
      → IsHeld ranks why rank path rest made → IsHeld ranks why rank path new made
  held_carried why rank path rest new made begins held =
      ⊎_elim (λ stays. inl (stays.0, each_carried rank path rest new begins stays.1)) (λ gone. inr (gone.0, one_carried rank path rest new begins gone.1)) held

module _ {R : Type 0} (same : R → R → Bool) where
  pub fits_carried : (Fits : Plan R → Type 0) (path : List Row) (rest new : Plan R) → beginning path rest ≡ beginning path new
      → TrimWithFits same Fits path new → TrimWithFits same Fits path rest
  fits_carried Fits path rest new begins = carried path (λ t. TrimWithFits same Fits path t)
      (λ row this that is. on_this (TrimWithFits same Fits path this) (TrimWithFits same Fits path that) (TrimWithFits same Fits (path ++ row ∷ []) this × NumbersFit (complement_of row.affine) × TrimWithFits same Fits (path ++ complement row ∷ []) that) (settles path row) is)
      (λ row this that is. on_that (TrimWithFits same Fits path this) (TrimWithFits same Fits path that) (TrimWithFits same Fits (path ++ row ∷ []) this × NumbersFit (complement_of row.affine) × TrimWithFits same Fits (path ++ complement row ∷ []) that) (settles path row) is)
      new rest (sym begins)

-- ---- the first claim that is left

on_one : {A : Type 0} (this that neither t : A) (side : Option Bool) → side ≡ Some true → (on_side side this that neither ≡ t) ↔ (this ≡ t)
on_one this that neither t side is = subst (λ s. (on_side s this that neither ≡ t) ↔ (this ≡ t)) (sym is) (λ it. it, λ it. it)

on_other : {A : Type 0} (this that neither t : A) (side : Option Bool) → side ≡ Some false → (on_side side this that neither ≡ t) ↔ (that ≡ t)
on_other this that neither t side is = subst (λ s. (on_side s this that neither ≡ t) ↔ (that ≡ t)) (sym is) (λ it. it, λ it. it)

pub first_carried : {R : Type 0} (path : List Row) (rest new : Plan R) → beginning path rest ≡ beginning path new → first_left path rest ≡ first_left path new
first_carried path rest new begins = carried path (λ t. first_left path t ≡ first_left path new)
    (λ row this that is. on_one (first_left path this) (first_left path that) (first_of (first_left (path ++ row ∷ []) this) (first_left (path ++ complement row ∷ []) that)) (first_left path new) (settles path row) is)
    (λ row this that is. on_other (first_left path this) (first_left path that) (first_of (first_left (path ++ row ∷ []) this) (first_left (path ++ complement row ∷ []) that)) (first_left path new) (settles path row) is)
    new rest (sym begins) refl

module _ {R : Type 0} (raised : Row → R → R → R) where
  pub grown_carried : (above : Plan R) (holds : Bool) (path : List Row) (rest new : Plan R) → beginning path rest ≡ beginning path new
      → grown raised above holds path rest ≡ grown raised above holds path new
  grown_carried bottom holds path rest new begins = refl
  grown_carried (top cause) holds path rest new begins = refl
  grown_carried (leaf why rank) holds path rest new begins = refl
  grown_carried (branch row this that) true path rest new begins = ap (λ t. extrapolated raised row (first_claim that) t) (first_carried path rest new begins)
  grown_carried (branch row this that) false path rest new begins = ap (λ t. extrapolated raised (complement row) (first_claim this) t) (first_carried path rest new begins)

module _ {R : Type 0} (same : R → R → Bool) (raised_fits : Row → R → R → Type 0) where
  pub growing_carried : (above : Plan R) (holds : Bool) (path : List Row) (rest new : Plan R) → beginning path rest ≡ beginning path new
      → GrownFits same raised_fits above holds path new → GrownFits same raised_fits above holds path rest
  growing_carried bottom holds path rest new begins fit = fit
  growing_carried (top cause) holds path rest new begins fit = fit
  growing_carried (leaf why rank) holds path rest new begins fit = fit
  growing_carried (branch row this that) true path rest new begins fit = (
    fits_carried same (λ end. Unit {0}) path rest new begins fit.0,
    subst (λ t. ExtrapolatedFits raised_fits row (first_claim that) t) (sym (first_carried path rest new begins)) fit.1,
  )
  growing_carried (branch row this that) false path rest new begins fit = (
    fits_carried same (λ end. Unit {0}) path rest new begins fit.0,
    fit.1,
    subst (λ t. ExtrapolatedFits raised_fits (complement row) (first_claim this) t) (sym (first_carried path rest new begins)) fit.2,
  )

-- of a row that a path leaves open the complement fits, where each that may be formed does
pub turned : {R : Type 0} (same : R → R → Bool) (Fits : Plan R → Type 0) (path : List Row) (row : Row) (this that : Plan R)
    → settles path row ≡ None → TrimWithFits same Fits path (branch row this that) → NumbersFit (complement_of row.affine)
turned same Fits path row this that is fit =
    (subst (λ side. OnSide side (TrimWithFits same Fits path this) (TrimWithFits same Fits path that)
    (TrimWithFits same Fits (path ++ row ∷ []) this × NumbersFit (complement_of row.affine) × TrimWithFits same Fits (path ++ complement row ∷ []) that)) is fit).1

-- what stands in any case stands of an error
pub in_any_case : {T E : Type 0} (r : Result T E) (P : Type 0) → P → OnErr r P
in_any_case (Ok value) P holds = tt
in_any_case (Err error) P holds = holds

-- ---- on the no side of a node

module _ {R : Type 0} (above : Plan R) (row : Row) (this that : Plan R) (holds : Bool) (path : List Row) (new : Plan R)
    (is : above ≡ branch row this that) (fails : holds ≡ false) where
  pub grown_beside : (raised : Row → R → R → R)
      → grown raised above holds path new ≡ extrapolated raised (complement row) (first_claim this) (first_left path new)
  grown_beside raised = ap (λ t. grown raised t holds path new) is ∙ ap (λ t. grown raised (branch row this that) t path new) fails

  pub growing_beside : (same : R → R → Bool) (raised_fits : Row → R → R → Type 0) → GrownFits same raised_fits above holds path new
      → ExtrapolatedFits raised_fits (complement row) (first_claim this) (first_left path new)
  growing_beside same raised_fits fit =
      (subst (λ t. GrownFits same raised_fits (branch row this that) t path new) fails
      (subst (λ t. GrownFits same raised_fits t holds path new) is fit)).2
