-- A tree that was trimmed is as it would be trimmed again.
use Rattle.std.proofs.Common.{◌≡◌, Bool, true, false, cond, ◌||◌, List, [], ◌∷◌, ◌++◌, None, Some, Option, refl, sym, ap, ◌∙◌}
use Rattle.std.proofs.lemmas.List.Folds.{list_any-append}
use Rattle.std.specs.Prelude.{⊤}
use Rattle.linear_cons.specs.Functions.{complement_of}
use Rattle.linear_cons.specs.Rows.{complement}
use Rattle.linear_cons.specs.Settling.{functions_of_rows, settled, settles, tells}
use Rattle.linear_cons.specs.declared.affine.Affine.{Affine}
use Rattle.linear_cons.specs.declared.row.Row.{Row}
use Rattle.decision_tree.specs.Equality.{same_plan}
use Rattle.decision_tree.specs.Nodes.{node}
use Rattle.decision_tree.specs.Plans.{Plan, bottom, branch, leaf, top}
use Rattle.tree_unify.specs.Shapes.{on_side, trimmed}

-- ---- what a path settles that has fewer rows

functions_more : (path : List Row) (last : Row) → functions_of_rows (path ++ last ∷ []) ≡ functions_of_rows path ++ last.affine ∷ []
functions_more [] last = refl
functions_more (row ∷ rows) last = ap (λ t. row.affine ∷ t) (functions_more rows last)

settled_more : (path : List Row) (last : Row) (a : Affine)
    → settled (functions_of_rows (path ++ last ∷ [])) a ≡ (settled (functions_of_rows path) a || (tells last.affine a || false))
settled_more path last a =
    ap (λ t. settled t a) (functions_more path last) ∙ list_any-append (λ (given : Affine). tells given a) (functions_of_rows path) (last.affine ∷ [])

-- the one settles no more than the other
abbrev IsBelow : List Row → List Row → Type 0
IsBelow path other = (a : Affine) → settled (functions_of_rows path) a ≡ true → settled (functions_of_rows other) a ≡ true

or_more : (u v t : Bool) → (u ≡ true → v ≡ true) → (u || t) ≡ true → (v || t) ≡ true
or_more true true t more is = refl
or_more true false t more is = let wrong = more refl in absurd (cc)
or_more false true t more is = refl
or_more false false t more is = is

both_more : (path other : List Row) (last : Row) → IsBelow path other → IsBelow (path ++ last ∷ []) (other ++ last ∷ [])
both_more path other last below a is =
    settled_more other last a
    ∙ or_more (settled (functions_of_rows path) a) (settled (functions_of_rows other) a) (tells last.affine a || false) (below a)
    (sym (settled_more path last a) ∙ is)

one_more : (path : List Row) (last : Row) → IsBelow path (path ++ last ∷ [])
one_more path last a is = settled_more path last a ∙ ap (λ t. t || (tells last.affine a || false)) is

fewer : (u v : Bool) → (u ≡ true → v ≡ true) → v ≡ false → u ≡ false
fewer true v more is = let holds = more refl in absurd (cc)
fewer false v more is = refl

neither : (u v : Bool) → (cond u (Some true) (cond v (Some false) None)) ≡ None → (u ≡ false) × (v ≡ false)
neither true v is = absurd (cc)
neither false true is = absurd (cc)
neither false false is = (refl, refl)

none_of : (u v : Bool) → u ≡ false → v ≡ false → (cond u (Some true) (cond v (Some false) None)) ≡ None
none_of true v first second = absurd (cc)
none_of false true first second = absurd (cc)
none_of false false first second = refl

settles_none : (path other : List Row) (row : Row) → IsBelow path other → settles other row ≡ None → settles path row ≡ None
settles_none path other row below is =
    let none = neither (settled (functions_of_rows other) row.affine) (settled (functions_of_rows other) (complement_of row.affine)) is in
    none_of (settled (functions_of_rows path) row.affine) (settled (functions_of_rows path) (complement_of row.affine))
    (fewer (settled (functions_of_rows path) row.affine) (settled (functions_of_rows other) row.affine) (below row.affine) none.0)
    (fewer (settled (functions_of_rows path) (complement_of row.affine)) (settled (functions_of_rows other) (complement_of row.affine)) (below (complement_of row.affine)) none.1)

-- ---- trees of which nothing is settled

module _ {R : Type 0} (same : R → R → Bool) where
  -- no row is settled on the way to it, and no node has equal sides
  abbrev IsTidy : List Row → Plan R → Type 0
  IsTidy path (branch row this that) =
      (settles path row ≡ None) × (same_plan same this that ≡ false) × IsTidy (path ++ row ∷ []) this × IsTidy (path ++ complement row ∷ []) that
  IsTidy path end = ⊤

  tidy_below : (path other : List Row) → IsBelow path other → (plan : Plan R) → IsTidy other plan → IsTidy path plan
  tidy_below path other below bottom tidy = tt
  tidy_below path other below (top cause) tidy = tt
  tidy_below path other below (leaf why rank) tidy = tt
  tidy_below path other below (branch row this that) tidy = (
    settles_none path other row below tidy.0,
    tidy.1,
    tidy_below (path ++ row ∷ []) (other ++ row ∷ []) (both_more path other row below) this tidy.2,
    tidy_below (path ++ complement row ∷ []) (other ++ complement row ∷ []) (both_more path other (complement row) below) that tidy.3,
  )

  -- such a tree is trimmed
  tidy_stays : (path : List Row) (plan : Plan R) → IsTidy path plan → trimmed same path plan ≡ plan
  tidy_stays path bottom tidy = refl
  tidy_stays path (top cause) tidy = refl
  tidy_stays path (leaf why rank) tidy = refl
  tidy_stays path (branch row this that) tidy =
      ap
      (λ (t : Option Bool). on_side t (trimmed same path this) (trimmed same path that)
      (node same row (trimmed same (path ++ row ∷ []) this) (trimmed same (path ++ complement row ∷ []) that))) tidy.0
      ∙ ap (λ (t : Plan R). node same row t (trimmed same (path ++ complement row ∷ []) that)) (tidy_stays (path ++ row ∷ []) this tidy.2)
      ∙ ap (λ (t : Plan R). node same row this t) (tidy_stays (path ++ complement row ∷ []) that tidy.3)
      ∙ ap (λ (t : Bool). cond t this (branch row this that)) tidy.1

  -- a trimmed tree is such a one
  tidy_node : (path : List Row) (row : Row) (this that : Plan R) → settles path row ≡ None → IsTidy (path ++ row ∷ []) this
      → IsTidy (path ++ complement row ∷ []) that → (t : Bool) → same_plan same this that ≡ t → IsTidy path (cond t this (branch row this that))
  tidy_node path row this that none first second true is = tidy_below path (path ++ row ∷ []) (one_more path row) this first
  tidy_node path row this that none first second false is = (none, is, first, second)

  tidy_side : (path : List Row) (row : Row) (this that neither : Plan R) (t : Option Bool) → settles path row ≡ t → IsTidy path this → IsTidy path that
      → (settles path row ≡ None → IsTidy path neither) → IsTidy path (on_side t this that neither)
  tidy_side path row this that neither (Some true) is first second both = first
  tidy_side path row this that neither (Some false) is first second both = second
  tidy_side path row this that neither None is first second both = both is

  tidied : (path : List Row) (plan : Plan R) → IsTidy path (trimmed same path plan)
  tidied path bottom = tt
  tidied path (top cause) = tt
  tidied path (leaf why rank) = tt
  tidied path (branch row this that) =
      let first = trimmed same (path ++ row ∷ []) this in
      let second = trimmed same (path ++ complement row ∷ []) that in
      tidy_side path row (trimmed same path this) (trimmed same path that) (node same row first second) (settles path row) refl (tidied path this)
      (tidied path that)
      (λ none. tidy_node path row first second none (tidied (path ++ row ∷ []) this) (tidied (path ++ complement row ∷ []) that)
      (same_plan same first second) refl)

  pub trimmed_again : (path : List Row) (plan : Plan R) → trimmed same path (trimmed same path plan) ≡ trimmed same path plan
  trimmed_again path plan = tidy_stays path (trimmed same path plan) (tidied path plan)
