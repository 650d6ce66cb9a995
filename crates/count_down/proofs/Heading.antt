-- Steps from the head of a loop, and steps to labels whose trees are constants.
use Rattle.std.proofs.Common.{◌≡◌, ℕ, ◌+◌, ◌<◌, ℤ, pos, ◌-ℤ◌, ◌+ℤ◌, inl, inr, List, [], ◌∷◌, Option, None, length, All, Contains, refl, subst, arith}
use Rattle.std.proofs.lemmas.Int.{ints}
use Rattle.linear_cons.specs.declared.affine.Affine.{Affine}
use Rattle.linear_cons.specs.declared.row.Row.{Row}
use Rattle.linear_cons.specs.Functions.{IsQuotient, NumbersFit, constant_of, value_at}
use Rattle.linear_cons.specs.Rows.{row_kind_of}
use Rattle.linear_cons.proofs.Forms.{value_constant}
use Rattle.linear_cons.proofs.KindLaws.{row_kind_is}
use Rattle.linear_cons.proofs.Ring.{mul_add, mul_one, one_mul}
use Rattle.decision_tree.specs.declared.reason.Why.{Why}
use Rattle.decision_tree.specs.Plans.{leaf}
use Rattle.tree_support.specs.Certificates.{affine_ranks}
use Rattle.tree_support.specs.Arcs.{rows_given}
use Rattle.constraint_stack.specs.Forming.{Formed, given}
use Rattle.constraint_stack.specs.Claims.{ClaimFits, exceeding}
use Rattle.tree_support.specs.Systems.{at_leaves, moved_by, unless_less}
use Rattle.tree_support.proofs.Lists.{all_one, contains_first, contains_later}
use Rattle.tree_support.proofs.Moving.{store_after}
use Rattle.count_down.specs.Asking.{Has}
use Rattle.count_down.specs.Blocking.{IsBlocked}
use Rattle.count_down.specs.Trees.{bound, count_tree, ranked}
use Rattle.count_down.proofs.Lining.{Natural, Negative, by_claim, by_fall, by_sides}
use Rattle.count_down.proofs.Stepping.{RowsFit, SetsPlace, bound_value, claim_value, excess, lower_of, more_natural, more_negative, sides}

-- the row's function is at least 0 where the rows are met
pub asked_row : (e : Affine) (row : Row) (rows : List Row) → IsQuotient e row.affine → NumbersFit row.affine → Has row rows
    → Natural (rows_given rows) (λ store. value_at e store)
asked_row e row rows by fit has =
    let inside = has_given rows has in
    inl (row.affine, (given row.affine, inside, fit, refl), lower_of None tt e row by)
  where
    has_given : (rows : List Row) → Has row rows → Contains (rows_given rows) (given row.affine)
    has_given [] h = absurd h
    has_given (other ∷ more) (inl same) =
        subst (λ (r : Row). Contains (given other.affine ∷ rows_given more) (given r.affine)) same (contains_first (given other.affine) (rows_given more))
    has_given (other ∷ more) (inr later) = contains_later (given other.affine) (given row.affine) (rows_given more) (has_given more later)

-- ---- steps to a leaf within a constant
module _ (sets : Option (ℕ × Affine)) (place : SetsPlace sets) (edge : ℕ) (asks : List Formed) (why : Why) where
  -- from within a greater constant
  pub steps_less : (j k : ℕ) → j < k → ClaimFits affine_ranks (exceeding (ranked (constant_of (pos j))) sets (ranked (constant_of (pos k))))
      → All IsBlocked (at_leaves (moved_by sets) (unless_less edge sets (ranked (constant_of (pos k)))) (leaf why (ranked (constant_of (pos j)))) asks)
  steps_less j k less fits =
      all_one IsBlocked (record { edge = edge; asks = asks; claim = exceeding (ranked (constant_of (pos j))) sets (ranked (constant_of (pos k))) })
      (by_claim _ (excess sets place (constant_of (pos j)) (constant_of (pos k))) (pos j -ℤ pos k) (inr (fits, refl)) (omega (arith, ints))
      (λ store long.
      let claim = claim_value sets place (constant_of (pos j)) (constant_of (pos k)) store long in
      let first = value_constant (pos j) (store_after sets store) in
      let second = value_constant (pos k) store in
      omega (arith, ints)))

  -- from within a bound, where the function is at least 0
  pub leaves_yes : (m s : ℕ) (e : Affine) (k j : ℕ) → 0 < m → j < k + m + 1 + s → Natural asks (λ store. value_at e store)
      → ClaimFits affine_ranks (exceeding (ranked (constant_of (pos j))) sets (ranked (bound m s e k)))
      → All IsBlocked (at_leaves (moved_by sets) (unless_less edge sets (ranked (bound m s e k))) (leaf why (ranked (constant_of (pos j)))) asks)
  leaves_yes m s e k j turn less natural fits =
      all_one IsBlocked (record { edge = edge; asks = asks; claim = exceeding (ranked (constant_of (pos j))) sets (ranked (bound m s e k)) })
      (by_fall _ (λ store. value_at e store) (excess sets place (constant_of (pos j)) (bound m s e k)) (inr (fits, refl))
      (record {
        scale = 1;
        some = omega arith;
        slope = m;
        some_slope = turn;
        off = pos j -ℤ pos (k + 1 + s) -ℤ pos m;
        low = omega (arith, ints);
        is = λ store long.
            let claim = claim_value sets place (constant_of (pos j)) (bound m s e k) store long in
            let first = value_constant (pos j) (store_after sets store) in
            let second = bound_value m s e k store in
            let spread = mul_add (pos m) (value_at e store) (pos 1) in
            let unit = mul_one (pos m) in
            let one = one_mul (value_at (excess sets place (constant_of (pos j)) (bound m s e k)) store) in
            omega (arith, ints);
      })
      natural)

-- An edge whose asks contradict its side is never taken: e is below 0 by what is asked, and at least 0. Nothing matters of the tree behind.
pub never_taken : (m s : ℕ) (e f : Affine) (j edge : ℕ) (b : Affine) (asks : List Formed) → RowsFit None tt (row_kind_of f)
    → Negative asks (λ store. value_at e store) → Natural asks (λ store. value_at e store)
    → All IsBlocked (at_leaves (moved_by None) (unless_less edge None (ranked b)) (count_tree m s f j) asks)
never_taken m s e f j edge b asks fit negative natural =
    let v : List ℤ → ℤ = λ store. value_at e store in
    let same : (store : List ℤ) → length store ≡ 16 → v store ≡ v store +ℤ pos 0 = λ store long. omega (arith, ints) in
    sides None tt f (row_kind_of f) (row_kind_is f) fit edge (bound m s f j) (constant_of (pos (j + 1 + s))) b asks
    (λ more extends there.
    by_sides _ v v (pos 0) (omega (arith, ints)) same (more_negative asks more v extends negative) (more_natural asks more v extends natural))
    (λ more extends there.
    by_sides _ v v (pos 0) (omega (arith, ints)) same (more_negative asks more v extends negative) (more_natural asks more v extends natural))
