-- A leaf replaced by another changes no other leaf, no row and no path.
use Rattle.std.proofs.Common.{◌≡◌, ◌≢◌, ℕ, ◌+◌, ◌-◌, ◌<◌, ◌≤◌, ℤ, pos, int_le, Bool, true, false, cond, nat_lt, List, [], ◌∷◌, refl, ap, arith}
use Rattle.std.proofs.lemmas.Bool.{ltb-false, ltb-true}
use Rattle.linear_cons.specs.Functions.{complement_of, value_at}
use Rattle.linear_cons.specs.declared.row.Row.{Row}
use Rattle.decision_tree.specs.Paths.{leaf_numbered, number_met, path_of, with_leaf}
use Rattle.decision_tree.specs.Plans.{IsEnd, Plan, bottom, branch, leaf, leaves_of, size_of, top}

module _ {R : Type 0} where
  end_size : (end : Plan R) → IsEnd end → size_of end ≡ 1
  end_size bottom is = refl
  end_size (top cause) is = refl
  end_size (leaf why rank) is = refl
  end_size (branch row this that) is = absurd is

  end_leaves : (end : Plan R) → IsEnd end → leaves_of end ≡ 1
  end_leaves bottom is = refl
  end_leaves (top cause) is = refl
  end_leaves (leaf why rank) is = refl
  end_leaves (branch row this that) is = absurd is

  end_numbered : (end : Plan R) (number : ℕ) → IsEnd end → leaf_numbered end number ≡ end
  end_numbered bottom number is = refl
  end_numbered (top cause) number is = refl
  end_numbered (leaf why rank) number is = refl
  end_numbered (branch row this that) number is = absurd is

  end_path : (end : Plan R) (number : ℕ) → IsEnd end → path_of end number ≡ []
  end_path bottom number is = refl
  end_path (top cause) number is = refl
  end_path (leaf why rank) number is = refl
  end_path (branch row this that) number is = absurd is

  end_met : (end : Plan R) (store : List ℤ) → IsEnd end → number_met end store ≡ 0
  end_met bottom store is = refl
  end_met (top cause) store is = refl
  end_met (leaf why rank) store is = refl
  end_met (branch row this that) store is = absurd is

  -- ---- the same size

  size_side : (row : Row) (this that first second : Plan R) (t : Bool) → size_of first ≡ size_of this → size_of second ≡ size_of that → size_of (cond t (branch row first that) (branch row this second)) ≡ size_of this + size_of that + 1
  size_side row this that first second true here there = ap (λ n. n + size_of that + 1) here
  size_side row this that first second false here there = ap (λ n. size_of this + n + 1) there

  pub size_kept : (plan other : Plan R) (number : ℕ) → IsEnd other → size_of (with_leaf plan number other) ≡ size_of plan
  size_kept bottom other number is = end_size other is
  size_kept (top cause) other number is = end_size other is
  size_kept (leaf why rank) other number is = end_size other is
  size_kept (branch row this that) other number is =
      size_side row this that (with_leaf this number other) (with_leaf that (number - leaves_of this) other) (nat_lt number (leaves_of this)) (size_kept this other number is) (size_kept that other (number - leaves_of this) is)

  leaves_side : (row : Row) (this that first second : Plan R) (t : Bool) → leaves_of first ≡ leaves_of this → leaves_of second ≡ leaves_of that → leaves_of (cond t (branch row first that) (branch row this second)) ≡ leaves_of this + leaves_of that
  leaves_side row this that first second true here there = ap (λ n. n + leaves_of that) here
  leaves_side row this that first second false here there = ap (λ n. leaves_of this + n) there

  pub leaves_kept : (plan other : Plan R) (number : ℕ) → IsEnd other → leaves_of (with_leaf plan number other) ≡ leaves_of plan
  leaves_kept bottom other number is = end_leaves other is
  leaves_kept (top cause) other number is = end_leaves other is
  leaves_kept (leaf why rank) other number is = end_leaves other is
  leaves_kept (branch row this that) other number is =
      leaves_side row this that (with_leaf this number other) (with_leaf that (number - leaves_of this) other) (nat_lt number (leaves_of this)) (leaves_kept this other number is) (leaves_kept that other (number - leaves_of this) is)

  -- ---- the leaf, and the others

  here_side : (row : Row) (this that first second other : Plan R) (number : ℕ) (t : Bool) → nat_lt number (leaves_of this) ≡ t → leaves_of first ≡ leaves_of this → leaf_numbered first number ≡ other → leaf_numbered second (number - leaves_of this) ≡ other → leaf_numbered (cond t (branch row first that) (branch row this second)) number ≡ other
  here_side row this that first second other number true is same near far = rw (same, is) near
  here_side row this that first second other number false is same near far = rw is far

  pub here : (plan other : Plan R) (number : ℕ) → IsEnd other → leaf_numbered (with_leaf plan number other) number ≡ other
  here bottom other number is = end_numbered other number is
  here (top cause) other number is = end_numbered other number is
  here (leaf why rank) other number is = end_numbered other number is
  here (branch row this that) other number is =
      here_side row this that (with_leaf this number other) (with_leaf that (number - leaves_of this) other) other number (nat_lt number (leaves_of this)) refl (leaves_kept this other number is) (here this other number is) (here that other (number - leaves_of this) is)

  apart_side : (row : Row) (this that first second : Plan R) (number next : ℕ) (t u : Bool) → nat_lt number (leaves_of this) ≡ t → nat_lt next (leaves_of this) ≡ u → leaves_of first ≡ leaves_of this
      → (number < leaves_of this → next < leaves_of this → leaf_numbered first next ≡ leaf_numbered this next)
      → (leaves_of this ≤ number → leaves_of this ≤ next → leaf_numbered second (next - leaves_of this) ≡ leaf_numbered that (next - leaves_of this))
      → leaf_numbered (cond t (branch row first that) (branch row this second)) next ≡ cond u (leaf_numbered this next) (leaf_numbered that (next - leaves_of this))
  apart_side row this that first second number next true true is there same near far = rw (same, there) (near (ltb-true _ _ is) (ltb-true _ _ there))
  apart_side row this that first second number next true false is there same near far = rw (same, there) refl
  apart_side row this that first second number next false true is there same near far = rw there refl
  apart_side row this that first second number next false false is there same near far = rw there (far (ltb-false _ _ is) (ltb-false _ _ there))

  pub elsewhere : (plan other : Plan R) (number next : ℕ) → IsEnd other → number < leaves_of plan → next < leaves_of plan → next ≢ number → leaf_numbered (with_leaf plan number other) next ≡ leaf_numbered plan next
  elsewhere bottom other number next is low below apart = absurd (apart (omega arith))
  elsewhere (top cause) other number next is low below apart = absurd (apart (omega arith))
  elsewhere (leaf why rank) other number next is low below apart = absurd (apart (omega arith))
  elsewhere (branch row this that) other number next is low below apart =
      apart_side row this that (with_leaf this number other) (with_leaf that (number - leaves_of this) other) number next (nat_lt number (leaves_of this)) (nat_lt next (leaves_of this)) refl refl (leaves_kept this other number is)
      (λ from to. elsewhere this other number next is from to apart)
      (λ from to. elsewhere that other (number - leaves_of this) (next - leaves_of this) is (omega arith) (omega arith) (λ same. apart (omega arith)))

  -- ---- the same paths

  path_side : (row : Row) (this that first second : Plan R) (next : ℕ) (t u : Bool) → nat_lt next (leaves_of this) ≡ u → leaves_of first ≡ leaves_of this → path_of first next ≡ path_of this next → path_of second (next - leaves_of this) ≡ path_of that (next - leaves_of this)
      → path_of (cond t (branch row first that) (branch row this second)) next ≡ cond u (row.affine ∷ path_of this next) (complement_of row.affine ∷ path_of that (next - leaves_of this))
  path_side row this that first second next true true is same near far = rw (same, is) (ap (λ t. row.affine ∷ t) near)
  path_side row this that first second next true false is same near far = rw (same, is) refl
  path_side row this that first second next false true is same near far = rw is refl
  path_side row this that first second next false false is same near far = rw is (ap (λ t. complement_of row.affine ∷ t) far)

  pub paths_kept : (plan other : Plan R) (number next : ℕ) → IsEnd other → path_of (with_leaf plan number other) next ≡ path_of plan next
  paths_kept bottom other number next is = end_path other next is
  paths_kept (top cause) other number next is = end_path other next is
  paths_kept (leaf why rank) other number next is = end_path other next is
  paths_kept (branch row this that) other number next is =
      path_side row this that (with_leaf this number other) (with_leaf that (number - leaves_of this) other) next (nat_lt number (leaves_of this)) (nat_lt next (leaves_of this)) refl (leaves_kept this other number is) (paths_kept this other number next is) (paths_kept that other (number - leaves_of this) (next - leaves_of this) is)

  met_side : (row : Row) (this that first second : Plan R) (store : List ℤ) (t : Bool) → leaves_of first ≡ leaves_of this → number_met first store ≡ number_met this store → number_met second store ≡ number_met that store
      → number_met (cond t (branch row first that) (branch row this second)) store ≡ cond (int_le (pos 0) (value_at row.affine store)) (number_met this store) (leaves_of this + number_met that store)
  met_side row this that first second store true same near far = rw (same, near) refl
  met_side row this that first second store false same near far = rw far refl

  pub stores_kept : (plan other : Plan R) (number : ℕ) (store : List ℤ) → IsEnd other → number_met (with_leaf plan number other) store ≡ number_met plan store
  stores_kept bottom other number store is = end_met other store is
  stores_kept (top cause) other number store is = end_met other store is
  stores_kept (leaf why rank) other number store is = end_met other store is
  stores_kept (branch row this that) other number store is =
      met_side row this that (with_leaf this number other) (with_leaf that (number - leaves_of this) other) store (nat_lt number (leaves_of this)) (leaves_kept this other number is) (stores_kept this other number store is) (stores_kept that other (number - leaves_of this) store is)
