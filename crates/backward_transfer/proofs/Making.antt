-- Sizes of trees that are made of others.
use Rattle.std.proofs.Common.{◌≡◌, ◌↔◌, ℕ, ◌<◌, ◌≤◌, Bool, true, false, cond, List, IsTrue, None, Some, Option, ◌++◌, ◌∷◌, [], ◌+◌, refl, arith, ℤ}
use Rattle.linear_cons.specs.Rows.{complement}
use Rattle.linear_cons.specs.Settling.{settles}
use Rattle.linear_cons.specs.declared.affine.Affine.{Affine}
use Rattle.linear_cons.specs.declared.bounds.Linear.{Linear}
use Rattle.linear_cons.specs.declared.row.Row.{Row}
use Rattle.decision_tree.specs.Equality.{same_plan}
use Rattle.decision_tree.specs.Nodes.{node}
use Rattle.decision_tree.specs.Plans.{Plan, bottom, branch, leaf, size_of, top}
use Rattle.decision_tree.specs.Trend.{Trend, greatest_of}
use Rattle.decision_tree.specs.Alternatives.{Alternatives}
use Rattle.tree_unify.specs.Shapes.{on_side, trimmed}
use Rattle.tree_unify.proofs.Meeting.{node_size}
use Rattle.linear_cons.specs.declared.row.RowKind.{RowKind}
use Rattle.linear_cons.specs.declared.row.RowKind.TheVariants.{Always, Never, Row as Kept}
use Rattle.backward_transfer.specs.Chosen.{IsMoreSmall, IsSomeSmall, with_more, with_some, with_value}
use Rattle.backward_transfer.specs.Picks.{either_of}
use Rattle.backward_transfer.specs.Ranges.{AreSmall, ranged, step_to_greatest}
use Rattle.backward_transfer.specs.Steps.{asked}

module _ {R : Type 0} (same : R → R → Bool) (alike : (rank other : R) → IsTrue (same rank other) ↔ (rank ≡ other)) where
  -- a tree that asks a constraint is no smaller than what stands where it isn't met, unless it always is
  pub asked_rest : (kind : RowKind) (this that : Plan R) → (kind ≡ Always → ⊥) → size_of that ≤ size_of (asked same kind this that)
  asked_rest Always this that apart = absurd (apart refl)
  asked_rest Never this that apart = omega arith
  asked_rest (Kept row) this that apart = (node_size same alike row this that).1

module _ {R : Type 0} (same : R → R → Bool) where
  node_most_at : (t : Bool) (row : Row) (this that : Plan R) → size_of (cond t this (branch row this that)) ≤ size_of this + size_of that + 1
  node_most_at true row this that = omega arith
  node_most_at false row this that = omega arith

  pub node_most : (row : Row) (this that : Plan R) → size_of (node same row this that) ≤ size_of this + size_of that + 1
  node_most row this that = node_most_at (same_plan same this that) row this that

  side_most : (t : Option Bool) (this that neither : Plan R) (n : ℕ) → size_of this ≤ n → size_of that ≤ n → size_of neither ≤ n
      → size_of (on_side t this that neither) ≤ n
  side_most (Some true) this that neither n here there both = here
  side_most (Some false) this that neither n here there both = there
  side_most None this that neither n here there both = both

  -- trimming adds no node
  pub trimmed_size : (path : List Row) (plan : Plan R) → size_of (trimmed same path plan) ≤ size_of plan
  trimmed_size path bottom = omega arith
  trimmed_size path (top cause) = omega arith
  trimmed_size path (leaf why rank) = omega arith
  trimmed_size path (branch row this that) =
      let here = trimmed_size path this in
      let there = trimmed_size path that in
      let first = trimmed_size (path ++ row ∷ []) this in
      let second = trimmed_size (path ++ complement row ∷ []) that in
      let most = node_most row (trimmed same (path ++ row ∷ []) this) (trimmed same (path ++ complement row ∷ []) that) in
      side_most (settles path row) (trimmed same path this) (trimmed same path that)
      (node same row (trimmed same (path ++ row ∷ []) this) (trimmed same (path ++ complement row ∷ []) that)) (size_of this + size_of that + 1) (omega arith) (omega arith) (omega arith)

  -- so what is refused after that is no trimmed tree
  pub trimmed_small : (plan : Plan R) (n : ℕ) → size_of plan ≤ n → n < size_of (trimmed same [] plan) → ⊥
  trimmed_small plan n small more = let most = trimmed_size [] plan in omega arith

-- ---- where no tree on the way is too large, what is made of them isn't

module _ {R : Type 0} (same : R → R → Bool) (where_greater : R → R → Alternatives) (greater_fits : R → R → Type 0) where
  module _ (trend : R → ℕ → Trend) (put : R → ℕ → Affine → R) (one_more : R → R) (most place : ℕ) (range : Linear) (some : 1 ≤ most) where
    greatest_small : (greatest : Option R) → size_of (step_to_greatest one_more greatest) ≤ most
    greatest_small None = some
    greatest_small (Some rank) = some

    pub ranged_small : (plan : Plan R) → AreSmall same where_greater greater_fits trend put one_more most place range plan
        → size_of (ranged same where_greater greater_fits trend put one_more place range plan) ≤ most
    ranged_small bottom small = some
    ranged_small (top cause) small = some
    ranged_small (leaf why rank) small = greatest_small (greatest_of rank (trend rank place) range (put rank place))
    ranged_small (branch row this that) small = small.0

  module _ (put : R → ℕ → Affine → R) (one_more : R → R) (most : ℕ) (lo hi : Option ℤ) (place : ℕ) (plan : Plan R) where
    more_small : (made : Plan R) (values : List Affine) → size_of made ≤ most
        → IsMoreSmall same where_greater greater_fits put one_more most lo hi place plan made values
        → size_of (with_more same where_greater greater_fits put one_more lo hi place plan made values) ≤ most
    more_small made [] here small = here
    more_small made (a ∷ rest) here small =
        more_small (either_of same where_greater greater_fits made (with_value same put one_more lo hi place plan a)) rest small.1 small.2

    pub some_small : (values : List Affine) → 1 ≤ most → IsSomeSmall same where_greater greater_fits put one_more most lo hi place plan values
        → size_of (with_some same where_greater greater_fits put one_more lo hi place plan values) ≤ most
    some_small [] some small = some
    some_small (a ∷ rest) some small = more_small (with_value same put one_more lo hi place plan a) rest small.0 small.1
