-- A node's sides joined.
use Rattle.std.proofs.Common.{◌≡◌, ◌↔◌, Bool, true, false, IsTrue, refl}
use Rattle.linear_cons.specs.declared.row.Row.{Row}
use Rattle.decision_tree.specs.Equality.{same_plan}
use Rattle.decision_tree.specs.Laws.EqualityLaws.{plan_eq-Decides}
use Rattle.decision_tree.specs.Nodes.{node}
use Rattle.decision_tree.specs.Plans.{Plan, branch}

module _ {R : Type 0} (same : R → R → Bool) (alike : (rank other : R) → IsTrue (same rank other) ↔ (rank ≡ other)) where
  pub one_side : (row : Row) (this that : Plan R) → this ≡ that → node same row this that ≡ this
  one_side row this that equal = let is : same_plan same this that ≡ true = (plan_eq-Decides same alike this that).1 equal in rw is refl

  pub two_sides : (row : Row) (this that : Plan R) → (this ≡ that → ⊥) → node same row this that ≡ branch row this that
  two_sides row this that apart = by (same_plan same this that) refl
    where
      by : (t : Bool) → same_plan same this that ≡ t → node same row this that ≡ branch row this that
      by true is = absurd (apart ((plan_eq-Decides same alike this that).0 is))
      by false is = rw is refl

-- equal nodes have one row
pub one_row : {R : Type 0} (row other : Row) (this that first second : Plan R) → branch row this that ≡ branch other first second → row ≡ other
one_row row other this that first second is = cc
