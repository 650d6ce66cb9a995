-- Trees that don't mention a place, and what is asked of a leaf that a value of a range leads to.
use Rattle.std.specs.Prelude.{◌≡◌, ℕ, ℤ, pos, List, ⊤}
use Rattle.linear_cons.specs.Functions.{coefficient}
use Rattle.decision_tree.specs.Plans.{Plan, branch, leaf}
use Rattle.decision_tree.specs.Trend.{Trend, unmentioned}

-- no row and no rank of the tree mentions the place
abbrev pub IsWithout : {R : Type 0} → (R → ℕ → Trend) → ℕ → Plan R → Type 0
IsWithout trend place (branch row this that) =
    (coefficient row.affine place ≡ pos 0) × IsWithout trend place this × IsWithout trend place that
IsWithout trend place (leaf why rank) = trend rank place ≡ unmentioned
IsWithout trend place end = ⊤

-- a defined leaf whose rank at the store, with one more, doesn't exceed the value
abbrev pub IsAtMost : {R V : Type 0} → (R → List ℤ → V) → (V → V → Type 0) → (R → R) → List ℤ → V → Plan R → Type 0
IsAtMost rank_value exceeds one_more store value (leaf why rank) = exceeds (rank_value (one_more rank) store) value → ⊥
IsAtMost rank_value exceeds one_more store value end = ⊥
