-- The families of the direct smaller parts of a formula.
use Rattle.std.specs.Prelude.{ℕ, List, slice_get, Option, None, Some}
use Rattle.decision_tree.specs.declared.family.Family.{Family}
use Rattle.decision_tree.specs.Plans.{bottom}
use Rattle.tree_support.specs.Setting.{Trees, trees_in}

module _ {R : Type 0} where
  -- the family of the part with the number; past the last nothing is defined
  abbrev pub family_at : Option (Family R) → Trees R
  family_at None label = bottom
  family_at (Some family) label = trees_in family.trees label

  abbrev pub families_of : List (Family R) → ℕ → Trees R
  families_of parts number = family_at (slice_get parts number)
