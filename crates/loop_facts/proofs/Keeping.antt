-- Trees of which each is the one at hand or is made of those that follow.
use Rattle.std.proofs.Common.{◌≡◌, ◌⊎◌, ℕ, List}
use Rattle.decision_tree.specs.Plans.{Plan}
use Rattle.decision_tree.specs.declared.affine_rank.AffineRank.{AffineRank}
use Rattle.backward_transfer.specs.AffineShapes.{tree_at}
use Rattle.control_flow.specs.declared.transition.Transition.{Transition}
use Rattle.backward_sweeps.specs.Remaking.{Parts, remade}

abbrev pub IsKeptOrMade : Parts → List (Plan AffineRank) → ℕ → Transition → Plan AffineRank → Plan AffineRank → Plan AffineRank → Type 0
IsKeptOrMade parts hand label transition this that plan = (plan ≡ tree_at hand label) ⊎ (plan ≡ remade parts label transition this that)
