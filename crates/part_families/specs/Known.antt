-- The families of the truth and of `exit`, which are known by their shape.
use Rattle.std.specs.Prelude.{ℕ, ◌-◌, List, ◌∷◌, replicate}
use Rattle.backward_sweeps.specs.Moving.{at_once}
use Rattle.decision_tree.specs.declared.affine_rank.AffineRank.{AffineRank}
use Rattle.decision_tree.specs.declared.reason.Why.TheVariants.{Atom, End}
use Rattle.decision_tree.specs.Plans.{Plan, bottom}

-- the truth holds at each label
abbrev pub truth_trees : ℕ → List (Plan AffineRank)
truth_trees labels = replicate labels (at_once Atom)

-- the end is at label 0 alone
abbrev pub end_trees : ℕ → List (Plan AffineRank)
end_trees labels = at_once End ∷ replicate (labels - 1) bottom
