use Rattle.std.proofs.Common.{◌≡◌, ℕ, ◌<◌, length}
use Rattle.step_meaning.specs.Syntax.{statements}
use Rattle.control_flow.specs.Growth.{row_size}
use Rattle.control_flow.specs.Labels.{action_at}
use Rattle.control_flow.specs.Measures.{greatest_below}
use Rattle.control_flow.specs.Sizing.{held, held_at, leaves_at}
use Rattle.control_flow.proofs.measure.measures_of.Given as goal

-- the leaves and the greatest number of the labels so far
abbrev pub invariant-loop-label : goal.invariant-loop-label
invariant-loop-label l =
    (length l.leaves.items ≡ l.label)
    × ((label : ℕ) → label < l.label → held_at l.leaves.items label ≡ held (leaves_at (action_at (statements l.program.body) label)))
    × (l.greatest ≡ greatest_below (λ label. row_size (action_at (statements l.program.body) label)) l.label)
