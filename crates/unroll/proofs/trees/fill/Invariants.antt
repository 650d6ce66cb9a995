use Rattle.std.proofs.Common.{◌≡◌, ℕ, length}
use Rattle.step_meaning.specs.Syntax.{statements}
use Rattle.control_flow.specs.Labels.{all_labels}
use Rattle.backward_transfer.specs.AffineShapes.{plans}
use Rattle.control_flow.specs.Actions.{AtBehind, AtFirst}
use Rattle.unroll.specs.Building.{TellsAt}
use Rattle.unroll.proofs.trees.fill.Given as goal

-- the trees from the label on tell
abbrev pub invariant-loop-label : goal.invariant-loop-label
invariant-loop-label l =
    (length l.trees ≡ length (all_labels (statements l.graph.body)))
    × ((tests : ℕ) → AtFirst (statements l.graph.body) (length (all_labels (statements l.graph.body))) (TellsAt tests (statements l.graph.body) (plans l.initial.trees))
    → AtBehind (statements l.graph.body) l.label (TellsAt tests (statements l.graph.body) (plans l.trees)))
