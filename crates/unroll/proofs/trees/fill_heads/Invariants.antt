use Rattle.std.proofs.Common.{◌≡◌, ℕ, suc, length}
use Rattle.step_meaning.specs.Syntax.{statements}
use Rattle.control_flow.specs.Labels.{all_labels}
use Rattle.backward_transfer.specs.AffineShapes.{plans}
use Rattle.control_flow.specs.Actions.{AtAll, AtFirst}
use Rattle.unroll.specs.Building.{TellsAt}
use Rattle.unroll.proofs.trees.fill_heads.Given as goal

-- the trees of the tests of loops so far tell
abbrev pub invariant-loop-label : goal.invariant-loop-label
invariant-loop-label l =
    (length l.trees ≡ length (all_labels (statements l.graph.body)))
    × ((tests : ℕ) → AtAll (statements l.graph.body) (TellsAt tests (statements l.graph.body) (plans l.last))
    → AtFirst (statements l.graph.body) 1 (TellsAt (suc tests) (statements l.graph.body) (plans l.initial.trees))
    → AtFirst (statements l.graph.body) l.label (TellsAt (suc tests) (statements l.graph.body) (plans l.trees)))
