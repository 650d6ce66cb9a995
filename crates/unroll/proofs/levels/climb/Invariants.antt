use Rattle.std.proofs.Common.{◌≡◌, ℕ, ◌≤◌, length}
use Rattle.step_meaning.specs.Syntax.{statements}
use Rattle.control_flow.specs.Labels.{all_labels}
use Rattle.backward_transfer.specs.AffineShapes.{plans}
use Rattle.control_flow.specs.Actions.{AtAll}
use Rattle.unroll.specs.Building.{TellsAt}
use Rattle.control_flow.specs.Measures.{IsLight}
use Rattle.control_flow.specs.Sizing.{HasSizes}
use Rattle.unroll.proofs.levels.climb.Given as goal

-- the trees of the level so far tell, and its sizes are kept, none of which is large
abbrev pub invariant-loop-made : goal.invariant-loop-made
invariant-loop-made l =
    (length l.level.sizes.items ≡ length (all_labels (statements l.graph.body)))
    × (length l.level.trees.items ≡ length (all_labels (statements l.graph.body)))
    × AtAll (statements l.graph.body) (TellsAt l.made (statements l.graph.body) (plans l.level.trees.items))
    × HasSizes (statements l.graph.body) l.made l.level.sizes.items
    × ((level : ℕ) → level ≤ l.made → IsLight (statements l.graph.body) level)
