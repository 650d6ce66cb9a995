use Rattle.std.proofs.Common.{◌≡◌, ℕ, length}
use Rattle.step_meaning.specs.Syntax.{statements}
use Rattle.control_flow.specs.Labels.{all_labels}
use Rattle.control_flow.specs.Actions.{AtBehind, AtFirst}
use Rattle.control_flow.specs.Measures.{AreSizes}
use Rattle.control_flow.specs.Sizing.{HoldsAt}
use Rattle.control_flow.proofs.sizes.fill.Given as goal

-- the sizes from the label on are there
abbrev pub invariant-loop-label : goal.invariant-loop-label
invariant-loop-label l =
    (length l.sizes ≡ length l.initial.sizes)
    × ((each : ℕ → ℕ → ℕ) (level : ℕ) → AreSizes (statements l.graph.body) each
    → AtFirst (statements l.graph.body) (length (all_labels (statements l.graph.body))) (HoldsAt (each level) l.initial.sizes)
    → AtBehind (statements l.graph.body) l.label (HoldsAt (each level) l.sizes))
