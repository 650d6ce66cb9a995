use Rattle.std.proofs.Common.{◌≡◌, ℕ, ◌*◌, length}
use Rattle.step_meaning.specs.Counts.{HasNoLoop}
use Rattle.step_meaning.specs.Syntax.{statements}
use Rattle.control_flow.specs.Actions.{AtAll, AtBehind}
use Rattle.control_flow.specs.Labels.{all_labels}
use Rattle.control_flow.specs.Sizing.{HoldsAt, held, held_at}
use Rattle.formula_measures.specs.Measures.{until_size}
use Rattle.formula_measures.proofs.sizes.fill.Given as goal

-- the sizes from the label on are there
abbrev pub invariant-loop-label : goal.invariant-loop-label
invariant-loop-label l =
    (length l.sizes ≡ length l.initial.sizes)
    × (HasNoLoop (statements l.graph.body) → (k g : ℕ → ℕ) → AtAll (statements l.graph.body) (HoldsAt k l.keep)
    → AtAll (statements l.graph.body) (HoldsAt g l.goal) → held_at l.initial.sizes 0 ≡ held (4 * (k 0 * g 0))
    → AtBehind (statements l.graph.body) l.label
    (HoldsAt (until_size (statements l.graph.body) k g (length (all_labels (statements l.graph.body)))) l.sizes))
