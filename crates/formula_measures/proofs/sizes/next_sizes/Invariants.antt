use Rattle.std.proofs.Common.{◌≡◌, ℕ, ◌<◌, length}
use Rattle.step_meaning.specs.Syntax.{statements}
use Rattle.control_flow.specs.Actions.{AtAll}
use Rattle.control_flow.specs.Sizing.{HoldsAt, held, held_at}
use Rattle.formula_measures.specs.Measures.{next_size}
use Rattle.formula_measures.proofs.sizes.next_sizes.Given as goal

-- those of the labels so far, label 0 among them
abbrev pub invariant-loop-label : goal.invariant-loop-label
invariant-loop-label l =
    (length l.sizes.items ≡ l.label)
    × (0 < l.label)
    × ((f : ℕ → ℕ) → AtAll (statements l.graph.body) (HoldsAt f l.part) → (k : ℕ) → k < l.label
    → held_at l.sizes.items k ≡ held (next_size (statements l.graph.body) f k))
