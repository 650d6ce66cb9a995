use Rattle.std.proofs.Common.{◌≡◌, ℕ, ◌*◌, ◌<◌, length}
use Rattle.step_meaning.specs.Syntax.{statements}
use Rattle.control_flow.specs.Actions.{AtAll}
use Rattle.control_flow.specs.Sizing.{HoldsAt, held, held_at}
use Rattle.formula_measures.proofs.sizes.products.Given as goal

-- those of the labels so far
abbrev pub invariant-loop-label : goal.invariant-loop-label
invariant-loop-label l =
    (length l.sizes.items ≡ l.label)
    × ((f g : ℕ → ℕ) → AtAll (statements l.graph.body) (HoldsAt f l.left) → AtAll (statements l.graph.body) (HoldsAt g l.right) → (k : ℕ) → k < l.label
    → held_at l.sizes.items k ≡ held (4 * (f k * g k)))
