use Rattle.std.proofs.Common.{◌≡◌, ℕ, suc, length}
use Rattle.step_meaning.specs.Syntax.{statements}
use Rattle.control_flow.specs.Actions.{AtAll, AtFirst}
use Rattle.control_flow.specs.Measures.{AreSizes}
use Rattle.control_flow.specs.Sizing.{HoldsAt}
use Rattle.control_flow.proofs.sizes.fill_heads.Given as goal

-- the sizes of the tests of loops so far are there
abbrev pub invariant-loop-label : goal.invariant-loop-label
invariant-loop-label l =
    (length l.sizes ≡ length l.initial.sizes)
    × ((each : ℕ → ℕ → ℕ) (level : ℕ) → AreSizes (statements l.graph.body) each → AtAll (statements l.graph.body) (HoldsAt (each level) l.last)
    → AtFirst (statements l.graph.body) 1 (HoldsAt (each (suc level)) l.initial.sizes)
    → AtFirst (statements l.graph.body) l.label (HoldsAt (each (suc level)) l.sizes))
