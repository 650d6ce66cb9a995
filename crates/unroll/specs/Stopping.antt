-- Which level was made, and why no further one was.
use Rattle.std.specs.Prelude.{◌≡◌, ℕ, suc, ◌<◌, ◌⊎◌, IsSome, None, if◌then◌else◌}
use Rattle.std.specs.Option.{is_some}
use Rattle.linear_cons.specs.Exact.{IsOutside}
use Rattle.decision_tree.specs.declared.reason.Cause.{Cause}
use Rattle.decision_tree.specs.declared.reason.Cause.TheVariants.{Given, Nodes, Point, Rows, Wide}
use Rattle.step_meaning.specs.Syntax.{Statements}
use Rattle.control_flow.specs.Measures.{IsHeavy, IsLight}
use Rattle.unroll.specs.Refusals.{IsWide}
use Rattle.unroll.specs.declared.levels.Unrolled.{Unrolled}

-- the level has a weight above 65,536; or it hasn't, its numbers may be wide, and an exact one lies outside 128 bits
abbrev pub IsCause : Statements → ℕ → Cause → Type 0
IsCause body level (Nodes count) = (65536 < count) × IsHeavy body level
IsCause body level (Wide operands) = IsOutside operands × IsLight body level × IsWide body level
IsCause body level (Rows count) = ⊥
IsCause body level (Point num den) = ⊥
IsCause body level Given = ⊥

-- the level that would be made next
abbrev pub next_level : Unrolled → ℕ
next_level unrolled = if is_some unrolled.family then suc unrolled.tests else 0

-- The level of so many tests was made where nothing stopped it; else none was, or an earlier one.
pub record IsMade (tests : ℕ) (unrolled : Unrolled) : Type 0 where
  pub whole : unrolled.stopped ≡ None → IsSome unrolled.family × (unrolled.tests ≡ tests)
  pub short : IsSome unrolled.stopped
      → ((unrolled.family ≡ None) × (unrolled.tests ≡ 0)) ⊎ (IsSome unrolled.family × (unrolled.tests < tests))
