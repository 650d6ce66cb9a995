-- What a plain program does at a label, and when its numbers fit.
use Rattle.std.specs.Prelude.{ℕ, ◌<◌, length, ⊤}
use Rattle.step_meaning.specs.AffineExpressions.{ExpressionFits, IsAffine, TestFits}
use Rattle.step_meaning.specs.Plain.{IsPlain, IsPlainTest}
use Rattle.step_meaning.specs.Syntax.{Statements}
use Rattle.control_flow.specs.Labels.{Action, ends, assigns, passes, tests, action_at, all_labels}

-- what is assigned or tested at a label is plain
abbrev pub IsPlainAction : Action → Type 0
IsPlainAction ends = ⊤
IsPlainAction (assigns x e next) = IsAffine e
IsPlainAction (passes next) = ⊤
IsPlainAction (tests head c then_to else_to) = IsPlainTest c

-- its numbers fit 128 bits
abbrev pub ActionFits : Action → Type 0
ActionFits ends = ⊤
ActionFits (assigns x e next) = ExpressionFits e
ActionFits (passes next) = ⊤
ActionFits (tests head c then_to else_to) = TestFits c

-- a plain program whose numbers fit 128 bits
pub record IsFitting (body : Statements) : Type 0 where
  pub plain : IsPlain body
  pub fit : (label : ℕ) → label < length (all_labels body) → ActionFits (action_at body label)
