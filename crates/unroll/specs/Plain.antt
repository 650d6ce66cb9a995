-- Tests of plain programs whose numbers fit.
use Rattle.std.specs.Prelude.{ℕ, ◌≤◌}
use Rattle.step_meaning.specs.AffineExpressions.{TestFits}
use Rattle.step_meaning.specs.Plain.{IsPlainTest}
use Rattle.step_meaning.specs.Syntax.{Expression}
use Rattle.step_meaning.specs.Valid.{IsTest}

-- a plain test of a program of at most 15 variables, whose numbers fit 128 bits
pub record IsFittingTest (c : Expression) : Type 0 where
  pub vars : ℕ
  pub few : vars ≤ 15
  pub sorted : IsTest vars c
  pub plain : IsPlainTest c
  pub fit : TestFits c
