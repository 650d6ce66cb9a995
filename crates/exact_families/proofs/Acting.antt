-- What is done at the labels of a plain program, by its actions.
use Rattle.std.specs.Prelude.{ℕ, ◌<◌, ◌≤◌, true, false, ⊤}
use Rattle.step_meaning.specs.AffineExpressions.{ExpressionFits, IsAffine, IsAffineTest, TestFits}
use Rattle.step_meaning.specs.Countdown.{form_of}
use Rattle.step_meaning.specs.Naming.{NamesBelow}
use Rattle.step_meaning.specs.Syntax.{Expression, free}
use Rattle.step_meaning.specs.Valid.{IsTest}
use Rattle.linear_cons.specs.declared.bounds.Bounds.{Bounds}
use Rattle.linear_forms.specs.Spreading.{spread_of}
use Rattle.control_flow.specs.Labels.{Action, ends, assigns, passes, tests}
use Rattle.exact_families.proofs.Deeds.{Deed, asks, finishes, frees, sets, passes as goes}

abbrev pub deed_of_test : Bounds → Expression → ℕ → ℕ → Deed
deed_of_test bounds free then_to else_to = frees then_to else_to
deed_of_test bounds c then_to else_to = asks (spread_of bounds c true) (spread_of bounds c false) then_to else_to

-- what is done at a label, by its action, over the bounds of its invariant
abbrev pub deed_of : Bounds → Action → Deed
deed_of bounds ends = finishes
deed_of bounds (assigns x e next) = sets x (form_of e) next
deed_of bounds (passes next) = goes next
deed_of bounds (tests head c then_to else_to) = deed_of_test bounds c then_to else_to

-- an affine test without `?`, whose numbers fit
abbrev pub IsFair : Expression → Type 0
IsFair c = (vars : ℕ) × IsTest vars c × IsAffineTest c × TestFits c × (vars ≤ 16)

-- a whole `?`, or another test
abbrev pub IsFreeOr : Expression → Type 0 → Type 0
IsFreeOr free Other = ⊤
IsFreeOr c Other = Other

-- An affine assignment or test of a program of at most 15 variables, or a free test, whose numbers fit.
abbrev pub IsFittingAction : Action → Type 0
IsFittingAction ends = ⊤
IsFittingAction (assigns x e next) = (x < 16) × IsAffine e × ExpressionFits e × NamesBelow 16 e
IsFittingAction (passes next) = ⊤
IsFittingAction (tests head c then_to else_to) = IsFreeOr c (IsFair c)
