-- When a configuration of a program satisfies a formula.
use Rattle.std.specs.Prelude.{ℕ, ℤ, pos, negsuc, Bool}
use Rattle.step_meaning.specs.Step.{Configuration, programs}
use Rattle.ctl_formula.specs.Systems as systems
use Rattle.ctl_formula.specs.Formulas.{Ctl, normal}

abbrev pub Sat : Ctl → Configuration → Type 0
Sat f c = systems.Sat programs f c

abbrev pub Within : ℕ → Ctl → Configuration → Type 0
Within n f c = systems.Within programs n f c

-- the same where the bound is a whole number; within fewer than 0 steps nothing holds
abbrev pub WithinBound : ℤ → Ctl → Configuration → Type 0
WithinBound (pos n) f c = Within n f c
WithinBound (negsuc n) f c = ⊥

-- the configuration satisfies the formula, whose normal form is an until, within the number of steps
abbrev pub SatWithin : ℤ → Ctl → Configuration → Type 0
SatWithin bound f c = WithinBound bound (normal f) c

-- What follows has no part in the headline.

abbrev pub Ahead : Bool → (Configuration → Type 0) → Configuration → Type 0
Ahead all P c = systems.Ahead programs all P c

abbrev pub UntilIn : ℕ → Bool → (Configuration → Type 0) → (Configuration → Type 0) → Configuration → Type 0
UntilIn n all keep goal c = systems.UntilIn programs n all keep goal c

abbrev pub WeakIn : ℕ → Bool → (Configuration → Type 0) → (Configuration → Type 0) → Configuration → Type 0
WeakIn n all keep goal c = systems.WeakIn programs n all keep goal c
