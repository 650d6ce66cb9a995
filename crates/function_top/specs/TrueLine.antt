-- When a line is true.
use Rattle.std.specs.Prelude.{ℤ, pos, negsuc, List, length, map, ⊤}
use Rattle.step_meaning.specs.Outcome.{Store}
use Rattle.step_meaning.specs.Step.{Configuration}
use Rattle.step_meaning.specs.Run.{IsInput, start, Longest}
use Rattle.ordinal_rank.specs.Ends.{EndsUnder}
use Rattle.linear_cons.specs.declared.affine.Affine.{Affine}
use Rattle.linear_cons.specs.Functions.{value_at}
use Rattle.ctl_formula.specs.Satisfaction.{Sat, SatWithin}
use Rattle.line_text.specs.declared.claim.Claim.{Claim}
use Rattle.line_text.specs.declared.claim.Claim.TheVariants.{Exactly, Within, Holds, Ranked, Fits as FitsClaim, Unknown}
use Rattle.line_text.specs.Spells.{MeetsCondition}
use Rattle.int_fit.specs.Fitting.{Fits}
use Rattle.int_fit.specs.Narrowing.{narrowed}
use Rattle.function_top.specs.Subject.{Subject}

-- the longest run from `c` has exactly that many steps; none has fewer than 0
abbrev pub IsLongest : ℤ → Configuration → Type 0
IsLongest (pos n) c = Longest n c
IsLongest (negsuc n) c = ⊥

-- The claim is true of the input of the subject: the longest of its runs has exactly so many steps; the formula, whose normal form is an until, holds
-- where they begin within as many steps as the function's value at the input, which for `AF exit` says that each run ends within so many; the formula
-- holds there; every run ends, within a number of steps or where a new number bounds the rest, and how often a new one is needed is bounded as
-- the values of the functions at the input say; no number of a run leaves 32 bits, where each number that the program chooses by `?` is of 32 bits; or
-- nothing is claimed.
abbrev pub IsTrueOf : Subject → Claim → Store → Type 0
IsTrueOf subject (Exactly number) input = IsLongest number (start subject.body input)
IsTrueOf subject (Within bound) input = SatWithin (value_at bound input) subject.formula (start subject.body input)
IsTrueOf subject Holds input = Sat subject.formula (start subject.body input)
IsTrueOf subject (Ranked functions) input = EndsUnder (map (λ function. value_at function input) functions) (start subject.body input)
IsTrueOf subject FitsClaim input = Fits (start (narrowed subject.body) input)
IsTrueOf subject Unknown input = ⊤

-- the line of this condition and claim is true of the subject: for every input that meets the condition the claim is true of it
pub record TrueLine (subject : Subject) (condition : List Affine) (claim : Claim) : Type 0 where
  pub holds : (input : Store) → IsInput (length subject.names) input → MeetsCondition input condition → IsTrueOf subject claim input
