-- A text with a fault is no program, or no formula.
use Rattle.std.proofs.Common.{◌≡◌, ◌∙◌, inl, inr, ℕ, ◌+◌, ◌<◌, List, [], length, Option, None, Some, Result, Ok, Err, refl, sym, ap, subst, arith}
use Rattle.std.specs.Prelude.{IfErr, IfSome}
use Rattle.std.specs.Result.{IsErr, IsErrAnd}
use Rattle.std.proofs.lemmas.Option.{none-some, same_Some}
use Rattle.outside.specs.ReadEnd.{ConsumesJust}
use Rattle.ctl_formula.specs.Formulas.{Ctl}
use Rattle.formula_parse.specs.declared.fault.FormulaFault.{FormulaFault}
use Rattle.formula_parse.specs.declared.fault.FormulaFault.TheVariants as F
use Rattle.formula_parse.specs.declared.fault.FormulaLimit.{FormulaLimit}
use Rattle.formula_parse.specs.Derives.{IsFormulaOf}
use Rattle.formula_parse.specs.FaultOf.{IsNormalFault}
use Rattle.formula_parse.specs.Laws.{FormulasHaveNoFault}
use Rattle.formula_parse.specs.Laws as formulas
use Rattle.source_parse.specs.declared.fault.ParseFault.{ParseFault}
use Rattle.source_parse.specs.declared.fault.ParseFault.TheVariants.{Lex, Expected, Unknown, Twice, Mixed, BadRange, Outside, ZeroDivisor, Placed, Arguments, Limit, Memory}
use Rattle.source_parse.specs.Faults.{IsMemory, IsUnitFaultOf, numbered}
use Rattle.command_words.specs.Order.{Task}
use Rattle.function_top.specs.Asking.{IsFaultAsked, IsInputGiven}
use Rattle.function_top.specs.Output.{IsFormulaRefused, IsLongFormula}
use Rattle.function_top.specs.ProgramText.{DerivesNone, ProgramsHaveNoFault}
use Rattle.function_top.specs.Text.{HasGraph, IsRead}

-- an error that is passed on holds what it held
pub passed_on : {A E : Type 0} (result : Result A E) (error : E) (P : E → Type 0) → IsErr result × IsErrAnd result (λ e. e ≡ error) → P error → IfErr result P
passed_on (Ok a) error P h held = tt
passed_on (Err other) error P h held = subst P (sym h.1) held

-- a fault with a number isn't want of memory
is_no_memory : (fault : ParseFault) (found : ℕ × ℕ) → numbered fault ≡ Some found → IsMemory fault → ⊥
is_no_memory (Memory error) found told memory = none-some found told
is_no_memory (Lex fault) found told memory = memory
is_no_memory (Expected at) found told memory = memory
is_no_memory (Unknown at) found told memory = memory
is_no_memory (Twice at) found told memory = memory
is_no_memory (Mixed at) found told memory = memory
is_no_memory (BadRange at) found told memory = memory
is_no_memory (Outside at) found told memory = memory
is_no_memory (ZeroDivisor at) found told memory = memory
is_no_memory (Placed at) found told memory = memory
is_no_memory (Arguments at) found told memory = memory
is_no_memory (Limit which at count) found told memory = memory

pub refused : (text : List ℕ) (fault : ParseFault) (found : ℕ × ℕ) → ProgramsHaveNoFault → IsUnitFaultOf text fault → numbered fault ≡ Some found
    → DerivesNone text
refused text fault found law is told names body h = is_no_memory fault found told (law text names body fault h is)

-- ---- formulas

is_no_want : (fault : FormulaFault) (found : ℕ × ℕ) → formulas.numbered fault ≡ Some found → formulas.IsMemory fault → ⊥
is_no_want (F.Memory error) found told memory = none-some found told
is_no_want (F.Lex fault) found told memory = memory
is_no_want (F.Expected at) found told memory = memory
is_no_want (F.Unknown at) found told memory = memory
is_no_want (F.NotAffine at) found told memory = memory
is_no_want (F.Limit which at count) found told memory = memory

-- the fault of a normal form is that it is too long
normal_fault : (names : List (List ℕ)) (text : List ℕ) (meant : Ctl) → IsFormulaOf text names meant → (fault : FormulaFault) (number offset : ℕ)
    → IsNormalFault meant fault → formulas.numbered fault ≡ Some (number, offset) → IsLongFormula names text number offset
normal_fault names text meant derived (F.Limit FormulaLimit.Operators at count) number offset is told =
    let same = same_Some (11, at) (number, offset) told in
    record { meant = meant; derived = derived; long = is.0; number_is = sym (ap (λ p. p.0) same); offset_is = sym (ap (λ p. p.1) same) ∙ is.1 }
normal_fault names text meant derived (F.Limit FormulaLimit.Bytes at count) number offset is told = absurd is
normal_fault names text meant derived (F.Limit FormulaLimit.Nesting at count) number offset is told = absurd is
normal_fault names text meant derived (F.Lex fault) number offset is told = absurd is
normal_fault names text meant derived (F.Expected at) number offset is told = absurd is
normal_fault names text meant derived (F.Unknown at) number offset is told = absurd is
normal_fault names text meant derived (F.NotAffine at) number offset is told = absurd is
normal_fault names text meant derived (F.Memory error) number offset is told = absurd (none-some (number, offset) told)

-- the formula that is asked about, and why it is refused
pub asked_refused : (task : Task) (text : List ℕ) (names : List (List ℕ)) → HasGraph text names → IsInputGiven names task.input → (asked : Option (List ℕ))
    → task.formula ≡ asked → (fault : FormulaFault) (number offset : ℕ) → FormulasHaveNoFault → IsFaultAsked names asked fault
    → formulas.numbered fault ≡ Some (number, offset) → IsFormulaRefused task text number offset
asked_refused task text names within given None is fault number offset law own told = absurd (is_no_want fault (number, offset) told own)
asked_refused task text names within given (Some formula) is fault number offset law own told = record {
  names = names;
  within = within;
  given = given;
  formula = formula;
  asked = is;
  refused = elim own [
    | inl of_text ↦ inl record {
      none = λ f derived. is_no_want fault (number, offset) told (law formula names f fault derived of_text);
      fault = fault;
      fault_of = of_text;
      number_of = told;
    }
    | inr of_normal ↦ inr (normal_fault names formula of_normal.meant of_normal.derived fault number offset of_normal.fault_of told)
  ];
}

-- a text that is past the limit, which is the one that the source told where it told one
pub long_text : (limit : ℕ) (left left' : Option (List ℕ)) → IfSome left (λ bytes. limit < length bytes) → ConsumesJust (limit + 1) left left'
    → (text : List ℕ) × IsRead left text × (limit < length text)
long_text limit None left' long just = let count = just.1 in (just.0, tt, omega (arith, count))
long_text limit (Some told) left' long just = (told, refl, long)

-- a text that was read whole is that one too
pub whole_text : (left left' : Option (List ℕ)) (text : List ℕ) → IfSome left (λ bytes. (text ≡ bytes) × (left' ≡ Some [])) → IsRead left text
whole_text None left' text whole = tt
whole_text (Some told) left' text whole = sym whole.0
