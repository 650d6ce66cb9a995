-- What a whole report says of its subject, and what is told of one input.
use Rattle.std.specs.Prelude.{◌≡◌, ◌≢◌, ◌↔◌, ◌⊎◌, ℕ, List, None, Some}
use Rattle.step_meaning.specs.Countdown.{IsCountdown}
use Rattle.step_meaning.specs.Outcome.{Store}
use Rattle.step_meaning.specs.Run.{start}
use Rattle.ctl_formula.specs.Formulas.{af_exit, normal}
use Rattle.ctl_formula.specs.Satisfaction.{Sat}
use Rattle.exact_families.specs.Completeness.{IsLoopless}
use Rattle.formula_measures.specs.Measures.{IsWithinMeasures}
use Rattle.fitting_ways.specs.Factors.{HasSmallFactors}
use Rattle.input_text.specs.Input.{IsInputText}
use Rattle.function_top.specs.declared.status.Status.{Status}
use Rattle.function_top.specs.declared.status.Status.TheVariants.{AllInputs, SomeInputs}
use Rattle.function_top.specs.Exact.{HasSmallLevels}
use Rattle.function_top.specs.Found.{HasSmallMeasures}
use Rattle.function_top.specs.Meeting.{AreMetOnce, CountsExactly, ProvesExactly, TellsExactly}
use Rattle.command_words.specs.Order.{Task}
use Rattle.function_top.specs.Subject.{Subject, asked_names}

-- The bytes of a report on the subject by the task, or of what is told of one input, say all this with their status. Of a report each input meets one
-- line, and its exact lines are met by the runs that they count; of a plain program without loops, and a formula whose normal form is within its
-- measures, the proved lines are met by the inputs whose start satisfies the formula. One input is told `exactly n steps` where that is so, if no
-- formula is asked about and the program's levels up to that of as many tests as the delay are small; of a plain program without loops, where the
-- measures of the program and the formula are small, something is claimed of it exactly where its start satisfies the formula. No input of a countdown
-- program is left without a claim where the normal form of the formula is `AF exit`: of a report always, and where one input is asked for if the
-- program has no loop or the factors in front of the loop are small.
pub record Says (task : Task) (subject : Subject) (status : Status) (bytes : List ℕ) : Type 0 where
  pub lines : task.input ≡ None → AreMetOnce subject.names bytes
  pub counts : task.input ≡ None → CountsExactly subject bytes
  pub proves : task.input ≡ None → IsLoopless subject.body → IsWithinMeasures subject.body (normal subject.formula) → ProvesExactly subject bytes
  pub exactly : (asked : List ℕ) (input : Store) → task.input ≡ Some asked → IsInputText (asked_names subject) asked input → task.formula ≡ None
      → HasSmallLevels subject.body task.delay → TellsExactly subject task.delay input bytes
  pub satisfied : (asked : List ℕ) (input : Store) → task.input ≡ Some asked → IsInputText (asked_names subject) asked input → HasSmallMeasures subject
      → (status ≡ AllInputs) ↔ Sat subject.formula (start subject.body input)
  pub countdowns : (task.input ≡ None) ⊎ HasSmallFactors subject.body → normal subject.formula ≡ af_exit → IsCountdown subject.body
      → status ≢ SomeInputs
