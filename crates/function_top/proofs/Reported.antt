-- What is due by what was found of a text.
use Rattle.std.proofs.Common.{◌≡◌, ◌≢◌, ℕ, ◌+◌, ⊎_elim, List, [], ◌∷◌, ◌++◌, Option, None, Some, refl, ◌∙◌, subst}
use Rattle.step_meaning.specs.Outcome.{Store}
use Rattle.step_meaning.specs.Syntax.{size_of, statements}
use Rattle.ctl_formula.specs.Formulas.{normal}
use Rattle.ctl_rounds.specs.Asked.{IsAdvised}
use Rattle.command_words.specs.Order.{Task, task_of}
use Rattle.line_text.specs.declared.claim.Claim.{Claim}
use Rattle.claim_line.specs.Tells.{Tells}
use Rattle.input_text.specs.Input.{IsInputText}
use Rattle.report_text.specs.declared.report.Report.{Report}
use Rattle.report_text.specs.Printed.{IsReportText}
use Rattle.function_top.specs.declared.question.Question.{Question}
use Rattle.function_top.specs.declared.found.Found.{Found}
use Rattle.function_top.specs.declared.status.Status.{Status}
use Rattle.function_top.specs.Asking.{IsQuestion, IsInputGiven, IsReadAs}
use Rattle.function_top.specs.Output.{IsDueOn, IsFoundOn, IsVerdict, answered, reported}
use Rattle.function_top.specs.Explained.{explained, explanation}
use Rattle.function_top.specs.Found.{IsFound}
use Rattle.function_top.specs.OneInput.{IsToldOf}
use Rattle.function_top.specs.Shown.{Shows}
use Rattle.function_top.specs.Subject.{Subject, subject_of}
use Rattle.function_top.proofs.Certain.{whole_known}

-- ---- the input that was read

record IsReadText (names : List (List ℕ)) (asked : Option (List ℕ)) (input : Store) : Type 0 where
  pub text : List ℕ
  pub is : asked ≡ Some text
  pub given : IsInputText names text input

read_some : (names : List (List ℕ)) (asked : Option (List ℕ)) (input : Store) → IsReadAs names asked (Some input) → IsReadText names asked input
read_some names (Some text) input read = record { text = text; is = refl; given = read }
read_some names None input read = absurd read

read_none : (names : List (List ℕ)) (asked : Option (List ℕ)) → IsReadAs names asked None → asked ≡ None
read_none names None read = refl
read_none names (Some text) read = absurd read

pub read_given : (names : List (List ℕ)) (asked : Option (List ℕ)) (input : Option Store) → IsReadAs names asked input → IsInputGiven names asked
read_given names None None read = tt
read_given names (Some text) (Some input) read = (input, read)
read_given names None (Some input) read = absurd read
read_given names (Some text) None read = absurd read

-- ---- what was found

module _ (task : Task) (text : List ℕ) (question : Question) (is : IsQuestion task text question) (found : Found) (turns : ℕ) (bytes : List ℕ)
    (finds : IsFound (task_of question.query) (subject_of question.graph question.own is.formula.meant) found) (times : turns ≡ found.turns) where
  abbrev subject : Subject
  subject = subject_of question.graph question.own is.formula.meant

  analysed : IsFoundOn task text subject found turns
  analysed = record {
    is = record { program = is.graph.parsed.derived; own = is.own; formula = is.formula.is };
    within = record { program = question.graph; graph = is.graph; own_is = is.own };
    limited = is.formula.limited;
    finds = subst (λ t. IsFound t subject found) is.task_is finds;
    asked = times;
  }

  -- where a line is unknown the advisers that may help were asked eight times
  eight : (report : Report) → Shows found report → report.unknown ≢ [] → IsAdvised (normal is.formula.meant) → turns ≡ 8
  eight report shows some advised = ⊎_elim
      (λ whole. absurd (some (whole_known found report shows whole)))
      (λ most. times ∙ most)
      (finds.advice.insists advised)

  pub report_due : question.input ≡ None → (report : Report) (advisers : ℕ) → Shows found report
      → report.explain ≡ explained question.query.explain (explanation (1 + size_of (statements question.graph.body)) found.families advisers turns)
      → IsReportText question.graph.names report bytes → (status : Status) → IsVerdict status report.unknown
      → IsDueOn task text status advisers turns bytes
  report_due all report advisers shows explains printed status verdict =
      reported subject report (read_none question.own task.input (subst (IsReadAs question.own task.input) all is.input)) record {
        found = found;
        analysed = analysed;
        advised = λ some. (eight report shows some, λ unadvised. times ∙ finds.advice.spares unadvised);
        shows = shows;
        explains = subst (λ (t : Task). report.explain ≡ explained t.explain (explanation (1 + size_of (statements question.graph.body)) found.families advisers turns))
            is.task_is explains;
        printed = printed;
      } verdict

  pub answer_due : (input : Store) → question.input ≡ Some input → (claim : Claim) (line : List ℕ) → Tells question.graph.names line claim
      → bytes ≡ line ++ 10 ∷ [] → (status : Status) → IsToldOf found input status claim → (advisers : ℕ) → IsDueOn task text status advisers turns bytes
  answer_due input one claim line tells is_line status told advisers =
      let read = read_some question.own task.input input (subst (IsReadAs question.own task.input) one is.input) in
      answered read.text subject input read.is record {
        found = found;
        analysed = analysed;
        input_is = read.given;
        claim = claim;
        told = told;
        line = line;
        tells = tells;
        is_line = is_line;
      }
