-- What a whole report says of its subject, and what is told of one input.
use Rattle.std.proofs.Common.{◌≡◌, ℕ, None}
use Rattle.command_words.specs.Order.{Task}
use Rattle.report_text.specs.declared.report.Report.{Report}
use Rattle.function_top.specs.declared.status.Status.{Status}
use Rattle.function_top.specs.Known.{KnownTexts}
use Rattle.function_top.specs.Output.{IsDueOn, IsReport, IsReportOn}
use Rattle.function_top.specs.Says.{Says}
use Rattle.function_top.specs.Subject.{IsSubject, Subject}
use Rattle.function_top.proofs.Certain.{due_covers}
use Rattle.function_top.proofs.Counted.{counts_exactly}
use Rattle.function_top.proofs.Headline.{due_answer, due_report, exact_answer, own_names}
use Rattle.function_top.proofs.MetOnce.{met_once}
use Rattle.function_top.proofs.Proving.{proves_exactly}
use Rattle.function_top.proofs.Satisfied.{satisfied_answer}
use Rattle.report_text.proofs.Frame.{Bytes}

module _ (known : KnownTexts) (task : Task) (text : Bytes) (subject : Subject) (h : IsSubject task text subject) where
  pub due_says : {status : Status} {advisers turns : ℕ} {bytes : Bytes} → IsReport status → IsDueOn task text status advisers turns bytes
      → Says task subject status bytes
  due_says {status} {advisers} {turns} {bytes} is due =
      let lines = known.lines subject.names (own_names known h) in
      let report : task.input ≡ None → (report : Report) × IsReportOn task text subject report advisers turns bytes =
      due_report known task text subject h is due in
      record {
        lines = λ whole. let on = report whole in met_once subject.names lines known.opening on.1.found on.0 bytes on.1.shows on.1.printed;
        counts = λ whole.
            let on = report whole in counts_exactly subject lines known.opening task on.1.found on.0 bytes on.1.analysed.finds on.1.shows on.1.printed;
        proves = λ whole loopless within.
            let on = report whole in
            proves_exactly subject lines known.opening task on.1.found on.0 bytes on.1.analysed.finds on.1.shows on.1.printed loopless within;
        exactly = λ asked input one given. exact_answer known task text subject h (due_answer known task text subject h is due one given);
        satisfied = λ asked input one given small. satisfied_answer (known.own_fewer text subject.names subject.own subject.body h.program h.own) small (due_answer known task text subject h is due one given);
        countdowns = λ certain ends counts. due_covers known task text subject h ends counts certain due;
      }
