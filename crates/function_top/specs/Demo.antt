-- What is due by a demo program: a summary of the report on it.
use Rattle.std.specs.Prelude.{◌≡◌, ℕ, ◌+◌, false, List, [], ◌∷◌, ◌++◌, length, None, codes}
use Rattle.ctl_formula.specs.Formulas.{af_exit}
use Rattle.line_text.specs.Numeral.{numeral}
use Rattle.report_text.specs.declared.report.Report.{Report}
use Rattle.report_text.specs.Printed.{ended_lines}
use Rattle.command_words.specs.declared.order.Domain.TheVariants.{Boxes}
use Rattle.command_words.specs.Order.{Task}
use Rattle.demo_program.specs.Demo.{demo_body, demo_names, demo_text}
use Rattle.function_top.specs.declared.found.Found.{Found}
use Rattle.function_top.specs.Found.{IsFound}
use Rattle.function_top.specs.Shown.{Shows}
use Rattle.function_top.specs.Subject.{Subject}

-- a summary: the number, how many bytes the text has, how many labels the program has, the final one among them, how many lines are proved, and
-- the verdict
abbrev pub summary_lines : (number bytes labels proved : ℕ) → List (List ℕ)
summary_lines number bytes labels proved =
    (codes "demo " ++ numeral number) ∷ ((codes "bytes " ++ numeral bytes) ∷ ((codes "labels " ++ numeral labels)
    ∷ ((codes "proved lines " ++ numeral proved) ∷ (codes "verdict: all inputs" ∷ []))))

-- What follows has no part in the headline.

-- what is asked of an analysis where nothing is chosen
abbrev pub defaults : Task
defaults = record { domain = Boxes; delay = 2; formula = None; input = None; explain = false; refine = false }

-- the demo program of a number, and that each of its runs ends
abbrev pub demo_subject : ℕ → Subject
demo_subject number = record { names = demo_names; own = demo_names; body = demo_body number; formula = af_exit }

-- By the demo program of this number these bytes are due, and each adviser is asked for them so many times: with the defaults this was found of
-- the program, and the report that shows it covers all inputs; the bytes are its summary.
pub record IsDemoDue (number turns : ℕ) (bytes : List ℕ) : Type 0 where
  pub found : Found
  pub finds : IsFound defaults (demo_subject number) found
  pub asked : turns ≡ found.turns
  pub report : Report
  pub shows : Shows found report
  pub covers : report.unknown ≡ []
  pub is : bytes ≡ ended_lines (summary_lines number (length (demo_text number)) (number + 3) (length report.proved))
