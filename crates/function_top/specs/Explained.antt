-- What explains a report.
use Rattle.std.specs.Prelude.{ℕ, Bool, true, false, Option, None, Some, replicate}
use Rattle.report_text.specs.declared.report.Explain.{Explain}

-- how many labels the program has, the final one among them; how many families of the whole formula were found; and how often each adviser was
-- asked, all of them equally often
abbrev pub explanation : (labels families advisers turns : ℕ) → Explain
explanation labels families advisers turns = record { labels = labels; families = families; asked = replicate advisers turns }

-- it is there exactly where it is asked for
abbrev pub explained : Bool → Explain → Option Explain
explained true explain = Some explain
explained false explain = None
