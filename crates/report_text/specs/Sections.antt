-- A report's text cut into its sections: one walk over its whole lines gives each line its role, by its own bytes where it opens a section
-- and else by the role of the line before it.
use Rattle.std.specs.Prelude.{◌≡◌, ℕ, ◌==◌, Bool, true, false, List, [], ◌∷◌, ◌++◌, All, Contains, Option, None, Some, codes, if◌then◌else◌}
use Rattle.std.specs.Str.{bytes_eq}
use Rattle.report_text.specs.declared.line.Line.{Line}
use Rattle.report_text.specs.declared.report.Explain.{Explain}
use Rattle.report_text.specs.declared.report.Header.{Header}
use Rattle.report_text.specs.declared.report.Report.{Report}
use Rattle.report_text.specs.Printed.{Head, IsLineText, exact_part, explained, head_text, heads, heads_for, lines_under, proved_head, ranked_head, unknown_head, verdict_line}

-- The whole lines of a text that goes on behind `begun`, the front of a line: each ends with a newline byte, which isn't a part of it.
-- What stands behind the last newline byte is no whole line.
abbrev pub lines_after : List ℕ → List ℕ → List (List ℕ)
lines_after begun [] = []
lines_after begun (byte ∷ more) = if byte == 10 then begun ∷ lines_after [] more else lines_after (begun ++ byte ∷ []) more

-- the whole lines of a text
abbrev pub whole_lines : List ℕ → List (List ℕ)
whole_lines text = lines_after [] text

-- the line is a whole line of the text
abbrev pub IsWholeLine : List ℕ → List ℕ → Type 0
IsWholeLine text line = Contains (whole_lines text) line

-- What follows has no part in the headline.

-- What a line is in a report: the header of the exact part, or one of its lines; the head of a section, or a line behind it; and so on. Before the
-- first line stands the start.
pub data Role : Type 0 where
  start : Role
  exact_head : Role
  exact_line : Role
  section_head : Head → Role
  section_line : Head → Role
  explain_head : Role
  explain_line : Role
  verdict : Role

-- a line that opens no section belongs to the one that is open; at the start it opens the exact part
abbrev pub goes_on : Role → Role
goes_on start = exact_head
goes_on exact_head = exact_line
goes_on exact_line = exact_line
goes_on (section_head head) = section_line head
goes_on (section_line head) = section_line head
goes_on explain_head = explain_line
goes_on explain_line = explain_line
goes_on verdict = verdict

-- the role of a line that is one of the heads, else the other one
abbrev pub role_among : List Head → Role → List ℕ → Role
role_among [] other line = other
role_among (head ∷ more) other line = if bytes_eq line (head_text head) then section_head head else role_among more other line

-- the role of a line behind one with the role
unfoldable pub role_of : Role → List ℕ → Role
role_of before line =
    role_among heads
    (if bytes_eq line (codes "explain:") then explain_head
    else (if bytes_eq line (codes "verdict: all inputs") then verdict
    else (if bytes_eq line (codes "verdict: some inputs") then verdict
    else goes_on before))) line

-- whether a head, and a role, is the wanted one
abbrev pub is_head : Head → Head → Bool
is_head proved_head proved_head = true
is_head ranked_head ranked_head = true
is_head unknown_head unknown_head = true
is_head wanted head = false

abbrev pub is_role : Role → Role → Bool
is_role start start = true
is_role exact_head exact_head = true
is_role exact_line exact_line = true
is_role (section_head wanted) (section_head head) = is_head wanted head
is_role (section_line wanted) (section_line head) = is_head wanted head
is_role explain_head explain_head = true
is_role explain_line explain_line = true
is_role verdict verdict = true
is_role wanted role = false

-- of the lines behind one with a role those with the wanted one
abbrev pub lines_with : Role → Role → List (List ℕ) → List (List ℕ)
lines_with wanted before [] = []
lines_with wanted before (line ∷ more) =
    if is_role wanted (role_of before line) then line ∷ lines_with wanted (role_of before line) more
    else lines_with wanted (role_of before line) more

-- of the whole lines of a text those with the role
abbrev pub lines_in : Role → List ℕ → List (List ℕ)
lines_in wanted text = lines_with wanted start (whole_lines text)

-- the first list is a front of the second
pub record IsFrontOf {X : Type 0} (front whole : List X) : Type 0 where
  pub rest : List X
  pub is : whole ≡ front ++ rest

-- the header line of an exact part, if there is one
abbrev pub header_lines : Header → List (List ℕ)
header_lines header = exact_part header []

-- the lines behind `explain:`
abbrev pub explained_lines : Option Explain → List (List ℕ)
explained_lines None = []
explained_lines (Some explain) = explained explain

-- the head of that part, if there is one
abbrev pub explained_head : Option Explain → List (List ℕ)
explained_head None = []
explained_head (Some explain) = codes "explain:" ∷ []

-- the head, where it is one of these
abbrev pub head_among : Head → List Head → List (List ℕ)
head_among wanted [] = []
head_among wanted (head ∷ more) = (if is_head wanted head then head_text head ∷ [] else []) ++ head_among wanted more

-- the lines that were printed with a role
abbrev pub lines_printed : Role → Header → (exact : List (List ℕ)) → (Head → List (List ℕ)) → Option Explain → List (List ℕ)
lines_printed start header exact texts explain = []
lines_printed exact_head header exact texts explain = header_lines header
lines_printed exact_line header exact texts explain = exact
lines_printed (section_head head) header exact texts explain = head_among head (heads_for (texts ranked_head))
lines_printed (section_line head) header exact texts explain = texts head
lines_printed explain_head header exact texts explain = explained_head explain
lines_printed explain_line header exact texts explain = explained_lines explain
lines_printed verdict header exact texts explain = verdict_line (texts unknown_head) ∷ []

-- the text is that of one of the lines
pub record IsTextAmong (names : List (List ℕ)) (lines : List Line) (text : List ℕ) : Type 0 where
  pub line : Line
  pub line_in : Contains lines line
  pub text_is : IsLineText names line text

-- each whole line of the exact part or of a section of a text is one of the report's lines there
pub record SaysOnly (names : List (List ℕ)) (report : Report) (text : List ℕ) : Type 0 where
  pub exact : All (IsTextAmong names report.exact) (lines_in exact_line text)
  pub under : (head : Head) → All (IsTextAmong names (lines_under head report)) (lines_in (section_line head) text)
