-- The text of a report.
use Rattle.std.specs.Prelude.{◌≡◌, ℕ, ◌+◌, List, [], ◌∷◌, ◌++◌, map, All, Option, None, Some, codes, IsPermutation, IsSorted}
use Rattle.std.specs.List.{AllZip}
use Rattle.std.specs.Ordering.{nat_cmp}
use Rattle.std.specs.Cmp.Lexicographic.{slice_cmp}
use Rattle.linear_cons.specs.declared.row.Row.{Row}
use Rattle.line_text.specs.LineText.{functions_of, row_text}
use Rattle.line_text.specs.Names.{IsOver}
use Rattle.line_text.specs.Numeral.{numeral}
use Rattle.line_text.specs.Spells.{IsClaimOver, Spells}
use Rattle.report_text.specs.declared.line.Line.{Line}
use Rattle.report_text.specs.declared.report.Explain.{Explain}
use Rattle.report_text.specs.declared.report.Header.{Header}
use Rattle.report_text.specs.declared.report.Header.TheVariants.{Absent, Whole, Partial, Stopped}
use Rattle.report_text.specs.declared.report.Report.{Report}
use Rattle.report_text.specs.declared.report.Stop.{Stop}
use Rattle.report_text.specs.declared.report.Stop.TheVariants.{WideNumbers, TooManyNodes, NotPlain}

-- a cause in words
abbrev pub cause_text : Stop → List ℕ
cause_text WideNumbers = codes "wide numbers"
cause_text TooManyNodes = codes "too many nodes"
cause_text NotPlain = codes "not a plain program"

-- the exact part: its header, and the exact lines where some level was made
abbrev pub exact_part : Header → List (List ℕ) → List (List ℕ)
exact_part Absent exact = []
exact_part (Whole tests) exact = (codes "exact, " ++ (numeral tests ++ codes " tests:")) ∷ exact
exact_part (Partial tests cause) exact =
    (codes "exact, " ++ (numeral tests ++ (codes " tests, then " ++ (cause_text cause ++ codes ":")))) ∷ exact
exact_part (Stopped cause) exact = (codes "exact: " ++ cause_text cause) ∷ []

-- how often each adviser was asked; the advisers are numbered from `first`
abbrev pub adviser_lines : ℕ → List ℕ → List (List ℕ)
adviser_lines first [] = []
adviser_lines first (asked ∷ more) =
    (codes "adviser " ++ (numeral first ++ (codes " asked " ++ numeral asked))) ∷ adviser_lines (first + 1) more

-- the lines behind `explain:`
abbrev pub explained : Explain → List (List ℕ)
explained explain =
    (codes "labels " ++ numeral explain.labels) ∷ ((codes "families " ++ numeral explain.families) ∷ adviser_lines 1 explain.asked)

-- the part that explains the report, if there is one
abbrev pub explain_part : Option Explain → List (List ℕ)
explain_part None = []
explain_part (Some explain) = codes "explain:" ∷ explained explain

-- the sections below the exact part, each under a head of its own: what is proved, what ends by a rank, and what isn't known
pub data Head : Type 0 where
  proved_head : Head
  ranked_head : Head
  unknown_head : Head

abbrev pub head_text : Head → List ℕ
head_text proved_head = codes "proved:"
head_text ranked_head = codes "ranked:"
head_text unknown_head = codes "unknown:"

-- What follows has no part in the headline.

-- the heads in their order, and the lines of a report under a head
abbrev pub heads : List Head
heads = proved_head ∷ ranked_head ∷ unknown_head ∷ []

abbrev pub lines_under : Head → Report → List Line
lines_under proved_head report = report.proved
lines_under ranked_head report = report.ranked
lines_under unknown_head report = report.unknown

-- those that a report has: no section is there for what ends by a rank where it would have no line
abbrev pub heads_for : {A : Type 0} → List A → List Head
heads_for [] = proved_head ∷ unknown_head ∷ []
heads_for (line ∷ more) = heads

-- the texts stand in the order of their bytes
abbrev pub AreInOrder : List (List ℕ) → Type 0
AreInOrder texts = IsSorted (slice_cmp nat_cmp) texts

-- the texts of rows
abbrev pub row_texts : List (List ℕ) → List Row → List (List ℕ)
row_texts names rows = map (λ (row : Row). row_text names row.affine) rows

-- The text is that of the line: its rows are put in the order of their bytes, and then it spells them and the claim.
pub record IsLineText (names : List (List ℕ)) (line : Line) (text : List ℕ) : Type 0 where
  pub condition : List Row
  pub same : IsPermutation line.rows condition
  pub sorted : AreInOrder (row_texts names condition)
  pub spells : Spells names text (functions_of condition) line.claim

-- The texts are those of the lines, each one once, in the order of their bytes.
pub record AreTextsOf (names : List (List ℕ)) (lines : List Line) (texts : List (List ℕ)) : Type 0 where
  pub unsorted : List (List ℕ)
  pub each : AllZip (λ line text. IsLineText names line text) lines unsorted
  pub same : IsPermutation unsorted texts
  pub sorted : AreInOrder texts

-- something is claimed of every input exactly where no line is unknown
abbrev pub verdict_line : {A : Type 0} → List A → List ℕ
verdict_line [] = codes "verdict: all inputs"
verdict_line (line ∷ more) = codes "verdict: some inputs"

-- sections under their heads, and what stands behind them
abbrev pub section_lines : List Head → (Head → List (List ℕ)) → List (List ℕ) → List (List ℕ)
section_lines [] texts behind = behind
section_lines (head ∷ more) texts behind = head_text head ∷ (texts head ++ section_lines more texts behind)

-- the lines of a report
abbrev pub report_lines : Header → (exact : List (List ℕ)) → (Head → List (List ℕ)) → Option Explain → List (List ℕ)
report_lines header exact texts explain =
    exact_part header exact ++ section_lines (heads_for (texts ranked_head)) texts (explain_part explain ++ verdict_line (texts unknown_head) ∷ [])

-- the lines one after the other, each ended by a newline byte
abbrev pub ended_lines : List (List ℕ) → List ℕ
ended_lines [] = []
ended_lines (line ∷ more) = line ++ (10 ∷ ended_lines more)

-- the texts of the exact lines, where they are printed
abbrev pub AreExactTexts : List (List ℕ) → Header → List Line → List (List ℕ) → Type 0
AreExactTexts names (Whole tests) lines texts = AreTextsOf names lines texts
AreExactTexts names (Partial tests cause) lines texts = AreTextsOf names lines texts
AreExactTexts names Absent lines texts = texts ≡ []
AreExactTexts names (Stopped cause) lines texts = texts ≡ []

-- the text is that of the report
pub record IsReportText (names : List (List ℕ)) (report : Report) (text : List ℕ) : Type 0 where
  pub exact : List (List ℕ)
  pub texts : Head → List (List ℕ)
  pub exact_are : AreExactTexts names report.header report.exact exact
  pub are : (head : Head) → AreTextsOf names (lines_under head report) (texts head)
  pub is : text ≡ ended_lines (report_lines report.header exact texts report.explain)

-- the rows and the claim of the line speak of no variable past the names
pub record IsLineOver (names : List (List ℕ)) (line : Line) : Type 0 where
  pub rows : All (IsOver names) (functions_of line.rows)
  pub claims : IsClaimOver names line.claim

-- so do all lines of the report
pub record IsReportOver (names : List (List ℕ)) (report : Report) : Type 0 where
  pub exact : All (IsLineOver names) report.exact
  pub proved : All (IsLineOver names) report.proved
  pub ranked : All (IsLineOver names) report.ranked
  pub unknown : All (IsLineOver names) report.unknown

-- ---- what the calls that print it append

-- the texts of rows in the order of their bytes
pub record AreRowTexts (names : List (List ℕ)) (rows : List Row) (texts : List (List ℕ)) : Type 0 where
  pub condition : List Row
  pub same : IsPermutation rows condition
  pub sorted : AreInOrder texts
  pub are : texts ≡ row_texts names condition

-- the lines of the section were appended, with its head or not
pub record IsSectionAdded (names : List (List ℕ)) (lines : List Line) (old new : List ℕ) : Type 0 where
  pub texts : List (List ℕ)
  pub are : AreTextsOf names lines texts
  pub appended : new ≡ old ++ ended_lines texts

-- the exact part was appended
pub record IsExactAdded (names : List (List ℕ)) (header : Header) (lines : List Line) (old new : List ℕ) : Type 0 where
  pub texts : List (List ℕ)
  pub are : AreExactTexts names header lines texts
  pub appended : new ≡ old ++ ended_lines (exact_part header texts)

-- the lines behind the head, where there is one
abbrev pub headed_if_any : Head → List (List ℕ) → List (List ℕ)
headed_if_any head [] = []
headed_if_any head (text ∷ texts) = head_text head ∷ text ∷ texts

-- the lines of a section were appended in this shape
pub record IsHeadedAdded (names : List (List ℕ)) (shape : List (List ℕ) → List (List ℕ)) (lines : List Line) (old new : List ℕ) : Type 0 where
  pub texts : List (List ℕ)
  pub are : AreTextsOf names lines texts
  pub appended : new ≡ old ++ ended_lines (shape texts)
