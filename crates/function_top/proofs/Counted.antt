-- The exact lines of the text of a report are met by the runs that they speak of.
use Rattle.std.proofs.Common.{◌≡◌, ◌↔◌, ℕ, zero, suc, pos, List, [], ◌∷◌, ◌++◌, length, get_or, Contains, Option, None, Some, codes, refl, sym, ap, subst, ◌∙◌, arith}
use Rattle.std.specs.List.{AllZip}
use Rattle.std.proofs.lemmas.List.{append_cancel_left}
use Rattle.std.proofs.lemmas.List.Sorted.{Contains-permutation, IsPermutation-sym}
use Rattle.step_meaning.specs.Outcome.{Store}
use Rattle.step_meaning.specs.Run.{IsInput}
use Rattle.decision_tree.specs.Plans.{plan_of}
use Rattle.tree_support.proofs.Lists.{contains_first, contains_later}
use Rattle.line_text.specs.declared.claim.Claim.{Claim}
use Rattle.line_text.specs.declared.claim.Claim.TheVariants.{Exactly}
use Rattle.line_text.specs.LineText.{functions_of}
use Rattle.line_text.specs.Numeral.{numeral}
use Rattle.line_text.specs.Spells.{MeetsCondition, Spells}
use Rattle.line_text.proofs.Cuts.{word_cut}
use Rattle.line_text.proofs.Words.{numeral_injective, numeral_is_word}
use Rattle.report_text.specs.declared.line.Line.{Line}
use Rattle.report_text.specs.declared.report.Header.{Header}
use Rattle.report_text.specs.declared.report.Report.{Report}
use Rattle.report_text.specs.declared.report.Stop.{Stop}
use Rattle.report_text.specs.Printed.{AreExactTexts, AreTextsOf, IsReportText, IsLineText, cause_text}
use Rattle.report_text.specs.Sections.{exact_head, exact_line, header_lines}
use Rattle.report_text.proofs.Cutting.{KnownTexts, report_sections}
use Rattle.function_top.specs.declared.found.Exact.{Exact}
use Rattle.function_top.specs.declared.found.Exact.TheVariants.{Made, Unasked, Unmade}
use Rattle.function_top.specs.declared.found.Found.{Found}
use Rattle.function_top.specs.Exact.{EndsExactly, IsExact, MeetsLine}
use Rattle.function_top.specs.Found.{IsExactPart, IsFound}
use Rattle.function_top.specs.Meeting.{CountsExactly, MeetsClaim}
use Rattle.command_words.specs.Order.{Task}
use Rattle.function_top.specs.Shown.{Shows, ShowsExact, header_of}
use Rattle.function_top.specs.Subject.{Subject}
use Rattle.function_top.proofs.Conditions.{condition_met, rows_met}
use Rattle.function_top.proofs.ExactLines.{met_by_runs}
use Rattle.function_top.specs.Known.{KnownLines, OpenAsLines}
use Rattle.report_text.proofs.Frame.{Bytes, stopped_line}

-- ---- the lines and their texts

module _ (names : List Bytes) where
  abbrev AreZipped : List Line → List Bytes → Type 0
  AreZipped lines texts = AllZip (λ line text. IsLineText names line text) lines texts

  -- the line of a text, and the text of a line
  line_of : (lines : List Line) (texts : List Bytes) → AreZipped lines texts → (text : Bytes) → Contains texts text
      → (line : Line) × Contains lines line × IsLineText names line text
  line_of [] [] zipped text member = absurd (let low = member.1 in omega (arith, low))
  line_of [] (first ∷ texts) zipped text member = absurd zipped
  line_of (line ∷ lines) [] zipped text member = absurd zipped
  line_of (line ∷ lines) (first ∷ texts) zipped text (zero, low, is) =
      (line, contains_first line lines, subst (λ t. IsLineText names line t) is zipped.0)
  line_of (line ∷ lines) (first ∷ texts) zipped text (suc k, low, is) =
      let rest = line_of lines texts zipped.1 text (k, omega (arith, low), is) in (rest.0, contains_later line rest.0 lines rest.1, rest.2)

  text_of : (lines : List Line) (texts : List Bytes) → AreZipped lines texts → (line : Line) → Contains lines line
      → (text : Bytes) × Contains texts text × IsLineText names line text
  text_of [] [] zipped line member = absurd (let low = member.1 in omega (arith, low))
  text_of [] (text ∷ texts) zipped line member = absurd zipped
  text_of (first ∷ lines) [] zipped line member = absurd zipped
  text_of (first ∷ lines) (text ∷ texts) zipped line (zero, low, is) =
      (text, contains_first text texts, subst (λ l. IsLineText names l text) is zipped.0)
  text_of (first ∷ lines) (text ∷ texts) zipped line (suc k, low, is) =
      let rest = text_of lines texts zipped.1 line (k, omega (arith, low), is) in (rest.0, contains_later text rest.0 texts rest.1, rest.2)

module _ (names : List Bytes) (known : KnownLines names) (input : Store) (claim : Claim) (lines : List Line) (texts : List Bytes)
    (are : AreTextsOf names lines texts) where
  pub line_met : MeetsClaim names input claim texts → MeetsLine input claim lines
  line_met met =
      let member = Contains-permutation texts are.unsorted met.line (IsPermutation-sym are.unsorted texts are.same) met.among in
      let found = line_of names lines are.unsorted are.each met.line member in
      let is = found.2 in
      let same = known.one met.line (functions_of is.condition) met.condition found.0.claim claim is.spells met.spells in
      record {
        line = found.0;
        among = found.1;
        meets = condition_met found.0.rows is.condition input is.same (subst (MeetsCondition input) (sym same.0) met.meets);
        claims = same.1;
      }

  pub text_met : MeetsLine input claim lines → MeetsClaim names input claim texts
  text_met met =
      let found = text_of names lines are.unsorted are.each met.line met.among in
      let is = found.2 in
      record {
        line = found.0;
        among = Contains-permutation are.unsorted texts found.0 are.same found.1;
        condition = functions_of is.condition;
        spells = subst (λ c. Spells names found.0 (functions_of is.condition) c) met.claims is.spells;
        meets = rows_met met.line.rows is.condition input is.same met.meets;
      }

-- ---- the header names its number of tests

abbrev behind_tests : Option Stop → Bytes
behind_tests None = codes " tests:"
behind_tests (Some cause) = codes " tests, then " ++ (cause_text cause ++ codes ":")

abbrev counted_header : ℕ → Option Stop → Bytes
counted_header tests stop = codes "exact, " ++ (numeral tests ++ behind_tests stop)

header_is : (tests : ℕ) (stop : Option Stop) → header_lines (header_of tests stop) ≡ counted_header tests stop ∷ []
header_is tests None = refl
header_is tests (Some cause) = refl

abbrev first_line : List Bytes → Bytes
first_line lines = get_or lines 0 []

numbers_cut : (m n : ℕ) (here there : Option Stop) → numeral m ++ behind_tests here ≡ numeral n ++ behind_tests there → m ≡ n
numbers_cut m n None None same = numeral_injective m n (word_cut (numeral m) (numeral n) _ _ (numeral_is_word m) (numeral_is_word n) refl refl same).0
numbers_cut m n None (Some d) same = numeral_injective m n (word_cut (numeral m) (numeral n) _ _ (numeral_is_word m) (numeral_is_word n) refl refl same).0
numbers_cut m n (Some c) None same = numeral_injective m n (word_cut (numeral m) (numeral n) _ _ (numeral_is_word m) (numeral_is_word n) refl refl same).0
numbers_cut m n (Some c) (Some d) same = numeral_injective m n (word_cut (numeral m) (numeral n) _ _ (numeral_is_word m) (numeral_is_word n) refl refl same).0

same_tests : (m n : ℕ) (here there : Option Stop) → header_lines (header_of m here) ≡ header_lines (header_of n there) → m ≡ n
same_tests m n here there same =
    numbers_cut m n here there
    (append_cancel_left (codes "exact, ") (numeral m ++ behind_tests here) (numeral n ++ behind_tests there)
    (ap first_line (sym (header_is m here) ∙ same ∙ header_is n there)))

-- the header of an exact part that wasn't made names none
no_tests : (cause : Stop) (n : ℕ) (stop : Option Stop) → (stopped_line cause ∷ []) ≡ header_lines (header_of n stop) → ⊥
no_tests cause n stop same =
    let clash : 58 ≡ 44 = ap (λ lines. get_or (first_line lines) 5 0) (same ∙ header_is n stop) in omega (arith, clash)

made_texts : (names : List Bytes) (tests : ℕ) (stop : Option Stop) (lines : List Line) (texts : List Bytes)
    → AreExactTexts names (header_of tests stop) lines texts → AreTextsOf names lines texts
made_texts names tests None lines texts are = are
made_texts names tests (Some cause) lines texts are = are

-- no header names any
no_header : (n : ℕ) (stop : Option Stop) → [] ≡ header_lines (header_of n stop) → ⊥
no_header n stop same = let clash : 0 ≡ 1 = ap length (same ∙ header_is n stop) in omega (arith, clash)

-- ---- the exact part of a text

module _ (subject : Subject) (known : KnownLines subject.names) (delay tests : ℕ) (stop : Option Stop) (input : Store)
    (is_input : IsInput (length subject.names) input) (n : ℕ) (texts : List Bytes) where
  exact_counted : (exact : Exact) (header : Header) (lines : List Line) → IsExact (length subject.names) subject.body delay exact
      → ShowsExact exact header lines → AreExactTexts subject.names header lines texts
      → header_lines header ≡ header_lines (header_of tests stop)
      → MeetsClaim subject.names input (Exactly (pos n)) texts ↔ EndsExactly subject.body tests input n
  exact_counted Unasked header lines is shows are named = absurd is
  exact_counted (Unmade cause) header lines is shows are named =
      absurd (no_tests cause tests stop (ap header_lines (sym shows.0) ∙ named))
  exact_counted (Made made why tree) header lines is shows are named =
      let same : made ≡ tests = same_tests made tests why stop (ap header_lines (sym shows.0) ∙ named) in
      let printed : AreTextsOf subject.names lines texts =
      made_texts subject.names made why lines texts (subst (λ h. AreExactTexts subject.names h lines texts) shows.0 are)
      in
      let both = met_by_runs (length subject.names) subject.body made (plan_of tree) is.2 shows.1.0 lines shows.1.1 shows.1.2 input is_input n in
      subst (λ k. MeetsClaim subject.names input (Exactly (pos n)) texts ↔ EndsExactly subject.body k input n) same (
        (λ met. both.0 (line_met subject.names known input (Exactly (pos n)) lines texts printed met)),
        (λ ends. text_met subject.names known input (Exactly (pos n)) lines texts printed (both.1 ends)),
      )

  part_counted : (asked : Option Bytes) (exact : Exact) (header : Header) (lines : List Line) → IsExactPart asked subject delay exact
      → ShowsExact exact header lines → AreExactTexts subject.names header lines texts
      → header_lines header ≡ header_lines (header_of tests stop)
      → MeetsClaim subject.names input (Exactly (pos n)) texts ↔ EndsExactly subject.body tests input n
  part_counted None exact header lines is shows are named = exact_counted exact header lines is shows are named
  part_counted (Some formula) exact header lines is shows are named =
      absurd (no_header tests stop (ap header_lines (sym (subst (λ e. ShowsExact e header lines) is shows).0) ∙ named))

pub counts_exactly : (subject : Subject) → KnownLines subject.names → OpenAsLines → (task : Task) (found : Found) (report : Report) (text : Bytes)
    → IsFound task subject found → Shows found report → IsReportText subject.names report text → CountsExactly subject text
counts_exactly subject known opening task found report text finds shows printed tests allows input is_input n =
    let texts : KnownTexts subject.names = record {
      newline = known.newline;
      opening = λ line condition claim. opening subject.names line condition claim;
    } in
    let cut = report_sections texts report text printed in
    subst (λ (lines : List Bytes). MeetsClaim subject.names input (Exactly (pos n)) lines ↔ EndsExactly subject.body tests input n) (sym (cut exact_line))
    (part_counted subject known task.delay tests allows.0 input is_input n printed.exact task.formula found.exact report.header report.exact finds.exactness.part
    shows.exact printed.exact_are (sym (cut exact_head) ∙ allows.1))
