-- How many lines of the text of a report an input meets.
use Rattle.std.proofs.Common.{◌≡◌, ◌⊎◌, inl, inr, List, [], ◌∷◌, ◌++◌, length, codes, sym, ap, subst, append-nil, append_assoc}
use Rattle.std.specs.List.{AllZip}
use Rattle.std.specs.Prelude.{IsPermutation}
use Rattle.std.proofs.lemmas.List.Elements.{All-cons, All-nil}
use Rattle.std.proofs.lemmas.List.Sorted.{All-permutation, IsPermutation-append, IsPermutation-cons, IsPermutation-middle, IsPermutation-refl, IsPermutation-sym, IsPermutation-trans}
use Rattle.step_meaning.specs.Outcome.{Store}
use Rattle.linear_cons.specs.Rows.{MeetsAll}
use Rattle.decision_tree.specs.declared.affine_rank.AffineRank.{AffineRank}
use Rattle.decision_tree.specs.Evaluation.{eval}
use Rattle.decision_tree.specs.Plans.{Plan}
use Rattle.line_text.specs.LineText.{functions_of}
use Rattle.line_text.specs.Spells.{MeetsCondition}
use Rattle.report_text.specs.declared.line.Line.{Line}
use Rattle.report_text.specs.declared.line.Top.TheVariants.{Fits}
use Rattle.report_text.specs.Fitting.{AreFitLines, IsFitText, fit_report_lines}
use Rattle.report_text.specs.Leaves.{NoneOf, OneOf, claim_at}
use Rattle.report_text.specs.declared.report.Header.{Header}
use Rattle.report_text.specs.declared.report.Header.TheVariants.{Absent, Partial, Stopped, Whole}
use Rattle.report_text.specs.declared.report.Report.{Report}
use Rattle.report_text.specs.Printed.{AreExactTexts, AreTextsOf, Head, IsReportText, IsLineText, lines_under, proved_head, ranked_head, unknown_head, verdict_line}
use Rattle.report_text.specs.Sections.{exact_line, section_line}
use Rattle.report_text.proofs.Cutting.{KnownTexts, report_sections}
use Rattle.report_text.proofs.FitCutting.{fit_report_cut}
use Rattle.report_text.proofs.FitLines.{fit_line_met}
use Rattle.function_top.specs.declared.found.Found.{Found}
use Rattle.function_top.specs.Exact.{MeetsAtMostOneLine}
use Rattle.function_top.specs.Found.{claim_found}
use Rattle.function_top.specs.Shown.{Shows}
use Rattle.function_top.specs.Fitting.{AreMetByInts}
use Rattle.function_top.specs.Meeting.{AreMetOnce, AreUnmet, IsMet, MeetsOne}
use Rattle.function_top.proofs.Conditions.{condition_met, rows_met}
use Rattle.function_top.proofs.Once.{at_most_one, one_line}
use Rattle.function_top.specs.Known.{KnownLines, OpenAsLines}
use Rattle.report_text.proofs.Frame.{Bytes, IsSilent, fits_silent, head_silent, says_nothing, verdict_silent}

module _ (names : List Bytes) (known : KnownLines names) (input : Store) where
  abbrev Met : Line → Type 0
  Met line = MeetsAll input line.rows

  -- a text is met where the line is of which it is the text
  text_met : (line : Line) (text : Bytes) → IsLineText names line text → Met line → IsMet names input text
  text_met line text is met = record {
    condition = functions_of is.condition;
    claim = line.claim;
    spells = is.spells;
    meets = rows_met line.rows is.condition input is.same met;
  }

  line_met : (line : Line) (text : Bytes) → IsLineText names line text → IsMet names input text → Met line
  line_met line text is met =
      let same = known.one text (functions_of is.condition) met.condition line.claim met.claim is.spells met.spells in
      condition_met line.rows is.condition input is.same (subst (MeetsCondition input) (sym same.0) met.meets)

  none_met : (lines : List Line) (texts : List Bytes) → AllZip (λ line text. IsLineText names line text) lines texts → NoneOf Met lines → AreUnmet names input texts
  none_met [] [] zipped none = All-nil (λ text. ¬ IsMet names input text)
  none_met [] (text ∷ texts) zipped none = absurd zipped
  none_met (line ∷ lines) [] zipped none = absurd zipped
  none_met (line ∷ lines) (text ∷ texts) zipped none =
      All-cons (λ text. ¬ IsMet names input text) text texts (λ met. none.0 (line_met line text zipped.0 met)) (none_met lines texts zipped.1 none.1)

  one_met : (Is : Line → Type 0) (lines : List Line) (texts : List Bytes) → AllZip (λ line text. IsLineText names line text) lines texts → OneOf Met Is lines
      → MeetsOne names input texts
  one_met Is [] [] zipped one = absurd one
  one_met Is [] (text ∷ texts) zipped one = absurd zipped
  one_met Is (line ∷ lines) [] zipped one = absurd zipped
  one_met Is (line ∷ lines) (text ∷ texts) zipped (inl here) = record {
    line = text;
    others = texts;
    are = IsPermutation-refl (text ∷ texts);
    met = text_met line text zipped.0 here.0;
    unmet = none_met lines texts zipped.1 here.2;
  }
  one_met Is (line ∷ lines) (text ∷ texts) zipped (inr later) =
      let rest = one_met Is lines texts zipped.1 later.1 in record {
        line = rest.line;
        others = text ∷ rest.others;
        are = IsPermutation-trans (text ∷ texts) (text ∷ rest.line ∷ rest.others) (rest.line ∷ text ∷ rest.others)
            (IsPermutation-cons text texts (rest.line ∷ rest.others) rest.are) (IsPermutation-middle (text ∷ []) rest.line rest.others);
        met = rest.met;
        unmet = All-cons (λ text. ¬ IsMet names input text) text rest.others (λ met. later.0 (line_met line text zipped.0 met)) rest.unmet;
      }

  -- in another order
  reordered : (texts others : List Bytes) → IsPermutation texts others → MeetsOne names input texts → MeetsOne names input others
  reordered texts others same one = record {
    line = one.line;
    others = one.others;
    are = IsPermutation-trans others texts (one.line ∷ one.others) (IsPermutation-sym texts others same) one.are;
    met = one.met;
    unmet = one.unmet;
  }

  zipped_both : (lines more : List Line) (texts rest : List Bytes) → AllZip (λ line text. IsLineText names line text) lines texts
      → AllZip (λ line text. IsLineText names line text) more rest → AllZip (λ line text. IsLineText names line text) (lines ++ more) (texts ++ rest)
  zipped_both [] more [] rest first second = second
  zipped_both [] more (text ∷ texts) rest first second = absurd first
  zipped_both (line ∷ lines) more [] rest first second = absurd first
  zipped_both (line ∷ lines) more (text ∷ texts) rest first second = (first.0, zipped_both lines more texts rest first.1 second)

  -- texts of the lines, in some order
  pub record AreSome (lines : List Line) (texts : List Bytes) : Type 0 where
    pub unsorted : List Bytes
    pub each : AllZip (λ line text. IsLineText names line text) lines unsorted
    pub same : IsPermutation unsorted texts

  pub some_of : (lines : List Line) (texts : List Bytes) → AreTextsOf names lines texts → AreSome lines texts
  some_of lines texts are = record { unsorted = are.unsorted; each = are.each; same = are.same }

  pub both_of : (lines more : List Line) (texts rest : List Bytes) → AreSome lines texts → AreSome more rest → AreSome (lines ++ more) (texts ++ rest)
  both_of lines more texts rest first second = record {
    unsorted = first.unsorted ++ second.unsorted;
    each = zipped_both lines more first.unsorted second.unsorted first.each second.each;
    same = IsPermutation-append first.unsorted texts second.unsorted rest first.same second.same;
  }

  pub one_of : (Is : Line → Type 0) (lines : List Line) (texts : List Bytes) → AreSome lines texts → OneOf Met Is lines → MeetsOne names input texts
  one_of Is lines texts are one = reordered are.unsorted texts are.same (one_met Is lines are.unsorted are.each one)

  pub none_of : (lines : List Line) (texts : List Bytes) → AreTextsOf names lines texts → NoneOf Met lines → AreUnmet names input texts
  none_of lines texts are none = All-permutation (λ text. ¬ IsMet names input text) are.unsorted texts are.same (none_met lines are.unsorted are.each none)

  -- a line that isn't met stands among the others
  pub unmet_between : (front behind : List Bytes) (text : Bytes) → ¬ IsMet names input text → MeetsOne names input (front ++ behind)
      → MeetsOne names input (front ++ text ∷ behind)
  unmet_between front behind text apart one = record {
    line = one.line;
    others = text ∷ one.others;
    are = IsPermutation-trans (front ++ text ∷ behind) (text ∷ (front ++ behind)) (one.line ∷ text ∷ one.others)
        (IsPermutation-middle front text behind)
        (IsPermutation-trans (text ∷ (front ++ behind)) (text ∷ one.line ∷ one.others) (one.line ∷ text ∷ one.others)
        (IsPermutation-cons text (front ++ behind) (one.line ∷ one.others) one.are) (IsPermutation-middle (text ∷ []) one.line one.others));
    met = one.met;
    unmet = All-cons (λ line. ¬ IsMet names input line) text one.others apart one.unmet;
  }

-- ---- the text of a report

module _ (names : List Bytes) (known : KnownLines names) (opening : OpenAsLines) where
  exact_texts : (input : Store) (header : Header) (lines : List Line) (texts : List Bytes) → AreExactTexts names header lines texts
      → MeetsAtMostOneLine input lines → AreUnmet names input texts ⊎ MeetsOne names input texts
  exact_texts input (Whole tests) lines texts are (inl none) = inl (none_of names known input lines texts are none)
  exact_texts input (Whole tests) lines texts are (inr one) = inr (one_of names known input (λ line. line.claim ≡ one.0) lines texts (some_of names known input lines texts are) one.1)
  exact_texts input (Partial tests stop) lines texts are (inl none) = inl (none_of names known input lines texts are none)
  exact_texts input (Partial tests stop) lines texts are (inr one) = inr (one_of names known input (λ line. line.claim ≡ one.0) lines texts (some_of names known input lines texts are) one.1)
  exact_texts input Absent lines texts are met = subst (λ ts. AreUnmet names input ts ⊎ MeetsOne names input ts) (sym are) (inl (All-nil (λ text. ¬ IsMet names input text)))
  exact_texts input (Stopped stop) lines texts are met =
      subst (λ ts. AreUnmet names input ts ⊎ MeetsOne names input ts) (sym are) (inl (All-nil (λ text. ¬ IsMet names input text)))

  pub met_once : (found : Found) (report : Report) (text : Bytes) → Shows found report → IsReportText names report text → AreMetOnce names text
  met_once found report text shows printed =
      let texts : KnownTexts names = record {
        newline = known.newline;
        opening = λ line condition claim. opening names line condition claim;
      } in
      let cut = report_sections texts report text printed in
      record {
        together = λ input.
            let some : (head : Head) → AreSome names known input (lines_under head report) (printed.texts head) =
            λ head. some_of names known input (lines_under head report) (printed.texts head) (printed.are head) in
            let last = both_of names known input report.ranked report.unknown (printed.texts ranked_head) (printed.texts unknown_head)
            (some ranked_head) (some unknown_head) in
            let all = both_of names known input report.proved (report.ranked ++ report.unknown) (printed.texts proved_head)
            (printed.texts ranked_head ++ printed.texts unknown_head) (some proved_head) last in
            rw (cut (section_line proved_head), cut (section_line ranked_head), cut (section_line unknown_head))
            (one_of names known input (λ line. line.claim ≡ claim_found found input) (report.proved ++ (report.ranked ++ report.unknown))
            (printed.texts proved_head ++ (printed.texts ranked_head ++ printed.texts unknown_head)) all (one_line found report shows input));
        exact = λ input.
            subst (λ (lines : List Bytes). AreUnmet names input lines ⊎ MeetsOne names input lines) (sym (cut exact_line))
            (exact_texts input report.header report.exact printed.exact printed.exact_are (at_most_one found report shows input));
      }

  -- ---- the text of a report on what fits

  silent_unmet : (input : Store) (line : Bytes) → IsSilent line → ¬ IsMet names input line
  silent_unmet input line silent met = says_nothing line silent (opening names line met.condition met.claim met.spells)

  pub met_by_ints : (tree : Plan AffineRank) (fits unknown : List Line) (text : Bytes) → AreFitLines (length names) tree fits unknown
      → IsFitText names fits unknown text → AreMetByInts names text
  met_by_ints tree fits unknown text are printed input small =
      let texts : KnownTexts names = record {
        newline = known.newline;
        opening = λ line condition claim. opening names line condition claim;
      } in
      let first = printed.fits_texts in
      let second = printed.unknown_texts in
      let last = verdict_line second in
      let Own : Line → Type 0 = λ (line : Line). line.claim ≡ claim_at Fits (eval are.made input) in
      let claimed : MeetsOne names input (first ++ second) =
      one_of names known input Own (fits ++ unknown) (first ++ second)
      (both_of names known input fits unknown first second (some_of names known input fits first printed.fits_are)
      (some_of names known input unknown second printed.unknown_are))
      (fit_line_met (length names) are.made fits unknown are.lists input small) in
      let parted = unmet_between names known input first second (codes "unknown:") (silent_unmet input (codes "unknown:") (head_silent unknown_head)) claimed in
      let headed = unmet_between names known input [] (first ++ codes "unknown:" ∷ second) (codes "fits:") (silent_unmet input (codes "fits:") fits_silent) parted in
      let front = codes "fits:" ∷ (first ++ codes "unknown:" ∷ second) in
      let whole = unmet_between names known input front [] last (silent_unmet input last (verdict_silent second))
      (subst (MeetsOne names input) (sym (append-nil front)) headed) in
      let grouped : front ++ last ∷ [] ≡ fit_report_lines first second =
      ap (λ lines. codes "fits:" ∷ lines) (append_assoc first (codes "unknown:" ∷ second) (last ∷ [])) in
      subst (MeetsOne names input) (sym (fit_report_cut texts fits unknown text printed)) (subst (MeetsOne names input) grouped whole)
