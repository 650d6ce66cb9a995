-- Texts line by line: what holds of each line that was printed holds of each whole line of the text, and of any front of it.
use Rattle.std.proofs.Common.{◌≡◌, ℕ, zero, suc, ◌+◌, true, false, ◌⊎◌, inl, inr, ◌==◌, if◌then◌else◌, List, [], ◌∷◌, ◌++◌, take, drop, codes, All, Contains, Option, None, Some, refl, sym, ap, ◌∙◌, subst, arith}
use Rattle.std.specs.List.{AllZip}
use Rattle.std.proofs.lemmas.List.{take-append-drop}
use Rattle.std.proofs.lemmas.List.Elements.{All-append, All-cons, All-contains, All-head, All-nil, All-tail, All-weaker}
use Rattle.std.proofs.lemmas.List.Sorted.{All-permutation}
use Rattle.linear_cons.specs.declared.affine.Affine.{Affine}
use Rattle.line_text.specs.declared.claim.Claim.{Claim}
use Rattle.line_text.specs.LineText.{functions_of}
use Rattle.line_text.specs.Spells.{Spells}
use Rattle.report_text.specs.declared.line.Line.{Line}
use Rattle.line_text.specs.Numeral.{numeral}
use Rattle.report_text.specs.declared.report.Explain.{Explain}
use Rattle.report_text.specs.declared.report.Header.{Header}
use Rattle.report_text.specs.declared.report.Header.TheVariants.{Absent, Partial, Stopped, Whole}
use Rattle.report_text.specs.declared.report.Report.{Report}
use Rattle.report_text.specs.Fitting.{IsFitText, fit_report_lines}
use Rattle.report_text.specs.Printed.{AreExactTexts, AreTextsOf, Head, IsLineText, IsReportText, ended_lines, exact_part, explain_part, head_text, heads_for, lines_under, ranked_head, report_lines, section_lines, unknown_head, verdict_line}
use Rattle.report_text.specs.Sections.{IsWholeLine, lines_after, whole_lines}
use Rattle.function_top.specs.Demo.{summary_lines}
use Rattle.report_text.proofs.Cutting.{whole_lines_are}
use Rattle.report_text.proofs.Frame.{Bytes, IsFree, IsSilent, Lacks, counted_free, explanation_silent, fits_silent, free_lacks, head_silent, headers_silent, partial_line, partial_silent, silent_lacks, stopped_line, stopped_silent, tested, verdict_silent, whole_line, whole_silent}

-- ---- lines

-- an element of a list is its first or one of the others
first_or_later : (x : Bytes) (xs : List Bytes) (y : Bytes) → Contains (x ∷ xs) y → (y ≡ x) ⊎ Contains xs y
first_or_later x xs y (zero, lt, e) = inl (sym e)
first_or_later x xs y (suc i, lt, e) = inr (i, omega arith, e)

later : (x : Bytes) (xs : List Bytes) (y : Bytes) → Contains xs y → Contains (x ∷ xs) y
later x xs y (i, lt, e) = (suc i, omega arith, e)

none_in_none : (y : Bytes) → ¬ Contains [] y
none_in_none y (i, lt, e) = omega arith

-- what a front of a text has as whole lines, the text has
front_lines : (begun front more line : Bytes) → Contains (lines_after begun front) line → Contains (lines_after begun (front ++ more)) line
front_lines begun [] more line found = absurd (none_in_none line found)
front_lines begun (byte ∷ front) more line found =
    elim (byte == 10) as (λ t. Contains (if t then begun ∷ lines_after [] front else lines_after (begun ++ byte ∷ []) front) line
    → Contains (if t then begun ∷ lines_after [] (front ++ more) else lines_after (begun ++ byte ∷ []) (front ++ more)) line) [
      | true ↦ λ f. elim (first_or_later begun (lines_after [] front) line f) [
        | inl e ↦ (zero, omega arith, sym e)
        | inr rest ↦ later begun (lines_after [] (front ++ more)) line (front_lines [] front more line rest)
      ]
      | false ↦ λ f. front_lines (begun ++ byte ∷ []) front more line f
    ] found

-- ---- the lines of a summary

-- a line of what is counted, before others
more_lack : (front : Bytes) → IsFree front → (n : ℕ) (more : List Bytes) → All Lacks more → All Lacks ((front ++ numeral n) ∷ more)
more_lack front clean n more all = All-cons Lacks (front ++ numeral n) more (free_lacks (front ++ numeral n) (counted_free front clean n)) all

pub summary_lacks : (number bytes labels proved : ℕ) → All Lacks (summary_lines number bytes labels proved)
summary_lacks number bytes labels proved =
    let last : All Lacks (codes "verdict: all inputs" ∷ []) =
    All-cons Lacks (codes "verdict: all inputs") [] (free_lacks (codes "verdict: all inputs") (tested (codes "verdict: all inputs") refl)) (All-nil Lacks) in
    let lines = more_lack (codes "proved lines ") (tested (codes "proved lines ") refl) proved (codes "verdict: all inputs" ∷ []) last in
    let third = more_lack (codes "labels ") (tested (codes "labels ") refl) labels ((codes "proved lines " ++ numeral proved) ∷ (codes "verdict: all inputs" ∷ [])) lines in
    let second = more_lack (codes "bytes ") (tested (codes "bytes ") refl) bytes
    ((codes "labels " ++ numeral labels) ∷ ((codes "proved lines " ++ numeral proved) ∷ (codes "verdict: all inputs" ∷ []))) third in
    more_lack (codes "demo ") (tested (codes "demo ") refl) number
    ((codes "bytes " ++ numeral bytes) ∷ ((codes "labels " ++ numeral labels) ∷ ((codes "proved lines " ++ numeral proved) ∷ (codes "verdict: all inputs" ∷ []))))
    second

-- ---- what holds of each line

module _ (P : Bytes → Type 0) where
  -- of each whole line of the text
  abbrev pub EachWhole : Bytes → Type 0
  EachWhole text = (line : Bytes) → IsWholeLine text line → P line

  pub record IsGood (line : Bytes) : Type 0 where
    pub lacking : Lacks line
    pub holds : P line

  pub each_good : (lines : List Bytes) (text : Bytes) → All IsGood lines → text ≡ ended_lines lines → EachWhole text
  each_good lines text all is line whole =
      let cut : whole_lines text ≡ lines = ap whole_lines is ∙ whole_lines_are lines (All-weaker IsGood Lacks (λ l good. good.lacking) lines all) in
      (All-contains IsGood lines line all (subst (λ ls. Contains ls line) cut whole)).holds

  pub one_good : (line text : Bytes) → Lacks line → P line → text ≡ ended_lines (line ∷ []) → EachWhole text
  one_good line text lacks h =
      each_good (line ∷ []) text (All-cons IsGood line [] (record { lacking = lacks; holds = h }) (All-nil IsGood))

  -- a front of the text
  pub of_front : (text : Bytes) (n : ℕ) → EachWhole text → EachWhole (take n text)
  of_front text n h line whole =
      h line (subst (λ t. Contains (lines_after [] t) line) (take-append-drop n text) (front_lines [] (take n text) (drop n text) line whole))

  pub of_nothing : EachWhole []
  of_nothing line whole = absurd (none_in_none line whole)

  -- of the lines that frame a report
  pub record Frames : Type 0 where
    pub exact : (header : Header) → All P (exact_part header [])
    pub explanation : (explain : Explain) → All P (explain_part (Some explain))
    pub each_head : (head : Head) → P (head_text head)
    pub all_inputs : P (codes "verdict: all inputs")
    pub some_inputs : P (codes "verdict: some inputs")

  -- where it holds of each line that says nothing
  pub silent_frames : ((line : Bytes) → IsSilent line → P line) → Frames
  silent_frames holds = record {
    exact = λ header. All-weaker IsSilent P holds (exact_part header []) (headers_silent header);
    explanation = λ explain. All-weaker IsSilent P holds (explain_part (Some explain)) (explanation_silent explain);
    each_head = λ head. holds (head_text head) (head_silent head);
    all_inputs = holds (codes "verdict: all inputs") (verdict_silent {A = Bytes} []);
    some_inputs = holds (codes "verdict: some inputs") (verdict_silent {A = Bytes} ([] ∷ []));
  }

  module _ (frames : Frames) (names : List Bytes)
      (newline : (line : Bytes) (condition : List Affine) (claim : Claim) → Spells names line condition claim → Lacks line) where
    -- of whatever the line is printed as
    abbrev pub Prints : Line → Type 0
    Prints line = (text : Bytes) → IsLineText names line text → P text

    good_silent : (line : Bytes) → IsSilent line → P line → IsGood line
    good_silent line silent h = record { lacking = silent_lacks line silent; holds = h }

    good_verdict : (unknown : List Bytes) → IsGood (verdict_line unknown)
    good_verdict [] = good_silent (codes "verdict: all inputs") (verdict_silent {A = Bytes} []) frames.all_inputs
    good_verdict (line ∷ more) = good_silent (codes "verdict: some inputs") (verdict_silent (line ∷ more)) frames.some_inputs

    good_explanation : (explain : Option Explain) → All IsGood (explain_part explain)
    good_explanation None = All-nil IsGood
    good_explanation (Some explain) = λ k d low. record {
      lacking = All-weaker IsSilent Lacks silent_lacks (explain_part (Some explain)) (explanation_silent explain) k d low;
      holds = frames.explanation explain k d low;
    }

    good_sections : (texts : Head → List Bytes) → ((head : Head) → All IsGood (texts head)) → (behind : List Bytes) → All IsGood behind → (under : List Head)
        → All IsGood (section_lines under texts behind)
    good_sections texts good behind end [] = end
    good_sections texts good behind end (head ∷ more) =
        let rest = section_lines more texts behind in
        All-cons IsGood (head_text head) (texts head ++ rest) (good_silent (head_text head) (head_silent head) (frames.each_head head))
        (All-append IsGood (texts head) rest (good head) (good_sections texts good behind end more))

    good_lines : (header : Header) (exact : List Bytes) (texts : Head → List Bytes) (explain : Option Explain) → All IsGood (exact_part header exact)
        → ((head : Head) → All IsGood (texts head)) → All IsGood (report_lines header exact texts explain)
    good_lines header exact texts explain front good =
        let last = verdict_line (texts unknown_head) in
        let behind = explain_part explain ++ last ∷ [] in
        All-append IsGood (exact_part header exact) (section_lines (heads_for (texts ranked_head)) texts behind) front
        (good_sections texts good behind
        (All-append IsGood (explain_part explain) (last ∷ []) (good_explanation explain) (All-cons IsGood last [] (good_verdict (texts unknown_head)) (All-nil IsGood)))
        (heads_for (texts ranked_head)))

    good_zipped : (lines : List Line) (texts : List Bytes) → All Prints lines → AllZip (λ line text. IsLineText names line text) lines texts
        → All IsGood texts
    good_zipped [] [] h zipped = All-nil IsGood
    good_zipped [] (text ∷ texts) h zipped = absurd zipped
    good_zipped (line ∷ lines) [] h zipped = absurd zipped
    good_zipped (line ∷ lines) (text ∷ texts) h zipped =
        All-cons IsGood text texts
        (record {
          lacking = newline text (functions_of zipped.0.condition) line.claim zipped.0.spells;
          holds = All-head Prints line lines h text zipped.0;
        })
        (good_zipped lines texts (All-tail Prints line lines h) zipped.1)

    good_texts : (lines : List Line) (texts : List Bytes) → All Prints lines → AreTextsOf names lines texts → All IsGood texts
    good_texts lines texts h are = All-permutation IsGood are.unsorted texts are.same (good_zipped lines are.unsorted h are.each)

    -- the header, and the exact lines below it
    good_header : (line : Bytes) → Lacks line → P line → (texts : List Bytes) → All IsGood texts → All IsGood (line ∷ texts)
    good_header line lacks holds texts all = All-cons IsGood line texts (record { lacking = lacks; holds = holds }) all

    good_exact : (header : Header) (lines : List Line) (texts : List Bytes) → All Prints lines → AreExactTexts names header lines texts
        → All IsGood (exact_part header texts)
    good_exact Absent lines texts all are = All-nil IsGood
    good_exact (Whole tests) lines texts all are =
        good_header (whole_line tests) (silent_lacks (whole_line tests) (whole_silent tests)) (All-head P (whole_line tests) [] (frames.exact (Whole tests))) texts (good_texts lines texts all are)
    good_exact (Partial tests cause) lines texts all are =
        good_header (partial_line tests cause) (silent_lacks (partial_line tests cause) (partial_silent tests cause)) (All-head P (partial_line tests cause) [] (frames.exact (Partial tests cause)))
        texts (good_texts lines texts all are)
    good_exact (Stopped cause) lines texts all are =
        good_header (stopped_line cause) (silent_lacks (stopped_line cause) (stopped_silent cause)) (All-head P (stopped_line cause) [] (frames.exact (Stopped cause))) [] (All-nil IsGood)

    -- a report on what fits
    pub fit_report_holds : P (codes "fits:") → (fits unknown : List Line) (text : Bytes) → All Prints fits → All Prints unknown
        → IsFitText names fits unknown text → EachWhole text
    fit_report_holds head fits unknown text claimed others printed =
        let first = printed.fits_texts in
        let second = printed.unknown_texts in
        let last = verdict_line second in
        each_good (fit_report_lines first second) text
        (All-cons IsGood (codes "fits:") (first ++ (codes "unknown:" ∷ (second ++ last ∷ []))) (good_silent (codes "fits:") fits_silent head)
        (All-append IsGood first (codes "unknown:" ∷ (second ++ last ∷ [])) (good_texts fits first claimed printed.fits_are)
        (All-cons IsGood (codes "unknown:") (second ++ last ∷ []) (good_silent (codes "unknown:") (head_silent unknown_head) (frames.each_head unknown_head))
        (All-append IsGood second (last ∷ []) (good_texts unknown second others printed.unknown_are)
        (All-cons IsGood last [] (good_verdict second) (All-nil IsGood))))))
        printed.is

    pub report_holds : (report : Report) (text : Bytes) → All Prints report.exact → ((head : Head) → All Prints (lines_under head report))
        → IsReportText names report text → EachWhole text
    report_holds report text exact under printed =
        each_good (report_lines report.header printed.exact printed.texts report.explain) text
        (good_lines report.header printed.exact printed.texts report.explain (good_exact report.header report.exact printed.exact exact printed.exact_are)
        (λ head. good_texts (lines_under head report) (printed.texts head) (under head) (printed.are head)))
        printed.is
