-- What the command writes is true, line by line.
use Rattle.std.proofs.Common.{◌≡◌, ℕ, ◌+◌, not, true, List, [], ◌∷◌, ◌++◌, length, All, Contains, Option, None, Some, codes, refl, sym, ap, ◌∙◌, subst, arith}
use Rattle.std.proofs.lemmas.List.Elements.{All-filter, All-nil, Contains-append_left, Contains-append_right}
use Rattle.step_meaning.specs.Outcome.{Store}
use Rattle.step_meaning.specs.Run.{IsInput, start}
use Rattle.linear_cons.specs.declared.affine.Affine.{Affine}
use Rattle.linear_cons.specs.Rows.{MeetsAll}
use Rattle.linear_solve.proofs.Lists.{all_of, member_of}
use Rattle.decision_tree.specs.declared.affine_rank.AffineRank.{AffineRank}
use Rattle.decision_tree.specs.Evaluation.{eval}
use Rattle.decision_tree.specs.Plans.{Plan, bottom, branch, is_defined, leaf, plan_of, top}
use Rattle.int_fit.specs.Fitting.{Fits}
use Rattle.int_fit.specs.Narrowing.{narrowed}
use Rattle.fit_check.specs.Safety.{FitsWhere}
use Rattle.ordinal_rank.specs.declared.ordinal.OrdinalRank.{OrdinalRank}
use Rattle.ordinal_rank.specs.Families.{BoundsEnds}
use Rattle.line_text.specs.declared.claim.Claim.{Claim}
use Rattle.line_text.specs.LineText.{functions_of}
use Rattle.line_text.specs.Numeral.{numeral}
use Rattle.line_text.specs.Spells.{Spells}
use Rattle.line_text.proofs.Words.{numeral_is_numeral}
use Rattle.report_text.specs.declared.line.Line.{Line}
use Rattle.report_text.specs.declared.line.Top.{Top}
use Rattle.report_text.specs.declared.line.Top.TheVariants.{Exact as Counted, Fits as Fitting}
use Rattle.report_text.specs.declared.report.Header.{Header}
use Rattle.report_text.specs.declared.report.Report.{Report}
use Rattle.report_text.specs.Leaves.{MeetsOneLine, claim_at, claim_by, is_unknown}
use Rattle.report_text.specs.Printed.{Head, IsReportText, lines_under, proved_head, ranked_head, unknown_head}
use Rattle.report_text.specs.Ranked.{claim_else, ordinal_claim}
use Rattle.report_text.specs.Fitting.{AreFitLines, IsFitText}
use Rattle.report_text.proofs.FitLines.{all_left}
use Rattle.report_text.proofs.Standing.{one_line_met}
use Rattle.function_top.specs.declared.found.Exact.{Exact}
use Rattle.function_top.specs.declared.found.Exact.TheVariants.{Made, Unasked, Unmade}
use Rattle.function_top.specs.declared.found.Found.{Found}
use Rattle.function_top.specs.Exact.{IsExact, IsExactTree}
use Rattle.function_top.specs.Found.{IsExactPart, IsFound, IsTrueTree, claim_found}
use Rattle.function_top.specs.Known.{KnownLines, OpenAsLines}
use Rattle.command_words.specs.Order.{Task}
use Rattle.function_top.specs.Refusals.{fault_line, usage_line}
use Rattle.function_top.specs.Shown.{Shows, ShowsExact}
use Rattle.function_top.specs.Subject.{Subject}
use Rattle.function_top.specs.TrueLine.{IsTrueOf, TrueLine}
use Rattle.unroll.specs.Levels.{RanksCount}
use Rattle.function_top.proofs.Conditions.{condition_met}
use Rattle.function_top.proofs.ExactLines.{ranks_at}
use Rattle.function_top.proofs.Once.{one_line}
use Rattle.function_top.proofs.OnlyMet.{met_is_one}
use Rattle.report_text.proofs.Frame.{Bytes, IsFree, IsSilent, both_free, digits_free, fits_silent, free_lacks, says_nothing, tested}
use Rattle.function_top.proofs.Written.{EachWhole, Frames, Prints, fit_report_holds, one_good, report_holds, silent_frames}

-- the lines of refused words and of faults say nothing
pub usage_silent : IsSilent usage_line
usage_silent = record { free = tested usage_line refl; second = λ e. omega arith }

pub fault_free : (what : Bytes) (number offset : ℕ) → IsFree what → IsFree (fault_line what number offset)
fault_free what number offset clean =
    both_free what (codes ": " ++ (numeral number ++ (codes " at " ++ numeral offset))) clean
    (both_free (codes ": ") (numeral number ++ (codes " at " ++ numeral offset)) (tested (codes ": ") refl)
    (both_free (numeral number) (codes " at " ++ numeral offset) (digits_free (numeral number) (numeral_is_numeral number).1)
    (both_free (codes " at ") (numeral offset) (tested (codes " at ") refl) (digits_free (numeral offset) (numeral_is_numeral offset).1))))

pub program_silent : (number offset : ℕ) → IsSilent (fault_line (codes "program") number offset)
program_silent number offset = record { free = fault_free (codes "program") number offset (tested (codes "program") refl); second = λ e. omega arith }

pub formula_silent : (number offset : ℕ) → IsSilent (fault_line (codes "formula") number offset)
formula_silent number offset = record { free = fault_free (codes "formula") number offset (tested (codes "formula") refl); second = λ e. omega arith }

-- whatever the line says over the names is true of the subject
abbrev pub SaysTrue : Subject → Bytes → Type 0
SaysTrue subject line = (condition : List Affine) (claim : Claim) → Spells subject.names line condition claim → TrueLine subject condition claim

module _ (subject : Subject) (opening : OpenAsLines) where
  silent : (line : Bytes) → IsSilent line → SaysTrue subject line
  silent line is condition claim s = absurd (says_nothing line is (opening subject.names line condition claim s))

  -- a text of one such line
  pub silent_true : (line text : Bytes) → IsSilent line → text ≡ line ++ 10 ∷ [] → EachWhole (SaysTrue subject) text
  silent_true line text is text_is = one_good (SaysTrue subject) line text (free_lacks line is.free) (silent line is) text_is

  frames : Frames (SaysTrue subject)
  frames = silent_frames (SaysTrue subject) silent

  counted_true : (tests : ℕ) (tree : Plan AffineRank) (level : IsExactTree (length subject.names) subject.body tests tree) (input : Store)
      → IsInput (length subject.names) input → (end : Plan AffineRank) → RanksCount end → eval tree input ≡ end
      → IsTrueOf subject (claim_at Counted end) input
  counted_true tests tree level input is_input bottom counts is = tt
  counted_true tests tree level input is_input (top cause) counts is = tt
  counted_true tests tree level input is_input (leaf why rank) counts is =
      let claimed = (level.exact input is_input counts.0).0 (why, is ∙ ap (leaf why) counts.1) in
      subst (λ (r : AffineRank). IsTrueOf subject (claim_at Counted (leaf why r)) input) (sym counts.1) claimed.longest
  counted_true tests tree level input is_input (branch row this that) counts is = tt

  pub exact_true : (tests : ℕ) (tree : Plan AffineRank) → IsExactTree (length subject.names) subject.body tests tree → IsTrueTree subject Counted tree
  exact_true tests tree level input is_input =
      counted_true tests tree level input is_input (eval tree input) (ranks_at tree input level.ranks) refl

  -- what the trees that were found claim is true
  ordinal_true : (ranked : Plan OrdinalRank) → BoundsEnds (length subject.names) subject.body ranked → (input : Store) → IsInput (length subject.names) input
      → (end : Plan OrdinalRank) → eval ranked input ≡ end → IsTrueOf subject (claim_by ordinal_claim end) input
  ordinal_true ranked ends input is_input bottom is = tt
  ordinal_true ranked ends input is_input (top cause) is = tt
  ordinal_true ranked ends input is_input (branch row this that) is = tt
  ordinal_true ranked ends input is_input (leaf why rank) is = ends input why rank is_input is

  else_true : (claims : Top) (input : Store) (end : Plan AffineRank) (other : Claim) → IsTrueOf subject (claim_at claims end) input
      → IsTrueOf subject other input → IsTrueOf subject (claim_else claims end other) input
  else_true claims input bottom other own beyond = beyond
  else_true claims input (top cause) other own beyond = beyond
  else_true claims input (branch row this that) other own beyond = beyond
  else_true claims input (leaf why rank) other own beyond = own

  pub found_true : (task : Task) (found : Found) → IsFound task subject found → (input : Store) → IsInput (length subject.names) input
      → IsTrueOf subject (claim_found found input) input
  found_true task found finds input is_input =
      else_true found.claims input (eval (plan_of found.cover) input) (claim_by ordinal_claim (eval (plan_of found.ranked) input))
      (finds.truth.holds input is_input) (ordinal_true (plan_of found.ranked) finds.truth.ends input is_input (eval (plan_of found.ranked) input) refl)

  module _ (known : KnownLines subject.names) where
    -- of lines of which each input meets exactly one each is true, where the claim of that one is
    line_true : (claim : Store → Claim) (lines : List Line) → ((input : Store) → MeetsOneLine input (claim input) lines)
        → ((input : Store) → IsInput (length subject.names) input → IsTrueOf subject (claim input) input) → (line : Line)
        → Contains lines line → Prints (SaysTrue subject) frames subject.names known.newline line
    line_true claim lines one truth line member text is condition says s =
        let same = known.one text (functions_of is.condition) condition line.claim says is.spells s in
        subst (λ k. TrueLine subject k says) same.0
        (subst (λ k. TrueLine subject (functions_of is.condition) k) same.1
        (record {
          holds = λ input is_input met.
              let Is : Line → Type 0 = λ (line : Line). line.claim ≡ claim input in
              let own = member_of (λ (line : Line). MeetsAll input line.rows → Is line) lines line
              (met_is_one (λ (line : Line). MeetsAll input line.rows) Is lines (one input)) member
              (condition_met line.rows is.condition input is.same met) in
              subst (λ k. IsTrueOf subject k input) (sym own) (truth input is_input);
        }))

    -- of each line of a report
    abbrev Printed : Line → Type 0
    Printed line = Prints (SaysTrue subject) frames subject.names known.newline line

    exact_lines_true : (delay : ℕ) (exact : Exact) (header : Header) (lines : List Line) → IsExact (length subject.names) subject.body delay exact
        → ShowsExact exact header lines → All Printed lines
    exact_lines_true delay Unasked header lines is shows = absurd is
    exact_lines_true delay (Unmade stop) header lines is shows = subst (All Printed) (sym shows.1) (All-nil Printed)
    exact_lines_true delay (Made tests stop tree) header lines is shows =
        let all = shows.1.0 in
        subst (All Printed) (sym shows.1.2)
        (All-filter (λ line. not (is_unknown line.claim)) Printed all
        (all_of Printed all (line_true (λ input. claim_at Counted (eval (plan_of tree) input)) all
        (λ input. one_line_met Counted input (plan_of tree) all shows.1.1) (exact_true tests (plan_of tree) is.2))))

    part_lines_true : (asked : Option Bytes) (delay : ℕ) (exact : Exact) (header : Header) (lines : List Line) → IsExactPart asked subject delay exact
        → ShowsExact exact header lines → All Printed lines
    part_lines_true None delay exact header lines is shows = exact_lines_true delay exact header lines is shows
    part_lines_true (Some text) delay exact header lines is shows =
        subst (All Printed) (sym (subst (λ e. ShowsExact e header lines) is shows).1) (All-nil Printed)

    -- the lines under a head are among those of which each input meets one
    among : (report : Report) (head : Head) (line : Line) → Contains (lines_under head report) line
        → Contains (report.proved ++ (report.ranked ++ report.unknown)) line
    among report proved_head line member = Contains-append_left report.proved (report.ranked ++ report.unknown) line member
    among report ranked_head line member =
        Contains-append_right report.proved (report.ranked ++ report.unknown) line (Contains-append_left report.ranked report.unknown line member)
    among report unknown_head line member =
        Contains-append_right report.proved (report.ranked ++ report.unknown) line (Contains-append_right report.ranked report.unknown line member)

    pub report_true : (task : Task) (found : Found) (report : Report) (text : Bytes) → IsFound task subject found → Shows found report
        → IsReportText subject.names report text → EachWhole (SaysTrue subject) text
    report_true task found report text finds shows printed =
        report_holds (SaysTrue subject) frames subject.names known.newline report text
        (part_lines_true task.formula task.delay found.exact report.header report.exact finds.exactness.part shows.exact)
        (λ head. all_of Printed (lines_under head report) (λ line member.
        line_true (λ input. claim_found found input) (report.proved ++ (report.ranked ++ report.unknown)) (one_line found report shows)
        (found_true task found finds) line (among report head line member)))
        printed

    -- ---- a report on what fits

    fits_claimed : (input : Store) (end : Plan AffineRank) → (is_defined end ≡ true → Fits (start (narrowed subject.body) input))
        → IsTrueOf subject (claim_at Fitting end) input
    fits_claimed input bottom fits = tt
    fits_claimed input (top cause) fits = tt
    fits_claimed input (leaf why rank) fits = fits refl
    fits_claimed input (branch row this that) fits = tt

    pub fit_report_true : (tree : Plan AffineRank) (fits unknown : List Line) (text : Bytes) → FitsWhere (length subject.names) (narrowed subject.body) tree
        → AreFitLines (length subject.names) tree fits unknown → IsFitText subject.names fits unknown text → EachWhole (SaysTrue subject) text
    fit_report_true tree fits unknown text tells are printed =
        let lists = are.lists in
        let all : All Printed lists.lines =
        all_of Printed lists.lines (line_true (λ input. claim_at Fitting (eval are.made input)) lists.lines
        (λ input. one_line_met Fitting input are.made lists.lines lists.lines_of)
        (λ input is_input. fits_claimed input (eval are.made input) (λ defined. tells input is_input (sym (are.made_of.alike input) ∙ defined)))) in
        fit_report_holds (SaysTrue subject) frames subject.names known.newline (silent (codes "fits:") fits_silent) fits unknown text
        (subst (All Printed) (sym lists.claimed) (All-filter (λ line. not (is_unknown line.claim)) Printed lists.lines all))
        (all_left Printed lists.left (All-filter (λ line. is_unknown line.claim) Printed lists.lines all)) printed
