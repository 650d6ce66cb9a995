-- A printed report is cut into the lines that were printed, and a front of it into fronts of these.
use Rattle.std.proofs.Common.{◌≡◌, ◌≢◌, inl, inr, ℕ, zero, suc, ◌+◌, ◌==◌, Bool, true, false, cond, List, [], ◌∷◌, ◌++◌, refl, sym, ap, subst, ◌∙◌, arith, All, Contains, Option, None, Some, codes}
use Rattle.std.specs.List.{AllZip}
use Rattle.std.specs.Str.{bytes_eq}
use Rattle.std.proofs.lemmas.Bool.Decides.{Decides-eqb}
use Rattle.std.proofs.lemmas.Slice.Eq.{bytes_eq-Decides}
use Rattle.std.proofs.lemmas.List.{append-nil, append_assoc}
use Rattle.std.proofs.lemmas.List.Elements.{All-append, All-cons, All-head, All-nil, All-tail, All-weaker}
use Rattle.std.proofs.lemmas.List.Sorted.{All-permutation}
use Rattle.line_text.specs.Numeral.{numeral}
use Rattle.line_text.specs.Spells.{OpensAsLine, Spells}
use Rattle.report_text.specs.declared.line.Line.{Line}
use Rattle.report_text.specs.declared.report.Explain.{Explain}
use Rattle.report_text.specs.declared.report.Header.{Header}
use Rattle.report_text.specs.declared.report.Header.TheVariants.{Absent, Whole, Partial, Stopped}
use Rattle.report_text.specs.declared.report.Report.{Report}
use Rattle.linear_cons.specs.declared.affine.Affine.{Affine}
use Rattle.line_text.specs.declared.claim.Claim.{Claim}
use Rattle.report_text.specs.Printed.{AreExactTexts, AreTextsOf, Head, IsReportText, IsLineText, adviser_lines, cause_text, ended_lines, exact_part, explain_part, explained, head_text, heads_for, lines_under, proved_head, ranked_head, report_lines, section_lines, unknown_head, verdict_line}
use Rattle.report_text.specs.Sections.{Role, start, exact_head, exact_line, section_head, section_line, explain_head, explain_line, verdict, goes_on, role_of, is_head, is_role, lines_after, lines_in, lines_printed, lines_with, whole_lines, IsFrontOf, IsTextAmong, SaysOnly, explained_head, explained_lines, head_among, header_lines}
use Rattle.report_text.proofs.Frame.{IsSilent, Lacks, explanation_silent, head_silent, partial_line, partial_silent, silent_lacks, stopped_line, stopped_silent, verdict_silent, whole_line, whole_silent}

-- ---- whole lines

not_ten : (byte : ℕ) → byte ≢ 10 → (byte == 10) ≡ false
not_ten byte apart = by_cases (byte == 10) refl
  where
    by_cases : (t : Bool) → (byte == 10) ≡ t → (byte == 10) ≡ false
    by_cases true is = absurd (apart ((Decides-eqb byte 10).0 is))
    by_cases false is = is

first_line : (begun line more : List ℕ) → Lacks line → lines_after begun (line ++ (10 ∷ more)) ≡ (begun ++ line) ∷ lines_after [] more
first_line begun [] more lacks = ap (λ t. t ∷ lines_after [] more) (sym (append-nil begun))
first_line begun (byte ∷ line) more lacks =
    rw (not_ten byte (All-head (λ b. b ≢ 10) byte line lacks))
    (first_line (begun ++ byte ∷ []) line more (All-tail (λ b. b ≢ 10) byte line lacks) ∙ ap (λ t. t ∷ lines_after [] more) (append_assoc begun (byte ∷ []) line))

-- lines that lack the newline byte are the whole lines of their text
pub whole_lines_are : (lines : List (List ℕ)) → All Lacks lines → whole_lines (ended_lines lines) ≡ lines
whole_lines_are [] lacks = refl
whole_lines_are (line ∷ more) lacks = first_line [] line (ended_lines more) (All-head Lacks line more lacks) ∙ ap (λ t. line ∷ t) (whole_lines_are more (All-tail Lacks line more lacks))

-- ---- fronts

-- the line that has begun at the end of a text
unfinished : List ℕ → List ℕ → List ℕ
unfinished begun [] = begun
unfinished begun (byte ∷ more) = cond (byte == 10) (unfinished [] more) (unfinished (begun ++ byte ∷ []) more)

lines_split : (begun front rest : List ℕ) →
    lines_after begun (front ++ rest) ≡ lines_after begun front ++ lines_after (unfinished begun front) rest
unfolding unfinished
lines_split begun [] rest = refl
lines_split begun (byte ∷ front) rest = at_byte (byte == 10) (lines_split [] front rest) (lines_split (begun ++ byte ∷ []) front rest)
  where
    at_byte : (t : Bool) → lines_after [] (front ++ rest) ≡ lines_after [] front ++ lines_after (unfinished [] front) rest →
        lines_after (begun ++ byte ∷ []) (front ++ rest) ≡ lines_after (begun ++ byte ∷ []) front ++ lines_after (unfinished (begun ++ byte ∷ []) front) rest →
        cond t (begun ∷ lines_after [] (front ++ rest)) (lines_after (begun ++ byte ∷ []) (front ++ rest)) ≡ cond t (begun ∷ lines_after [] front) (lines_after (begun ++ byte ∷ []) front) ++ lines_after (cond t (unfinished [] front) (unfinished (begun ++ byte ∷ []) front)) rest
    at_byte true ended going = ap (λ t. begun ∷ t) ended
    at_byte false ended going = going

-- the role of the last line
last_role : Role → List (List ℕ) → Role
last_role before [] = before
last_role before (line ∷ more) = last_role (role_of before line) more

with_append : (wanted before : Role) (xs ys : List (List ℕ)) →
    lines_with wanted before (xs ++ ys) ≡ lines_with wanted before xs ++ lines_with wanted (last_role before xs) ys
unfolding last_role
with_append wanted before [] ys = refl
with_append wanted before (x ∷ xs) ys = at_role (is_role wanted (role_of before x)) (with_append wanted (role_of before x) xs ys)
  where
    at_role : (t : Bool) →
        lines_with wanted (role_of before x) (xs ++ ys) ≡ lines_with wanted (role_of before x) xs ++ lines_with wanted (last_role (role_of before x) xs) ys →
        cond t (x ∷ lines_with wanted (role_of before x) (xs ++ ys)) (lines_with wanted (role_of before x) (xs ++ ys)) ≡ cond t (x ∷ lines_with wanted (role_of before x) xs) (lines_with wanted (role_of before x) xs) ++ lines_with wanted (last_role (role_of before x) xs) ys
    at_role true rest = ap (λ t. x ∷ t) rest
    at_role false rest = rest

-- a front of a text is cut into fronts
pub section_front : (wanted : Role) (front rest : List ℕ) →
    IsFrontOf (lines_with wanted start (whole_lines front)) (lines_with wanted start (whole_lines (front ++ rest)))
section_front wanted front rest = record {
  rest = lines_with wanted (last_role start (whole_lines front)) (lines_after (unfinished [] front) rest);
  is = ap (λ t. lines_with wanted start t) (lines_split [] front rest) ∙ with_append wanted start (whole_lines front) (lines_after (unfinished [] front) rest);
}

-- ---- roles

-- a line that opens no section
abbrev OpensNothing : List ℕ → Type 0
OpensNothing line = (before : Role) → role_of before line ≡ goes_on before

-- lines that open nothing, behind a line of their section or its head, and before what stands the same whatever is before it
section : (wanted role : Role) (lines tail result : List (List ℕ)) → All OpensNothing lines → goes_on role ≡ role → ((before : Role) →
    lines_with wanted before tail ≡ result) → (before : Role) → goes_on before ≡ role →
    lines_with wanted before (lines ++ tail) ≡ cond (is_role wanted role) lines [] ++ result
section wanted role [] tail result plain stays behind before goes = behind before ∙ none (is_role wanted role)
  where
    none : (t : Bool) → result ≡ cond t [] [] ++ result
    none true = refl
    none false = refl
section wanted role (line ∷ lines) tail result plain stays behind before goes =
    let is : role_of before line ≡ role = All-head OpensNothing line lines plain before ∙ goes in
    let rest = section wanted role lines tail result (All-tail OpensNothing line lines plain) stays behind role stays in
    rw is (at_role (is_role wanted role) rest)
  where
    at_role : (t : Bool) → lines_with wanted role (lines ++ tail) ≡ cond t lines [] ++ result →
        cond t (line ∷ lines_with wanted role (lines ++ tail)) (lines_with wanted role (lines ++ tail)) ≡ cond t (line ∷ lines) [] ++ result
    at_role true rest = ap (λ t. line ∷ t) rest
    at_role false rest = rest

-- ---- lines that open nothing

other_text : (line fixed : List ℕ) → line ≢ fixed → bytes_eq line fixed ≡ false
other_text line fixed apart = by_cases (bytes_eq line fixed) refl
  where
    by_cases : (t : Bool) → bytes_eq line fixed ≡ t → bytes_eq line fixed ≡ false
    by_cases true is = absurd (apart ((bytes_eq-Decides line fixed).0 is))
    by_cases false is = is

opens_nothing : (line : List ℕ) → line ≢ codes "proved:" → line ≢ codes "ranked:" → line ≢ codes "unknown:" → line ≢ codes "explain:" →
    line ≢ codes "verdict: all inputs" → line ≢ codes "verdict: some inputs" → OpensNothing line
unfolding role_of
opens_nothing line a r b c d e before = rw (other_text line (codes "proved:") a, other_text line (codes "ranked:") r, other_text line (codes "unknown:") b, other_text line (codes "explain:") c, other_text line (codes "verdict: all inputs") d, other_text line (codes "verdict: some inputs") e) refl

-- the byte `>`, code 62, isn't among the bytes
is_free : List ℕ → Bool
is_free [] = true
is_free (byte ∷ bytes) = cond (byte == 62) false (is_free bytes)

free_lacks : (bytes : List ℕ) → is_free bytes ≡ true → Contains bytes 62 → ⊥
unfolding is_free
free_lacks [] free has = let low = has.1 in absurd (omega arith)
free_lacks (byte ∷ bytes) free has = by_cases (byte == 62) refl (λ rest. free_lacks bytes rest) has
  where
    by_cases : (t : Bool) → (byte == 62) ≡ t → (is_free bytes ≡ true → Contains bytes 62 → ⊥) → Contains (byte ∷ bytes) 62 → ⊥
    by_cases true is more at = let wrong : false ≡ true = rw is at free in cc
    by_cases false is more (zero, low, same) =
        let here : (byte == 62) ≡ true = (Decides-eqb byte 62).1 same in let wrong : true ≡ false = sym here ∙ is in cc
    by_cases false is more (suc k, low, same) = let rest : is_free bytes ≡ true = rw is at free in more rest (k, omega arith, same)

-- a line with it is none of the fixed lines
apart_from : (line fixed : List ℕ) → is_free fixed ≡ true → Contains line 62 → line ≢ fixed
apart_from line fixed free has same = free_lacks fixed free (subst (λ l. Contains l 62) same has)

signed_plain : (line : List ℕ) → Contains line 62 → OpensNothing line
unfolding is_free
signed_plain line has =
    opens_nothing line (apart_from line (codes "proved:") refl has) (apart_from line (codes "ranked:") refl has)
    (apart_from line (codes "unknown:") refl has) (apart_from line (codes "explain:") refl has) (apart_from line (codes "verdict: all inputs") refl has)
    (apart_from line (codes "verdict: some inputs") refl has)

always_plain : (n : List ℕ) → OpensNothing (codes "always: " ++ n)
unfolding role_of
always_plain n before = refl

line_opens_nothing : (line : List ℕ) → OpensAsLine line → OpensNothing line
line_opens_nothing line (inl begins) = subst OpensNothing (sym begins.1) (always_plain begins.0)
line_opens_nothing line (inr has) = signed_plain line has

labels_plain : (n : List ℕ) → OpensNothing (codes "labels " ++ n)
unfolding role_of
labels_plain n before = refl

families_plain : (n : List ℕ) → OpensNothing (codes "families " ++ n)
unfolding role_of
families_plain n before = refl

adviser_plain : (n : List ℕ) → OpensNothing (codes "adviser " ++ n)
unfolding role_of
adviser_plain n before = refl

advisers_plain : (first : ℕ) (asked : List ℕ) → All OpensNothing (adviser_lines first asked)
advisers_plain first [] = All-nil OpensNothing
advisers_plain first (times ∷ asked) = All-cons OpensNothing (codes "adviser " ++ (numeral first ++ (codes " asked " ++ numeral times))) (adviser_lines (first + 1) asked) (adviser_plain (numeral first ++ (codes " asked " ++ numeral times))) (advisers_plain (first + 1) asked)

explained_plain : (explain : Explain) → All OpensNothing (explained explain)
explained_plain explain =
    All-cons OpensNothing (codes "labels " ++ numeral explain.labels) ((codes "families " ++ numeral explain.families) ∷ adviser_lines 1 explain.asked) (labels_plain (numeral explain.labels))
    (All-cons OpensNothing (codes "families " ++ numeral explain.families) (adviser_lines 1 explain.asked) (families_plain (numeral explain.families)) (advisers_plain 1 explain.asked))

-- ---- the fixed lines

head_opens : (head : Head) (before : Role) → role_of before (head_text head) ≡ section_head head
unfolding role_of
head_opens proved_head before = refl
head_opens ranked_head before = refl
head_opens unknown_head before = refl

explain_opens : (before : Role) → role_of before (codes "explain:") ≡ explain_head
unfolding role_of
explain_opens before = refl

verdict_opens : (unknown : List (List ℕ)) (before : Role) → role_of before (verdict_line unknown) ≡ verdict
unfolding role_of
verdict_opens [] before = refl
verdict_opens (line ∷ more) before = refl

whole_opens : (rest : List ℕ) → role_of start (codes "exact, " ++ rest) ≡ exact_head
unfolding role_of
whole_opens rest = refl

stopped_opens : (rest : List ℕ) → role_of start (codes "exact: " ++ rest) ≡ exact_head
unfolding role_of
stopped_opens rest = refl

-- ---- the whole report

with_head : (t : Bool) (head : List ℕ) (rest : List (List ℕ)) → cond t (head ∷ rest) rest ≡ cond t (head ∷ []) [] ++ rest
with_head true head rest = refl
with_head false head rest = refl

-- a line that opens a section, whatever is before it
heading : (wanted role : Role) (line : List ℕ) (tail result : List (List ℕ)) → ((before : Role) → role_of before line ≡ role) →
    lines_with wanted role tail ≡ result → (before : Role) → lines_with wanted before (line ∷ tail) ≡ cond (is_role wanted role) (line ∷ []) [] ++ result
heading wanted role line tail result opens behind before =
    rw (opens before) (with_head (is_role wanted role) line (lines_with wanted role tail) ∙ ap (λ t. cond (is_role wanted role) (line ∷ []) [] ++ t) behind)

-- what is cut from the verdict, from the explanation before it, from the sections before these, and from the exact part
verdict_cut : (wanted : Role) (unknown : List (List ℕ)) (before : Role) →
    lines_with wanted before (verdict_line unknown ∷ []) ≡ cond (is_role wanted verdict) (verdict_line unknown ∷ []) []
verdict_cut wanted unknown before = rw (verdict_opens unknown before) refl

abbrev explain_result : Role → Option Explain → List (List ℕ) → List (List ℕ)
explain_result wanted None result = result
explain_result wanted (Some explain) result =
    cond (is_role wanted explain_head) (codes "explain:" ∷ []) [] ++ (cond (is_role wanted explain_line) (explained explain) [] ++ result)

explain_cut : (wanted : Role) (explain : Option Explain) (tail result : List (List ℕ)) → ((before : Role) → lines_with wanted before tail ≡ result) →
    (before : Role) → lines_with wanted before (explain_part explain ++ tail) ≡ explain_result wanted explain result
explain_cut wanted None tail result behind before = behind before
explain_cut wanted (Some explain) tail result behind before =
    heading wanted explain_head (codes "explain:") (explained explain ++ tail) _ explain_opens
    (section wanted explain_line (explained explain) tail result (explained_plain explain) refl behind explain_head refl) before

abbrev sections_result : Role → List Head → (Head → List (List ℕ)) → List (List ℕ) → List (List ℕ)
sections_result wanted [] texts result = result
sections_result wanted (head ∷ more) texts result =
    cond (is_role wanted (section_head head)) (head_text head ∷ []) [] ++ (cond (is_role wanted (section_line head)) (texts head) [] ++ sections_result wanted more texts result)

sections_cut : (wanted : Role) (texts : Head → List (List ℕ)) (tail result : List (List ℕ)) → ((head : Head) → All OpensNothing (texts head)) →
    ((before : Role) → lines_with wanted before tail ≡ result) → (under : List Head) (before : Role) →
    lines_with wanted before (section_lines under texts tail) ≡ sections_result wanted under texts result
sections_cut wanted texts tail result plain behind [] before = behind before
sections_cut wanted texts tail result plain behind (head ∷ more) before =
    heading wanted (section_head head) (head_text head) (texts head ++ section_lines more texts tail) _ (head_opens head)
    (section wanted (section_line head) (texts head) (section_lines more texts tail) (sections_result wanted more texts result) (plain head) refl
    (sections_cut wanted texts tail result plain behind more) (section_head head) refl) before

abbrev exact_result : Role → Header → (exact result : List (List ℕ)) → List (List ℕ)
exact_result wanted Absent exact result = result
exact_result wanted (Whole tests) exact result = cond (is_role wanted exact_head) (header_lines (Whole tests)) [] ++ (cond (is_role wanted exact_line) exact [] ++ result)
exact_result wanted (Partial tests cause) exact result =
    cond (is_role wanted exact_head) (header_lines (Partial tests cause)) [] ++ (cond (is_role wanted exact_line) exact [] ++ result)
exact_result wanted (Stopped cause) exact result = cond (is_role wanted exact_head) (header_lines (Stopped cause)) [] ++ result

made_cut : (wanted : Role) (head : List ℕ) (exact tail result : List (List ℕ)) → All OpensNothing exact → role_of start head ≡ exact_head →
    ((before : Role) → lines_with wanted before tail ≡ result) →
    lines_with wanted start (head ∷ (exact ++ tail)) ≡ cond (is_role wanted exact_head) (head ∷ []) [] ++ (cond (is_role wanted exact_line) exact [] ++ result)
made_cut wanted head exact tail result plain opens behind =
    let rest = section wanted exact_line exact tail result plain refl behind exact_head refl in
    rw opens (with_head (is_role wanted exact_head) head (lines_with wanted exact_head (exact ++ tail)) ∙ ap (λ t. cond (is_role wanted exact_head) (head ∷ []) [] ++ t) rest)

exact_cut : (wanted : Role) (header : Header) (exact tail result : List (List ℕ)) → All OpensNothing exact → ((before : Role) → lines_with wanted before tail ≡ result) →
    lines_with wanted start (exact_part header exact ++ tail) ≡ exact_result wanted header exact result
exact_cut wanted Absent exact tail result plain behind = behind start
exact_cut wanted (Whole tests) exact tail result plain behind =
    made_cut wanted (codes "exact, " ++ (numeral tests ++ codes " tests:")) exact tail result plain (whole_opens (numeral tests ++ codes " tests:")) behind
exact_cut wanted (Partial tests cause) exact tail result plain behind =
    made_cut wanted (codes "exact, " ++ (numeral tests ++ (codes " tests, then " ++ (cause_text cause ++ codes ":")))) exact tail result plain
    (whole_opens (numeral tests ++ (codes " tests, then " ++ (cause_text cause ++ codes ":")))) behind
exact_cut wanted (Stopped cause) exact tail result plain behind =
    rw (stopped_opens (cause_text cause)) (with_head (is_role wanted exact_head) (codes "exact: " ++ cause_text cause) (lines_with wanted exact_head tail)
    ∙ ap (λ t. cond (is_role wanted exact_head) ((codes "exact: " ++ cause_text cause) ∷ []) [] ++ t) (behind exact_head))

-- what is cut from a whole report
abbrev report_result : Role → Header → (exact : List (List ℕ)) → (Head → List (List ℕ)) → Option Explain → List (List ℕ)
report_result wanted header exact texts explain =
    exact_result wanted header exact (sections_result wanted (heads_for (texts ranked_head)) texts
    (explain_result wanted explain (cond (is_role wanted verdict) (verdict_line (texts unknown_head) ∷ []) [])))

report_cut : (wanted : Role) (header : Header) (exact : List (List ℕ)) (texts : Head → List (List ℕ)) (explain : Option Explain) → All OpensNothing exact →
    ((head : Head) → All OpensNothing (texts head)) →
    lines_with wanted start (report_lines header exact texts explain) ≡ report_result wanted header exact texts explain
report_cut wanted header exact texts explain plain_exact plain =
    let last = verdict_line (texts unknown_head) ∷ [] in
    exact_cut wanted header exact (section_lines (heads_for (texts ranked_head)) texts (explain_part explain ++ last)) _ plain_exact
    (sections_cut wanted texts (explain_part explain ++ last) _ plain (explain_cut wanted explain last _ (verdict_cut wanted (texts unknown_head))) (heads_for (texts ranked_head)))

-- ---- the lines with each role

-- with a role of the exact part or of none nothing is cut from the explanation, and with another one nothing from the exact part
abbrev IsOfExact : Role → Type 0
IsOfExact wanted = (is_role wanted explain_head ≡ false) × (is_role wanted explain_line ≡ false)

abbrev IsBelowExact : Role → Type 0
IsBelowExact wanted = (is_role wanted exact_head ≡ false) × (is_role wanted exact_line ≡ false)

no_explanation : (wanted : Role) (explain : Option Explain) (result : List (List ℕ)) → IsOfExact wanted → explain_result wanted explain result ≡ result
no_explanation wanted None result is = refl
no_explanation wanted (Some explain) result is = rw (is.0, is.1) refl

no_exact : (wanted : Role) (header : Header) (exact result : List (List ℕ)) → IsBelowExact wanted → exact_result wanted header exact result ≡ result
no_exact wanted Absent exact result is = refl
no_exact wanted (Whole tests) exact result is = rw (is.0, is.1) refl
no_exact wanted (Partial tests cause) exact result is = rw (is.0, is.1) refl
no_exact wanted (Stopped cause) exact result is = rw is.0 refl

header_cut : (header : Header) (exact : List (List ℕ)) → exact_result exact_head header exact [] ≡ header_lines header
header_cut Absent exact = refl
header_cut (Whole tests) exact = refl
header_cut (Partial tests cause) exact = refl
header_cut (Stopped cause) exact = refl

explanation_cut : (explain : Option Explain) → explain_result explain_line explain [] ≡ explained_lines explain
explanation_cut None = refl
explanation_cut (Some explain) = append-nil (explained explain)

explanation_head_cut : (explain : Option Explain) → explain_result explain_head explain [] ≡ explained_head explain
explanation_head_cut None = refl
explanation_head_cut (Some explain) = refl

-- the exact lines that are printed
exact_printed : (names : List (List ℕ)) (header : Header) (lines : List Line) (exact : List (List ℕ)) → AreExactTexts names header lines exact →
    exact_result exact_line header exact [] ≡ exact
exact_printed names (Whole tests) lines exact are = append-nil exact
exact_printed names (Partial tests cause) lines exact are = append-nil exact
exact_printed names Absent lines exact are = sym are
exact_printed names (Stopped cause) lines exact are = sym are

-- with a role of no section nothing is cut from the sections
abbrev IsOfNone : Role → Type 0
IsOfNone wanted = (head : Head) → (is_role wanted (section_head head) ≡ false) × (is_role wanted (section_line head) ≡ false)

no_sections : (wanted : Role) (texts : Head → List (List ℕ)) (result : List (List ℕ)) (under : List Head) → IsOfNone wanted →
    sections_result wanted under texts result ≡ result
no_sections wanted texts result [] is = refl
no_sections wanted texts result (head ∷ more) is = rw ((is head).0, (is head).1) (no_sections wanted texts result more is)

-- with that of a head the head is, where it is there, and with that of its lines these are
head_cut : (wanted : Head) (texts : Head → List (List ℕ)) (under : List Head) →
    sections_result (section_head wanted) under texts [] ≡ head_among wanted under
head_cut wanted texts [] = refl
head_cut wanted texts (head ∷ more) = ap (λ t. cond (is_head wanted head) (head_text head ∷ []) [] ++ t) (head_cut wanted texts more)

lines_cut : (wanted : Head) (texts : Head → List (List ℕ)) (ranked : List (List ℕ)) → texts ranked_head ≡ ranked →
    sections_result (section_line wanted) (heads_for ranked) texts [] ≡ texts wanted
lines_cut proved_head texts [] is = append-nil (texts proved_head)
lines_cut ranked_head texts [] is = sym is
lines_cut unknown_head texts [] is = append-nil (texts unknown_head)
lines_cut proved_head texts (line ∷ more) is = append-nil (texts proved_head)
lines_cut ranked_head texts (line ∷ more) is = append-nil (texts ranked_head)
lines_cut unknown_head texts (line ∷ more) is = append-nil (texts unknown_head)

role_cut : (wanted : Role) (names : List (List ℕ)) (header : Header) (lines : List Line) (exact : List (List ℕ)) (texts : Head → List (List ℕ))
    (explain : Option Explain) → AreExactTexts names header lines exact →
    report_result wanted header exact texts explain ≡ lines_printed wanted header exact texts explain
role_cut start names header lines exact texts explain are =
    no_exact start header exact _ (refl, refl) ∙ no_sections start texts _ (heads_for (texts ranked_head)) (λ head. (refl, refl))
    ∙ no_explanation start explain [] (refl, refl)
role_cut exact_head names header lines exact texts explain are =
    ap (exact_result exact_head header exact) (no_sections exact_head texts _ (heads_for (texts ranked_head)) (λ head. (refl, refl))
    ∙ no_explanation exact_head explain [] (refl, refl)) ∙ header_cut header exact
role_cut exact_line names header lines exact texts explain are =
    ap (exact_result exact_line header exact) (no_sections exact_line texts _ (heads_for (texts ranked_head)) (λ head. (refl, refl))
    ∙ no_explanation exact_line explain [] (refl, refl)) ∙ exact_printed names header lines exact are
role_cut (section_head head) names header lines exact texts explain are =
    no_exact (section_head head) header exact _ (refl, refl)
    ∙ ap (λ t. sections_result (section_head head) (heads_for (texts ranked_head)) texts t) (no_explanation (section_head head) explain [] (refl, refl))
    ∙ head_cut head texts (heads_for (texts ranked_head))
role_cut (section_line head) names header lines exact texts explain are =
    no_exact (section_line head) header exact _ (refl, refl)
    ∙ ap (λ t. sections_result (section_line head) (heads_for (texts ranked_head)) texts t) (no_explanation (section_line head) explain [] (refl, refl))
    ∙ lines_cut head texts (texts ranked_head) refl
role_cut explain_head names header lines exact texts explain are =
    no_exact explain_head header exact _ (refl, refl) ∙ no_sections explain_head texts _ (heads_for (texts ranked_head)) (λ head. (refl, refl))
    ∙ explanation_head_cut explain
role_cut explain_line names header lines exact texts explain are =
    no_exact explain_line header exact _ (refl, refl) ∙ no_sections explain_line texts _ (heads_for (texts ranked_head)) (λ head. (refl, refl))
    ∙ explanation_cut explain
role_cut verdict names header lines exact texts explain are =
    no_exact verdict header exact _ (refl, refl) ∙ no_sections verdict texts _ (heads_for (texts ranked_head)) (λ head. (refl, refl))
    ∙ no_explanation verdict explain (verdict_line (texts unknown_head) ∷ []) (refl, refl)

-- ---- lines without a newline byte

exact_lacks : (header : Header) (exact : List (List ℕ)) → All Lacks exact → All Lacks (exact_part header exact)
exact_lacks Absent exact lacks = All-nil Lacks
exact_lacks (Whole tests) exact lacks = All-cons Lacks (whole_line tests) exact (silent_lacks (whole_line tests) (whole_silent tests)) lacks
exact_lacks (Partial tests cause) exact lacks =
    All-cons Lacks (partial_line tests cause) exact (silent_lacks (partial_line tests cause) (partial_silent tests cause)) lacks
exact_lacks (Stopped cause) exact lacks = All-cons Lacks (stopped_line cause) [] (silent_lacks (stopped_line cause) (stopped_silent cause)) (All-nil Lacks)

explain_lacks : (explain : Option Explain) → All Lacks (explain_part explain)
explain_lacks None = All-nil Lacks
explain_lacks (Some explain) = All-weaker IsSilent Lacks silent_lacks (explain_part (Some explain)) (explanation_silent explain)

sections_lack : (texts : Head → List (List ℕ)) (behind : List (List ℕ)) → ((head : Head) → All Lacks (texts head)) → All Lacks behind → (under : List Head) →
    All Lacks (section_lines under texts behind)
sections_lack texts behind each end [] = end
sections_lack texts behind each end (head ∷ more) =
    All-cons Lacks (head_text head) (texts head ++ section_lines more texts behind) (silent_lacks (head_text head) (head_silent head))
    (All-append Lacks (texts head) (section_lines more texts behind) (each head) (sections_lack texts behind each end more))

report_lacks : (header : Header) (exact : List (List ℕ)) (texts : Head → List (List ℕ)) (explain : Option Explain) → All Lacks exact →
    ((head : Head) → All Lacks (texts head)) → All Lacks (report_lines header exact texts explain)
report_lacks header exact texts explain first each =
    let last = verdict_line (texts unknown_head) in
    let behind = explain_part explain ++ last ∷ [] in
    All-append Lacks (exact_part header exact) (section_lines (heads_for (texts ranked_head)) texts behind) (exact_lacks header exact first)
    (sections_lack texts behind each (All-append Lacks (explain_part explain) (last ∷ []) (explain_lacks explain)
    (All-cons Lacks last [] (silent_lacks last (verdict_silent (texts unknown_head))) (All-nil Lacks))) (heads_for (texts ranked_head)))

-- what is known of the texts over the names
pub record KnownTexts (names : List (List ℕ)) : Type 0 where
  pub newline : (line : List ℕ) (condition : List Affine) (claim : Claim) → Spells names line condition claim →
      All (λ byte. byte ≢ 10) line
  pub opening : (line : List ℕ) (condition : List Affine) (claim : Claim) → Spells names line condition claim → OpensAsLine line

module _ {names : List (List ℕ)} (known : KnownTexts names) where
  -- ---- the texts of a section

  pub section_lacks : (lines : List Line) (texts : List (List ℕ)) → All (IsTextAmong names lines) texts → All Lacks texts
  section_lacks lines texts = All-weaker (IsTextAmong names lines) Lacks (λ text among. known.newline text _ _ among.text_is.spells) texts

  section_plain : (lines : List Line) (texts : List (List ℕ)) → All (IsTextAmong names lines) texts → All OpensNothing texts
  section_plain lines texts = All-weaker (IsTextAmong names lines) OpensNothing (λ text among. line_opens_nothing text (known.opening text _ _ among.text_is.spells)) texts

  zip_among : (lines part : List Line) (texts : List (List ℕ)) → ((line : Line) → Contains part line → Contains lines line) →
      AllZip (λ line text. IsLineText names line text) part texts → All (IsTextAmong names lines) texts
  zip_among lines [] [] inside all = All-nil (IsTextAmong names lines)
  zip_among lines [] (text ∷ texts) inside all = absurd all
  zip_among lines (line ∷ part) [] inside all = absurd all
  zip_among lines (line ∷ part) (text ∷ texts) inside all =
      All-cons (IsTextAmong names lines) text texts (record { line = line; line_in = inside line (0, omega arith, refl); text_is = all.0 })
      (zip_among lines part texts (λ other member. inside other (suc member.0, omega (arith, member.1), member.2)) all.1)

  pub texts_among : (lines : List Line) (texts : List (List ℕ)) → AreTextsOf names lines texts → All (IsTextAmong names lines) texts
  texts_among lines texts are = All-permutation (IsTextAmong names lines) are.unsorted texts are.same (zip_among lines lines are.unsorted (λ line member. member) are.each)

  exact_among : (header : Header) (lines : List Line) (texts : List (List ℕ)) → AreExactTexts names header lines texts →
      All (IsTextAmong names lines) texts
  exact_among (Whole tests) lines texts are = texts_among lines texts are
  exact_among (Partial tests cause) lines texts are = texts_among lines texts are
  exact_among Absent lines texts are = rw are (All-nil (IsTextAmong names lines))
  exact_among (Stopped cause) lines texts are = rw are (All-nil (IsTextAmong names lines))

  pub report_sections : (report : Report) (text : List ℕ) (printed : IsReportText names report text) (role : Role) →
      lines_in role text ≡ lines_printed role report.header printed.exact printed.texts report.explain
  report_sections report text printed role =
      let exact = exact_among report.header report.exact printed.exact printed.exact_are in
      let under : (head : Head) → All (IsTextAmong names (lines_under head report)) (printed.texts head) =
      λ head. texts_among (lines_under head report) (printed.texts head) (printed.are head) in
      let lines : whole_lines text ≡ report_lines report.header printed.exact printed.texts report.explain =
      ap (λ t. whole_lines t) printed.is
      ∙ whole_lines_are (report_lines report.header printed.exact printed.texts report.explain)
      (report_lacks report.header printed.exact printed.texts report.explain (section_lacks report.exact printed.exact exact)
      (λ head. section_lacks (lines_under head report) (printed.texts head) (under head))) in
      ap (λ t. lines_with role start t) lines
      ∙ report_cut role report.header printed.exact printed.texts report.explain (section_plain report.exact printed.exact exact)
      (λ head. section_plain (lines_under head report) (printed.texts head) (under head))
      ∙ role_cut role names report.header report.exact printed.exact printed.texts report.explain printed.exact_are

  all_front : {X : Type 0} (P : X → Type 0) (front rest : List X) → All P (front ++ rest) → All P front
  all_front P [] rest all = All-nil P
  all_front P (x ∷ front) rest all = All-cons P x front (All-head P x (front ++ rest) all) (all_front P front rest (All-tail P x (front ++ rest) all))

  front_among : (lines : List Line) (front whole texts : List (List ℕ)) → IsFrontOf front whole → whole ≡ texts →
      All (IsTextAmong names lines) texts → All (IsTextAmong names lines) front
  front_among lines front whole texts begins is among = all_front (IsTextAmong names lines) front begins.rest (subst (λ t. All (IsTextAmong names lines) t) (sym is ∙ begins.is) among)

  pub front_says : (report : Report) (front rest : List ℕ) → IsReportText names report (front ++ rest) → SaysOnly names report front
  front_says report front rest printed =
      let cut = report_sections report (front ++ rest) printed in
      record {
        exact = front_among report.exact _ _ printed.exact (section_front exact_line front rest) (cut exact_line) (exact_among report.header report.exact printed.exact printed.exact_are);
        under = λ head.
            front_among (lines_under head report) _ _ (printed.texts head) (section_front (section_line head) front rest) (cut (section_line head))
            (texts_among (lines_under head report) (printed.texts head) (printed.are head));
      }
