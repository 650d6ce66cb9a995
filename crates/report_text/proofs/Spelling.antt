-- The texts of lines and of a report, as they are appended.
use Rattle.std.proofs.lemmas.Bool.Decides.{Decides-eqb}
use Rattle.std.proofs.Common.{◌≡◌, ◌≢◌, ◌==◌, Bool, true, false, ℕ, suc, ◌+◌, ◌<◌, List, [], ◌∷◌, ◌++◌, length, map, set, take, get_or, refl, sym, ap, subst, ◌∙◌, arith, All, codes}
use Rattle.std.specs.Global.{Vec}
use Rattle.std.specs.List.{AllZip, swap}
use Rattle.std.specs.List.Sorted.{IsPermutation, IsSorted}
use Rattle.std.specs.Cmp.Lexicographic.{slice_cmp}
use Rattle.std.specs.Ordering.{nat_cmp}
use Rattle.std.proofs.lemmas.List.{append-nil, append_assoc, get_or-map, length-map, map-append, map-set, length-take-le}
use Rattle.std.proofs.Math.ListN.{get_or-map as mapped}
use Rattle.std.proofs.lemmas.List.Sorted.{All-permutation, IsPermutation-keeps, IsPermutation-map, IsPermutation-refl, IsPermutation-swap, IsPermutation-trans, length_permutation}
use Rattle.linear_cons.specs.declared.row.Row.{Row}
use Rattle.linear_solve.proofs.Lists.{take_snoc}
use Rattle.line_text.specs.Buffer.{bytes_in}
use Rattle.line_text.specs.LineText.{claim_text, condition_text, functions_of, joined, row_text, row_texts as function_texts}
use Rattle.line_text.specs.Names.{IsOver}
use Rattle.line_text.specs.Numeral.{numeral}
use Rattle.report_text.specs.declared.line.Line.{Line}
use Rattle.report_text.specs.declared.report.Header.{Header}
use Rattle.report_text.specs.declared.report.Header.TheVariants.{Whole, Partial}
use Rattle.report_text.specs.declared.report.Stop.{Stop}
use Rattle.report_text.specs.declared.report.Report.{Report}
use Rattle.report_text.specs.Fitting.{IsFitText}
use Rattle.report_text.specs.Printed.{AreInOrder, AreRowTexts, AreTextsOf, Head, IsExactAdded, IsHeadedAdded, IsLineOver, IsReportText, IsSectionAdded, IsLineText, adviser_lines, cause_text, ended_lines, exact_part, explain_part, head_text, headed_if_any, heads_for, lines_under, proved_head, ranked_head, row_texts, section_lines, unknown_head, verdict_line}
use Rattle.line_text.proofs.Joined.{bytes_more}

-- ---- ended lines

pub ended_append : (xs ys : List (List ℕ)) → ended_lines (xs ++ ys) ≡ ended_lines xs ++ ended_lines ys
ended_append [] ys = refl
ended_append (x ∷ xs) ys = ap (λ t. x ++ (10 ∷ t)) (ended_append xs ys) ∙ sym (append_assoc x (10 ∷ ended_lines xs) (ended_lines ys))

-- one line more
pub lines_more : (lines : List (Vec ℕ)) (i : ℕ) (line : Vec ℕ) (old text next : List ℕ) → i < length lines → line ≡ get_or lines i line →
    text ≡ old ++ ended_lines (bytes_in (take i lines)) → next ≡ text ++ (line.items ++ 10 ∷ []) →
    next ≡ old ++ ended_lines (bytes_in (take (i + 1) lines))
lines_more lines i line old text next low is so_far step =
    let more : ended_lines (bytes_in (take (i + 1) lines)) ≡ ended_lines (bytes_in (take i lines)) ++ (line.items ++ 10 ∷ []) = ap (λ t. ended_lines t) (bytes_more lines i line low is) ∙ ended_append (bytes_in (take i lines)) (line.items ∷ []) in
    step ∙ ap (λ t. t ++ (line.items ++ 10 ∷ [])) so_far ∙ append_assoc old (ended_lines (bytes_in (take i lines))) (line.items ++ 10 ∷ []) ∙ ap (λ t. old ++ t) (sym more)

-- ---- rows joined

-- a condition by the texts of its rows
texts_are : (names : List (List ℕ)) (rows : List Row) → row_texts names rows ≡ function_texts names (functions_of rows)
texts_are names [] = refl
texts_are names (row ∷ more) = ap (λ t. row_text names row.affine ∷ t) (texts_are names more)

joined_is : (names : List (List ℕ)) (rows : List Row) → joined (row_texts names rows) ≡ condition_text names (functions_of rows)
joined_is names rows = ap joined (texts_are names rows)

-- ---- sorting

-- vectors in the order of their bytes
pub in_order : (vectors : List (Vec ℕ)) → IsSorted (λ (x y : Vec ℕ). slice_cmp nat_cmp x.items y.items) vectors →
    AreInOrder (bytes_in vectors)
in_order [] sorted k d from to = absurd (omega arith)
in_order (first ∷ rest) sorted k d from to =
    let f : Vec ℕ → List ℕ = λ v. v.items in
    let long : length (bytes_in (first ∷ rest)) ≡ length (first ∷ rest) = length-map (first ∷ rest) f in
    rw (get_or-map f (first ∷ rest) (k + 1) first d (omega arith), get_or-map f (first ∷ rest) k first d (omega arith)) (sorted k first from (omega arith))

swap_map : {X Y : Type 0} (f : X → Y) (xs : List X) (i j : ℕ) → swap (map f xs) i j ≡ map f (swap xs i j)
swap_map f [] i j = refl
swap_map f (d ∷ ys) i j =
    let xs = d ∷ ys in
    sym (map-set f (set xs i (get_or xs j d)) j (get_or xs i d)
    ∙ ap (λ t. set t j (f (get_or xs i d))) (map-set f xs i (get_or xs j d))
    ∙ ap (λ t. set (set (map f xs) i t) j (f (get_or xs i d))) (sym (mapped f xs j d))
    ∙ ap (λ t. set (set (map f xs) i (get_or (map f xs) j (f d))) j t) (sym (mapped f xs i d)))

-- the texts are those of the elements in some order
record AreTextsIn {X Y : Type 0} (f : X → Y) (xs : List X) (ys : List Y) : Type 0 where
  ordered : List X
  same : IsPermutation xs ordered
  are : ys ≡ map f ordered

-- an order of the texts is one of the elements
permuted_map : {X Y : Type 0} (f : X → Y) (xs : List X) (ys : List Y) → IsPermutation (map f xs) ys → AreTextsIn f xs ys
permuted_map f xs ys moved = IsPermutation-keeps (map f xs) (λ zs. AreTextsIn f xs zs)
    (record { ordered = xs; same = IsPermutation-refl xs; are = refl })
    (λ zs i j low high before.
    let long : length zs ≡ length before.ordered = ap length before.are ∙ length-map before.ordered f in
    record {
      ordered = swap before.ordered i j;
      same = IsPermutation-trans xs before.ordered (swap before.ordered i j) before.same (IsPermutation-swap before.ordered (swap before.ordered i j) i j (omega arith) (omega arith) refl);
      are = ap (λ t. swap t i j) before.are ∙ swap_map f before.ordered i j;
    })
    ys moved

-- the rows' texts were made and put in order
pub rows_sorted : (names : List (List ℕ)) (rows : List Row) (made sorted : List (Vec ℕ)) → bytes_in made ≡ row_texts names rows →
    IsPermutation made sorted → IsSorted (λ (x y : Vec ℕ). slice_cmp nat_cmp x.items y.items) sorted →
    AreRowTexts names rows (bytes_in sorted)
rows_sorted names rows made sorted are moved rises =
    let f : Row → List ℕ = λ row. row_text names row.affine in
    let texts : IsPermutation (map f rows) (bytes_in sorted) = subst (λ t. IsPermutation t (bytes_in sorted)) are (IsPermutation-map (λ (v : Vec ℕ). v.items) made sorted moved) in
    let ordered = permuted_map f rows (bytes_in sorted) texts in
    record { condition = ordered.ordered; same = ordered.same; sorted = in_order sorted rises; are = ordered.are }

-- the text of one row more
pub row_texts_more : (names : List (List ℕ)) (rows : List Row) (i : ℕ) (row : Row) (texts next : List (Vec ℕ)) (text : Vec ℕ) →
    i < length rows → row ≡ get_or rows i row → bytes_in texts ≡ row_texts names (take i rows) → next ≡ texts ++ text ∷ [] →
    text.items ≡ row_text names row.affine → bytes_in next ≡ row_texts names (take (i + 1) rows)
row_texts_more names rows i row texts next text low is so_far pushed made =
    ap (λ t. bytes_in t) pushed ∙ map-append (λ (v : Vec ℕ). v.items) texts (text ∷ []) ∙ ap (λ t. t ++ text.items ∷ []) so_far ∙ ap (λ t. row_texts names (take i rows) ++ t ∷ []) made
    ∙ sym (map-append (λ (r : Row). row_text names r.affine) (take i rows) (row ∷ [])) ∙ ap (λ t. row_texts names t) (sym (take_snoc rows i row low is))

-- a row of those that are over the names
pub row_over : (names : List (List ℕ)) (rows : List Row) (i : ℕ) (row : Row) → i < length rows → row ≡ get_or rows i row →
    All (IsOver names) (functions_of rows) → IsOver names row.affine
row_over names rows i row low is over =
    let long : length (functions_of rows) ≡ length rows = length-map rows (λ (r : Row). r.affine) in
    subst (λ a. IsOver names a) (get_or-map (λ (r : Row). r.affine) rows i row row.affine low ∙ ap (λ (r : Row). r.affine) (sym is)) (over i row.affine (omega arith))

-- the text of a line, from those of its rows and its claim
pub line_spelled : (names : List (List ℕ)) (line : Line) (texts : List (List ℕ)) (empty text : List ℕ) →
    IsLineOver names line → AreRowTexts names line.rows texts → empty ≡ [] →
    text ≡ empty ++ (joined texts ++ (codes ": " ++ claim_text names line.claim)) → IsLineText names line text
line_spelled names line texts empty text over rows nothing written = record {
  condition = rows.condition;
  same = rows.same;
  sorted = subst (λ t. AreInOrder t) rows.are rows.sorted;
  spells = record {
    condition_over = All-permutation (IsOver names) (functions_of line.rows) (functions_of rows.condition) (IsPermutation-map (λ (r : Row). r.affine) line.rows rows.condition rows.same) over.rows;
    claim_over = over.claims;
    text = written ∙ ap (λ t. t ++ (joined texts ++ (codes ": " ++ claim_text names line.claim))) nothing
        ∙ ap (λ t. joined t ++ (codes ": " ++ claim_text names line.claim)) rows.are
        ∙ ap (λ t. t ++ (codes ": " ++ claim_text names line.claim)) (joined_is names rows.condition);
  };
}

-- ---- sections

zip_push : {X Y : Type 0} (R : X → Y → Type 0) (xs : List X) (ys : List Y) (x : X) (y : Y) → AllZip R xs ys → R x y →
    AllZip R (xs ++ x ∷ []) (ys ++ y ∷ [])
zip_push R [] [] x y all here = (here, tt)
zip_push R [] (b ∷ ys) x y all here = absurd all
zip_push R (a ∷ xs) [] x y all here = absurd all
zip_push R (a ∷ xs) (b ∷ ys) x y all here = (all.0, zip_push R xs ys x y all.1 here)

-- the text of one line more
pub line_texts_more : (names : List (List ℕ)) (lines : List Line) (i : ℕ) (line : Line) (texts next : List (Vec ℕ)) (text : Vec ℕ) →
    i < length lines → line ≡ get_or lines i line → AllZip (λ line text. IsLineText names line text) (take i lines) (bytes_in texts) →
    next ≡ texts ++ text ∷ [] → IsLineText names line text.items →
    AllZip (λ line text. IsLineText names line text) (take (i + 1) lines) (bytes_in next)
line_texts_more names lines i line texts next text low is so_far pushed made =
    let R : Line → List ℕ → Type 0 = λ line text. IsLineText names line text in
    let bytes : bytes_in next ≡ bytes_in texts ++ text.items ∷ [] = ap (λ t. bytes_in t) pushed ∙ map-append (λ (v : Vec ℕ). v.items) texts (text ∷ []) in
    rw (take_snoc lines i line low is, bytes) (zip_push R (take i lines) (bytes_in texts) line text.items so_far made)

-- the lines' texts were made and put in order
pub lines_sorted : (names : List (List ℕ)) (lines : List Line) (made sorted : List (Vec ℕ)) →
    AllZip (λ line text. IsLineText names line text) lines (bytes_in made) → IsPermutation made sorted →
    IsSorted (λ (x y : Vec ℕ). slice_cmp nat_cmp x.items y.items) sorted → AreTextsOf names lines (bytes_in sorted)
lines_sorted names lines made sorted each moved rises = record {
  unsorted = bytes_in made;
  each = each;
  same = IsPermutation-map (λ (v : Vec ℕ). v.items) made sorted moved;
  sorted = in_order sorted rises;
}

no_elements : {X : Type 0} (xs : List X) → length xs ≡ 0 → xs ≡ []
no_elements [] none = refl
no_elements (x ∷ xs) none = absurd (omega arith)

-- a section has as many texts as lines
zip_length : {X Y : Type 0} (R : X → Y → Type 0) (xs : List X) (ys : List Y) → AllZip R xs ys → length xs ≡ length ys
zip_length R [] [] all = refl
zip_length R [] (b ∷ ys) all = absurd all
zip_length R (a ∷ xs) [] all = absurd all
zip_length R (a ∷ xs) (b ∷ ys) all = ap (λ n. suc n) (zip_length R xs ys all.1)

same_verdict : {X Y : Type 0} (xs : List X) (ys : List Y) → length xs ≡ length ys → verdict_line xs ≡ verdict_line ys
same_verdict [] [] long = refl
same_verdict [] (y ∷ ys) long = absurd (omega arith)
same_verdict (x ∷ xs) [] long = absurd (omega arith)
same_verdict (x ∷ xs) (y ∷ ys) long = refl

verdict_is : (names : List (List ℕ)) (lines : List Line) (texts : List (List ℕ)) → AreTextsOf names lines texts →
    verdict_line lines ≡ verdict_line texts
verdict_is names lines texts are = same_verdict lines texts (zip_length (λ line text. IsLineText names line text) lines are.unsorted are.each ∙ sym (length_permutation are.unsorted texts are.same))

-- ---- advisers

advisers_push : (first : ℕ) (asked : List ℕ) (times : ℕ) →
    adviser_lines first (asked ++ times ∷ []) ≡ adviser_lines first asked ++ (codes "adviser " ++ (numeral (first + length asked) ++ (codes " asked " ++ numeral times))) ∷ []
advisers_push first [] times = let e : first + 0 ≡ first = omega arith in rw e refl
advisers_push first (other ∷ asked) times =
    let e : first + 1 + length asked ≡ first + suc (length asked) = omega arith in
    ap (λ t. (codes "adviser " ++ (numeral first ++ (codes " asked " ++ numeral other))) ∷ t) (advisers_push (first + 1) asked times ∙ ap (λ n. adviser_lines (first + 1) asked ++ (codes "adviser " ++ (numeral n ++ (codes " asked " ++ numeral times))) ∷ []) e)

adviser_text : (text number times : List ℕ) →
    ((text ++ codes "adviser ") ++ number) ++ ((codes " asked " ++ times) ++ 10 ∷ []) ≡ text ++ ((codes "adviser " ++ (number ++ (codes " asked " ++ times))) ++ 10 ∷ [])
adviser_text text number times = simp append_assoc

-- one adviser more
pub advisers_more : (asked : List ℕ) (i times : ℕ) (old text words number next : List ℕ) → i < length asked →
    times ≡ get_or asked i times → text ≡ old ++ ended_lines (adviser_lines 1 (take i asked)) → words ≡ text ++ codes "adviser " →
    number ≡ words ++ numeral (i + 1) → next ≡ number ++ ((codes " asked " ++ numeral times) ++ 10 ∷ []) →
    next ≡ old ++ ended_lines (adviser_lines 1 (take (i + 1) asked))
advisers_more asked i times old text words number next low is so_far first second third =
    let so : length (take i asked) ≡ i = length-take-le i asked (omega arith) in
    let count : 1 + length (take i asked) ≡ i + 1 = omega arith in
    let line = codes "adviser " ++ (numeral (i + 1) ++ (codes " asked " ++ numeral times)) in
    let more : ended_lines (adviser_lines 1 (take (i + 1) asked)) ≡ ended_lines (adviser_lines 1 (take i asked)) ++ (line ++ 10 ∷ []) =
    ap (λ t. ended_lines (adviser_lines 1 t)) (take_snoc asked i times low is) ∙ ap (λ t. ended_lines t) (advisers_push 1 (take i asked) times)
    ∙ ap (λ n. ended_lines (adviser_lines 1 (take i asked) ++ (codes "adviser " ++ (numeral n ++ (codes " asked " ++ numeral times))) ∷ [])) count
    ∙ ended_append (adviser_lines 1 (take i asked)) (line ∷ []) in
    third ∙ ap (λ t. t ++ ((codes " asked " ++ numeral times) ++ 10 ∷ [])) (second ∙ ap (λ t. t ++ numeral (i + 1)) first)
    ∙ adviser_text text (numeral (i + 1)) (numeral times) ∙ ap (λ t. t ++ (line ++ 10 ∷ [])) so_far
    ∙ append_assoc old (ended_lines (adviser_lines 1 (take i asked))) (line ++ 10 ∷ []) ∙ ap (λ t. old ++ t) (sym more)

-- ---- the whole report

-- lines behind lines
ended_more : (old new : List ℕ) (lines more : List (List ℕ)) → old ≡ ended_lines lines → new ≡ old ++ ended_lines more → new ≡ ended_lines (lines ++ more)
ended_more old new lines more before added = added ∙ ap (λ t. t ++ ended_lines more) before ∙ sym (ended_append lines more)

regrouped : {X : Type 0} (a b c d e f : List X) → (((((a ++ b) ++ c) ++ d) ++ e) ++ f) ≡ a ++ (b ++ (c ++ (d ++ (e ++ f))))
regrouped a b c d e f = simp append_assoc refl

-- the lines of the parts one after the other are those of the whole
parts_are : (exact proved unknown explain : List (List ℕ)) (verdict : List ℕ) (texts : Head → List (List ℕ)) (ranked : List (List ℕ)) →
    texts proved_head ≡ proved → texts ranked_head ≡ ranked → texts unknown_head ≡ unknown →
    (((((exact ++ (head_text proved_head ∷ proved)) ++ headed_if_any ranked_head ranked) ++ (head_text unknown_head ∷ unknown)) ++ explain) ++ verdict ∷ [])
    ≡ exact ++ section_lines (heads_for ranked) texts (explain ++ verdict ∷ [])
parts_are exact proved unknown explain verdict texts [] p r u =
    rw (p, u) (regrouped exact (head_text proved_head ∷ proved) [] (head_text unknown_head ∷ unknown) explain (verdict ∷ []))
parts_are exact proved unknown explain verdict texts (line ∷ more) p r u =
    rw (p, r, u) (regrouped exact (head_text proved_head ∷ proved) (head_text ranked_head ∷ line ∷ more) (head_text unknown_head ∷ unknown) explain (verdict ∷ []))

-- a header line and the lines of a section
under_header : (old between new header : List ℕ) (texts : List (List ℕ)) → between ≡ old ++ (header ++ 10 ∷ []) →
    new ≡ between ++ ended_lines texts → new ≡ old ++ ended_lines (header ∷ texts)
under_header old between new header texts head lines =
    lines ∙ ap (λ t. t ++ ended_lines texts) head ∙ append_assoc old (header ++ 10 ∷ []) (ended_lines texts) ∙ ap (λ t. old ++ t) (append_assoc header (10 ∷ []) (ended_lines texts))

-- a section is appended under its head, and one without a line isn't appended
pub headed_added : (names : List (List ℕ)) (head old between new : List ℕ) (lines : List Line) → between ≡ old ++ (head ++ 10 ∷ []) →
    IsSectionAdded names lines between new → IsHeadedAdded names (λ texts. head ∷ texts) lines old new
headed_added names head old between new lines opened section =
    record { texts = section.texts; are = section.are; appended = under_header old between new head section.texts opened section.appended }

pub is_none : (lines : List Line) (t : Bool) → t ≡ (length lines == 0) → t ≡ true → lines ≡ []
is_none lines t is empty = no_elements lines ((Decides-eqb (length lines) 0).0 (sym is ∙ empty))

pub is_some : (lines : List Line) (t : Bool) → t ≡ (length lines == 0) → t ≡ false → lines ≢ []
is_some lines t is filled none = absurd (let all = (Decides-eqb (length lines) 0).1 (ap length none) in let clash : true ≡ false = sym all ∙ sym is ∙ filled in cc)

pub none_headed : (names : List (List ℕ)) (old : List ℕ) (lines : List Line) → lines ≡ [] → IsHeadedAdded names (λ texts. headed_if_any ranked_head texts) lines old old
none_headed names old lines none = rw none (record {
  texts = [];
  are = record { unsorted = []; each = tt; same = IsPermutation-refl []; sorted = λ k d low less. absurd (omega arith) };
  appended = sym (append-nil old);
})

pub some_headed : (names : List (List ℕ)) (old new : List ℕ) (lines : List Line) → lines ≢ [] → IsHeadedAdded names (λ texts. head_text ranked_head ∷ texts) lines old new
    → IsHeadedAdded names (λ texts. headed_if_any ranked_head texts) lines old new
some_headed names old new lines some added = by_texts added.texts refl
  where
    by_texts : (texts : List (List ℕ)) → added.texts ≡ texts → IsHeadedAdded names (λ texts. headed_if_any ranked_head texts) lines old new
    by_texts [] none = absurd (some (no_elements lines (zip_length (λ line text. IsLineText names line text) lines added.are.unsorted added.are.each
        ∙ sym (length_permutation added.are.unsorted added.texts added.are.same) ∙ ap length none)))
    by_texts (text ∷ texts) is = record {
      texts = text ∷ texts;
      are = subst (AreTextsOf names lines) is added.are;
      appended = added.appended ∙ ap (λ ts. old ++ ended_lines (head_text ranked_head ∷ ts)) is;
    }

pub whole_added : (names : List (List ℕ)) (header : Header) (tests : ℕ) (lines : List Line) (old between new : List ℕ) →
    header ≡ Whole tests → between ≡ old ++ ((codes "exact, " ++ (numeral tests ++ codes " tests:")) ++ 10 ∷ []) →
    IsSectionAdded names lines between new → IsExactAdded names header lines old new
whole_added names header tests lines old between new is head section =
    rw is (record { texts = section.texts; are = section.are; appended = under_header old between new (codes "exact, " ++ (numeral tests ++ codes " tests:")) section.texts head section.appended })

pub partial_added : (names : List (List ℕ)) (header : Header) (tests : ℕ) (cause : Stop) (lines : List Line) (old between new : List ℕ) →
    header ≡ Partial tests cause →
    between ≡ old ++ ((codes "exact, " ++ (numeral tests ++ (codes " tests, then " ++ (cause_text cause ++ codes ":")))) ++ 10 ∷ []) →
    IsSectionAdded names lines between new → IsExactAdded names header lines old new
partial_added names header tests cause lines old between new is head section =
    rw is (record { texts = section.texts; are = section.are; appended = under_header old between new (codes "exact, " ++ (numeral tests ++ (codes " tests, then " ++ (cause_text cause ++ codes ":")))) section.texts head section.appended })

-- what was appended, part by part
pub record Appended (names : List (List ℕ)) (report : Report) (t0 t1 t2 t3 t4 t5 t6 : List ℕ) : Type 0 where
  pub empty : t0 ≡ []
  pub exact : IsExactAdded names report.header report.exact t0 t1
  pub proved : IsHeadedAdded names (λ texts. head_text proved_head ∷ texts) report.proved t1 t2
  pub ranked : IsHeadedAdded names (λ texts. headed_if_any ranked_head texts) report.ranked t2 t3
  pub unknown : IsHeadedAdded names (λ texts. head_text unknown_head ∷ texts) report.unknown t3 t4
  pub explain : t5 ≡ t4 ++ ended_lines (explain_part report.explain)
  pub verdict : t6 ≡ t5 ++ ended_lines (verdict_line report.unknown ∷ [])

-- the texts of the sections, by their heads
abbrev by_head : (proved ranked unknown : List (List ℕ)) → Head → List (List ℕ)
by_head proved ranked unknown proved_head = proved
by_head proved ranked unknown ranked_head = ranked
by_head proved ranked unknown unknown_head = unknown

are_by_head : (names : List (List ℕ)) (report : Report) (proved ranked unknown : List (List ℕ)) → AreTextsOf names report.proved proved →
    AreTextsOf names report.ranked ranked → AreTextsOf names report.unknown unknown → (head : Head) →
    AreTextsOf names (lines_under head report) (by_head proved ranked unknown head)
are_by_head names report proved ranked unknown first second third proved_head = first
are_by_head names report proved ranked unknown first second third ranked_head = second
are_by_head names report proved ranked unknown first second third unknown_head = third

pub report_printed : (names : List (List ℕ)) (report : Report) (t0 t1 t2 t3 t4 t5 t6 : List ℕ) →
    Appended names report t0 t1 t2 t3 t4 t5 t6 → IsReportText names report t6
report_printed names report t0 t1 t2 t3 t4 t5 t6 is = record {
  exact = is.exact.texts;
  texts = by_head is.proved.texts is.ranked.texts is.unknown.texts;
  exact_are = is.exact.are;
  are = are_by_head names report is.proved.texts is.ranked.texts is.unknown.texts is.proved.are is.ranked.are is.unknown.are;
  is =
      let exact = exact_part report.header is.exact.texts in
      let proved = head_text proved_head ∷ is.proved.texts in
      let ranked = headed_if_any ranked_head is.ranked.texts in
      let unknown = head_text unknown_head ∷ is.unknown.texts in
      let explain = explain_part report.explain in
      let at1 : t1 ≡ ended_lines exact = is.exact.appended ∙ ap (λ t. t ++ ended_lines exact) is.empty in
      let at2 = ended_more t1 t2 exact proved at1 is.proved.appended in
      let at3 = ended_more t2 t3 (exact ++ proved) ranked at2 is.ranked.appended in
      let at4 = ended_more t3 t4 ((exact ++ proved) ++ ranked) unknown at3 is.unknown.appended in
      let at5 = ended_more t4 t5 (((exact ++ proved) ++ ranked) ++ unknown) explain at4 is.explain in
      ended_more t5 t6 ((((exact ++ proved) ++ ranked) ++ unknown) ++ explain) (verdict_line is.unknown.texts ∷ []) at5
      (is.verdict ∙ ap (λ v. t5 ++ ended_lines (v ∷ [])) (verdict_is names report.unknown is.unknown.texts is.unknown.are))
      ∙ ap ended_lines (parts_are exact is.proved.texts is.unknown.texts explain (verdict_line is.unknown.texts)
      (by_head is.proved.texts is.ranked.texts is.unknown.texts) is.ranked.texts refl refl refl);
}

-- ---- a report on what fits

pub fit_printed : (names : List (List ℕ)) (fits unknown : List Line) (t0 t1 t2 t3 : List ℕ) → t0 ≡ []
    → IsHeadedAdded names (λ texts. codes "fits:" ∷ texts) fits t0 t1 → IsHeadedAdded names (λ texts. codes "unknown:" ∷ texts) unknown t1 t2
    → t3 ≡ t2 ++ ended_lines (verdict_line unknown ∷ []) → IsFitText names fits unknown t3
fit_printed names fits unknown t0 t1 t2 t3 empty first second last = record {
  fits_texts = first.texts;
  unknown_texts = second.texts;
  fits_are = first.are;
  unknown_are = second.are;
  is =
      let claimed = codes "fits:" ∷ first.texts in
      let others = codes "unknown:" ∷ second.texts in
      let verdict = verdict_line second.texts ∷ [] in
      let at1 : t1 ≡ ended_lines claimed = first.appended ∙ ap (λ t. t ++ ended_lines claimed) empty in
      let at2 = ended_more t1 t2 claimed others at1 second.appended in
      ended_more t2 t3 (claimed ++ others) verdict at2 (last ∙ ap (λ v. t2 ++ ended_lines (v ∷ [])) (verdict_is names unknown second.texts second.are))
      ∙ ap ended_lines (append_assoc claimed others verdict);
}
