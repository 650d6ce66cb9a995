-- A store that meets the rows is a member, and there are at most 512 rows.
use Rattle.std.proofs.Common.{◌≡◌, ◌≢◌, ⊎_elim, ℕ, zero, suc, ◌+◌, ◌*◌, ◌/◌, ◌%◌, ◌<◌, ◌≤◌, ℤ, pos, negsuc, ◌-ℤ◌, ◌≤ℤ◌, Bool, true, false}
use Rattle.std.proofs.Common.{eqb, cond, nat_le, List, [], ◌++◌, length, All, Option, None, Some, arith, refl, sym, ◌∙◌, ap, subst}
use Rattle.std.proofs.Math.ListN.{get_or-append}
use Rattle.std.proofs.lemmas.List.{append-nil, get_or-append-add, length-append}
use Rattle.std.proofs.lemmas.Bool.{cases_lt}
use Rattle.std.proofs.lemmas.Bool.Decides.{eqb_tells, nat_tests}
use Rattle.std.proofs.lemmas.Int.{ints}
use Rattle.linear_cons.specs.declared.affine.Affine.{Affine}
use Rattle.linear_cons.specs.declared.row.RowKind.{RowKind}
use Rattle.linear_cons.specs.declared.row.RowKind.TheVariants.{Always, Never, Row as Kept}
use Rattle.linear_cons.specs.Bounds.{IsUpTo}
use Rattle.linear_cons.specs.Functions.{IsConstant, coefficient, value_at}
use Rattle.linear_cons.specs.Rows.{IsRowOf, Meets, MeetsAll, row_kind_of}
use Rattle.linear_cons.proofs.EndLaws.{up_to_same}
use Rattle.linear_cons.proofs.KindLaws.{row_kind_is}
use Rattle.linear_cons.proofs.Places.{eqb_apart, number_at_places}
use Rattle.linear_cons.proofs.RowLaws.{quotient_same_stores}
use Rattle.num_domain.specs.declared.bound.Bound.{Bound}
use Rattle.num_domain.specs.Lines.{row_list, rows_of_lines}
use Rattle.num_domain.proofs.LineLaws.{rows_of_lines-append}
use Rattle.octagon_dom.specs.Cells.{IsBelow, bound, cell, least_end, signed, turned}
use Rattle.octagon_dom.specs.Octagons.{bound_line, is_listed, lines_at, lines_below, lines_of, rows_of_cells, signed_factor}
use Rattle.octagon_dom.specs.Laws.LeastEnds.{least_up_to_left, least_up_to_right}
use Rattle.octagon_dom.specs.Laws.Members.{below_of_cells, bound_apart, parity, signed_turned, turned_low, turned_twice}
use Rattle.octagon_dom.specs.Laws.Rows.{line_value}
use Rattle.octagon_dom.proofs.Listed.{factor_apart}

-- ---- parts of a list

all_left : {X : Type 0} (P : X → Type 0) (xs ys : List X) → All P (xs ++ ys) → All P xs
all_left P xs ys all k d h =
    let low : k < length (xs ++ ys) = omega (arith, length-append xs ys) in
    rw (get_or-append xs ys d k h) at (all k d low)

all_right : {X : Type 0} (P : X → Type 0) (xs ys : List X) → All P (xs ++ ys) → All P ys
all_right P xs ys all k d h =
    let low : length xs + k < length (xs ++ ys) = omega (arith, length-append xs ys) in
    rw (get_or-append-add xs ys k d) at (all (length xs + k) d low)

-- ---- one line

-- the place of a signed place has a coefficient in the line of two signed places that differ
line_mentions : (i j : ℕ) (c : ℤ) → i < 32 → i ≢ j → coefficient (bound_line i j c) (i / 2) ≡ pos 0 → ⊥
line_mentions i j c low apart none =
    let inside : i / 2 < 16 = omega arith in
    let same : signed_factor j (i / 2) -ℤ signed_factor i (i / 2) ≡ pos 0 =
    sym (number_at_places (λ place. signed_factor j place -ℤ signed_factor i place) (i / 2) inside) ∙ none in
    let own : signed_factor i (i / 2) ≡ sign i = ap (λ t. cond t (sign i) (pos 0)) (same_tells (i / 2)) in
    ⊎_elim
    (λ (at : (eqb (i / 2) (j / 2) ≡ true) × (i / 2 ≡ j / 2)).
    let other : signed_factor j (i / 2) ≡ sign j = ap (λ t. cond t (sign j) (pos 0)) at.0 in
    let half = at.1 in
    parity i ⊥
    (λ even. parity j ⊥
    (λ also. apart (omega arith))
    (λ odd. let one = sign_even i even in let two = sign_odd j odd in omega (arith, ints)))
    (λ odd. parity j ⊥
    (λ even. let one = sign_odd i odd in let two = sign_even j even in omega (arith, ints))
    (λ also. apart (omega arith))))
    (λ (away : (eqb (i / 2) (j / 2) ≡ false) × (i / 2 ≢ j / 2)).
    let other : signed_factor j (i / 2) ≡ pos 0 = factor_apart j (i / 2) away.0 in
    parity i ⊥
    (λ even. let one = sign_even i even in omega (arith, ints))
    (λ odd. let one = sign_odd i odd in omega (arith, ints)))
    (eqb_tells (i / 2) (j / 2))
  where
    sign : ℕ → ℤ
    sign k = cond (eqb (k % 2) 0) (pos 1) (negsuc 0)

    same_tells : (n : ℕ) → eqb n n ≡ true
    same_tells n = ⊎_elim (λ (is : (eqb n n ≡ true) × (n ≡ n)). is.0) (λ (apart : (eqb n n ≡ false) × (n ≢ n)). absurd (apart.1 refl))
        (eqb_tells n n)

    sign_even : (k : ℕ) → k % 2 ≡ 0 → sign k ≡ pos 1
    sign_even k even = rw even refl

    sign_odd : (k : ℕ) → k % 2 ≡ 1 → sign k ≡ negsuc 0
    sign_odd k odd = rw odd refl

-- a store that meets a function's row has it at least 0, where a variable occurs
kind_holds : (a : Affine) (store : List ℤ) (kind : RowKind) → IsRowOf a kind → (IsConstant a → ⊥) → MeetsAll store (row_list kind)
    → pos 0 ≤ℤ value_at a store
kind_holds a store Always is some all = absurd (some is.0)
kind_holds a store Never is some all = absurd (some is.0)
kind_holds a store (Kept row) is some all = (quotient_same_stores a row.affine is store).0 (all 0 row (omega arith))

line_holds : (i j : ℕ) (end : Option ℤ) (store : List ℤ) → i < 32 → j < 32 → i ≢ j → MeetsAll store (rows_of_lines (lines_of i j end))
    → IsUpTo end (signed store i -ℤ signed store j)
line_holds i j None store low also apart all = tt
line_holds i j (Some c) store low also apart all =
    let inside : i / 2 < 16 = omega arith in
    let some : IsConstant (bound_line i j c) → ⊥ = λ none. line_mentions i j c low apart (none (i / 2) inside) in
    let met : MeetsAll store (row_list (row_kind_of (bound_line i j c))) =
    rw (append-nil (row_list (row_kind_of (bound_line i j c)))) at all in
    let above = kind_holds (bound_line i j c) store (row_kind_of (bound_line i j c)) (row_kind_is (bound_line i j c)) some met in
    let value = line_value i j c store low also in
    omega (arith, ints)

-- ---- all lines

-- the lines of each cell are among them
cell_met : (n : ℕ) (cells : List (Bound ℤ)) (store : List ℤ) → MeetsAll store (rows_of_lines (lines_below n cells)) → (k : ℕ) → k < n
    → MeetsAll store (rows_of_lines (lines_at cells (k / 32) (k % 32)))
unfolding lines_below
cell_met zero cells store all k h = absurd (omega arith)
cell_met (suc n) cells store all k h =
    let parts = rw (rows_of_lines-append (lines_below n cells) (lines_at cells (n / 32) (n % 32))) at all in
    ⊎_elim
    (λ (less : k < n). cell_met n cells store
    (all_left (λ row. Meets store row) (rows_of_lines (lines_below n cells)) (rows_of_lines (lines_at cells (n / 32)
    (n % 32))) parts) k less)
    (λ (from : n ≤ k).
    let same : k ≡ n = omega arith in
    subst (λ m. MeetsAll store (rows_of_lines (lines_at cells (m / 32) (m % 32)))) (sym same)
    (all_right (λ row. Meets store row) (rows_of_lines (lines_below n cells)) (rows_of_lines (lines_at cells (n / 32) (n % 32))) parts))
    (cases_lt k n)

listed_holds : (cells : List (Bound ℤ)) (store : List ℤ) (i j : ℕ) → MeetsAll store (rows_of_cells cells) → i < 32 → j < 32 → i ≢ j
    → is_listed i j ≡ true → IsUpTo (least_end (bound cells i j) (bound cells (turned j) (turned i))) (signed store i -ℤ signed store j)
unfolding rows_of_cells
listed_holds cells store i j all low also apart listed =
    let row : (32 * i + j) / 32 ≡ i = omega arith in
    let column : (32 * i + j) % 32 ≡ j = omega arith in
    let at : lines_at cells ((32 * i + j) / 32) ((32 * i + j) % 32)
    ≡ lines_of i j (least_end (bound cells i j) (bound cells (turned j) (turned i))) =
    ap (λ a. lines_at cells a ((32 * i + j) % 32)) row ∙ ap (lines_at cells i) column
    ∙ ap (λ t. cond t (lines_of i j (least_end (bound cells i j) (bound cells (turned j) (turned i)))) []) listed in
    line_holds i j (least_end (bound cells i j) (bound cells (turned j) (turned i))) store low also apart
    (subst (λ lines. MeetsAll store (rows_of_lines lines)) at (cell_met 1024 cells store all (32 * i + j) (omega arith)))

-- of a cell and its twin one is listed
listed_here : (i j : ℕ) → i ≢ j → 32 * i + j ≤ 32 * turned j + turned i → is_listed i j ≡ true
listed_here i j apart before = both (eqb_apart i j apart) (tells (32 * i + j) (32 * turned j + turned i) before)
  where
    tells : (a b : ℕ) → a ≤ b → nat_le a b ≡ true
    tells a b h = grind (arith, nat_tests)

    both : eqb i j ≡ false → nat_le (32 * i + j) (32 * turned j + turned i) ≡ true → is_listed i j ≡ true
    both one two = rw (one, two) refl

pub rows_below : (cells : List (Bound ℤ)) (store : List ℤ) → MeetsAll store (rows_of_cells cells) → IsBelow cells store
rows_below cells store all = below_of_cells cells store (λ i j h g apart.
    let own = bound_apart cells i j apart in
    ⊎_elim
    (λ (less : 32 * i + j < 32 * turned j + turned i).
    subst (λ end. IsUpTo end (signed store i -ℤ signed store j)) own
    (least_up_to_left (bound cells i j) (bound cells (turned j) (turned i)) _
    (listed_holds cells store i j all h g apart (listed_here i j apart (omega arith)))))
    (λ (from : 32 * turned j + turned i ≤ 32 * i + j).
    let one : turned (turned i) ≡ i = turned_twice i in
    let two : turned (turned j) ≡ j = turned_twice j in
    let away : turned j ≢ turned i = λ same. apart (sym one ∙ ap turned (sym same) ∙ two) in
    let before : 32 * turned j + turned i ≤ 32 * turned (turned i) + turned (turned j) = rw (one, two) from in
    let holds = least_up_to_right (bound cells (turned j) (turned i)) (bound cells (turned (turned i)) (turned (turned j))) _
    (listed_holds cells store (turned j) (turned i) all (turned_low j g) (turned_low i h) away (listed_here (turned j)
    (turned i) away before)) in
    let left = signed_turned store i in
    let right = signed_turned store j in
    let same : bound cells (turned (turned i)) (turned (turned j)) ≡ cell cells (32 * i + j) =
    ap (λ a. bound cells a (turned (turned j))) one ∙ ap (bound cells i) two ∙ own in
    up_to_same (cell cells (32 * i + j)) _ _ (omega (arith, ints))
    (subst (λ end. IsUpTo end (signed store (turned j) -ℤ signed store (turned i))) same holds))
    (cases_lt (32 * i + j) (32 * turned j + turned i)))

-- ---- the number of rows

-- how many of the first n cells are listed
listed_below : ℕ → ℕ
listed_below zero = 0
listed_below (suc n) = listed_below n + cond (is_listed (n / 32) (n % 32)) 1 0

row_list_short : (kind : RowKind) → length (row_list kind) ≤ 1
row_list_short Always = omega arith
row_list_short Never = omega arith
row_list_short (Kept row) = omega arith

line_short : (i j : ℕ) (end : Option ℤ) → length (rows_of_lines (lines_of i j end)) ≤ 1
line_short i j None = omega arith
line_short i j (Some c) =
    let short = row_list_short (row_kind_of (bound_line i j c)) in
    rw (append-nil (row_list (row_kind_of (bound_line i j c)))) short

at_short : (cells : List (Bound ℤ)) (i j : ℕ) → length (rows_of_lines (lines_at cells i j)) ≤ cond (is_listed i j) 1 0
at_short cells i j = chosen (is_listed i j)
  where
    chosen : (t : Bool) → length (rows_of_lines (cond t (lines_of i j (least_end (bound cells i j) (bound cells (turned j)
        (turned i)))) []))
        ≤ cond t 1 0
    chosen true = line_short i j (least_end (bound cells i j) (bound cells (turned j) (turned i)))
    chosen false = omega arith

below_short : (n : ℕ) (cells : List (Bound ℤ)) → length (rows_of_lines (lines_below n cells)) ≤ listed_below n
unfolding lines_below listed_below
below_short zero cells = omega arith
below_short (suc n) cells =
    let before = below_short n cells in
    let here = at_short cells (n / 32) (n % 32) in
    rw (rows_of_lines-append (lines_below n cells) (lines_at cells (n / 32) (n % 32)))
    (simp length-append (omega arith))

all_listed : listed_below 1024 ≡ 512
unfolding listed_below
all_listed = refl

pub rows_few : (cells : List (Bound ℤ)) → length (rows_of_cells cells) ≤ 512
unfolding rows_of_cells
rows_few cells = let short = below_short 1024 cells in let all = all_listed in omega arith
