-- The rows of lines: what each push adds.
use Rattle.std.proofs.Common.{◌≡◌, ◌≢◌, ⊎_elim, ℕ, zero, suc, ◌+◌, ◌<◌, ◌≤◌, ℤ, pos, negsuc, neg_ℤ, ◌-◌, ◌^◌, Bool, true, false, eqb, cond, List, [], ◌∷◌, ◌++◌, length, set, refl, ◌∙◌, ap, arith, map, unsigned_abs, length-set, add-one, Option, None, Some}
use Rattle.std.specs.Ordering.{int_eq}
use Rattle.std.proofs.lemmas.Bool.Decides.{Decides-int_eq, eqb_tells}
use Rattle.std.proofs.lemmas.List.{append-nil, map-append}
use Rattle.std.specs.Int.{◌∣◌}
use Rattle.std.proofs.Math.Nat.{eq-one_of_dvd-one}
use Rattle.linear_cons.specs.Divisor.{IsPrimitive}
use Rattle.linear_cons.specs.Functions.{constant_of}
use Rattle.linear_cons.specs.Numbers.{at_places, number_at}
use Rattle.linear_cons.specs.declared.bounds.Bounds.{Bounds}
use Rattle.linear_cons.specs.declared.row.Row.{Row}
use Rattle.linear_cons.specs.Bounds.{lower_end, upper_end}
use Rattle.linear_cons.proofs.KindLaws.{primitive_kind}
use Rattle.linear_cons.specs.Rows.{row_kind_of}
use Rattle.linear_cons.proofs.Places.{length-at_places, number_at-set, number_at_places, places_of}
use Rattle.interval_dom.specs.Boxes.{line, lines_below, lower_line, upper_line}
use Rattle.num_domain.specs.Lines.{row_list, rows_of_lines}
use Rattle.num_domain.proofs.LineLaws.{rows_of_lines-append}

-- a constant with one coefficient set is a line
pub line_is : (place : ℕ) (factor constant : ℤ) → place < 16 → set (constant_of constant).coef place factor ≡ (line place factor constant).coef
line_is place factor constant low =
    let zeros : List ℤ = at_places (λ i. pos 0) in
    let long : length zeros ≡ 16 = length-at_places (λ i. pos 0) in
    let inside : place < length zeros = omega (arith, long) in
    places_of (set zeros place factor) (λ i. cond (eqb i place) factor (pos 0)) (length-set zeros place factor ∙ long)
    (λ i h. number_at-set zeros place i factor inside ∙ ap (λ t. cond (eqb i place) factor t) (number_at_places (λ i. pos 0) i h))

pub rows_below_none : (bounds : Bounds) → rows_of_lines (lines_below 0 bounds) ≡ []
unfolding lines_below
rows_below_none bounds = refl

pub rows_below_more : (n : ℕ) (bounds : Bounds) → rows_of_lines (lines_below (n + 1) bounds) ≡ rows_of_lines (lines_below n bounds) ++ rows_of_lines (lower_line n (lower_end bounds n)) ++ rows_of_lines (upper_line n (upper_end bounds n))
unfolding lines_below
rows_below_more n bounds = rw add-one (simp rows_of_lines-append refl)

-- a lower end whose negative fits has its row
pub lower_fits : (place : ℕ) (end : ℤ) → end ≢ negsuc (2 ^ 127 - 1) → lower_line place (Some end) ≡ line place (pos 1) (neg_ℤ end) ∷ []
lower_fits place end apart = ap (λ t. cond t [] (line place (pos 1) (neg_ℤ end) ∷ [])) (decided (int_eq end (negsuc (2 ^ 127 - 1))) refl)
  where
    decided : (b : Bool) → int_eq end (negsuc (2 ^ 127 - 1)) ≡ b → int_eq end (negsuc (2 ^ 127 - 1)) ≡ false
    decided false e = e
    decided true e = absurd (apart ((Decides-int_eq end (negsuc (2 ^ 127 - 1))).0 e))

pub lower_least : (place : ℕ) (end : ℤ) → end ≡ negsuc (2 ^ 127 - 1) → lower_line place (Some end) ≡ []
lower_least place end is = ap (λ t. cond t [] (line place (pos 1) (neg_ℤ end) ∷ [])) ((Decides-int_eq end (negsuc (2 ^ 127 - 1))).1 is)

-- ---- each row is its line

eqb_same : (n : ℕ) → eqb n n ≡ true
eqb_same n = ⊎_elim (λ (same : (eqb n n ≡ true) × (n ≡ n)). same.0) (λ (apart : (eqb n n ≡ false) × (n ≢ n)). absurd (apart.1 refl)) (eqb_tells n n)

-- d divides a factor of size 1
line_primitive : (place : ℕ) (factor constant : ℤ) → place < 16 → unsigned_abs factor ≡ 1 → IsPrimitive (line place factor constant).coef
line_primitive place factor constant low one d all =
    let here : d ∣ unsigned_abs (number_at (line place factor constant).coef place) = all place low in
    let is : number_at (line place factor constant).coef place ≡ factor = number_at_places (λ i. cond (eqb i place) factor (pos 0)) place low ∙ ap (λ t. cond t factor (pos 0)) (eqb_same place) in
    eq-one_of_dvd-one (rw (is, one) at here)

line_listed : (place : ℕ) (factor constant : ℤ) → place < 16 → unsigned_abs factor ≡ 1 → map (λ (row : Row). row.affine) (row_list (row_kind_of (line place factor constant))) ≡ line place factor constant ∷ []
line_listed place factor constant low one =
    rw (primitive_kind (line place factor constant) (line_primitive place factor constant low one) (length-at_places _)) refl

lower_listed : (place : ℕ) (end : Option ℤ) → place < 16 → map (λ (row : Row). row.affine) (rows_of_lines (lower_line place end)) ≡ lower_line place end
lower_listed place None low = refl
lower_listed place (Some end) low = listed (int_eq end (negsuc (2 ^ 127 - 1)))
  where
    listed : (b : Bool) → map (λ (row : Row). row.affine) (rows_of_lines (cond b [] (line place (pos 1) (neg_ℤ end) ∷ []))) ≡ cond b [] (line place (pos 1) (neg_ℤ end) ∷ [])
    listed true = refl
    listed false = rw append-nil (line_listed place (pos 1) (neg_ℤ end) low refl)

upper_listed : (place : ℕ) (end : Option ℤ) → place < 16 → map (λ (row : Row). row.affine) (rows_of_lines (upper_line place end)) ≡ upper_line place end
upper_listed place None low = refl
upper_listed place (Some end) low = rw append-nil (line_listed place (negsuc 0) end low refl)

-- each end whose row fits has one row, and no other row is listed
pub rows_listed : (n : ℕ) (bounds : Bounds) → n ≤ 16 → map (λ (row : Row). row.affine) (rows_of_lines (lines_below n bounds)) ≡ lines_below n bounds
unfolding lines_below
rows_listed zero bounds small = refl
rows_listed (suc n) bounds small =
    let before = rows_listed n bounds (omega arith) in
    let lower = lower_listed n (lower_end bounds n) (omega arith) in
    let upper = upper_listed n (upper_end bounds n) (omega arith) in
    simp (rows_of_lines-append, map-append, before, lower, upper) refl
