-- The rows of bounds, cell by cell.
use Rattle.std.proofs.Common.{◌≡◌, ◌≢◌, ⊎_elim, ℕ, ◌+◌, ◌/◌, ◌%◌, ◌<◌, ℤ, pos, negsuc, ◌-ℤ◌, true, false, eqb, cond, List, [], ◌++◌}
use Rattle.std.proofs.Common.{length, set, add-one, arith, refl, sym, ◌∙◌, ap, length-set}
use Rattle.std.proofs.lemmas.Bool.Decides.{eqb_tells}
use Rattle.std.proofs.lemmas.Int.{ints}
use Rattle.linear_cons.specs.Functions.{constant_of}
use Rattle.linear_cons.specs.Numbers.{at_places, number_at}
use Rattle.linear_cons.proofs.Places.{length-at_places, number_at-set, number_at_places, places_of}
use Rattle.num_domain.specs.declared.bound.Bound.{Bound}
use Rattle.num_domain.specs.Lines.{rows_of_lines}
use Rattle.num_domain.proofs.LineLaws.{rows_of_lines-append}
use Rattle.octagon_dom.specs.Octagons.{bound_line, lines_at, lines_below, signed_factor}

pub rows_none : (cells : List (Bound ℤ)) → rows_of_lines (lines_below 0 cells) ≡ []
unfolding lines_below
rows_none cells = refl

pub rows_more : (n : ℕ) (cells : List (Bound ℤ))
    → rows_of_lines (lines_below (n + 1) cells) ≡ rows_of_lines (lines_below n cells) ++ rows_of_lines (lines_at cells (n / 32) (n % 32))
unfolding lines_below
rows_more n cells = rw add-one (rows_of_lines-append (lines_below n cells) (lines_at cells (n / 32) (n % 32)))

less_nought : (a : ℤ) → a -ℤ pos 0 ≡ a
less_nought a = omega (arith, ints)

-- at another place the coefficient is 0
pub factor_apart : (i p : ℕ) → eqb p (i / 2) ≡ false → signed_factor i p ≡ pos 0
factor_apart i p apart = ap (λ t. cond t (cond (eqb (i % 2) 0) (pos 1) (negsuc 0)) (pos 0)) apart

-- a constant with the coefficients of two signed places set is their line
pub line_is : (i j : ℕ) (c own other : ℤ) → i < 32 → j < 32 → own ≡ signed_factor j (j / 2)
    → other ≡ signed_factor j (i / 2) -ℤ signed_factor i (i / 2)
    → set (set (constant_of c).coef (j / 2) own) (i / 2) other ≡ (bound_line i j c).coef
line_is i j c own other low also is same =
    let zeros : List ℤ = at_places (λ p. pos 0) in
    let long : length zeros ≡ 16 = length-at_places (λ p. pos 0) in
    let first : List ℤ = set zeros (j / 2) own in
    let first_long : length first ≡ 16 = length-set zeros (j / 2) own ∙ long in
    let inside : j / 2 < length zeros = omega (arith, long) in
    let inside_first : i / 2 < length first = omega (arith, first_long) in
    places_of (set first (i / 2) other) (λ p. signed_factor j p -ℤ signed_factor i p) (length-set first (i / 2) other ∙ first_long)
    (λ p h. number_at-set first (i / 2) p other inside_first ∙ ⊎_elim
    (λ (at : (eqb p (i / 2) ≡ true) × (p ≡ i / 2)).
    ap (λ t. cond t other (number_at first p)) at.0 ∙ same ∙ ap (λ q. signed_factor j q -ℤ signed_factor i q) (sym at.1))
    (λ (apart : (eqb p (i / 2) ≡ false) × (p ≢ i / 2)).
    let none : signed_factor i p ≡ pos 0 = factor_apart i p apart.0 in
    ap (λ t. cond t other (number_at first p)) apart.0 ∙ number_at-set zeros (j / 2) p own inside ∙ ⊎_elim
    (λ (at : (eqb p (j / 2) ≡ true) × (p ≡ j / 2)).
    ap (λ t. cond t own (number_at zeros p)) at.0 ∙ is ∙ ap (signed_factor j) (sym at.1)
    ∙ sym (ap (λ t. signed_factor j p -ℤ t) none ∙ less_nought (signed_factor j p)))
    (λ (also_apart : (eqb p (j / 2) ≡ false) × (p ≢ j / 2)).
    ap (λ t. cond t own (number_at zeros p)) also_apart.0 ∙ number_at_places (λ q. pos 0) p h
    ∙ sym (ap (λ t. t -ℤ signed_factor i p) (factor_apart j p also_apart.0) ∙ ap (λ t. pos 0 -ℤ t) none))
    (eqb_tells p (j / 2)))
    (eqb_tells p (i / 2)))
