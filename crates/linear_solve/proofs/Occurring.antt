-- The places that occur: fewer once one is eliminated.
use Rattle.std.proofs.Common.{◌≡◌, ◌≢◌, ◌⊎◌, inl, inr, ℕ, zero, suc, ◌+◌, ◌<◌, ◌≤◌, ℤ, pos, negsuc, Bool, true, false, cond, not, ◌||◌, List, [], ◌∷◌, length, get_or, refl, sym, ap, subst, ◌∙◌, arith, Contains, ⊎_elim}
use Rattle.std.specs.Ordering.{int_eq}
use Rattle.std.proofs.lemmas.Bool.{false_from_ne_true, false≢true, not-true, not_from_false, not_from_true, true_from_ne_false}
use Rattle.std.proofs.Math.Nat.{eq-zero-or-pos}
use Rattle.std.proofs.lemmas.Bool.Decides.{Decides-int_eq}
use Rattle.linear_cons.specs.declared.row.Row.{Row}
use Rattle.linear_cons.specs.Functions.{coefficient}
use Rattle.linear_cons.proofs.RowLaws.{row_not_constant}
use Rattle.linear_solve.specs.Elimination.{lowers_of, one_above, one_below, uppers_of}
use Rattle.linear_solve.specs.Systems.{occurring_below, occurs}

apart_test : (z : ℤ) → not (int_eq z (pos 0)) ≡ true → z ≢ pos 0
apart_test z test is = false≢true (sym (not-true (int_eq z (pos 0)) test) ∙ (Decides-int_eq z (pos 0)).1 is)

test_apart : (z : ℤ) → z ≢ pos 0 → not (int_eq z (pos 0)) ≡ true
test_apart z apart = not_from_false (int_eq z (pos 0)) (false_from_ne_true (int_eq z (pos 0)) (λ t. apart ((Decides-int_eq z (pos 0)).0 t)))

either_true : (a b : Bool) → (a || b) ≡ true → (a ≡ true) ⊎ (b ≡ true)
either_true true b is = inl refl
either_true false b is = inr is

left_true : (a b : Bool) → a ≡ true → (a || b) ≡ true
left_true true b is = refl
left_true false b is = absurd (false≢true is)

right_true : (a b : Bool) → b ≡ true → (a || b) ≡ true
right_true true b is = refl
right_true false b is = is

tail_in : (x : Row) (xs : List Row) (y : Row) → Contains xs y → Contains (x ∷ xs) y
tail_in x xs y member = (suc member.0, omega (arith, member.1), member.2)

-- a place that occurs is in some row
pub occurs_in : (place : ℕ) (rows : List Row) → occurs place rows ≡ true → (row : Row) × (Contains rows row × (coefficient row.affine place ≢ pos 0))
occurs_in place [] is = absurd (false≢true is)
occurs_in place (x ∷ xs) is = ⊎_elim
    (λ (here : not (int_eq (coefficient x.affine place) (pos 0)) ≡ true). (x, ((0, omega arith, refl), apart_test (coefficient x.affine place) here)))
    (λ (later : occurs place xs ≡ true). let found = occurs_in place xs later in (found.0, (tail_in x xs found.0 found.1.0, found.1.1)))
    (either_true (not (int_eq (coefficient x.affine place) (pos 0))) (occurs place xs) is)

-- a place of some row occurs
pub occurs_by : (place : ℕ) (rows : List Row) (k : ℕ) (d : Row) → k < length rows → coefficient (get_or rows k d).affine place ≢ pos 0 → occurs place rows ≡ true
occurs_by place [] k d low apart = absurd (omega arith)
occurs_by place (x ∷ xs) zero d low apart = left_true _ (occurs place xs) (test_apart (coefficient x.affine place) apart)
occurs_by place (x ∷ xs) (suc k) d low apart = right_true (not (int_eq (coefficient x.affine place) (pos 0))) (occurs place xs) (occurs_by place xs k d (omega arith) apart)

pub occurs_of : (place : ℕ) (rows : List Row) (row : Row) → Contains rows row → coefficient row.affine place ≢ pos 0 → occurs place rows ≡ true
occurs_of place rows row member apart = occurs_by place rows member.0 row member.1 (λ none. apart (sym (ap (λ (t : Row). coefficient t.affine place) member.2) ∙ none))

bit_le : (a b : Bool) → (a ≡ true → b ≡ true) → cond a 1 0 ≤ cond b 1 0
bit_le true true h = omega arith
bit_le true false h = absurd (false≢true (h refl))
bit_le false b h = omega arith

bit_lt : (a b : Bool) → a ≡ false → b ≡ true → cond a 1 0 < cond b 1 0
bit_lt a b none some = rw (none, some) (omega arith)

-- fewer places occur where each occurs in the other list too
pub occurring_le : (n : ℕ) (rows others : List Row) → ((i : ℕ) → i < n → occurs i rows ≡ true → occurs i others ≡ true) → occurring_below n rows ≤ occurring_below n others
unfolding occurring_below
occurring_le zero rows others each = omega arith
occurring_le (suc n) rows others each =
    let before = occurring_le n rows others (λ i low. each i (omega arith)) in
    let here = bit_le (occurs n rows) (occurs n others) (each n (omega arith)) in
    omega (arith, before, here)

-- and one less where one of them does not
pub occurring_lt : (n : ℕ) (rows others : List Row) (place : ℕ) → place < n → ((i : ℕ) → i < n → occurs i rows ≡ true → occurs i others ≡ true) → occurs place rows ≡ false → occurs place others ≡ true → occurring_below n rows < occurring_below n others
unfolding occurring_below
occurring_lt zero rows others place low each none some = absurd (omega arith)
occurring_lt (suc n) rows others place low each none some = ⊎_elim
    (λ (here : place ≡ n).
    let before = occurring_le n rows others (λ i low. each i (omega arith)) in
    let last = bit_lt (occurs n rows) (occurs n others) (subst (λ t. occurs t rows ≡ false) here none) (subst (λ t. occurs t others ≡ true) here some) in
    omega (arith, before, last))
    (λ (earlier : place < n).
    let before = occurring_lt n rows others place earlier (λ i low. each i (omega arith)) none some in
    let last = bit_le (occurs n rows) (occurs n others) (each n (omega arith)) in
    omega (arith, before, last))
    (same_or_less place n low)
  where
    same_or_less : (a b : ℕ) → a < suc b → (a ≡ b) ⊎ (a < b)
    same_or_less a b h = grind arith

-- at most n of the places below n occur
pub occurring_most : (n : ℕ) (rows : List Row) → occurring_below n rows ≤ n
unfolding occurring_below
occurring_most zero rows = omega arith
occurring_most (suc n) rows =
    let before = occurring_most n rows in
    let here = bit_le (occurs n rows) true (λ t. refl) in
    omega (arith, before, here)

-- where no place occurs there is no row
pub no_rows : (rows : List Row) → ((place : ℕ) → place < 16 → occurs place rows ≡ false) → rows ≡ []
no_rows [] none = refl
no_rows (x ∷ xs) none = absurd (row_not_constant x (λ i low. zero_from (coefficient x.affine i) (λ apart. false≢true (sym (none i low) ∙ left_true _ (occurs i xs) (test_apart (coefficient x.affine i) apart)))))
  where
    zero_from : (z : ℤ) → (z ≢ pos 0 → ⊥) → z ≡ pos 0
    zero_from z h = (Decides-int_eq z (pos 0)).0 (true_from_ne_false (int_eq z (pos 0)) (λ f. h (λ is. false≢true (sym f ∙ (Decides-int_eq z (pos 0)).1 is))))

-- ---- the choice of the next place

no_side : (z : ℤ) → one_above z + one_below z ≡ 0 → z ≡ pos 0
no_side (pos zero) none = refl
no_side (pos (suc n)) none = absurd (omega arith)
no_side (negsuc n) none = absurd (omega arith)

nothing_apart : (z : ℤ) → z ≡ pos 0 → not (int_eq z (pos 0)) ≡ false
nothing_apart z is = not_from_true (int_eq z (pos 0)) ((Decides-int_eq z (pos 0)).1 is)

pub sides_none : (place : ℕ) (rows : List Row) → lowers_of place rows + uppers_of place rows ≡ 0 → occurs place rows ≡ false
sides_none place [] none = refl
sides_none place (x ∷ xs) none =
    let here : not (int_eq (coefficient x.affine place) (pos 0)) ≡ false = nothing_apart (coefficient x.affine place) (no_side (coefficient x.affine place) (omega (arith, none))) in
    let later : occurs place xs ≡ false = sides_none place xs (omega (arith, none)) in
    ap (λ t. t || occurs place xs) here ∙ later

side_some : (z : ℤ) → (one_above z + one_below z ≡ 0 → ⊥) → z ≢ pos 0
side_some z some is = some (ap (λ t. one_above t + one_below t) is)

pub sides_some : (place : ℕ) (rows : List Row) → (lowers_of place rows + uppers_of place rows ≡ 0 → ⊥) → occurs place rows ≡ true
sides_some place [] some = absurd (some refl)
sides_some place (x ∷ xs) some = ⊎_elim
    (λ (none : one_above (coefficient x.affine place) + one_below (coefficient x.affine place) ≡ 0).
    right_true (not (int_eq (coefficient x.affine place) (pos 0))) (occurs place xs) (sides_some place xs (λ e. some (omega (arith, e, none)))))
    (λ (here : 0 < one_above (coefficient x.affine place) + one_below (coefficient x.affine place)).
    left_true _ (occurs place xs) (test_apart (coefficient x.affine place) (side_some (coefficient x.affine place) (λ e. absurd (omega (arith, e, here))))))
    (eq-zero-or-pos (one_above (coefficient x.affine place) + one_below (coefficient x.affine place)))

pub occurs_positive : (rows : List Row) (place : ℕ) → place < 16 → occurs place rows ≡ true → 0 < occurring_below 16 rows
occurs_positive rows place low some =
    let less = occurring_lt 16 [] rows place low (λ i inside is. absurd (false≢true is)) refl some in
    omega (arith, less)
