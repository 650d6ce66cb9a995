-- The laws of the linear form: of sums, differences, multiples, substitutions and quotients.
use Rattle.std.proofs.Common.{◌≡◌, ◌≢◌, ℕ, zero, suc, ◌<◌, ◌≤◌, ℤ, pos, negsuc, ◌+ℤ◌, ◌-ℤ◌, ◌*ℤ◌, true, false, cond, eqb, List, length, set, refl, sym, ap, ◌∙◌, arith, ⊎_elim}
use Rattle.std.proofs.lemmas.Int.{ints}
use Rattle.std.proofs.lemmas.Bool.Decides.{eqb_tells}
use Rattle.linear_cons.specs.Numbers.{number_at, at_places}
use Rattle.linear_cons.specs.LinearForm.{products_below, linear_form}
use Rattle.linear_cons.specs.Functions.{coefficient, form_at, value_at, constant_of, variable_at, sum_of, difference_of, multiple_of, without, products_added, substituted, complement_of}
use Rattle.linear_cons.specs.declared.affine.Affine.{Affine}
use Rattle.linear_cons.proofs.Places.{eqb_apart, number_at_places, number_at-set, number_at-clear, length-at_places, places-ext}
use Rattle.linear_cons.proofs.Ring.{mul_add, add_mul, sub_mul, mul_assoc, mul_commutes, mul_one, one_mul, mul_zero, zero_add, add_zero, zero_mul}

-- ---- sums of products

pub products_same : (n : ℕ) (cs ds xs ys : List ℤ) → ((i : ℕ) → i < n → number_at cs i *ℤ number_at xs i ≡ number_at ds i *ℤ number_at ys i) → products_below n cs xs ≡ products_below n ds ys
unfolding products_below
products_same zero cs ds xs ys same = refl
products_same (suc n) cs ds xs ys same =
    let before : products_below n cs xs ≡ products_below n ds ys = products_same n cs ds xs ys (λ i h. same i (omega arith)) in
    let here : number_at cs n *ℤ number_at xs n ≡ number_at ds n *ℤ number_at ys n = same n (omega arith) in
    rw (before, here) refl

pub products_sum : (n : ℕ) (cs us vs num : List ℤ) → ((i : ℕ) → i < n → number_at cs i ≡ number_at us i +ℤ number_at vs i) → products_below n cs num ≡ products_below n us num +ℤ products_below n vs num
unfolding products_below
products_sum zero cs us vs num sums = refl
products_sum (suc n) cs us vs num sums =
    let before : products_below n cs num ≡ products_below n us num +ℤ products_below n vs num = products_sum n cs us vs num (λ i h. sums i (omega arith)) in
    let here : number_at cs n ≡ number_at us n +ℤ number_at vs n = sums n (omega arith) in
    rw (before, here, add_mul (number_at us n) (number_at vs n) (number_at num n)) (omega (arith, ints))

pub products_difference : (n : ℕ) (cs us vs num : List ℤ) → ((i : ℕ) → i < n → number_at cs i ≡ number_at us i -ℤ number_at vs i) → products_below n cs num ≡ products_below n us num -ℤ products_below n vs num
unfolding products_below
products_difference zero cs us vs num differences = refl
products_difference (suc n) cs us vs num differences =
    let before : products_below n cs num ≡ products_below n us num -ℤ products_below n vs num = products_difference n cs us vs num (λ i h. differences i (omega arith)) in
    let here : number_at cs n ≡ number_at us n -ℤ number_at vs n = differences n (omega arith) in
    rw (before, here, sub_mul (number_at us n) (number_at vs n) (number_at num n)) (omega (arith, ints))

pub products_multiple : (n : ℕ) (cs us num : List ℤ) (by : ℤ) → ((i : ℕ) → i < n → number_at cs i ≡ by *ℤ number_at us i) → products_below n cs num ≡ by *ℤ products_below n us num
unfolding products_below
products_multiple zero cs us num by multiples = sym (mul_zero by)
products_multiple (suc n) cs us num by multiples =
    let before : products_below n cs num ≡ by *ℤ products_below n us num = products_multiple n cs us num by (λ i h. multiples i (omega arith)) in
    let here : number_at cs n ≡ by *ℤ number_at us n = multiples n (omega arith) in
    rw (before, here, mul_assoc by (number_at us n) (number_at num n), mul_add by (products_below n us num) (number_at us n *ℤ number_at num n)) refl

pub products_zero : (n : ℕ) (cs num : List ℤ) → ((i : ℕ) → i < n → number_at cs i ≡ pos 0) → products_below n cs num ≡ pos 0
unfolding products_below
products_zero zero cs num noughts = refl
products_zero (suc n) cs num noughts =
    let before : products_below n cs num ≡ pos 0 = products_zero n cs num (λ i h. noughts i (omega arith)) in
    let here : number_at cs n ≡ pos 0 = noughts n (omega arith) in
    rw (before, here, zero_mul (number_at num n)) refl

-- a single one picks the number at its place
pub products_unit : (n place : ℕ) (cs num : List ℤ) → place < n → ((i : ℕ) → i < n → number_at cs i ≡ cond (eqb i place) (pos 1) (pos 0)) → products_below n cs num ≡ number_at num place
unfolding products_below
products_unit zero place cs num low unit = absurd (omega arith)
products_unit (suc n) place cs num low unit = ⊎_elim
    (λ (same : (eqb n place ≡ true) × (n ≡ place)).
    let before : products_below n cs num ≡ pos 0 = products_zero n cs num (λ i h. unit i (omega arith) ∙ ap (λ t. cond t (pos 1) (pos 0)) (eqb_apart i place (omega (arith, same.1)))) in
    let here : number_at cs n ≡ pos 1 = unit n (omega arith) ∙ ap (λ t. cond t (pos 1) (pos 0)) same.0 in
    rw (before, here, one_mul (number_at num n), same.1) (omega (arith, ints)))
    (λ (apart : (eqb n place ≡ false) × (n ≢ place)).
    let before : products_below n cs num ≡ number_at num place = products_unit n place cs num (omega (arith, apart.1)) (λ i h. unit i (omega arith)) in
    let here : number_at cs n ≡ pos 0 = unit n (omega arith) ∙ ap (λ t. cond t (pos 1) (pos 0)) apart.0 in
    rw (before, here, zero_mul (number_at num n)) (omega (arith, ints)))
    (eqb_tells n place)

-- below the place, the number there and its coefficient do not count
products_apart : (n place : ℕ) (cs num : List ℤ) (z : ℤ) → n ≤ place → place < length num → products_below n cs (set num place z) ≡ products_below n (set cs place (pos 0)) num
products_apart n place cs num z low inside =
    products_same n cs (set cs place (pos 0)) (set num place z) num (λ i h.
    let apart : eqb i place ≡ false = eqb_apart i place (omega arith) in
    rw (number_at-set num place i z inside, number_at-clear cs place i, apart) refl)

-- a number set at a place adds its own product to those of the others
pub products_set : (n place : ℕ) (cs num : List ℤ) (z : ℤ) → place < n → place < length num → products_below n cs (set num place z) ≡ products_below n (set cs place (pos 0)) num +ℤ number_at cs place *ℤ z
unfolding products_below
products_set zero place cs num z low inside = absurd (omega arith)
products_set (suc n) place cs num z low inside = ⊎_elim
    (λ (same : (eqb n place ≡ true) × (n ≡ place)).
    rw (products_apart n place cs num z (omega (arith, same.1)) inside, number_at-set num place n z inside, number_at-clear cs place n, same.0, same.1, zero_mul (number_at num place)) (omega (arith, ints)))
    (λ (apart : (eqb n place ≡ false) × (n ≢ place)).
    rw (products_set n place cs num z (omega (arith, apart.1)) inside, number_at-set num place n z inside, number_at-clear cs place n, apart.0) (omega (arith, ints)))
    (eqb_tells n place)

-- ---- linear forms

pub form_constant : (c : ℤ) (num : List ℤ) (den : ℤ) → form_at (constant_of c) num den ≡ c *ℤ den
unfolding linear_form
form_constant c num den =
    rw (products_zero 16 (at_places (λ i. pos 0)) num (λ i h. number_at_places (λ i. pos 0) i h)) (omega (arith, ints))

pub form_variable : (place : ℕ) (num : List ℤ) (den : ℤ) → place < 16 → form_at (variable_at place) num den ≡ number_at num place
unfolding linear_form
form_variable place num den low =
    rw (products_unit 16 place (variable_at place).coef num low (λ i h. number_at_places (λ i. cond (eqb i place) (pos 1) (pos 0)) i h), zero_mul den) (omega (arith, ints))

pub form_sum : (a b : Affine) (num : List ℤ) (den : ℤ) → form_at (sum_of a b) num den ≡ form_at a num den +ℤ form_at b num den
unfolding linear_form
form_sum a b num den =
    rw (products_sum 16 (sum_of a b).coef a.coef b.coef num (λ i h. number_at_places (λ i. coefficient a i +ℤ coefficient b i) i h), add_mul a.constant b.constant den) (omega (arith, ints))

pub form_difference : (a b : Affine) (num : List ℤ) (den : ℤ) → form_at (difference_of a b) num den ≡ form_at a num den -ℤ form_at b num den
unfolding linear_form
form_difference a b num den =
    rw (products_difference 16 (difference_of a b).coef a.coef b.coef num (λ i h. number_at_places (λ i. coefficient a i -ℤ coefficient b i) i h), sub_mul a.constant b.constant den) (omega (arith, ints))

pub form_multiple : (a : Affine) (by : ℤ) (num : List ℤ) (den : ℤ) → form_at (multiple_of a by) num den ≡ by *ℤ form_at a num den
unfolding linear_form
form_multiple a by num den =
    rw (products_multiple 16 (multiple_of a by).coef a.coef num by (λ i h. number_at_places (λ i. coefficient a i *ℤ by) i h ∙ mul_commutes (coefficient a i) by), mul_commutes a.constant by, mul_assoc by a.constant den, mul_add by (products_below 16 a.coef num) (a.constant *ℤ den)) refl

-- the form without a place, with that place's product apart
form_rest : (a : Affine) (place : ℕ) (num : List ℤ) (den z : ℤ) → place < 16 → place < length num → form_at (without a place) num den +ℤ coefficient a place *ℤ z ≡ form_at a (set num place z) den
unfolding linear_form
form_rest a place num den z low inside = rw (products_set 16 place a.coef num z low inside) (omega (arith, ints))

-- to put a function in for a variable is to set its place to the function's value
pub form_substituted : (a : Affine) (place : ℕ) (by : Affine) (num : List ℤ) (den : ℤ) → place < 16 → place < length num → form_at (substituted a place by) num den ≡ form_at a (set num place (form_at by num den)) den
form_substituted a place by num den low inside =
    rw (form_sum (without a place) (products_added a place by) num den, form_multiple by (coefficient a place) num den) (form_rest a place num den (form_at by num den) low inside)

pub form_complement : (e : Affine) (num : List ℤ) (den : ℤ) → form_at (complement_of e) num den ≡ negsuc 0 *ℤ den -ℤ form_at e num den
form_complement e num den =
    form_difference (constant_of (negsuc 0)) e num den ∙ ap (λ t. t -ℤ form_at e num den) (form_constant (negsuc 0) num den)

-- ---- values at stores

pub value_constant : (c : ℤ) (store : List ℤ) → value_at (constant_of c) store ≡ c
value_constant c store = form_constant c store (pos 1) ∙ mul_one c

pub value_variable : (place : ℕ) (store : List ℤ) → place < 16 → value_at (variable_at place) store ≡ number_at store place
value_variable place store low = form_variable place store (pos 1) low

pub value_sum : (a b : Affine) (store : List ℤ) → value_at (sum_of a b) store ≡ value_at a store +ℤ value_at b store
value_sum a b store = form_sum a b store (pos 1)

pub value_difference : (a b : Affine) (store : List ℤ) → value_at (difference_of a b) store ≡ value_at a store -ℤ value_at b store
value_difference a b store = form_difference a b store (pos 1)

pub value_multiple : (a : Affine) (by : ℤ) (store : List ℤ) → value_at (multiple_of a by) store ≡ by *ℤ value_at a store
value_multiple a by store = form_multiple a by store (pos 1)

pub value_substituted : (a : Affine) (place : ℕ) (by : Affine) (store : List ℤ) → place < 16 → place < length store → value_at (substituted a place by) store ≡ value_at a (set store place (value_at by store))
value_substituted a place by store low inside = form_substituted a place by store (pos 1) low inside

pub value_complement : (e : Affine) (store : List ℤ) → value_at (complement_of e) store ≡ negsuc 0 -ℤ value_at e store
value_complement e store = form_complement e store (pos 1)

-- ---- the same function

-- the form reads the sixteen places and nothing else
pub form_same : (a b : Affine) (num other : List ℤ) (den : ℤ) → ((i : ℕ) → i < 16 → coefficient a i ≡ coefficient b i) → a.constant ≡ b.constant → ((i : ℕ) → i < 16 → number_at num i ≡ number_at other i) → form_at a num den ≡ form_at b other den
unfolding linear_form
form_same a b num other den coefs constants nums =
    rw (products_same 16 a.coef b.coef num other (λ i h. rw (coefs i h, nums i h) refl), constants) refl

-- the products may be read either way
products_swap : (n : ℕ) (xs ys : List ℤ) → products_below n xs ys ≡ products_below n ys xs
products_swap n xs ys = products_same n xs ys ys xs (λ i h. mul_commutes (number_at xs i) (number_at ys i))

-- the value where every number is 0
pub value_origin : (a : Affine) → value_at a (at_places (λ i. pos 0)) ≡ a.constant
unfolding linear_form
value_origin a =
    rw (products_swap 16 a.coef (at_places (λ i. pos 0)), products_zero 16 (at_places (λ i. pos 0)) a.coef (λ i h. number_at_places (λ i. pos 0) i h), mul_one a.constant) (zero_add a.constant)

-- the value where a single number is 1 and the others are 0
pub value_unit : (a : Affine) (place : ℕ) → place < 16 → value_at a (variable_at place).coef ≡ coefficient a place +ℤ a.constant
unfolding linear_form
value_unit a place low =
    rw (products_swap 16 a.coef (variable_at place).coef, products_unit 16 place (variable_at place).coef a.coef low (λ i h. number_at_places (λ i. cond (eqb i place) (pos 1) (pos 0)) i h), mul_one a.constant) refl

-- functions with the same values have the same numbers
pub same_constant : (a b : Affine) → ((store : List ℤ) → length store ≡ 16 → value_at a store ≡ value_at b store) → a.constant ≡ b.constant
same_constant a b same =
    sym (value_origin a) ∙ same (at_places (λ i. pos 0)) (length-at_places (λ i. pos 0)) ∙ value_origin b

pub same_coefficient : (a b : Affine) → ((store : List ℤ) → length store ≡ 16 → value_at a store ≡ value_at b store) → (i : ℕ) → i < 16 → coefficient a i ≡ coefficient b i
same_coefficient a b same i low =
    let constants : a.constant ≡ b.constant = same_constant a b same in
    let units : value_at a (variable_at i).coef ≡ value_at b (variable_at i).coef = same (variable_at i).coef (length-at_places (λ j. cond (eqb j i) (pos 1) (pos 0))) in
    let left = value_unit a i low in
    let right = value_unit b i low in
    omega (arith, ints)

pub affine_of_parts : (a b : Affine) → a.coef ≡ b.coef → a.constant ≡ b.constant → a ≡ b
affine_of_parts a b coefs constants =
    ap (λ (t : List ℤ). let f : Affine = record { coef = t; constant = a.constant } in f) coefs
    ∙ ap (λ (t : ℤ). let f : Affine = record { coef = b.coef; constant = t } in f) constants

-- functions with the same numbers at the sixteen places are one
pub affine_same : (a b : Affine) → length a.coef ≡ 16 → length b.coef ≡ 16 → ((i : ℕ) → i < 16 → coefficient a i ≡ coefficient b i) → a.constant ≡ b.constant → a ≡ b
affine_same a b long other coefs constants =
    affine_of_parts a b (places-ext a.coef b.coef long other coefs) constants

-- a function is its values
pub affine_ext : (a b : Affine) → length a.coef ≡ 16 → length b.coef ≡ 16 → ((store : List ℤ) → length store ≡ 16 → value_at a store ≡ value_at b store) → a ≡ b
affine_ext a b long other same =
    affine_same a b long other (same_coefficient a b same) (same_constant a b same)

-- a place whose coefficient is 0 may hold any number
pub form_unmentioned : (a : Affine) (place : ℕ) (num : List ℤ) (den z : ℤ) → place < length num → coefficient a place ≡ pos 0 → form_at a (set num place z) den ≡ form_at a num den
unfolding linear_form
form_unmentioned a place num den z inside none =
    ap (λ t. t +ℤ a.constant *ℤ den) (products_same 16 a.coef a.coef (set num place z) num (λ i h. ⊎_elim
    (λ (same : (eqb i place ≡ true) × (i ≡ place)). rw (same.1, none, zero_mul (number_at (set num place z) place), zero_mul (number_at num place)) refl)
    (λ (apart : (eqb i place ≡ false) × (i ≢ place)). rw (number_at-set num place i z inside, apart.0) refl)
    (eqb_tells i place)))

-- a form is that without a place and the place's product
pub form_apart : (a : Affine) (place : ℕ) (num : List ℤ) (den : ℤ) → place < 16 → form_at a num den ≡ form_at (without a place) num den +ℤ coefficient a place *ℤ number_at num place
unfolding linear_form
form_apart a place num den low =
    let own : List ℤ = at_places (λ i. cond (eqb i place) (coefficient a place) (pos 0)) in
    let parts : (i : ℕ) → i < 16 → coefficient a i ≡ coefficient (without a place) i +ℤ number_at own i =
    λ i h. rw (number_at_places (λ i. cond (eqb i place) (coefficient a place) (pos 0)) i h, number_at-clear a.coef place i) (⊎_elim
    (λ (same : (eqb i place ≡ true) × (i ≡ place)). rw (same.0, same.1) (sym (zero_add (coefficient a place))))
    (λ (apart : (eqb i place ≡ false) × (i ≢ place)). rw apart.0 (sym (add_zero (coefficient a i))))
    (eqb_tells i place)) in
    let multiples : (i : ℕ) → i < 16 → number_at own i ≡ coefficient a place *ℤ coefficient (variable_at place) i =
    λ i h. rw (number_at_places (λ i. cond (eqb i place) (coefficient a place) (pos 0)) i h, number_at_places (λ i. cond (eqb i place) (pos 1) (pos 0)) i h) (⊎_elim
    (λ (same : (eqb i place ≡ true) × (i ≡ place)). rw same.0 (sym (mul_one (coefficient a place))))
    (λ (apart : (eqb i place ≡ false) × (i ≢ place)). rw apart.0 (sym (mul_zero (coefficient a place))))
    (eqb_tells i place)) in
    rw (products_sum 16 a.coef (without a place).coef own num parts, products_multiple 16 own (variable_at place).coef num (coefficient a place) multiples, products_unit 16 place (variable_at place).coef num low (λ i h. number_at_places (λ i. cond (eqb i place) (pos 1) (pos 0)) i h)) (omega (arith, ints))
