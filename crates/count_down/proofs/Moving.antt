-- An assignment of a loop's body changes the function that is counted down by the change that is counted.
use Rattle.std.proofs.Common.{◌≡◌, ◌≢◌, ℕ, ◌<◌, ◌==◌, if◌then◌else◌, true, false, eqb, ℤ, pos, ◌+ℤ◌, ◌-ℤ◌, ◌*ℤ◌, inl, inr, ⊎_elim, None, Some, List, length, set, refl, sym, subst, ap, ◌∙◌, arith}
use Rattle.std.proofs.lemmas.Bool.Decides.{eqb_tells}
use Rattle.std.proofs.lemmas.Int.{ints}
use Rattle.linear_cons.specs.declared.affine.Affine.{Affine}
use Rattle.linear_cons.specs.Functions.{coefficient, constant_of, value_at, without}
use Rattle.linear_cons.specs.Numbers.{number_at}
use Rattle.linear_cons.proofs.Forms.{form_apart, form_unmentioned, value_constant, value_difference, value_sum, value_variable}
use Rattle.linear_cons.proofs.Places.{number_at-clear, number_at-set}
use Rattle.linear_cons.proofs.Ring.{mul_sub, zero_mul}
use Rattle.step_meaning.specs.declared.expression.Op2.{Op2}
use Rattle.step_meaning.specs.declared.expression.Op2.TheVariants.{Add, Sub, Mul, Less, LessEqual, Greater, GreaterEqual, Equal, NotEqual, And, Or}
use Rattle.step_meaning.specs.Syntax.{Expression, number, variable, free, range, truth, negative, negation, pair, divided}
use Rattle.step_meaning.specs.Countdown.{IsShort, added, added_by, amount, change_by, form_of}
use Rattle.step_meaning.specs.Turns.{MayAssign}
use Rattle.step_meaning.proofs.FunctionLaws.{form_of_difference, form_of_sum}

nothing_added : (op : Op2) → ¬ IsShort (added_by op None)
nothing_added Add h = h
nothing_added Sub h = h
nothing_added Mul h = h
nothing_added Less h = h
nothing_added LessEqual h = h
nothing_added Greater h = h
nothing_added GreaterEqual h = h
nothing_added Equal h = h
nothing_added NotEqual h = h
nothing_added And h = h
nothing_added Or h = h

no_literal : {A : Type 0} (op : Op2) (x y : ℕ) → IsShort (if x == y then added_by op None else None) → A
no_literal op x y h = ⊎_elim
    (λ (same : (eqb x y ≡ true) × (x ≡ y)). absurd (nothing_added op (rw same.0 at h)))
    (λ (apart : (eqb x y ≡ false) × (x ≢ y)). absurd (let none : IsShort None = rw apart.0 at h in none))
    (eqb_tells x y)

-- what a sum or a difference with a literal to its right has at a store
literal_value : (op : Op2) (x : ℕ) (z : ℤ) (store : List ℤ) → x < 16 → IsShort (added_by op (Some z))
    → value_at (form_of (pair op (variable x) (number z))) store ≡ number_at store x +ℤ amount (added_by op (Some z))
literal_value Add x z store low h =
    ap (λ t. value_at t store) (sym (form_of_sum (variable x) (number z)))
    ∙ value_sum (form_of (variable x)) (form_of (number z)) store
    ∙ ap (λ t. t +ℤ value_at (constant_of z) store) (value_variable x store low)
    ∙ ap (λ t. number_at store x +ℤ t) (value_constant z store)
literal_value Sub x z store low h =
    ap (λ t. value_at t store) (sym (form_of_difference (variable x) (number z)))
    ∙ value_difference (form_of (variable x)) (form_of (number z)) store
    ∙ ap (λ t. t -ℤ value_at (constant_of z) store) (value_variable x store low)
    ∙ ap (λ t. number_at store x -ℤ t) (value_constant z store)
literal_value other x z store low h = absurd h

-- a literal is added by an assignment of `x + c` or `x - c` alone
pub short_form : (x : ℕ) (v : Expression) → IsShort (added x v)
    → (op : Op2) × (z : ℤ) × (v ≡ pair op (variable x) (number z)) × IsShort (added_by op (Some z))
short_form x (pair op (variable y) (number z)) h = ⊎_elim
    (λ (same : (eqb x y ≡ true) × (x ≡ y)).
    let own : IsShort (added_by op (Some z)) = rw same.0 at h in
    (op, z, ap (λ t. pair op (variable t) (number z)) (sym same.1), own))
    (λ (apart : (eqb x y ≡ false) × (x ≢ y)). absurd (let none : IsShort None = rw apart.0 at h in none))
    (eqb_tells x y)
short_form x (pair op (variable y) (variable w)) h = no_literal op x y h
short_form x (pair op (variable y) free) h = no_literal op x y h
short_form x (pair op (variable y) (range lo hi)) h = no_literal op x y h
short_form x (pair op (variable y) (truth b)) h = no_literal op x y h
short_form x (pair op (variable y) (negative e)) h = no_literal op x y h
short_form x (pair op (variable y) (negation c)) h = no_literal op x y h
short_form x (pair op (variable y) (pair other l r)) h = no_literal op x y h
short_form x (pair op (variable y) (divided division e z)) h = no_literal op x y h
short_form x other h = absurd h

eqb_same : (x : ℕ) → eqb x x ≡ true
eqb_same x = ⊎_elim
    (λ (same : (eqb x x ≡ true) × (x ≡ x)). same.0)
    (λ (apart : (eqb x x ≡ false) × (x ≢ x)). absurd (apart.1 refl))
    (eqb_tells x x)

added_value : (x : ℕ) (v : Expression) (store : List ℤ) → x < 16 → IsShort (added x v)
    → value_at (form_of v) store ≡ number_at store x +ℤ amount (added x v)
added_value x v store low h =
    let found = short_form x v h in
    subst (λ t. value_at (form_of t) store ≡ number_at store x +ℤ amount (added x t)) (sym found.2)
    (rw (eqb_same x) (literal_value found.0 x found.1 store low found.3))

-- ---- the value behind an assignment
module _ (e : Affine) (x : ℕ) (store : List ℤ) (long : length store ≡ 16) (low : x < 16) where
  inside : x < length store
  inside = omega arith

  value_set : (z : ℤ) → value_at e (set store x z) ≡ value_at e store +ℤ coefficient e x *ℤ (z -ℤ number_at store x)
  value_set z =
      let none : coefficient (without e x) x ≡ pos 0 = number_at-clear e.coef x x ∙ rw (eqb_same x) refl in
      let there : number_at (set store x z) x ≡ z = number_at-set store x x z inside ∙ rw (eqb_same x) refl in
      let rest : value_at (without e x) (set store x z) ≡ value_at (without e x) store = form_unmentioned (without e x) x store
      (pos 1) z inside none in
      let behind : value_at e (set store x z) ≡ value_at (without e x) (set store x z) +ℤ coefficient e x *ℤ number_at (set store x z) x =
      form_apart e x (set store x z) (pos 1) low in
      let before : value_at e store ≡ value_at (without e x) store +ℤ coefficient e x *ℤ number_at store x = form_apart e x store (pos 1) low in
      let product = ap (λ t. coefficient e x *ℤ t) there in
      let spread = mul_sub (coefficient e x) z (number_at store x) in
      omega (arith, ints)

  -- an assignment that a counting statement may make changes the function by the change that is counted
  pub changes : (v : Expression) → MayAssign e x v → value_at e (set store x (value_at (form_of v) store)) ≡ value_at e store +ℤ change_by e x v
  changes v (inl none) =
      value_set (value_at (form_of v) store)
      ∙ rw (none, zero_mul (value_at (form_of v) store -ℤ number_at store x), zero_mul (amount (added x v))) refl
  changes v (inr short) =
      let is = added_value x v store low short in
      let more : value_at (form_of v) store -ℤ number_at store x ≡ amount (added x v) = omega (arith, ints) in
      value_set (value_at (form_of v) store) ∙ ap (λ t. value_at e store +ℤ coefficient e x *ℤ t) more
