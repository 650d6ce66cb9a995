-- What checked operations answer is what the definitions name.
use Rattle.std.proofs.Common.{◌≡◌, ℕ, ◌<◌, ◌⊎◌, inl, inr, ℤ, pos, Option, Some, None, refl, sym, ap, ◌∙◌, Result, Ok, Err, OkIff, SomeIff, int_div, subst}
use Rattle.std.specs.Bool.{Decides}
use Rattle.std.specs.Int.{CanDivide, IsNonZero, w128}
use Rattle.linear_forms.specs.declared.product.Reach.{Reach}
use Rattle.linear_forms.specs.declared.product.Reach.TheVariants.{Below, Above}
use Rattle.linear_forms.specs.Sides.{Reaches}
use Rattle.std.proofs.lemmas.Bool.Decides.{Decides-and, Decides-below_and, Decides-like}
use Rattle.linear_cons.specs.declared.affine.Affine.{Affine}
use Rattle.linear_cons.specs.declared.bounds.Linear.{Linear}
use Rattle.linear_cons.specs.declared.exact.Wide.{Wide}
use Rattle.linear_cons.specs.Functions.{NumbersFit, IsConstant, coefficient, constant_of}
use Rattle.linear_cons.specs.Numbers.{Fits128}
use Rattle.linear_cons.proofs.Places.{number_at_places}
use Rattle.linear_cons.proofs.RowLaws.{affine_eq-Decides}
use Rattle.linear_cons.specs.Ends.{exact_end, fits}
use Rattle.linear_cons.proofs.KnownEnds.{fits_decides, is_false, known_end, unknown_end, when_not, when_so}
use Rattle.linear_forms.specs.Spreading.{fitting}
use Rattle.linear_forms.specs.Linearising.{all_below, numbers_fit, with_ends, unknown, is_same}

-- ---- what the tests decide

pub numbers_fit_decides : (a : Affine) → Decides (numbers_fit a) (NumbersFit a)
unfolding all_below
numbers_fit_decides a =
    Decides-like _
    (λ (both : ((place : ℕ) → place < 16 → Fits128 (coefficient a place)) × Fits128 a.constant). record { coefficients = both.0; constants = both.1 })
    (λ fit. (fit.coefficients, fit.constants))
    (Decides-and _ _
    (Decides-below_and (λ place. fits (coefficient a place)) (λ place. Fits128 (coefficient a place)) (λ n. all_below n (λ place. fits (coefficient a place)))
    (λ place. fits_decides (coefficient a place)) refl (λ _. refl) 16)
    (fits_decides a.constant))

pub is_same_decides : (a b : Affine) → Decides (is_same a b) (a ≡ b)
is_same_decides a b = affine_eq-Decides a b

pub constant_form_is : (a : Affine) → a ≡ constant_of a.constant → IsConstant a
constant_form_is a is place low = ap (λ t. coefficient t place) is ∙ number_at_places (λ i. pos 0) place low

-- ---- what is answered

pub with_ends_fit : (a : Affine) (lo hi : Option ℤ) → NumbersFit a → with_ends a lo hi ≡ record { affine = a; lo = lo; hi = hi }
with_ends_fit a lo hi fit = when_so (numbers_fit a) _ unknown ((numbers_fit_decides a).1 fit)

pub with_ends_wide : (a : Affine) (lo hi : Option ℤ) → ¬ NumbersFit a → with_ends a lo hi ≡ unknown
with_ends_wide a lo hi wide = when_not (numbers_fit a) (record { affine = a; lo = lo; hi = hi }) unknown (is_false (numbers_fit a) (NumbersFit a) (numbers_fit_decides a) wide)

pub formed : (r : Result Affine Wide) (x a : Affine) (lo hi : Option ℤ) → r ≡ Ok x → OkIff r (NumbersFit a) a → record { affine = x; lo = lo; hi = hi } ≡ with_ends a lo hi
formed r x a lo hi is h =
    let k = rw is at h in
    ap (λ (t : Affine). let form : Linear = record { affine = t; lo = lo; hi = hi } in form) k.1 ∙ sym (with_ends_fit a lo hi k.0)

pub unformed : (r : Result Affine Wide) (x : Wide) (a : Affine) (lo hi : Option ℤ) → r ≡ Err x → OkIff r (NumbersFit a) a → unknown ≡ with_ends a lo hi
unformed r x a lo hi is h =
    let k = rw is at h in
    sym (with_ends_wide a lo hi k)

-- ---- numbers that are known by their side where they don't fit

pub at_end : (x z : ℤ) → (x ≡ z) × Fits128 z → Some x ≡ exact_end z
at_end x z h = ap Some h.0 ∙ sym (known_end z h.1)

pub outside_end : (z : ℤ) → ¬ Fits128 z → ◌≡◌ {A = Option ℤ} None (exact_end z)
outside_end z h = sym (unknown_end z h)

pub unreached : (r : Reach) (z : ℤ) → (r ≡ Below) ⊎ (r ≡ Above) → Reaches r z → ◌≡◌ {A = Option ℤ} None (exact_end z)
unreached r z (inl is) h = let beyond = rw is at h in outside_end z beyond.0
unreached r z (inr is) h = let beyond = rw is at h in outside_end z beyond.0

-- ---- functions whose numbers fit

pub fitted : (r : Result Affine Wide) (x a : Affine) → r ≡ Ok x → OkIff r (NumbersFit a) a → Some x ≡ fitting a
fitted r x a is h =
    let k = rw is at h in
    ap Some k.1 ∙ sym (when_so (numbers_fit a) (Some a) None ((numbers_fit_decides a).1 k.0))

pub unfitted : (r : Result Affine Wide) (x : Wide) (a : Affine) → r ≡ Err x → OkIff r (NumbersFit a) a → ◌≡◌ {A = Option Affine} None (fitting a)
unfitted r x a is h =
    let k = rw is at h in
    sym (when_not (numbers_fit a) (Some a) None (is_false (numbers_fit a) (NumbersFit a) (numbers_fit_decides a) k))

-- ---- quotients

pub divided_end : (r : Option ℤ) (z b : ℤ) → IsNonZero w128 b → SomeIff r (CanDivide w128 z b) (int_div z b) → r ≡ exact_end (int_div z b)
divided_end (Some x) z b some h = ap Some h.1 ∙ sym (known_end (int_div z b) h.0.1)
divided_end None z b some h = sym (unknown_end (int_div z b) (λ fit. h (some, fit)))

pub divided_as : (r : Option ℤ) (z b y d : ℤ) → y ≡ z → d ≡ b → IsNonZero w128 b → SomeIff r (CanDivide w128 y d) (int_div y d) → r ≡ exact_end (int_div z b)
divided_as r z b y d one two some h =
    divided_end r z b some (subst (λ t. SomeIff r (CanDivide w128 z t) (int_div z t)) two (subst (λ t. SomeIff r (CanDivide w128 t d) (int_div t d)) one h))
