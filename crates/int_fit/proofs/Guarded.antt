-- What fits behind a guard fits, and a guarded program is valid where the program is.
use Rattle.std.proofs.Common.{◌≡◌, ℕ, zero, suc, ◌+◌, ◌<◌, ◌≤◌, inl, inr, true, false, append-nil, refl, sym, ap, arith}
use Rattle.linear_cons.specs.Numbers.{number_at}
use Rattle.step_meaning.specs.declared.expression.Op2.TheVariants.{And, GreaterEqual, LessEqual}
use Rattle.step_meaning.specs.Syntax.{Statements, number, pair, truth, variable}
use Rattle.step_meaning.specs.Outcome.{MayTest, Store}
use Rattle.step_meaning.specs.Step.{Configuration, Step, items_of}
use Rattle.step_meaning.specs.Run.{Reaches, here, by_step, start}
use Rattle.step_meaning.specs.Valid.{IsBody, IsInside, IsTest}
use Rattle.int_fit.specs.Fitting.{Fits, FitsInt, FitsNow}
use Rattle.int_fit.specs.Guarding.{are_small_variables, guarded, is_small_variable}
use Rattle.int_fit.specs.Narrowing.{greatest_int, least_int}
use Rattle.int_fit.proofs.NarrowedAlike.{from_least, to_greatest}

joined : {c d e : Configuration} → Reaches c d → Reaches d e → Reaches c e
joined here more = more
joined (by_step step first) more = by_step step (joined first more)

fits_later : (c d : Configuration) → Reaches c d → Fits c → Fits d
fits_later c d reached fits = λ e more. fits e (joined reached more)

-- ---- the guard is passed where each variable is a number of 32 bits

one_small : (place : ℕ) (s : Store) → FitsInt (number_at s place) → MayTest (is_small_variable place) s true
one_small place s fits =
    let low : MayTest (pair GreaterEqual (variable place) (number least_int)) s true =
    inl (number_at s place, least_int, refl, refl, ((λ t. from_least (number_at s place) fits), (λ h. refl))) in
    let high : MayTest (pair LessEqual (variable place) (number greatest_int)) s true =
    inl (number_at s place, greatest_int, refl, refl, ((λ t. to_greatest (number_at s place) fits), (λ h. refl))) in
    inr (true, true, low, high, refl)

all_small : (count : ℕ) (s : Store) → ((place : ℕ) → place < count → FitsInt (number_at s place)) → MayTest (are_small_variables count) s true
unfolding are_small_variables
all_small zero s fits = refl
all_small (suc n) s fits = inr (true, true, all_small n s (λ place low. fits place (omega arith)), one_small n s (fits n (omega arith)), refl)

pub fits_behind : (vars : ℕ) (body : Statements) (input : Store) → vars ≤ 16 → Fits (start (guarded vars body) input) → Fits (start body input)
fits_behind vars body input few fits =
    let now : FitsNow (start (guarded vars body) input) = fits (start (guarded vars body) input) here in
    let passed : MayTest (are_small_variables vars) input true = all_small vars input (λ place low. now.store place (omega arith)) in
    let step : Step (start (guarded vars body) input) (start body input) = (inl (passed, sym (append-nil (items_of body))), refl) in
    fits_later (start (guarded vars body) input) (start body input) (by_step step here) fits

-- ---- validity

guard_is_test : (vars n : ℕ) → n ≤ vars → IsTest vars (are_small_variables n)
unfolding are_small_variables
guard_is_test vars zero low = tt
guard_is_test vars (suc n) low = (guard_is_test vars n (omega arith), ((omega arith, tt), (omega arith, tt)))

pub guarded_is_body : (vars : ℕ) (body : Statements) → IsBody vars body → IsBody vars (guarded vars body)
guarded_is_body vars body is = ((guard_is_test vars vars (omega arith), is, tt), tt)

pub guarded_inside : (vars : ℕ) (body : Statements) → IsInside false body → IsInside false (guarded vars body)
guarded_inside vars body is = ((is, tt), tt)

-- ---- one variable more

pub no_guard : are_small_variables 0 ≡ truth true
unfolding are_small_variables
no_guard = refl

pub one_more : (n : ℕ) → pair And (are_small_variables n) (is_small_variable n) ≡ are_small_variables (n + 1)
unfolding are_small_variables
one_more n = let next : suc n ≡ n + 1 = omega arith in ap are_small_variables next
