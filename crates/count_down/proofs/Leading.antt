-- Assignments before a loop: how large the function is that is carried back over them, and how many they are.
use Rattle.std.proofs.Common.{◌≡◌, ℕ, ◌+◌, ◌*◌, ◌^◌, ◌<◌, ◌≤◌, sym, ap, ◌∙◌, arith}
use Rattle.std.proofs.Math.Nat.{mul_assoc, mul_comm, mul-le-mul, le_refl, suc-mul}
use Rattle.linear_cons.specs.declared.affine.Affine.{Affine}
use Rattle.linear_cons.specs.declared.row.Row.{Row}
use Rattle.linear_cons.proofs.Sizes.{sizes_fit, sizes_grown, sizes_products, sizes_substituted}
use Rattle.linear_cons.specs.Sizes.{SizesAtMost, total_size}
use Rattle.step_meaning.specs.Counts.{before, none}
use Rattle.step_meaning.specs.Countdown.{CountsFrom, change_by, form_of}
use Rattle.step_meaning.specs.Syntax.{Expression, Statements, assign, skip, return, break, continue, if_else, while_loop, do_while, empty, sequence, size_of}
use Rattle.count_down.specs.Building.{AreShort, IsCarried, IsLed, IsModest, lead_of}
use Rattle.count_down.specs.Candidates.{carried, last_of_loop, nothing, steps_before, turn_of_loop, turn_steps}
use Rattle.step_meaning.specs.Valid.{IsBody}
use Rattle.count_down.proofs.Measured.{most_before}
use Rattle.count_down.proofs.Modest.{small_sizes}

-- ---- sizes

-- the product of the factors of the assignments before the loop
abbrev factors : Statements → ℕ
factors (sequence (assign x v) more) = (1 + total_size (form_of v)) * factors more
factors _ = 1

factors_small : (row : Row) (p : ℕ) (s : Statements) → p ≤ 2 ^ 60 → CountsFrom row p s → p * factors s ≤ 2 ^ 60
factors_small row p (sequence (assign x v) more) small counts =
    let later = factors_small row (p * (1 + total_size (form_of v))) more counts.2 counts.3 in
    rw mul_assoc at later
factors_small row p (sequence (while_loop test body step) more) small counts = omega arith
factors_small row p other small counts = absurd counts

-- how large the function is before the assignments
abbrev pub size_before : Statements → ℕ
size_before s = 2 ^ 31 * factors s

grown : (a f : ℕ) → 2 ^ 31 * ((1 + a) * f) ≡ 2 ^ 31 * f + a * (2 ^ 31 * f)
grown a f =
    let turned : a * (2 ^ 31 * f) ≡ 2 ^ 31 * (a * f) = sym (mul_assoc a (2 ^ 31) f) ∙ ap (λ t. t * f) (mul_comm a (2 ^ 31)) ∙ mul_assoc
    (2 ^ 31) a f in
    let whole : (1 + a) * f ≡ f + a * f = omega (arith, suc-mul a f) in
    omega arith

sizes_carried : (row : Row) (p vars : ℕ) (s : Statements) → CountsFrom row p s → vars ≤ 15 → IsBody vars s
    → SizesAtMost (size_before s) (carried row.affine s)
sizes_carried row p vars (sequence (assign x v) more) counts few sorted =
    let own = sizes_carried row (p * (1 + total_size (form_of v))) vars more counts.3 few sorted.1 in
    let place = sorted.0.0 in
    rw (grown (total_size (form_of v)) (factors more)) (sizes_substituted (size_before more) (carried row.affine more) x (form_of v)
    (omega arith) own)
sizes_carried row p vars (sequence (while_loop test body step) more) counts few sorted = sizes_grown (2 ^ 31) (2 ^ 31 * 1) row.affine (omega arith)
    (small_sizes row.affine counts.1.small)
sizes_carried row p vars other counts few sorted = absurd counts

size_limit : (row : Row) (s : Statements) → IsLed row s → size_before s ≤ 2 ^ 91
size_limit row s led =
    let small = factors_small row led.product s led.small led.counts in
    let some = led.some in
    let own : 1 * factors s ≤ led.product * factors s = mul-le-mul some (le_refl _) in
    omega arith

-- the function that is carried back has modest numbers
pub led_modest : (row : Row) (s : Statements) → IsLed row s → IsModest (carried row.affine s)
led_modest row s led =
    sizes_grown (size_before s) (2 ^ 91) (carried row.affine s) (size_limit row s led)
    (sizes_carried row led.product led.vars s led.counts led.few led.sorted)

-- ---- numbers of steps

pub most_turn : (e : Affine) (body step : Statements) → turn_steps e body step ≤ 1 + (size_of body + size_of step)
most_turn e body step =
    let m = most_before (change_by e) body (before (change_by e) step none) in
    let n = most_before (change_by e) step none in
    omega arith

pub turn_short : (e : Affine) (s : Statements) → turn_of_loop e s ≤ size_of s
turn_short e (sequence (assign x v) more) = let later = turn_short e more in omega arith
turn_short e (sequence (while_loop test body step) more) = let most = most_turn e body step in omega arith
turn_short e (sequence skip more) = omega arith
turn_short e (sequence return more) = omega arith
turn_short e (sequence break more) = omega arith
turn_short e (sequence continue more) = omega arith
turn_short e (sequence (if_else test first second) more) = omega arith
turn_short e (sequence (do_while body test) more) = omega arith
turn_short e empty = omega arith

pub last_short : (s : Statements) → last_of_loop s ≤ size_of s
last_short (sequence (assign x v) more) = let later = last_short more in omega arith
last_short (sequence (while_loop test body step) more) = let most = most_before (change_by nothing) more none in omega arith
last_short (sequence skip more) = omega arith
last_short (sequence return more) = omega arith
last_short (sequence break more) = omega arith
last_short (sequence continue more) = omega arith
last_short (sequence (if_else test first second) more) = omega arith
last_short (sequence (do_while body test) more) = omega arith
last_short empty = omega arith

pub steps_short : (s : Statements) → steps_before s ≤ size_of s
steps_short (sequence (assign x v) more) = let later = steps_short more in omega arith
steps_short (sequence (while_loop test body step) more) = omega arith
steps_short (sequence skip more) = omega arith
steps_short (sequence return more) = omega arith
steps_short (sequence break more) = omega arith
steps_short (sequence continue more) = omega arith
steps_short (sequence (if_else test first second) more) = omega arith
steps_short (sequence (do_while body test) more) = omega arith
steps_short empty = omega arith

pub lengths_short : (e : Affine) (s : Statements) → size_of s < 1024 → AreShort (lead_of e s).lengths
lengths_short e s few = record {
  turn = let short = turn_short e s in omega arith;
  last = let short = last_short s in omega arith;
}

-- ---- an assignment before the loop
module _ (row : Row) (x : ℕ) (v : Expression) (more : Statements) (led : IsLed row (sequence (assign x v) more)) where
  pub led_behind : IsLed row more
  led_behind = record {
    vars = led.vars;
    few = led.few;
    sorted = led.sorted.1;
    product = led.product * (1 + total_size (form_of v));
    some = let some = led.some in let one : 1 ≤ 1 + total_size (form_of v) = omega arith in let product : 1 * 1 ≤ led.product *
        (1 + total_size (form_of v)) = mul-le-mul some one in omega arith;
    small = led.counts.2;
    counts = led.counts.3;
  }

  pub below : x < 16
  below = let place = led.sorted.0.0 in let few = led.few in omega arith

  pub sizes : SizesAtMost (size_before more) (carried row.affine more)
  sizes = sizes_carried row (led.product * (1 + total_size (form_of v))) led.vars more led.counts.3 led.few led.sorted.1

  pub limit : size_before more + total_size (form_of v) * size_before more ≤ 2 ^ 91
  limit = let whole = size_limit row (sequence (assign x v) more) led in let same = grown (total_size (form_of v)) (factors more) in omega arith

  pub may_carry : IsCarried (carried row.affine more) x v
  may_carry = record {
    place = below;
    affine = led.counts.0;
    fits = led.counts.1;
    put_in = record {
      products = sizes_fit (total_size (form_of v) * size_before more) _ (omega (arith, limit))
          (sizes_products (size_before more) (carried row.affine more) x (form_of v) below sizes);
      sums = sizes_fit (size_before more + total_size (form_of v) * size_before more) _ (omega (arith, limit))
          (sizes_substituted (size_before more) (carried row.affine more) x (form_of v) below sizes);
    };
  }
