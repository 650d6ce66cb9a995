-- What assignments of one's own number say of `x0 = x0 + 3`.
use Rattle.std.proofs.Common.{◌≡◌, ◌<◌, ℤ, pos, ◌+ℤ◌, List, arith, eqb, cond, refl, set, ◌∙◌, ap, unsigned_abs}
use Rattle.std.specs.Bool.{⊤}
use Rattle.std.proofs.lemmas.Int.{ints}
use Rattle.linear_cons.specs.declared.bounds.Linear.{Linear}
use Rattle.linear_cons.specs.Ends.{exactly}
use Rattle.linear_cons.specs.Functions.{coefficient, value_at, variable_at}
use Rattle.linear_cons.specs.Numbers.{at_places, number_at}
use Rattle.linear_cons.proofs.Forms.{value_variable}
use Rattle.linear_cons.proofs.Places.{eqb_apart, length-at_places, number_at_places}
use Rattle.linear_cons.proofs.Sums.{value_is}
use Rattle.octagon_dom.specs.Assignments.{ComesFromAssigned, IsStepOf}
use Rattle.octagon_dom.proofs.Members.{number_here}

abbrev three_more : Linear
three_more = exactly (record { coef = (variable_at 0).coef; constant = pos 3 })

factor : (i : _) → i < 16 → coefficient three_more.affine i ≡ cond (eqb i 0) (pos 1) (pos 0)
factor i low = number_at_places (λ i. cond (eqb i 0) (pos 1) (pos 0)) i low

value : (store : List ℤ) → value_at three_more.affine store ≡ number_at store 0 +ℤ pos 3
value store =
    let own = value_variable 0 store (omega arith) in
    let same = value_is (variable_at 0).coef (pos 0) store in
    let more = value_is (variable_at 0).coef (pos 3) store in
    omega (arith, ints)

-- a step of the place 0, and none of another
step_of_own : IsStepOf 0 three_more
step_of_own = record {
  unit = ap unsigned_abs (factor 0 (omega arith));
  alone = λ i low away. factor i low ∙ ap (λ t. cond t (pos 1) (pos 0)) (eqb_apart i 0 away);
  rest = pos 0;
  lower = refl;
  upper = refl;
  step = omega arith;
}

step_of_other : ¬ IsStepOf 1 three_more
step_of_other step =
    let unit = step.unit in
    let nought = factor 1 (omega arith) in
    omega (arith, ints)

-- 4 comes from 1, and not every number does
moved : ComesFromAssigned 0 three_more (λ store. number_at store 0 ≡ pos 1) (λ store. number_at store 0 ≡ pos 4)
moved store long is =
    let here = number_here store 0 (pos 1) long (omega arith) in
    let sum = value (set store 0 (pos 1)) in
    (pos 1, here, record { lower = omega (arith, ints); upper = omega (arith, ints) })

forgotten : ¬ ComesFromAssigned 0 three_more (λ store. number_at store 0 ≡ pos 1) (λ store. ⊤)
forgotten comes =
    let noughts = at_places (λ i. pos 0) in
    let long = length-at_places (λ i. pos 0) in
    let is = number_at_places (λ i. pos 0) 0 (omega arith) in
    let from = comes noughts long tt in
    let sum = value (set noughts 0 from.0) in
    let was = from.1 in
    let upper = from.2.lower in
    omega (arith, ints)
