use Rattle.std.proofs.Common.{◌≡◌, arith, rules}
use Rattle.std.proofs.lemmas.Int.{to_z-of_z}
use Rattle.linear_cons.specs.Functions.{coefficient}
use Rattle.linear_cons.specs.Numbers.{Fits128}
use Rattle.linear_cons.proofs.Dividing.{exact_quotient, primitive_one, primitive_quotients, quotient_more, quotient_sizes}
use Rattle.linear_cons.proofs.affine.Affine.quotient.Goals as goal

pub returns-then-divisor-eq1-clause-primitive : goal.returns-then-divisor-eq1-clause-primitive
returns-then-divisor-eq1-clause-primitive c =
    primitive_one _ (rw c.if-divisor-eq1.true at c.requires.greatest)

pub loop-place-preserved : goal.loop-place-preserved
loop-place-preserved c =
    let number : Fits128 (coefficient c.args.self.now c.loop-place.place) = search rules in
    let result : Fits128 c.floor_quotient.result = search rules in
    let low = simp to_z-of_z at c.floor_quotient.ensures.at_most in
    let high = simp to_z-of_z at c.floor_quotient.ensures.below_next in
    simp to_z-of_z
    (quotient_more _ _ _ _ _ (omega arith) c.loop-place.invariant
    (exact_quotient _ _ _ c.requires.positive (c.requires.greatest.divides c.loop-place.place (omega arith)) low high))

pub returns : goal.returns
returns c =
    let number : Fits128 c.args.self.now.constant = search rules in
    let result : Fits128 c.floor_quotient-2.result = search rules in
    let low = simp to_z-of_z at c.floor_quotient-2.ensures.at_most in
    let high = simp to_z-of_z at c.floor_quotient-2.ensures.below_next in
    let all : c.loop-place.place ≡ 16 = omega arith in
    let quotients = rw all at c.loop-place.invariant in
    simp to_z-of_z (record {
      quotient = record {
        divisor = c.args.divisor;
        positive = c.requires.positive;
        places = quotients.long;
        coefficients = quotients.numbers;
        at_most = low;
        below_next = high;
      };
      primitive = primitive_quotients _ _ _ c.requires.positive c.requires.greatest (quotient_sizes _ _ _ quotients.numbers);
    })
