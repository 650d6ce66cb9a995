use Rattle.std.proofs.Common.{◌≡◌, ap, ◌∙◌, inl, inr, SFits, to_z-of_z, rules, arith}
use Rattle.std.proofs.lemmas.Grind.{common_steps}
use Rattle.std.specs.Int.{w128}
use Rattle.linear_cons.specs.declared.affine.Affine.{Affine}
use Rattle.linear_cons.specs.Functions.{difference_of, multiple_of, sum_of}
use Rattle.step_meaning.specs.declared.expression.Op2.TheVariants.{Add, Sub, Mul}
use Rattle.step_meaning.specs.Syntax.{expression, negative, pair}
use Rattle.step_meaning.specs.Naming.{HasNoName}
use Rattle.step_meaning.specs.Countdown.{form_of}
use Rattle.step_meaning.proofs.FunctionLaws.{answered_negative, answered_pair, form_of_difference, form_of_sum, product_with_left, product_with_right}
use Rattle.step_meaning.proofs.function.+function_of.Goals as goal

pub returns-in-Some : goal.returns-in-Some
returns-in-Some t c =
    let split : expression c.args.expr.now ≡ negative (expression c.deref.result.now) = rw c.deref.ensures (ap expression c.in-Neg.is) in
    let own = c.in-Some.ensures in
    rw split (answered_negative _ _ (expression c.deref.result.now) own.0 own.1 (c.exact.ensures _ c.scale.ensures.exact))

pub returns-in-Add : goal.returns-in-Add
returns-in-Add t c =
    let split : expression c.args.expr.now ≡ pair Add (expression c.deref-in-Pair.result.now) (expression c.deref-in-Pair-2.result.now) =
    rw (c.deref-in-Pair.ensures, c.deref-in-Pair-2.ensures, ← c.in-Add.is) (ap expression c.in-Pair.is) in
    let left = c.in-Some-Some.ensures in
    let right = c.in-Some-Some.ensures' in
    rw split
    (answered_pair _ _ Add (expression c.deref-in-Pair.result.now) (expression c.deref-in-Pair-2.result.now) left.0 right.0 tt
    (ap (λ f. sum_of f c.in-Some-Some.second) left.1 ∙ ap (sum_of (form_of (expression c.deref-in-Pair.result.now))) right.1 ∙ form_of_sum (expression c.deref-in-Pair.result.now) (expression c.deref-in-Pair-2.result.now))
    (c.exact-in-Add.ensures _ c.add.ensures.exact))

pub returns-in-Sub : goal.returns-in-Sub
returns-in-Sub t c =
    let split : expression c.args.expr.now ≡ pair Sub (expression c.deref-in-Pair.result.now) (expression c.deref-in-Pair-2.result.now) =
    rw (c.deref-in-Pair.ensures, c.deref-in-Pair-2.ensures, ← c.in-Sub.is) (ap expression c.in-Pair.is) in
    let left = c.in-Some-Some.ensures in
    let right = c.in-Some-Some.ensures' in
    rw split
    (answered_pair _ _ Sub (expression c.deref-in-Pair.result.now) (expression c.deref-in-Pair-2.result.now) left.0 right.0 tt
    (ap (λ f. difference_of f c.in-Some-Some.second) left.1 ∙ ap (difference_of (form_of (expression c.deref-in-Pair.result.now))) right.1 ∙ form_of_difference (expression c.deref-in-Pair.result.now) (expression c.deref-in-Pair-2.result.now))
    (c.exact-in-Sub.ensures _ c.sub.ensures.exact))

pub returns-in-Mul : goal.returns-in-Mul
returns-in-Mul t c =
    let split : expression c.args.expr.now ≡ pair Mul (expression c.deref-in-Pair.result.now) (expression c.deref-in-Pair-2.result.now) =
    rw (c.deref-in-Pair.ensures, c.deref-in-Pair-2.ensures, ← c.in-Mul.is) (ap expression c.in-Pair.is) in
    let left = c.in-Some-Some.ensures in
    let right = c.in-Some-Some.ensures' in
    let none : HasNoName (expression c.deref-in-Pair.result.now) = search rules in
    let range : SFits w128 c.in-Some-Some.first.constant = search rules in
    let scaled = simp to_z-of_z at c.scale-in-Mul.ensures.exact in
    rw split
    (answered_pair _ _ Mul (expression c.deref-in-Pair.result.now) (expression c.deref-in-Pair-2.result.now) left.0 right.0 (inl none)
    (ap (λ f. multiple_of f c.in-Some-Some.first.constant) right.1 ∙ ap (λ (f : Affine). multiple_of (form_of (expression c.deref-in-Pair-2.result.now)) f.constant) left.1 ∙ product_with_left (expression c.deref-in-Pair.result.now) (expression c.deref-in-Pair-2.result.now) none)
    (c.exact-in-Mul.ensures _ scaled))

pub returns-in-Mul-2 : goal.returns-in-Mul-2
returns-in-Mul-2 t c =
    let split : expression c.args.expr.now ≡ pair Mul (expression c.deref-in-Pair.result.now) (expression c.deref-in-Pair-2.result.now) =
    rw (c.deref-in-Pair.ensures, c.deref-in-Pair-2.ensures, ← c.in-Mul-2.is) (ap expression c.in-Pair.is) in
    let left = c.in-Some-Some.ensures in
    let right = c.in-Some-Some.ensures' in
    let none : HasNoName (expression c.deref-in-Pair-2.result.now) = search rules in
    let range : SFits w128 c.in-Some-Some.second.constant = search rules in
    let scaled = simp to_z-of_z at c.scale-in-Mul-2.ensures.exact in
    rw split
    (answered_pair _ _ Mul (expression c.deref-in-Pair.result.now) (expression c.deref-in-Pair-2.result.now) left.0 right.0 (inr none)
    (ap (λ f. multiple_of f c.in-Some-Some.second.constant) left.1 ∙ ap (λ (f : Affine). multiple_of (form_of (expression c.deref-in-Pair.result.now)) f.constant) right.1 ∙ product_with_right (expression c.deref-in-Pair.result.now) (expression c.deref-in-Pair-2.result.now) none)
    (c.exact-in-Mul-2.ensures _ scaled))

pub returns-in-Number : goal.returns-in-Number
returns-in-Number c = grind (arith, common_steps)

pub returns-in-Name : goal.returns-in-Name
returns-in-Name c = grind (arith, common_steps)
