use Rattle.std.proofs.Common.{◌≡◌, ap, ◌∙◌, sym, negsuc, SFits, to_z-of_z, rules}
use Rattle.step_meaning.specs.declared.expression.Op2.TheVariants.{Add, Sub, Mul}
use Rattle.step_meaning.specs.Syntax.{expression, negative, pair}
use Rattle.std.specs.Int.{w128}
use Rattle.linear_cons.specs.Functions.{difference_of, multiple_of, sum_of}
use Rattle.step_meaning.specs.Countdown.{form_of}
use Rattle.linear_forms.proofs.AffineForms.{form_of_difference, form_of_negative, form_of_sum, scaled_left, scaled_right, whole_of_one, whole_of_two}
use Rattle.linear_forms.proofs.linear.+affine_of.Goals as goal

pub returns-in_ok-affine_of-in-Neg-clause-exact : goal.returns-in_ok-affine_of-in-Neg-clause-exact
returns-in_ok-affine_of-in-Neg-clause-exact t c =
    let split : expression c.args.expr.now ≡ negative (expression c.deref.result.now) = rw c.deref.ensures (ap expression c.in-Neg.is) in
    let exact = c.in_ok-affine_of-in-Neg.ensures.exact in
    rw split (whole_of_one _ _ (negative (expression c.deref.result.now)) exact.0 (ap (λ f. multiple_of f (negsuc 0)) exact.1 ∙ form_of_negative (expression c.deref.result.now)) c.scale.ensures.exact)

pub returns-in-Add-clause-exact : goal.returns-in-Add-clause-exact
returns-in-Add-clause-exact t c =
    let split : expression c.args.expr.now ≡ pair Add (expression c.deref-in-Pair.result.now) (expression c.deref-in-Pair-2.result.now) =
    rw (c.deref-in-Pair.ensures, c.deref-in-Pair-2.ensures, ← c.in-Add.is) (ap expression c.in-Pair.is) in
    let left = c.in_ok-left-in-Pair.ensures.exact in
    let right = c.in_ok-right-in-Pair.ensures.exact in
    rw split
    (whole_of_two _ _ (pair Add (expression c.deref-in-Pair.result.now) (expression c.deref-in-Pair-2.result.now)) left.0 right.0
    (ap (λ f. sum_of f c.in_ok-right-in-Pair.right) left.1 ∙ ap (sum_of (form_of (expression c.deref-in-Pair.result.now))) right.1 ∙ form_of_sum (expression c.deref-in-Pair.result.now) (expression c.deref-in-Pair-2.result.now)) c.add.ensures.exact)

pub returns-in-Sub-clause-exact : goal.returns-in-Sub-clause-exact
returns-in-Sub-clause-exact t c =
    let split : expression c.args.expr.now ≡ pair Sub (expression c.deref-in-Pair.result.now) (expression c.deref-in-Pair-2.result.now) =
    rw (c.deref-in-Pair.ensures, c.deref-in-Pair-2.ensures, ← c.in-Sub.is) (ap expression c.in-Pair.is) in
    let left = c.in_ok-left-in-Pair.ensures.exact in
    let right = c.in_ok-right-in-Pair.ensures.exact in
    rw split
    (whole_of_two _ _ (pair Sub (expression c.deref-in-Pair.result.now) (expression c.deref-in-Pair-2.result.now)) left.0 right.0
    (ap (λ f. difference_of f c.in_ok-right-in-Pair.right) left.1 ∙ ap (difference_of (form_of (expression c.deref-in-Pair.result.now))) right.1 ∙ form_of_difference (expression c.deref-in-Pair.result.now) (expression c.deref-in-Pair-2.result.now)) c.sub.ensures.exact)

pub returns-in-Mul-clause-exact : goal.returns-in-Mul-clause-exact
returns-in-Mul-clause-exact t c =
    let split : expression c.args.expr.now ≡ pair Mul (expression c.deref-in-Pair.result.now) (expression c.deref-in-Pair-2.result.now) =
    rw (c.deref-in-Pair.ensures, c.deref-in-Pair-2.ensures, ← c.in-Mul.is) (ap expression c.in-Pair.is) in
    let left = c.in_ok-left-in-Pair.ensures.exact in
    let right = c.in_ok-right-in-Pair.ensures.exact in
    let range : SFits w128 c.in_ok-left-in-Pair.left.constant = search rules in
    let scaled = simp to_z-of_z at c.scale-in-Mul.ensures.exact in
    rw split
    (whole_of_two _ _ (pair Mul (expression c.deref-in-Pair.result.now) (expression c.deref-in-Pair-2.result.now)) left.0 right.0
    (scaled_right (expression c.deref-in-Pair.result.now) (expression c.deref-in-Pair-2.result.now) _ _ left.1 right.1 (sym c.is_constant.ensures ∙ c.if-is_constant.true)) scaled)

pub returns-in-Mul-2-clause-exact : goal.returns-in-Mul-2-clause-exact
returns-in-Mul-2-clause-exact t c =
    let split : expression c.args.expr.now ≡ pair Mul (expression c.deref-in-Pair.result.now) (expression c.deref-in-Pair-2.result.now) =
    rw (c.deref-in-Pair.ensures, c.deref-in-Pair-2.ensures, ← c.in-Mul-2.is) (ap expression c.in-Pair.is) in
    let left = c.in_ok-left-in-Pair.ensures.exact in
    let right = c.in_ok-right-in-Pair.ensures.exact in
    let affine = rw split at c.requires.affine in
    let range : SFits w128 c.in_ok-right-in-Pair.right.constant = search rules in
    let scaled = simp to_z-of_z at c.scale-in-Mul-2.ensures.exact in
    rw split
    (whole_of_two _ _ (pair Mul (expression c.deref-in-Pair.result.now) (expression c.deref-in-Pair-2.result.now)) left.0 right.0
    (scaled_left (expression c.deref-in-Pair.result.now) (expression c.deref-in-Pair-2.result.now) _ _ left.1 right.1 affine.2 (sym c.is_constant.ensures ∙ c.if-is_constant.false)) scaled)
