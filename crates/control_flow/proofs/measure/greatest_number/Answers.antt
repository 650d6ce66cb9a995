use Rattle.std.proofs.Common.{◌≡◌, suc, ◌+◌, max, unsigned_abs, SFits, to_z-of_z, rules, ap, ◌∙◌, arith}
use Rattle.std.specs.Int.{w128}
use Rattle.linear_cons.specs.Functions.{coefficient}
use Rattle.control_flow.specs.Growth.{greatest_number}
use Rattle.control_flow.specs.Measures.{greatest_below}
use Rattle.control_flow.proofs.measure.greatest_number.Goals as goal

pub loop-place-preserved : goal.loop-place-preserved
loop-place-preserved c =
    let a = c.args.function.now in
    let place = c.loop-place.place in
    let range : SFits w128 (coefficient a place) = search rules in
    let size : c.unsigned_abs.result ≡ unsigned_abs (coefficient a place) = simp to_z-of_z at c.unsigned_abs.ensures.value in
    let one : suc place ≡ place + 1 = omega arith in
    c.max-most.ensures ∙ ap (λ t. max t c.unsigned_abs.result) c.loop-place.invariant
    ∙ ap (λ t. max (greatest_below (λ i. unsigned_abs (coefficient a i)) place) t) size ∙ ap (greatest_below (λ i. unsigned_abs (coefficient a i))) one

pub returns : goal.returns
unfolding greatest_number
returns c =
    let a = c.args.function.now in
    let range : SFits w128 a.constant = search rules in
    let size : c.unsigned_abs-2.result ≡ unsigned_abs a.constant = simp to_z-of_z at c.unsigned_abs-2.ensures.value in
    let end = c.loop-place-test.false in
    let most = c.loop-place.auto.place-end in
    let last : c.loop-place.place ≡ 16 = omega (arith, end, most) in
    c.max.ensures ∙ ap (λ t. max t c.unsigned_abs-2.result) (c.loop-place.invariant ∙ ap (greatest_below (λ i. unsigned_abs (coefficient a i))) last)
    ∙ ap (λ t. max (greatest_below (λ i. unsigned_abs (coefficient a i)) 16) t) size
