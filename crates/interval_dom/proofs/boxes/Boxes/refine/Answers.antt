use Rattle.std.proofs.Common.{◌≡◌, length, subst, arith, rules}
use Rattle.interval_dom.specs.Boxes.{IsPartFor}
use Rattle.interval_dom.specs.Laws.BoxLaws.{interval_at}
use Rattle.interval_dom.proofs.BoxLaws.{refined_alone, refined_ends, refined_inside, refined_keeps, refined_more, refined_none}
use Rattle.interval_dom.proofs.boxes.Boxes.refine.Goals as goal

pub loop-place-init : goal.loop-place-init
loop-place-init c =
    let long : length c.args.self.now.intervals ≡ 16 = search rules in
    refined_none _ _ long

pub loop-place-preserved : goal.loop-place-preserved
loop-place-preserved c =
    let range = interval_at c.loop-place.self c.loop-place.place in
    let own = subst (λ b. IsPartFor c.args.row.now b c.loop-place.place range c.part_for.result) c.ends-before.ensures c.part_for.ensures in
    refined_more _ _ _ _ _ (omega arith) c.loop-place.invariant own

pub returns-clause-keeps : goal.returns-clause-keeps
returns-clause-keeps c =
    let all : c.loop-place.place ≡ 16 = omega arith in
    refined_keeps _ _ _ (rw all at c.loop-place.invariant)

pub returns-clause-inside : goal.returns-clause-inside
returns-clause-inside c =
    let all : c.loop-place.place ≡ 16 = omega arith in
    refined_inside _ _ _ (rw all at c.loop-place.invariant)

pub returns-clause-alone : goal.returns-clause-alone
returns-clause-alone c =
    let all : c.loop-place.place ≡ 16 = omega arith in
    refined_alone _ _ _ (rw all at c.loop-place.invariant)

pub returns-clause-refined : goal.returns-clause-refined
returns-clause-refined c =
    let all : c.loop-place.place ≡ 16 = omega arith in
    refined_ends _ _ _ (rw all at c.loop-place.invariant)
