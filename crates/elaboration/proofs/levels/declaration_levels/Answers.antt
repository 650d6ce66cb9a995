use Rattle.std.proofs.Common.{ap, arith}
use Rattle.std.proofs.lemmas.List.{drop_all}
use Rattle.concrete_syntax.specs.Mirror.{optional_value, parts as parts_of}
use Rattle.elaboration.specs.Levels.{parts_levels}
use Rattle.elaboration.proofs.Deepest.{initialiser_above}
use Rattle.elaboration.proofs.Walks.{drop_next}
use Rattle.elaboration.proofs.levels.declaration_levels.Goals as goal

pub loop-part-init : goal.loop-part-init
loop-part-init c =
    let first = c.in_ok-most.ensures in
    let items = ap (λ l. parts_levels c.args.level (parts_of l)) c.deref-part-items.ensures.value in
    let above = initialiser_above c.args.level (optional_value c.args.tree.now.part.initialiser) in
    (omega (arith, first, items), omega (arith, first, above))

pub loop-part-preserved : goal.loop-part-preserved
loop-part-preserved c =
    let split =
    ap (λ l. parts_levels c.args.level (parts_of l))
    (drop_next c.deref-part-items.result.now c.loop-part.part-index c.part-item.result c.loop-part-test.true c.part-item.is)
    in
    let one = c.in_ok-initialiser_levels.ensures in
    let so_far = c.loop-part.invariant in
    (omega (arith, split, one, c.max-most.ensures, so_far.0), omega (arith, c.max-most.ensures, so_far.1))

pub returns : goal.returns
returns c =
    let done = ap (λ l. parts_levels c.args.level (parts_of l)) (drop_all c.loop-part.part-index c.deref-part-items.result.now c.loop-part-test.false) in
    let so_far = c.loop-part.invariant in
    omega (arith, done, so_far.0, so_far.1)
