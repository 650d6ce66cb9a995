use Rattle.std.proofs.Common.{◌+◌, ◌∷◌, drop, refl, ap}
use Rattle.std.proofs.lemmas.List.{drop_all}
use Rattle.concrete_syntax.specs.Mirror.{part as part_of, parts as parts_of}
use Rattle.elaboration.specs.Statements.{part_walked, parts_walked}
use Rattle.elaboration.specs.Walking.{context_of}
use Rattle.elaboration.proofs.Walks.{step_on, drop_next, all_gone, all_added}
use Rattle.elaboration.proofs.simple.declaration.Goals as goal

pub loop-more-init : goal.loop-more-init
loop-more-init c =
    let first = c.args.walk.now in
    let item = part_of c.args.tree.now.part in
    let rest = parts_of c.args.tree.now.more.items in
    rw (c.deref-more-items.ensures.value)
    (step_on first c.part.new.walk first c.args.out.now.items c.part.new.out.items c.args.out.now.items
    (part_walked (context_of c.args.context) first.scope item) (λ s. parts_walked (context_of c.args.context) s rest) (parts_walked (context_of c.args.context) first.scope (item ∷ rest)) (parts_walked (context_of c.args.context) first.scope (item ∷ rest))
    c.in_ok-part.ensures.gone c.in_ok-part.ensures.added refl
    record { reads = refl; goes = refl; finds = refl; makes = refl; stands = refl; levels = refl })

pub loop-more-preserved : goal.loop-more-preserved
loop-more-preserved c =
    let now = c.loop-more.walk in
    let item = c.more-item.result in
    let items = c.deref-more-items.result.now in
    let i = c.loop-more.more-index in
    let made = c.in_ok-part-2.ensures in
    step_on now c.part-in-loop-more.new.walk _ c.loop-more.out.items c.part-in-loop-more.new.out.items _
    (part_walked (context_of c.args.context) now.scope (part_of item)) (λ s. parts_walked (context_of c.args.context) s (parts_of (drop (i + 1) items)))
    (parts_walked (context_of c.args.context) now.scope (parts_of (drop i items))) _
    made.gone made.added
    (ap (λ t. parts_walked (context_of c.args.context) now.scope (parts_of t)) (drop_next items i item c.loop-more-test.true c.more-item.is))
    c.loop-more.invariant

pub returns-clause-gone : goal.returns-clause-gone
returns-clause-gone c =
    let items = c.deref-more-items.result.now in
    let done = drop_all c.loop-more.more-index items c.loop-more-test.false in
    all_gone c.loop-more.walk c.args.walk.now c.loop-more.out.items c.args.out.now.items
    (parts_walked (context_of c.args.context) c.args.walk.now.scope (part_of c.args.tree.now.part ∷ parts_of c.args.tree.now.more.items)) (rw done at c.loop-more.invariant)

pub returns-clause-added : goal.returns-clause-added
returns-clause-added c =
    let items = c.deref-more-items.result.now in
    let done = drop_all c.loop-more.more-index items c.loop-more-test.false in
    all_added c.loop-more.walk c.args.walk.now c.loop-more.out.items c.args.out.now.items
    (parts_walked (context_of c.args.context) c.args.walk.now.scope (part_of c.args.tree.now.part ∷ parts_of c.args.tree.now.more.items)) (rw done at c.loop-more.invariant)
