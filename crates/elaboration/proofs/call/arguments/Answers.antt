use Rattle.std.proofs.Common.{◌+◌, drop, ap}
use Rattle.std.proofs.lemmas.List.{drop_all}
use Rattle.concrete_syntax.specs.Mirror.{expression as expression_of, expressions}
use Rattle.elaboration.proofs.Listed.{met_first, met_on, all_meant, all_met}
use Rattle.elaboration.proofs.Walks.{drop_next}
use Rattle.elaboration.proofs.call.arguments.Goals as goal

pub loop-tree-init : goal.loop-tree-init
loop-tree-init c = met_first c.args.walk.now c.new-list.result.items (expressions c.args.trees.now) c.new-list.ensures.items

pub loop-tree-preserved : goal.loop-tree-preserved
loop-tree-preserved c =
    let trees = c.args.trees.now in
    let i = c.loop-tree.tree-index in
    let item = c.tree-item.result in
    met_on c.loop-tree.walk c.number.new.self c.args.walk.now c.loop-tree.list.items c.push.new.self.items c.in_ok-number.field-0 (expression_of item)
    (expressions (drop (i + 1) trees)) (expressions (drop i trees)) (expressions trees)
    c.in_ok-number.ensures.meaning c.in_ok-number.ensures.found c.in_ok-push.ensures.items
    (ap expressions (drop_next trees i item c.loop-tree-test.true c.tree-item.is)) c.loop-tree.invariant

pub returns-clause-meaning : goal.returns-clause-meaning
returns-clause-meaning c =
    let trees = c.args.trees.now in
    let done = drop_all c.loop-tree.tree-index trees c.loop-tree-test.false in
    rw (c.of.ensures)
    (all_meant c.loop-tree.walk c.args.walk.now c.loop-tree.list.items (expressions (drop c.loop-tree.tree-index trees)) (expressions trees)
    (ap expressions done) c.loop-tree.invariant)

pub returns-clause-found : goal.returns-clause-found
returns-clause-found c =
    let trees = c.args.trees.now in
    let done = drop_all c.loop-tree.tree-index trees c.loop-tree-test.false in
    all_met c.loop-tree.walk c.args.walk.now c.loop-tree.list.items (expressions (drop c.loop-tree.tree-index trees)) (expressions trees)
    (ap expressions done) c.loop-tree.invariant
