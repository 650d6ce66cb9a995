use Rattle.std.proofs.Common.{◌≡◌, ◌+◌, ◌∷◌, drop, ap, sym, ◌∙◌}
use Rattle.std.proofs.lemmas.List.{drop_all}
use Rattle.concrete_syntax.specs.Mirror.{name as name_of, names as names_of, parameters as parameters_tree}
use Rattle.elaboration.specs.Elaborates.{parameters_of}
use Rattle.elaboration.proofs.Listed.{declared_first, declared_on, all_declared}
use Rattle.elaboration.proofs.Walks.{drop_next}
use Rattle.elaboration.proofs.function.parameters.Goals as goal

pub loop-name-init : goal.loop-name-init
loop-name-init c =
    let all = parameters_of (parameters_tree c.args.tree.now) in
    let is : all ≡ name_of c.in-Named.first ∷ names_of c.deref-name-items.result.now =
    ap (λ t. parameters_of (parameters_tree t)) c.in-Named.is ∙ ap (λ l. name_of c.in-Named.first ∷ names_of l) (sym c.deref-name-items.ensures.value)
    in
    declared_on c.args.walk.now c.parameter.new.walk c.args.walk.now (name_of c.in-Named.first) (names_of c.deref-name-items.result.now) all all
    c.in_ok-parameter.ensures is (declared_first c.args.walk.now all)

pub loop-name-preserved : goal.loop-name-preserved
loop-name-preserved c =
    let items = c.deref-name-items.result.now in
    let i = c.loop-name.name-index in
    let item = c.name-item.result in
    declared_on c.loop-name.walk c.parameter-in-loop-name.new.walk c.args.walk.now (name_of item) (names_of (drop (i + 1) items)) (names_of (drop i items))
    (parameters_of (parameters_tree c.args.tree.now)) c.in_ok-parameter-2.ensures
    (ap names_of (drop_next items i item c.loop-name-test.true c.name-item.is)) c.loop-name.invariant

pub returns-after-loop-name : goal.returns-after-loop-name
returns-after-loop-name c =
    let items = c.deref-name-items.result.now in
    let done = drop_all c.loop-name.name-index items c.loop-name-test.false in
    all_declared c.loop-name.walk c.args.walk.now (names_of (drop c.loop-name.name-index items)) (parameters_of (parameters_tree c.args.tree.now))
    (ap names_of done) c.loop-name.invariant
