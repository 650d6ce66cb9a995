use Rattle.std.proofs.Common.{◌≡◌, ◌++◌, ap}
use Rattle.std.proofs.lemmas.Result.{on_ok_weaker}
use Rattle.typed_expressions.specs.Expressions.{mixed_in, mixed_operands}
use Rattle.typed_expressions.specs.Grouping.{node}
use Rattle.typed_expressions.specs.Typing.{typed_of, grouping_of}
use Rattle.typed_expressions.proofs.Finding.{both_found}
use Rattle.typed_expressions.proofs.grouping.Grouping.+valuing.Goals as goal

pub returns-in_ok-right-in-Pair-clause-value : goal.returns-in_ok-right-in-Pair-clause-value
returns-in_ok-right-in-Pair-clause-value t c =
    let is : grouping_of c.args.self ≡ node c.in-Pair.op (grouping_of c.into_inner.result) (grouping_of c.into_inner-in-Pair.result) =
    rw (c.into_inner.ensures, c.into_inner-in-Pair.ensures) (ap grouping_of c.in-Pair.is)
    in
    rw (is, ← c.in_ok-left-in-Pair.ensures.value, ← c.in_ok-right-in-Pair.ensures.value) c.pair.ensures.value

pub returns-in_ok-right-in-Pair-clause-found : goal.returns-in_ok-right-in-Pair-clause-found
returns-in_ok-right-in-Pair-clause-found t c =
    let left = grouping_of c.into_inner.result in
    let right = grouping_of c.into_inner-in-Pair.result in
    let is : grouping_of c.args.self ≡ node c.in-Pair.op left right =
    rw (c.into_inner.ensures, c.into_inner-in-Pair.ensures) (ap grouping_of c.in-Pair.is)
    in
    let mixed = mixed_operands c.in-Pair.op (typed_of c.in_ok-left-in-Pair.left) (typed_of c.in_ok-right-in-Pair.right) in
    rw (is, ← c.in_ok-left-in-Pair.ensures.value, ← c.in_ok-right-in-Pair.ensures.value)
    (on_ok_weaker c.pair.result
    (λ found. both_found c.args.walk.now c.value.new.walk c.pair.new.walk (mixed_in left) (mixed_in right ++ mixed) c.in_ok-left-in-Pair.ensures.found
    (both_found c.value.new.walk c.value-in-Pair.new.walk c.pair.new.walk (mixed_in right) mixed c.in_ok-right-in-Pair.ensures.found found))
    c.pair.ensures.found)
