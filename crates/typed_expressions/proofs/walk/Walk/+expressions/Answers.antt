use Rattle.std.proofs.lemmas.Result.{on_ok_weaker}
use Rattle.concrete_syntax.specs.Mirror.{tail as tail_of}
use Rattle.typed_expressions.specs.Expressions.{tail_faults, mixed_in}
use Rattle.typed_expressions.specs.Typing.{grouping_of}
use Rattle.typed_expressions.proofs.Finding.{both_found}
use Rattle.typed_expressions.proofs.walk.Walk.+expressions.Goals as goal

pub grouped-returns-clause-typed : goal.grouped-returns-clause-typed
grouped-returns-clause-typed t c =
    let is = rw c.in_default.is at c.loop-left.invariant.2 in
    rw (← is) c.value.ensures.value

pub grouped-returns-clause-found : goal.grouped-returns-clause-found
grouped-returns-clause-found t c =
    let first = c.args.self.now in
    let so_far = c.loop-left.invariant in
    let is = rw c.in_default.is at so_far.2 in
    let least = rw c.in_default.is at so_far.3 in
    rw (← is)
    (on_ok_weaker c.value.result
    (both_found first c.loop-left.self c.value.new.walk (tail_faults first.scope (tail_of c.args.tail.now)) (mixed_in (grouping_of c.loop-left.group))
    (so_far.0, so_far.1, least))
    c.value.ensures.found)
