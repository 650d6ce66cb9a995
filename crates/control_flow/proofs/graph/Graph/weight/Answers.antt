use Rattle.std.proofs.Common.{◌≡◌, ◌+◌, suc, subst, arith}
use Rattle.step_meaning.specs.Syntax.{statements}
use Rattle.control_flow.specs.Measures.{IsWeight}
use Rattle.control_flow.specs.Sizing.{HasSizes}
use Rattle.control_flow.proofs.graph.Graph.weight.Goals as goal

pub loop-preserved : goal.loop-preserved
loop-preserved c =
    let body = statements c.args.self.now.body in
    let one : suc c.loop.counter ≡ c.loop.counter + 1 = omega arith in
    let count = c.next_sizes.ensures.count in
    let room = c.loop.invariant.0 in (
      omega (arith, count, room),
      subst (λ n. HasSizes body n c.next_sizes.new.sizes) one (c.next_sizes.ensures.sizes c.loop.counter c.loop.invariant.1),
    )

pub returns : goal.returns
returns c =
    let body = statements c.args.self.now.body in
    let end = c.loop-test.false in
    let most = c.loop.auto.counter-end in
    let last : c.loop.counter ≡ c.args.tests = omega (arith, end, most) in
    subst (λ n. IsWeight body n c.weight_of.result) last (c.weight_of.ensures c.loop.counter c.loop.invariant.1)
