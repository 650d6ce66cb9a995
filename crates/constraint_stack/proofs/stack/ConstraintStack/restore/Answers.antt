use Rattle.std.proofs.Common.{◌∙◌, arith}
use Rattle.constraint_stack.proofs.Shortening.{shorter, shortened_take}
use Rattle.constraint_stack.proofs.stack.ConstraintStack.restore.Goals as goal

pub loop-self-smaller : goal.loop-self-smaller
loop-self-smaller c =
    let depth = c.depth.ensures in
    let deep = c.loop-self-test.true in
    shorter c.args.checkpoint.rows c.loop-self.self.rows c.up.new.self (omega (arith, depth, deep)) c.up.ensures.shortened

pub loop-self-preserved : goal.loop-self-preserved
loop-self-preserved c =
    let depth = c.depth.ensures in
    let deep = c.loop-self-test.true in (
      shortened_take c.args.checkpoint.rows c.loop-self.self.rows c.up.new.self (omega (arith, depth, deep)) c.up.ensures.shortened ∙ c.loop-self.invariant.0,
      c.loop-self.invariant.1,
    )
