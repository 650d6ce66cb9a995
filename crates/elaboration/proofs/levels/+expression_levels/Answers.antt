use Rattle.std.proofs.Common.{arith}
use Rattle.concrete_syntax.specs.Mirror.{tail as tail_of}
use Rattle.elaboration.proofs.Deepest.{from_first, tail_above}
use Rattle.elaboration.proofs.levels.+expression_levels.Goals as goal

pub tail_levels-loop-left-init : goal.tail_levels-loop-left-init
tail_levels-loop-left-init t c = (from_first c.args.level _ (tail_above c.args.level (tail_of c.args.tree.now)), omega arith, omega arith)
