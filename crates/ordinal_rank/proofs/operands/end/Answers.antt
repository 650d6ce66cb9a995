use Rattle.ordinal_rank.proofs.operands.end.Goals as goal

pub returns : goal.returns
returns c label = rw c.of.ensures (c.loop.invariant label)
