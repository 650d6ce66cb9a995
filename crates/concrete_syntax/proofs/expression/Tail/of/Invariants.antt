use Rattle.std.proofs.Common.{◌≡◌, vec_len}
use Rattle.concrete_syntax.specs.Trees.{ended}
use Rattle.concrete_syntax.specs.Mirror.{tail, links}
use Rattle.concrete_syntax.specs.Chains.{tail_of}
use Rattle.concrete_syntax.proofs.expression.Tail.of.Given as goal

-- the links still in the list, and then those that are made, are all
abbrev pub invariant-loop-link : goal.invariant-loop-link
invariant-loop-link l = tail_of (links l.fn.list.items) ended ≡ tail_of (links l.list.items) (tail l.made)

abbrev pub decreases-loop-link : goal.decreases-loop-link
decreases-loop-link l = vec_len l.list
