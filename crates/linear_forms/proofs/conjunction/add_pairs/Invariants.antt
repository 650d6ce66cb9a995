use Rattle.std.proofs.Common.{◌≡◌, ◌++◌, take}
use Rattle.linear_forms.specs.Spreading.{pairs}
use Rattle.linear_forms.proofs.conjunction.add_pairs.Given as goal

-- the pairs of the conjunctions so far were added
abbrev pub invariant-loop-rows : goal.invariant-loop-rows
invariant-loop-rows l = l.list.items ≡ l.initial.list.items ++ pairs (take l.rows-index l.first) l.second
