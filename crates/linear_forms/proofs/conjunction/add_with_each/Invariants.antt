use Rattle.std.proofs.Common.{◌≡◌, ◌++◌, take, map}
use Rattle.linear_forms.proofs.conjunction.add_with_each.Given as goal

-- the conjunction with each of those so far was added
abbrev pub invariant-loop-other : goal.invariant-loop-other
invariant-loop-other l = l.list.items ≡ l.initial.list.items ++ map (λ other. l.rows ++ other) (take l.other-index l.second)
