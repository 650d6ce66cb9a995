use Rattle.std.proofs.Common.{◌≡◌, [], drop}
use Rattle.call_inline.specs.Levels.{deep_call}
use Rattle.call_inline.proofs.nesting.check_nesting.Given as goal

-- the levels so far and the functions that are left make the same call of all
abbrev pub invariant-loop-func : goal.invariant-loop-func
invariant-loop-func l = deep_call l.levels.items (drop l.func-index l.funcs) l.body ≡ deep_call [] l.funcs l.body
