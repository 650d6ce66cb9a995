use Rattle.std.proofs.Common.{◌≡◌, ◌++◌, drop, length, map, vec_items}
use Rattle.call_meaning.specs.Tables.{all_qualified, whole_names}
use Rattle.call_inline.proofs.inlining.whole_names.Given as goal

-- the names so far and those of the functions that are left make all
abbrev pub invariant-loop-function : goal.invariant-loop-function
invariant-loop-function l =
    map vec_items l.list.items ++ all_qualified (drop (length l.yielded) l.unit.func_names) (drop (length l.yielded) l.unit.funcs)
    ≡ whole_names l.unit.func_names l.unit.funcs l.unit.names
