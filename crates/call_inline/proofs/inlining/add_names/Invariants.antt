use Rattle.std.proofs.Common.{◌≡◌, ◌++◌, drop, map, vec_items}
use Rattle.call_inline.proofs.Naming.{behind_all}
use Rattle.call_inline.proofs.inlining.add_names.Given as goal

-- the names so far and those that are left make all
abbrev pub invariant-loop-name : goal.invariant-loop-name
invariant-loop-name l = map vec_items l.list.items ++ behind_all l.before (map vec_items (drop l.name-index l.names))
    ≡ map vec_items l.initial.list.items ++ behind_all l.before (map vec_items l.names)
