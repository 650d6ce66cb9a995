use Rattle.std.proofs.Common.{◌≡◌, ◌<◌, arith}
use Rattle.decision_tree.specs.Plans.{size_of}
use Rattle.tree_unify.specs.Shapes.{trimmed}
use Rattle.tree_unify.specs.declared.fault.TreeFault.TheVariants.{Full as TooFull, Wide as TooWide}
use Rattle.tree_arena.specs.Trees.{tree_at}
use Rattle.arena_builders.proofs.trimming.trim_in.Goals as goal

pub returns-in-Ok-clause-tree : goal.returns-in-Ok-clause-tree
returns-in-Ok-clause-tree g c = (rw c.in_ok-follow.ensures at c.in-Ok.ensures).tree

pub returns-in-Ok-clause-fits : goal.returns-in-Ok-clause-fits
returns-in-Ok-clause-fits g c = (rw c.in_ok-follow.ensures at c.in-Ok.ensures).fits

pub returns-clause-full : goal.returns-clause-full
returns-clause-full g c count is =
    let same : c.lay_in.new.walk.fault ≡ TooFull count = cc in
    let more = (rw c.in_ok-follow.ensures at c.in-Err.ensures).full count same in
    let apart = more.1 tt in
    let large : 65536 < size_of (trimmed g.R.PartialEq.eq c.args.path.now (tree_at c.args.arena.now c.args.tree.place)) = omega arith in
    (more.0, large)

pub returns-clause-wide : goal.returns-clause-wide
returns-clause-wide g c w is =
    let same : c.lay_in.new.walk.fault ≡ TooWide w = cc in
    (rw c.in_ok-follow.ensures at c.in-Err.ensures).wide w same
