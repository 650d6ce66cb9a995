use Rattle.std.proofs.Common.{◌<◌, [], subst, sym}
use Rattle.decision_tree.specs.Plans.{Plan, size_of}
use Rattle.tree_unify.specs.Shapes.{TrimFits, trimmed}
use Rattle.tree_arena.specs.Trees.{tree_at}
use Rattle.backward_transfer.specs.Steps.{assigned}
use Rattle.backward_transfer.proofs.Making.{trimmed_small}
use Rattle.arena_builders.proofs.BuildingIn.{goes_on}
use Rattle.arena_builders.proofs.assigning.back_assign_in.Goals as goal

pub returns-in-Ok-clause-kept : goal.returns-in-Ok-clause-kept
returns-in-Ok-clause-kept g c = goes_on c.args.arena.now c.put_in.new.arena c.trim_in.new.arena c.in-Ok.ensures.kept c.trim_in.ensures.kept

pub returns-in-Ok-clause-tree : goal.returns-in-Ok-clause-tree
returns-in-Ok-clause-tree g c = rw c.in-Ok.ensures.tree.tree at c.trim_in.ensures.tree

pub returns-in-Ok-clause-rows : goal.returns-in-Ok-clause-rows
returns-in-Ok-clause-rows g c = rw c.in-Ok.ensures.tree.tree at c.trim_in.ensures.fits

pub returns-in-Ok-clause-full : goal.returns-in-Ok-clause-full
returns-in-Ok-clause-full g c count is =
    let more = c.trim_in.ensures.full count is in
    let larger : 65536 < size_of (trimmed g.R.PartialEq.eq [] (assigned g.R.PartialEq.eq g.R.Rank.substituted g.R.Rank.one_more c.args.place c.args.value.now (tree_at c.args.arena.now c.args.tree.place))) = rw c.in-Ok.ensures.tree.tree at more.1 in
    absurd (trimmed_small g.R.PartialEq.eq (assigned g.R.PartialEq.eq g.R.Rank.substituted g.R.Rank.one_more c.args.place c.args.value.now (tree_at c.args.arena.now c.args.tree.place)) 65536 c.in-Ok.ensures.small larger)

pub returns-in-Ok-clause-wide : goal.returns-in-Ok-clause-wide
returns-in-Ok-clause-wide g c w is moved fits =
    c.trim_in.ensures.wide w is (subst (λ (p : Plan g.row.R.Denot). TrimFits g.R.PartialEq.eq [] p) (sym c.in-Ok.ensures.tree.tree) fits)
