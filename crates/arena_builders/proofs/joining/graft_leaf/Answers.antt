use Rattle.std.proofs.Common.{◌∙◌, sym}
use Rattle.tree_arena.specs.Trees.{tree_at}
use Rattle.arena_builders.proofs.BuildingIn.{as_asked, as_leaf}
use Rattle.arena_builders.proofs.joining.graft_leaf.Goals as goal

pub returns-then-asks : goal.returns-then-asks
returns-then-asks g c =
    let leaf = tree_at c.args.arena.now c.args.leaf.place in
    let second = tree_at c.args.arena.now c.args.second.place in
    as_leaf g.R.PartialEq.eq g.R.Rank c.args.join second c.args.walk.now.trail leaf c.requires.leaf.1
    (as_asked g.R.PartialEq.eq g.R.Rank c.args.join second c.args.walk.now.trail leaf (sym c.asks.ensures ∙ c.if-asks.true) c.lay_in.ensures)
