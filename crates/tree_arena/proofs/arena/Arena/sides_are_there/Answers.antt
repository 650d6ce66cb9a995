use Rattle.tree_arena.proofs.Arenas.{tables, tables_closed}
use Rattle.tree_arena.proofs.arena.Arena.sides_are_there.Goals as goal

pub returns : goal.returns
returns g c =
    let all = tables g.R.PartialEq.eq g.met.R.Rank.equal_law c.self.invariant c.len.ensures.unique c.len-2.ensures.unique c.len-3.ensures.unique c.self.view_is in
    tables_closed all
