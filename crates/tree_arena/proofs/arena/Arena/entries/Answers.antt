use Rattle.std.proofs.Common.{◌∙◌, sym}
use Rattle.tree_arena.proofs.Arenas.{tables, tables_count, tables_distinct}
use Rattle.tree_arena.proofs.arena.Arena.entries.Goals as goal

pub returns-clause-count : goal.returns-clause-count
returns-clause-count g c =
    let all = tables g.R.PartialEq.eq g.met.R.Rank.equal_law c.self.invariant c.len.ensures.unique c.len-2.ensures.unique c.len-3.ensures.unique c.self.view_is in
    c.len-3.ensures.len ∙ sym (tables_count all)

pub returns-clause-distinct : goal.returns-clause-distinct
returns-clause-distinct g c =
    let all = tables g.R.PartialEq.eq g.met.R.Rank.equal_law c.self.invariant c.len.ensures.unique c.len-2.ensures.unique c.len-3.ensures.unique c.self.view_is in
    tables_distinct all
