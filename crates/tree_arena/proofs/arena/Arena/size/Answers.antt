use Rattle.std.proofs.Common.{◌∙◌, ◌<◌, ℕ, subst, sym}
use Rattle.tree_arena.specs.declared.node.Entry.TheVariants.{End}
use Rattle.tree_arena.proofs.Arenas.{tables, tables_count, tables_size}
use Rattle.tree_arena.proofs.Entering.{value_there}
use Rattle.tree_arena.proofs.arena.Arena.size.Goals as goal

pub index-requires : goal.index-requires
index-requires g c =
    let all = tables g.R.PartialEq.eq g.met.R.Rank.equal_law c.self.invariant c.len.ensures.unique c.len-2.ensures.unique c.len-3.ensures.unique c.self.view_is in
    subst (λ (n : ℕ). c.args.tree.place < n) (tables_count all) c.requires

pub returns : goal.returns
returns g c =
    let all = tables g.R.PartialEq.eq g.met.R.Rank.equal_law c.self.invariant c.len.ensures.unique c.len-2.ensures.unique c.len-3.ensures.unique c.self.view_is in
    sym (value_there c.self.inside.nodes.entries c.args.tree.place c.index.result.now (End 0, 0) c.index.ensures)
    ∙ tables_size all c.args.tree.place (End 0, 0) c.requires
