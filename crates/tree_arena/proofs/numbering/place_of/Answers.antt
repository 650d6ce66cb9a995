use Rattle.std.proofs.Common.{rules, ◌∙◌, sym}
use Rattle.indexmap.proofs.CallerLemmas.{insert_entry-new}
use Rattle.tree_arena.proofs.Keys.{entry_tells, same_entry}
use Rattle.tree_arena.proofs.Places.{noted_with_new, noted_with_there}
use Rattle.tree_arena.proofs.numbering.place_of.Goals as goal

pub returns-in-Some-clause-noted : goal.returns-in-Some-clause-noted
returns-in-Some-clause-noted c =
    noted_with_there same_entry entry_tells c.args.nodes.now.entries c.args.entry c.args.size c.in-Some.place (sym c.in-Some.ensures.index)

pub returns-clause-noted : goal.returns-clause-noted
returns-clause-noted c =
    noted_with_new same_entry entry_tells c.args.nodes.now.entries c.insert_full.new.self.entries c.args.entry c.args.size c.in_ok-place.place
    (sym c.get_index_of.ensures.index ∙ c.in_default.is)
    (c.in_ok-place.ensures.entries ∙ insert_entry-new same_entry c.args.nodes.now c.args.entry c.args.size (search rules))
    c.in_ok-place.ensures.index
