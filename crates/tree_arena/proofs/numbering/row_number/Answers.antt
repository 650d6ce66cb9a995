use Rattle.std.proofs.Common.{◌∙◌, sym}
use Rattle.tree_arena.proofs.Keys.{key_tells, same_key}
use Rattle.tree_arena.proofs.Places.{noted_new, noted_there}
use Rattle.tree_arena.proofs.numbering.row_number.Goals as goal

pub returns-in-Some-clause-noted : goal.returns-in-Some-clause-noted
returns-in-Some-clause-noted c =
    noted_there same_key key_tells c.args.rows.now.keys c.args.row c.in-Some.place (sym c.in-Some.ensures.index)

pub returns-clause-noted : goal.returns-clause-noted
returns-clause-noted c =
    noted_new same_key key_tells c.args.rows.now.keys c.insert_full.new.self.keys c.args.row c.in_ok-place.place
    (sym c.get_index_of.ensures.index ∙ c.in_default.is) c.in_ok-place.ensures.keys c.in_ok-place.ensures.index
