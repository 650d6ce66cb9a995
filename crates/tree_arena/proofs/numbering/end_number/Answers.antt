use Rattle.std.proofs.Common.{◌∙◌, sym}
use Rattle.tree_arena.specs.Equality.{same_end}
use Rattle.tree_arena.specs.Laws.EndLaws.{end_eq-Decides}
use Rattle.tree_arena.proofs.Places.{noted_new, noted_there}
use Rattle.tree_arena.proofs.numbering.end_number.Goals as goal

pub returns-in-Some-clause-noted : goal.returns-in-Some-clause-noted
returns-in-Some-clause-noted g c =
    noted_there (same_end g.R.PartialEq.eq) (end_eq-Decides g.R.PartialEq.eq g.met.R.Rank.equal_law) c.args.ends.now.keys c.args.end c.in-Some.place
    (sym c.in-Some.ensures.index)

pub returns-clause-noted : goal.returns-clause-noted
returns-clause-noted g c =
    noted_new (same_end g.R.PartialEq.eq) (end_eq-Decides g.R.PartialEq.eq g.met.R.Rank.equal_law) c.args.ends.now.keys c.insert_full.new.self.keys c.args.end
    c.in_ok-place.place (sym c.get_index_of.ensures.index ∙ c.in_default.is) c.in_ok-place.ensures.keys c.in_ok-place.ensures.index
