use Rattle.std.proofs.Common.{◌++◌, map, ap, ◌∙◌}
use Rattle.step_meaning.specs.Syntax.{statements}
use Rattle.step_meaning.specs.Counts.{none}
use Rattle.step_meaning.specs.Countdown.{change_by}
use Rattle.count_down.specs.Building.{plans}
use Rattle.count_down.specs.Candidates.{most_within, nothing}
use Rattle.count_down.specs.LabelCounts.{counts_of}
use Rattle.count_down.proofs.Listing.{map_reverse}
use Rattle.count_down.proofs.Measured.{free_measured, nothing_small}
use Rattle.count_down.proofs.loop_trees.add_behind.Goals as goal

pub add_counts-requires-clause-small : goal.add_counts-requires-clause-small
add_counts-requires-clause-small c = rw c.constant.ensures nothing_small

pub add_counts-requires-clause-measured : goal.add_counts-requires-clause-measured
add_counts-requires-clause-measured c = rw c.constant.ensures (free_measured (statements c.args.block.now) c.requires.free)

pub returns-clause-list : goal.returns-clause-list
returns-clause-list c =
    let counts = counts_of (change_by nothing) (statements c.args.block.now) none in
    let made = rw (c.constant.ensures, c.nothing.ensures, c.new-counts.ensures.items) at c.in_ok-first.ensures.list in
    c.in_ok-add_steps.ensures
    ∙ ap (λ t. plans c.args.list.now.items ++ map most_within t) (c.deref.ensures.value ∙ made)
    ∙ ap (λ t. plans c.args.list.now.items ++ t) (map_reverse most_within counts)
