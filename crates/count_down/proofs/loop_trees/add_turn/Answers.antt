use Rattle.std.proofs.Common.{sym, ◌∙◌}
use Rattle.std.proofs.lemmas.List.{reverse-append}
use Rattle.step_meaning.specs.Syntax.{statements}
use Rattle.step_meaning.specs.Counts.{before, none}
use Rattle.step_meaning.specs.Countdown.{change_by}
use Rattle.count_down.specs.LabelCounts.{counts_of}
use Rattle.count_down.proofs.Measured.{counting_measured}
use Rattle.count_down.proofs.loop_trees.add_turn.Goals as goal

pub add_counts-requires-clause-measured : goal.add_counts-requires-clause-measured
add_counts-requires-clause-measured c = counting_measured c.args.function.now (statements c.args.step.now) c.requires.counts.in_step

pub add_counts-requires-2-clause-measured : goal.add_counts-requires-2-clause-measured
add_counts-requires-2-clause-measured c = counting_measured c.args.function.now (statements c.args.body.now) c.requires.counts.in_body

pub returns-clause-list : goal.returns-clause-list
returns-clause-list c =
    let by = change_by c.args.function.now in
    let step = statements c.args.step.now in
    let body = statements c.args.body.now in
    let first = rw (c.requires.empty, c.nothing.ensures) at c.in_ok-after.ensures.list in
    let after = rw c.nothing.ensures at c.in_ok-after.ensures.first in
    let second = rw (first, after) at c.in_ok-first.ensures.list in
    second ∙ sym (reverse-append (counts_of by body (before by step none)) (counts_of by step none))
