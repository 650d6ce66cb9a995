use Rattle.std.proofs.Common.{◌<◌, None, length, sym}
use Rattle.std.proofs.lemmas.Bool.{ltb-true}
use Rattle.leaf_search.proofs.Leaving.{part_is, past_part}
use Rattle.leaf_search.proofs.Walking.{bottom_searched}
use Rattle.leaf_search.proofs.leaf.refute_part.Goals as goal

pub returns-in_ok-refuted-in-Some-clause-searched :
    goal.returns-in_ok-refuted-in-Some-clause-searched
returns-in_ok-refuted-in-Some-clause-searched g c asks held =
    let searched = c.in_ok-refuted-in-Some.ensures.searched asks held in
    let low : c.args.number < length c.args.parts.now = ltb-true c.args.number (length c.args.parts.now) (sym c.in-Some.ensures.lookup.0) in
    rw (part_is c.args.parts.now c.args.number c.args.label c.in-Some.family.now low c.in-Some.ensures.lookup.1) (rw c.items.ensures at searched)

pub returns-in_ok-refuted-in-None-clause-searched :
    goal.returns-in_ok-refuted-in-None-clause-searched
returns-in_ok-refuted-in-None-clause-searched g c asks held =
    let tried = c.in_ok-refuted-in-None.ensures.tried asks held in
    let past = c.in-None.ensures.lookup.3 in
    rw (past_part c.args.parts.now c.args.number c.args.label past) (bottom_searched g.R.Rank 2 None None asks c.in_ok-refuted-in-None.refuted c.refute_plain.new.found tried)
