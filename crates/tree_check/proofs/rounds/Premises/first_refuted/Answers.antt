use Rattle.std.proofs.Common.{[], arith, false, length, map, refl, sym}
use Rattle.std.proofs.lemmas.Bool.{ltb-true}
use Rattle.std.proofs.lemmas.List.{nil_from_length}
use Rattle.decision_tree.specs.Plans.{plan_of}
use Rattle.tree_support.specs.Setting.{trees_in}
use Rattle.tree_check.specs.Rounds.{setting_on}
use Rattle.tree_check.proofs.Settling.{first_none, first_some}
use Rattle.tree_check.proofs.Surveying.{held_empty}
use Rattle.tree_check.proofs.rounds.Premises.first_refuted.Goals as goal

pub returns : goal.returns
returns g c =
    let past = rw c.deref.ensures.value at c.in-None.ensures.item.3 in
    first_none g.R.Rank (setting_on g.D.NumDomain c.args.self.now) (trees_in (map plan_of c.args.trees.now)) c.args.label
    (record { first = c.args.first; collects = false; narrows = false }) []
    c.in_ok-refuted.refuted.items (nil_from_length c.in_ok-refuted.refuted.items (omega (arith, past))) refl
    (c.in_ok-refuted.ensures [] (held_empty c.new-nothing.result.rows c.new-nothing.result.wide c.new-nothing.ensures.rows c.new-nothing.ensures.wide))

pub returns-in-Some : goal.returns-in-Some
returns-in-Some g c =
    let reviewed = c.in_ok-refuted.ensures [] (held_empty c.new-nothing.result.rows c.new-nothing.result.wide c.new-nothing.ensures.rows c.new-nothing.ensures.wide) in
    let some = ltb-true 0 (length c.deref.result.now) (sym c.in-Some.ensures.item.0) in
    let low = rw c.deref.ensures.value at some in
    let is = rw c.deref.ensures.value at c.in-Some.ensures.item.1 in
    first_some g.R.Rank (setting_on g.D.NumDomain c.args.self.now) (trees_in (map plan_of c.args.trees.now)) c.args.label
    (record { first = c.args.first; collects = false; narrows = false }) [] c.in_ok-refuted.refuted.items c.in-Some.refuted.now low is reviewed
