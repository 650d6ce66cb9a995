use Rattle.std.proofs.Common.{◌<◌, arith, map, subst, sym, ⊎_elim}
use Rattle.std.proofs.lemmas.Grind.{common_steps}
use Rattle.std.proofs.lemmas.Bool.{eqb-true}
use Rattle.decision_tree.specs.Plans.{plan_of}
use Rattle.tree_support.specs.Setting.{trees_in}
use Rattle.tree_check.specs.Rounds.{dropped_by, setting_on}
use Rattle.tree_check.proofs.Settling.{advances_more, fewer_defined, leaves_stay, mapped_low, not_same, supported_from_start}
use Rattle.tree_check.proofs.rounds.Premises.settle_in_turn.Goals as goal

pub first_refuted-requires-clause-leaves : goal.first_refuted-requires-clause-leaves
first_refuted-requires-clause-leaves g c =
    let is = leaves_stay g.R.Rank (setting_on g.D.NumDomain c.args.self.now) (map plan_of c.args.trees.now) (map plan_of c.loop-refuted.trees) c.args.drops.now.items c.loop-refuted.drops.items c.loop-refuted.invariant.0 c.args.label in
    rw is (c.requires.leaves c.args.label)

pub overflow_add-first : goal.overflow_add-first
overflow_add-first g c =
    let reviewed = rw c.in-Some.is at c.in_ok-refuted.ensures in
    let low = reviewed.0 in
    let is = leaves_stay g.R.Rank (setting_on g.D.NumDomain c.args.self.now) (map plan_of c.args.trees.now) (map plan_of c.loop-refuted.trees) c.args.drops.now.items c.loop-refuted.drops.items c.loop-refuted.invariant.0 c.args.label in
    let few = c.requires.leaves c.args.label in
    omega (arith, low, is, few)

pub loop-refuted-smaller : goal.loop-refuted-smaller
loop-refuted-smaller g c =
    let reviewed = rw c.in-Some.is at c.in_ok-refuted.ensures in
    fewer_defined g.R.Rank (setting_on g.D.NumDomain c.args.self.now) (map plan_of c.args.trees.now) (map plan_of c.loop-refuted.trees) (map plan_of c.give_up.new.trees) c.args.drops.now.items c.loop-refuted.drops.items c.args.label c.in-Some.refuted c.loop-refuted.invariant.0 (mapped_low c.args.trees.now c.args.label (subst (λ n. c.args.label < n) (sym c.requires.trees) c.requires.label)) reviewed c.in_ok-give_up.ensures.given

pub loop-refuted-preserved : goal.loop-refuted-preserved
loop-refuted-preserved g c =
    let reviewed = rw c.in-Some.is at c.in_ok-refuted.ensures in (
      advances_more g.R.Rank (setting_on g.D.NumDomain c.args.self.now) (map plan_of c.args.trees.now) (map plan_of c.loop-refuted.trees) (map plan_of c.give_up.new.trees) c.args.drops.now.items c.loop-refuted.drops.items c.give_up.new.drops.items c.args.label c.in-Some.refuted c.loop-refuted.invariant.0 (mapped_low c.args.trees.now c.args.label (subst (λ n. c.args.label < n) (sym c.requires.trees) c.requires.label)) reviewed c.in_ok-give_up.ensures.dropped c.in_ok-give_up.ensures.given,
      λ same. absurd (not_same g.R.Rank (setting_on g.D.NumDomain c.args.self.now) c.args.drops.now.items c.loop-refuted.invariant.0.more c.loop-refuted.drops.items c.give_up.new.drops.items (dropped_by c.args.label c.in-Some.refuted) c.loop-refuted.invariant.0.listed c.in_ok-give_up.ensures.dropped same),
    )

pub returns-clause-supported : goal.returns-clause-supported
returns-clause-supported g c is =
    let reviewed = rw c.in_default.is at c.in_ok-refuted.ensures in
    supported_from_start g.R.Rank (setting_on g.D.NumDomain c.args.self.now) (trees_in (map plan_of c.loop-refuted.trees)) c.args.label c.loop-refuted.first
    (⊎_elim (λ start. eqb-true c.loop-refuted.first 0 start) (λ same. c.loop-refuted.invariant.1 same) is) reviewed

pub returns-in_err-refuted : goal.returns-in_err-refuted
returns-in_err-refuted g c = grind (arith, common_steps)
