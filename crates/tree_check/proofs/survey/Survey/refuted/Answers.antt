use Rattle.std.proofs.Common.{◌≡◌, ◌-◌, ◌^◌, ◌<◌, [], arith, length, map, rules, subst, sym}
use Rattle.std.proofs.lemmas.Bool.{ltb-true}
use Rattle.decision_tree.specs.Plans.{leaf, leaves_of, plan_of}
use Rattle.tree_support.specs.Arcs.{rows_given}
use Rattle.tree_support.specs.Setting.{trees_in}
use Rattle.constraint_stack.specs.Stacks.{IsMetNowhere, all_asked}
use Rattle.tree_check.specs.Surveys.{IsReviewed, IsSurveyed}
use Rattle.tree_check.proofs.Surveying.{held_empty, reviewed, surveyed_nowhere, tree_at}
use Rattle.tree_check.proofs.survey.Survey.refuted.Goals as goal

pub returns-then-not-branch : goal.returns-then-not-branch
returns-then-not-branch g c at is_at alive rows_are within narrowed =
    let label = c.args.self.now.stand.label in
    let family = trees_in (map plan_of c.args.self.now.stand.family.now) in
    let none : IsMetNowhere (all_asked (rows_given c.args.rows.now)) = c.in_ok-add_rows.ensures.nowhere c.if-not-branch.true [] (held_empty c.new-stack.result.rows c.new-stack.result.wide c.new-stack.ensures.rows c.new-stack.ensures.wide) in
    let empty : c.new-refuted.result.items ≡ [] = search rules in
    subst (IsReviewed g.R.Rank at family label c.args.self.now.span within) (sym empty)
    (reviewed g.R.Rank at family label c.args.self.now.span within [] alive
    (surveyed_nowhere g.R.Rank at family label c.args.self.now.span (family label) (rows_given (at.rows label)) within 0 [] (rw rows_are none)))

pub returns : goal.returns
returns g c at is_at alive rows_are within narrowed =
    let label = c.args.self.now.stand.label in
    let family = trees_in (map plan_of c.args.self.now.stand.family.now) in
    let held = c.in_ok-add_rows.ensures.held c.if-not-branch.false [] (held_empty c.new-stack.result.rows c.new-stack.result.wide c.new-stack.ensures.rows c.new-stack.ensures.wide) in
    let surveyed = c.in_ok-refute.ensures.surveyed at is_at (rows_given c.args.rows.now) held within narrowed in
    let is : family label ≡ plan_of c.in-Some.tree.now = tree_at c.args.self.now.stand.family.now label c.in-Some.tree.now (ltb-true label (length c.args.self.now.stand.family.now) (sym c.in-Some.ensures.lookup.0)) c.in-Some.ensures.lookup.1 in
    let empty : c.new-refuted.result.items ≡ [] = search rules in
    let from_none = subst
    (λ old. IsSurveyed g.R.Rank at family label c.args.self.now.span (plan_of c.in-Some.tree.now) (rows_given c.args.rows.now) within 0 old c.refute.new.progress.refuted.items)
    empty surveyed in
    reviewed g.R.Rank at family label c.args.self.now.span within c.refute.new.progress.refuted.items alive (rw (is, rows_are) from_none)

pub returns-in-Leaf : goal.returns-in-Leaf
returns-in-Leaf g c at is_at alive rows_are within narrowed =
    let label = c.args.self.now.stand.label in
    let family = trees_in (map plan_of c.args.self.now.stand.family.now) in
    let held = c.in_ok-add_rows.ensures.held c.if-not-branch.false [] (held_empty c.new-stack.result.rows c.new-stack.result.wide c.new-stack.ensures.rows c.new-stack.ensures.wide) in
    let surveyed = c.in_ok-refute_leaf.ensures.surveyed at is_at (rows_given c.args.rows.now) held within in
    let tree_is : family label ≡ plan_of c.in-Some.tree.now = tree_at c.args.self.now.stand.family.now label c.in-Some.tree.now (ltb-true label (length c.args.self.now.stand.family.now) (sym c.in-Some.ensures.lookup.0)) c.in-Some.ensures.lookup.1 in
    let is : family label ≡ leaf c.in-Leaf.why c.in-Leaf.rank = rw c.in-Leaf.is at tree_is in
    let empty : c.new-refuted.result.items ≡ [] = search rules in
    let from_none = subst
    (λ old. IsSurveyed g.R.Rank at family label c.args.self.now.span (leaf c.in-Leaf.why c.in-Leaf.rank) (rows_given c.args.rows.now) within 0 old c.refute_leaf.new.progress.refuted.items)
    empty surveyed in
    reviewed g.R.Rank at family label c.args.self.now.span within c.refute_leaf.new.progress.refuted.items alive (rw (is, rows_are) from_none)

pub led-ahead-requires : goal.led-ahead-requires
led-ahead-requires g c = c.ahead-whole.ensures c.add_rows.new.stack.rows

pub refute_leaf-requires : goal.refute_leaf-requires
refute_leaf-requires g c = c.led-ahead.ensures

pub refute-requires : goal.refute-requires
refute-requires g c = record {
  few =
      let is : trees_in (map plan_of c.args.self.now.stand.family.now) c.args.self.now.stand.label ≡ plan_of c.in-Some.tree.now =
      tree_at c.args.self.now.stand.family.now c.args.self.now.stand.label c.in-Some.tree.now (ltb-true c.args.self.now.stand.label (length c.args.self.now.stand.family.now) (sym c.in-Some.ensures.lookup.0)) c.in-Some.ensures.lookup.1 in
      let few : leaves_of (plan_of c.in-Some.tree.now) < 2 ^ 64 - 1 = subst (λ plan. leaves_of plan < 2 ^ 64 - 1) is c.requires.few in
      omega (arith, few);
  ahead = c.led-ahead.ensures;
}
