use Rattle.std.proofs.Common.{◌+◌, None, Some, Option, option_map, take, sym, subst}
use Rattle.step_meaning.specs.Syntax.{statements}
use Rattle.linear_solve.proofs.Lists.{take_snoc}
use Rattle.control_flow.specs.Labels.{entry_of}
use Rattle.decision_tree.specs.declared.affine_rank.AffineRank.{AffineRank}
use Rattle.decision_tree.specs.Plans.{Plan, plan_of}
use Rattle.tree_support.specs.Setting.{trees_in}
use Rattle.ctl_rounds.specs.Covers.{Covers, Extends, at_entry}
use Rattle.ctl_rounds.specs.Growing.{next_of}
use Rattle.ctl_rounds.proofs.CoverLaws.{covers_more}
use Rattle.ctl_rounds.proofs.covering.cover.Goals.{in-Some, in-None}
use Rattle.ctl_rounds.proofs.covering.cover.Goals as goal

pub loop-family-preserved : goal.loop-family-preserved
loop-family-preserved c =
    let body = statements c.args.graph.now.body in
    let families = c.items-family-items.result.now in
    let index = c.loop-family.family-index in
    let family = c.family-item.result in
    let tree : Plan AffineRank = trees_in family.trees (entry_of body) in
    let old : Option (Plan AffineRank) = option_map plan_of c.loop-family.cover in
    let last = subst (λ plan. Extends old plan (next_of old (option_map plan_of c.in_ok-next.field-0))) c.tree_at_entry-entry.ensures c.in_ok-next.ensures in
    let more : (new : Option (Plan AffineRank)) → Extends old tree new → Covers None (at_entry body (take (index + 1) families)) new =
    λ new is. subst (λ list. Covers None (at_entry body list) new) (sym (take_snoc families index family c.loop-family-test.true c.family-item.is))
    (covers_more body family old new is None (take index families) c.loop-family.invariant) in
    elim c.match-branch-2.branch [
      | in-Some w ↦ rw w.cover-is
          (more (Some (plan_of w.in-Some.next)) (subst (λ found. Extends old tree (next_of old (option_map plan_of found))) w.in-Some.is last))
      | in-None w ↦ rw w.cover-is (more old (subst (λ found. Extends old tree (next_of old (option_map plan_of found))) w.in-None.is last))
    ]
