use Rattle.std.proofs.Common.{[], ◌∷◌, option_map, Some, subst}
use Rattle.step_meaning.specs.Syntax.{statements}
use Rattle.control_flow.specs.Labels.{entry_of}
use Rattle.decision_tree.specs.Plans.{plan_of}
use Rattle.tree_support.specs.Setting.{trees_in}
use Rattle.ctl_rounds.specs.Covers.{Extends}
use Rattle.ctl_rounds.specs.Growing.{next_of}
use Rattle.ctl_rounds.proofs.Certifying.{added}
use Rattle.ctl_rounds.proofs.Exactly.{begins_more}
use Rattle.ctl_rounds.proofs.inquiry.Inquiry.keep.Goals.{in-Some+in-Some-1, in-Some+in-None-1, in-None}
use Rattle.ctl_rounds.proofs.inquiry.Inquiry.keep.Goals as goal

pub returns-clause-found : goal.returns-clause-found
returns-clause-found g c =
    let domain = g.D.NumDomain in
    let inquiry = c.args.self.now in
    let tops = c.args.found.now.tops.items in
    let old = option_map plan_of c.args.found.now.cover in
    let tree = trees_in c.args.family.trees (entry_of (statements inquiry.premises.now.graph.now.body)) in
    let entry = c.tree_at_entry-entry.ensures in
    let last = subst (λ plan. Extends old plan (next_of old (option_map plan_of c.in_ok-next.field-0))) entry c.in_ok-next.ensures in
    elim c.match-branch-2.branch [
      | in-Some+in-Some-1 w ↦ rw (c.in_ok-push.ensures.items, w.found-is)
          (added domain inquiry tops c.args.family old (Some (plan_of w.in-Some.next)) c.requires.found c.requires.family
          (subst (λ found. Extends old tree (next_of old (option_map plan_of found))) w.in-Some.is last))
      | in-Some+in-None-1 w ↦ rw (c.in_ok-push.ensures.items, w.found-is)
          (added domain inquiry tops c.args.family old (Some (plan_of w.in-Some.next)) c.requires.found c.requires.family
          (subst (λ found. Extends old tree (next_of old (option_map plan_of found))) w.in-Some.is last))
      | in-None w ↦ rw (c.in_ok-push.ensures.items, w.found-is)
          (added domain inquiry tops c.args.family old old c.requires.found c.requires.family
          (subst (λ found. Extends old tree (next_of old (option_map plan_of found))) w.in-None.is last))
    ]

pub returns-clause-exact : goal.returns-clause-exact
returns-clause-exact g c begins =
    let more = begins_more c.args.self.now c.args.found.now.tops.items (c.args.family ∷ []) begins in
    elim c.match-branch-2.branch [
      | in-Some+in-Some-1 w ↦ rw (c.in_ok-push.ensures.items, w.found-is) more
      | in-Some+in-None-1 w ↦ rw (c.in_ok-push.ensures.items, w.found-is) more
      | in-None w ↦ rw (c.in_ok-push.ensures.items, w.found-is) more
    ]
