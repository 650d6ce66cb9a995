use Rattle.std.proofs.Common.{ℕ, [], ◌∷◌, length, length-append, ap, subst, sym, ◌∙◌, arith}
use Rattle.step_meaning.specs.Syntax.{statements}
use Rattle.control_flow.specs.Labels.{action_at}
use Rattle.control_flow.specs.Told.{Told, told_by}
use Rattle.control_flow.specs.Transitions.{AreTold, IsTold, transition_in}
use Rattle.control_flow.specs.declared.transition.Transition.{Transition}
use Rattle.control_flow.specs.declared.transition.Transition.TheVariants.{End}
use Rattle.control_flow.proofs.Doing.{made_more}
use Rattle.forward_inv.proofs.ToldHere.{told_here}
use Rattle.forward_inv.proofs.doing.transitions_of.Given as given
use Rattle.forward_inv.proofs.doing.transitions_of.Goals as goal

pub loop-label-preserved : goal.loop-label-preserved
loop-label-preserved g c =
    let body = statements c.args.graph.now.body in
    let inv = c.args.inv.now in
    let items = c.loop-label.made.items in
    let now = c.loop-label.invariant.0 in
    let told : Told = told_by g.D.NumDomain.told_bounds g.D.NumDomain.told_rows g.D.NumDomain.seen_empty inv in
    let IsMade : ℕ → Transition → Type 0 = λ label made. IsTold (told.bounds label) (told.dead label) (action_at body label) made in
    let here : IsMade c.loop-label.label c.in_ok-transition.transition =
    told_here g.D.NumDomain.told_bounds g.D.NumDomain.told_rows g.D.NumDomain.seen_empty inv c.loop-label.label c.at.result.now
    (action_at body c.loop-label.label) c.in_ok-transition.transition c.at.ensures c.in_ok-transition.ensures in
    let long = ap length c.in_ok-push.ensures.items ∙ length-append items (c.in_ok-transition.transition ∷ []) in (
      omega (arith, long, now),
      λ label below. subst (λ list. IsMade label (transition_in list label)) (sym c.in_ok-push.ensures.items)
          (made_more End IsMade items c.in_ok-transition.transition c.loop-label.invariant.1 (subst (λ l. IsMade l c.in_ok-transition.transition) (sym now) here)
          label (omega (arith, long, below))),
    )

all_made : (g : given.Over) (c : goal.After-loop-label g)
    → AreTold (statements c.args.graph.now.body) (told_by g.D.NumDomain.told_bounds g.D.NumDomain.told_rows g.D.NumDomain.seen_empty c.args.inv.now) c.loop-label.made.items
all_made g c label below =
    let end = c.loop-label-test.false in
    let count = c.labels-label-end.ensures.count in
    let now = c.loop-label.invariant.0 in
    c.loop-label.invariant.1 label (omega (arith, end, count, now, below))

pub returns-clause-labels : goal.returns-clause-labels
returns-clause-labels g c =
    let most = c.loop-label.auto.label-end in let end = c.loop-label-test.false in let count = c.labels-label-end.ensures.count in
    let now = c.loop-label.invariant.0 in omega (arith, most, end, count, now)

pub returns-clause-few : goal.returns-clause-few
returns-clause-few g c =
    let most = c.loop-label.auto.label-end in let few = c.labels-label-end.ensures.few in
    let now = c.loop-label.invariant.0 in omega (arith, most, few, now)

pub returns-clause-told : goal.returns-clause-told
returns-clause-told g c = all_made g c

pub returns-clause-onward : goal.returns-clause-onward
returns-clause-onward g c =
    c.transitions_lead_on.ensures (statements c.args.graph.now.body)
    (told_by g.D.NumDomain.told_bounds g.D.NumDomain.told_rows g.D.NumDomain.seen_empty c.args.inv.now) c.loop-label.made.items
    (let most = c.loop-label.auto.label-end in let end = c.loop-label-test.false in let count = c.labels-label-end.ensures.count in
    let now = c.loop-label.invariant.0 in omega (arith, most, end, count, now))
    (all_made g c)
