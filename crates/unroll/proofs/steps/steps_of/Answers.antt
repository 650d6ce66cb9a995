use Rattle.std.proofs.Common.{◌≡◌, ℕ, ◌<◌, [], ◌∷◌, length, length-append, ap, subst, sym, ◌∙◌, arith}
use Rattle.linear_cons.specs.declared.bounds.Bounds.{Bounds}
use Rattle.step_meaning.specs.Syntax.{statements}
use Rattle.control_flow.specs.Labels.{Action, action_at, all_labels}
use Rattle.control_flow.specs.Measures.{anywhere}
use Rattle.control_flow.specs.Transitions.{IsOver, transition_in}
use Rattle.control_flow.specs.declared.transition.Transition.{Transition}
use Rattle.control_flow.specs.declared.transition.Transition.TheVariants.{End}
use Rattle.control_flow.proofs.Doing.{made_more}
use Rattle.control_flow.proofs.PlainLabels.{labels_are_plain}
use Rattle.unroll.specs.Doing.{Does}
use Rattle.unroll.proofs.Doing.{does_over}
use Rattle.unroll.proofs.steps.steps_of.Goals as goal

over_as : (bounds : Bounds) (read action : Action) (transition : Transition) → bounds ≡ anywhere → read ≡ action → IsOver bounds read transition → IsOver anywhere action transition
over_as bounds read action transition same is over = subst (λ a. IsOver anywhere a transition) is (subst (λ (b : Bounds). IsOver b read transition) same over)

pub loop-label-preserved : goal.loop-label-preserved
loop-label-preserved c =
    let body = statements c.args.graph.now.body in
    let items = c.loop-label.steps.items in
    let now = c.loop-label.invariant.0 in
    let test = c.loop-label-test.true in
    let count = c.labels-label-end.ensures.count in
    let low : c.loop-label.label < length (all_labels body) = omega (arith, test, count) in
    let here : Does (action_at body c.loop-label.label) c.in_ok-step.step =
    does_over (action_at body c.loop-label.label) c.in_ok-step.step (labels_are_plain body c.requires.plain c.loop-label.label low) (c.requires.fit c.loop-label.label low)
    (over_as c.anywhere.result _ _ c.in_ok-step.step c.anywhere.ensures c.action.ensures.action c.in_ok-step.ensures) in
    let long = ap length c.in_ok-push.ensures.items ∙ length-append items (c.in_ok-step.step ∷ []) in (
      omega (arith, long, now),
      λ label below. subst (λ list. Does (action_at body label) (transition_in list label)) (sym c.in_ok-push.ensures.items)
          (made_more End (λ (label : ℕ) (made : Transition). Does (action_at body label) made) items c.in_ok-step.step c.loop-label.invariant.1 (subst (λ l. Does (action_at body l) c.in_ok-step.step) (sym now) here)
          label (omega (arith, long, below))),
    )

pub returns : goal.returns
returns c =
    let end = c.loop-label-test.false in
    let most = c.loop-label.auto.label-end in
    let count = c.labels-label-end.ensures.count in
    let now = c.loop-label.invariant.0 in record {
      count = omega (arith, end, most, count, now);
      each = λ label low. c.loop-label.invariant.1 label (omega (arith, end, count, now, low));
    }
