-- What is done at a label, where the premises are ready.
use Rattle.std.proofs.Common.{◌≡◌, ℕ, ◌<◌, false, length, sym, subst}
use Rattle.step_meaning.specs.Syntax.{statements}
use Rattle.num_domain.specs.declared.domain.NumDomain.{Ghosts as Domain}
use Rattle.control_flow.specs.Labels.{action_at, all_labels}
use Rattle.control_flow.specs.Told.{Told, told_by}
use Rattle.control_flow.specs.Transitions.{IsOver, IsTold, transition_in}
use Rattle.tree_support.proofs.Arcing.{over_arcs, over_outcomes, over_values}
use Rattle.leaf_search.specs.Arcs.{IsTransitionAt}
use Rattle.tree_check.specs.Rounds.{IsReady, setting_on}
use Rattle.tree_check.specs.declared.rounds.Premises.{Premises}

module _ {D R : Type 0} (domain : Domain D) (premises : Premises D R) (ready : IsReady domain premises) (label : ℕ)
    (low : label < length (all_labels (statements premises.graph.now.body))) where
  abbrev told : Told
  told = told_by domain.told_bounds domain.told_rows domain.seen_empty premises.inv.now

  pub stands_at : (setting_on domain premises).dead label ≡ false
      → IsTransitionAt (setting_on domain premises) label (transition_in premises.transitions.now label)
  stands_at alive =
      let action = action_at (statements premises.graph.now.body) label in
      let transition = transition_in premises.transitions.now label in
      let bounds = told.bounds label in
      let over : IsOver bounds action transition = subst (λ dead. IsTold bounds dead action transition) alive (ready.told label low) in record {
        arcs = sym (over_arcs bounds action transition over);
        outcomes = λ outcome. sym (over_outcomes bounds action transition over outcome);
        values = λ a. sym (over_values bounds action transition over a);
      }
