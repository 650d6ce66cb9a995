-- What is known of a program whatever formula it is asked about.
use Rattle.std.specs.Prelude.{◌≡◌, ◌≤◌, length}
use Rattle.step_meaning.specs.Syntax.{statements}
use Rattle.control_flow.specs.Transitions.{AreOnward, AreTold}
use Rattle.control_flow.specs.Labels.{all_labels}
use Rattle.control_flow.specs.Invariants.{AreInvariants}
use Rattle.num_domain.specs.declared.domain.NumDomain.{Ghosts as Domain}
use Rattle.control_flow.specs.Told.{Told, told_by}
use Rattle.part_families.specs.declared.premises.Premises.{Premises}

-- The graph has so many labels; the sets have the states that are reached; and for each label there is a transition over its set, which
-- leads on.
pub record ArePremises {D : Type 0} (domain : Domain D) (premises : Premises D) : Type 0 where
  pub invariants : AreInvariants domain.has (length premises.graph.now.names) (statements premises.graph.now.body) premises.inv.now
  pub labels : premises.labels ≡ length (all_labels (statements premises.graph.now.body))
  pub few : premises.labels ≤ 1024
  pub transitions : length premises.transitions.now ≡ premises.labels
  pub told : AreTold (statements premises.graph.now.body)
      (told_by domain.told_bounds domain.told_rows domain.seen_empty premises.inv.now) premises.transitions.now
  pub onward : AreOnward premises.transitions.now

-- what the sets tell of the states
abbrev pub told_on : {D : Type 0} → Domain D → Premises D → Told
told_on domain premises = told_by domain.told_bounds domain.told_rows domain.seen_empty premises.inv.now
