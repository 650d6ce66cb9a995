-- The arcs of a label, by the transition there.
use Rattle.std.specs.Prelude.{◌≡◌, ℕ, Bool, List, ◌++◌, Option}
use Rattle.std.specs.List.{flat_map}
use Rattle.linear_cons.specs.declared.affine.Affine.{Affine}
use Rattle.tree_support.specs.Arcs.{Arc, arcs_of, outcome_arcs, value_arcs}
use Rattle.constraint_stack.specs.Forming.{Formed}
use Rattle.control_flow.specs.declared.transition.Transition.{Transition}
use Rattle.tree_support.specs.Setting.{Setting, Trees}
use Rattle.constraint_stack.specs.Claims.{System}
use Rattle.leaf_search.specs.Walks.{systems_behind}

module _ {R : Type 0} where
  -- the systems of one arc, and of arcs: at its target a leaf refutes that is undefined, or, where there is a limit, whose rank isn't less
  abbrev pub over_arc : Trees R → Option R → List Formed → Arc → List (System R)
  over_arc family limit asks arc = systems_behind arc.edge arc.sets limit (family arc.target) (asks ++ arc.asks)

  abbrev pub over_each : Trees R → Option R → List Arc → List Formed → List (System R)
  over_each family limit arcs asks = flat_map (λ (arc : Arc). over_arc family limit asks arc) arcs

  -- what is done at the label is what the setting says
  pub record IsTransitionAt (at : Setting R) (label : ℕ) (transition : Transition) : Type 0 where
    pub arcs : at.flow.arcs label ≡ arcs_of transition
    pub outcomes : (outcome : Bool) → at.flow.arcs_of label outcome ≡ outcome_arcs transition outcome
    pub values : (a : Affine) → at.flow.arcs_with label a ≡ value_arcs transition a
