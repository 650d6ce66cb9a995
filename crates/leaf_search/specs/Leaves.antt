-- One leaf of a family, by its why.
use Rattle.std.specs.Prelude.{◌≡◌, ℕ, ℤ, pos, Bool, false, List, [], ◌∷◌, ◌++◌, map, Option, None, Some, if◌then◌else◌}
use Rattle.linear_cons.specs.declared.affine.Affine.{Affine}
use Rattle.linear_cons.specs.Functions.{constant_of}
use Rattle.control_flow.specs.declared.edge.Choice.{Choice}
use Rattle.decision_tree.specs.declared.family.Family.{Family}
use Rattle.decision_tree.specs.Plans.{plan_of}
use Rattle.tree_support.specs.Arcs.{Arc}
use Rattle.constraint_stack.specs.Forming.{Formed, given, minus}
use Rattle.tree_support.specs.Setting.{Setting, trees_in}
use Rattle.constraint_stack.specs.Claims.{System}
use Rattle.tree_support.specs.Systems.{is_existential, plain, unedged}
use Rattle.constraint_stack.specs.Stacks.{IsTried, all_asked}
use Rattle.constraint_stack.specs.declared.finding.Finding.{Finding}
use Rattle.leaf_search.specs.Operands.{families_of}
use Rattle.leaf_search.specs.declared.leaf.Stand.{Stand}
use Rattle.leaf_search.specs.declared.step.Targets.{Targets}
use Rattle.control_flow.specs.declared.transition.Transition.{Transition}
use Rattle.leaf_search.specs.declared.part.Part.{Part}
use Rattle.leaf_search.specs.Arcs.{IsTransitionAt, over_each}
use Rattle.leaf_search.specs.Parts.{part_of}

module _ {R : Type 0} where
  -- what the code has on the stack at the label is what the setting says
  pub record IsAt (at : Setting R) (part : Part) (label : ℕ) (choice : Choice) (transition : Transition) (smaller : List (Family R)) : Type 0 where
    pub formula : part_of at.formula ≡ part
    pub follows : IsTransitionAt at label transition
    pub chosen : at.flow.choice label ≡ choice
    pub parts : at.parts ≡ families_of smaller

  -- it is so in whatever setting the stand is
  abbrev pub WhereStood : Stand R → (Setting R → Type 0) → Type 0
  WhereStood stand Is = (at : Setting R) → IsAt at stand.part stand.label stand.choice stand.transition.now stand.parts.now → Is at

  -- the systems of arcs that lead to the targets; where there are none a step stands for nothing
  abbrev pub over_targets : Option (Targets R) → List Arc → List Formed → List (System R)
  over_targets None arcs asks = plain unedged asks
  over_targets (Some targets) arcs asks = over_each (trees_in (map plan_of targets.trees.now)) targets.limit arcs asks

  -- where the formula speaks of some successor; else a pick stands for nothing
  abbrev pub where_some : Setting R → List (System R) → List Formed → List (System R)
  where_some at systems asks = if is_existential at at.formula then systems else plain unedged asks

-- that the function's value is past an end of a range, where there is one
abbrev pub below_ends : Option ℤ → Affine → List Formed
below_ends None a = []
below_ends (Some lo) a = minus (minus (given (constant_of lo)) (given a)) (given (constant_of (pos 1))) ∷ []

abbrev pub above_ends : Option ℤ → Affine → List Formed
above_ends None a = []
above_ends (Some hi) a = minus (minus (given a) (given (constant_of hi))) (given (constant_of (pos 1))) ∷ []

-- the search against the system with what may be asked besides: nothing where there is none
abbrev pub IsPastTried : List Formed → List Formed → Bool → Option Finding → Type 0
IsPastTried [] asks refuted found = refuted ≡ false
IsPastTried (a ∷ more) asks refuted found = IsTried (all_asked (asks ++ a ∷ [])) 2 refuted found
