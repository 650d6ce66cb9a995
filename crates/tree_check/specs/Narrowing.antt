-- Where a leaf that was given up can be reached from.
use Rattle.std.specs.Prelude.{◌≡◌, ◌≢◌, ◌⊎◌, ℕ, ℤ, Bool, false, not, List, map, All, Contains, Option, None, Some}
use Rattle.linear_cons.specs.declared.affine.Affine.{Affine}
use Rattle.linear_cons.specs.Functions.{variable_at}
use Rattle.control_flow.specs.declared.edge.Choice.TheVariants.{Range}
use Rattle.ctl_formula.specs.Formulas.{Ctl, next, until, weak}
use Rattle.decision_tree.specs.Plans.{Plan}
use Rattle.tree_support.specs.Arcs.{Arc}
use Rattle.constraint_stack.specs.Forming.{Formed}
use Rattle.tree_support.specs.Setting.{Setting}
use Rattle.tree_support.specs.Systems.{is_existential, moved_by}
use Rattle.constraint_stack.specs.declared.stack.ConstraintStack.{ConstraintStack}
use Rattle.constraint_stack.specs.Stacks.{all_asked}
use Rattle.constraint_stack.specs.Searches.{Holds}
use Rattle.control_flow.specs.declared.transition.Transition.{Transition}
use Rattle.control_flow.specs.declared.transition.Transition.TheVariants.{Assign, Choose}
use Rattle.tree_check.specs.Telling.{arcs_followed}

-- the formula speaks of some successor
abbrev pub speaks_of_some : Ctl → Bool
speaks_of_some (next all f) = not all
speaks_of_some (until all f g) = not all
speaks_of_some (weak all f g) = not all
speaks_of_some _ = false

-- what the arcs of a label set
abbrev pub sets_of : Transition → Option (ℕ × Affine)
sets_of (Assign place value to) = Some (place.number, value)
sets_of (Choose place range choice cases to) = Some (place.number, variable_at 15)
sets_of transition = None

-- what is on the stack is of some of the functions
abbrev pub HoldsAmong : ConstraintStack → List Formed → Type 0
HoldsAmong stack asks = (held : List Formed) × Holds stack (all_asked held) × All (λ a. Contains asks a) held

module _ {R : Type 0} (at : Setting R) (label : ℕ) where
  -- no leaf of the label follows an arc with a value of its own: no successor is chosen, or no value may be
  abbrev pub PicksNoValue : Type 0
  PicksNoValue = (is_existential at at.formula ≡ false) ⊎ ((lo hi : Option ℤ) → at.flow.choice label ≢ Range lo hi)

  -- what is on the stack is of some of the path's functions, moved back over whatever arc a leaf of the label may follow
  abbrev pub HoldsPath : ConstraintStack → List Affine → Type 0
  HoldsPath stack path =
      (held : List Formed) × Holds stack (all_asked held)
      × ((end : Plan R) (arc : Arc) → Contains (arcs_followed at end label) arc → All (λ a. Contains (map (moved_by arc.sets) path) a) held)
