-- The trees that lie behind a label's edges, as far as rows lead into them.
use Rattle.std.specs.Prelude.{ℕ, Bool, true, false, List, map, Option, None, Some, IfSome}
use Rattle.linear_cons.specs.declared.affine.Affine.{Affine}
use Rattle.linear_cons.specs.declared.row.Row.{Row}
use Rattle.control_flow.specs.declared.transition.Transition.{Transition}
use Rattle.control_flow.specs.declared.transition.Transition.TheVariants.{Assign, Choose, Dead, End, Pass, Test}
use Rattle.decision_tree.specs.Plans.{plan_of}
use Rattle.tree_support.specs.Setting.{Trees, trees_in}
use Rattle.leaf_search.specs.Operands.{families_of}
use Rattle.leaf_search.specs.Walks.{LeadsTo}
use Rattle.leaf_search.specs.declared.ahead.Ahead.{Ahead}
use Rattle.leaf_search.specs.declared.leaf.Stand.{Stand}
use Rattle.leaf_search.specs.declared.part.Part.{Part}
use Rattle.leaf_search.specs.declared.part.Part.TheVariants.{Next}

-- where the edge of a transition leads, of a test that of the outcome
abbrev pub target_of : Transition → Bool → ℕ
target_of End outcome = 0
target_of Dead outcome = 0
target_of (Pass to) outcome = to
target_of (Assign place value to) outcome = to
target_of (Choose place range choice cases to) outcome = to
target_of (Test head choice holds fails to others) true = to
target_of (Test head choice holds fails to others) false = others

-- the value that its edge puts, where it is that of a function
abbrev pub put_by : Transition → Option (ℕ × Affine)
put_by (Assign place value to) = Some (place.number, value)
put_by transition = None

module _ {R : Type 0} where
  -- those that are told lie behind the edges, among these trees
  pub record LieBehind (transition : Transition) (trees : Trees R) (rows : List Row) (ahead : Ahead R) : Type 0 where
    pub first : IfSome ahead.first (λ part. LeadsTo rows (put_by transition) (trees (target_of transition true)) (plan_of part.now))
    pub second : IfSome ahead.second (λ part. LeadsTo rows (put_by transition) (trees (target_of transition false)) (plan_of part.now))

  -- the trees to which a step leads: of a next those of its operand, else those of the family itself
  abbrev pub led_by : Part → Trees R → Trees R → Trees R
  led_by (Next all) operand family = operand
  led_by part operand family = family

  abbrev pub aims : Stand R → Trees R
  aims stand = led_by stand.part (families_of stand.parts.now 0) (trees_in (map plan_of stand.family.now))

  -- each tree that is told is a part, to which the rows lead, of the one that is kept, or of the one to which an edge leads
  pub record IsAhead (stand : Stand R) (rows : List Row) (ahead : Ahead R) : Type 0 where
    pub kept : IfSome ahead.kept (λ part. LeadsTo rows None (families_of stand.parts.now 0 stand.label) (plan_of part.now))
    pub behind : LieBehind stand.transition.now (aims stand) rows ahead
