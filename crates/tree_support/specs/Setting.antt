-- What a family of trees is held against: the edges of a program, its invariants, a part of a formula, and the families of that part's
-- direct smaller parts.
use Rattle.std.specs.Prelude.{ℕ, Bool, List, slice_index_or}
use Rattle.linear_cons.specs.declared.row.Row.{Row}
use Rattle.decision_tree.specs.Plans.{Plan, bottom}
use Rattle.ctl_formula.specs.Formulas.{Ctl}
use Rattle.step_meaning.specs.Syntax.{Statements}
use Rattle.tree_support.specs.Arcs.{Flow, flow_of}
use Rattle.control_flow.specs.Told.{Told}

-- a family: a tree for each label
abbrev pub Trees : Type 0 → Type 0
Trees R = ℕ → Plan R

-- the family that a list holds; past its end nothing is defined
abbrev pub trees_in : {R : Type 0} → List (Plan R) → Trees R
trees_in plans label = slice_index_or plans label bottom

-- `dead` says that no store is at the label, `rows` what the invariant says of a store there; the families of the direct smaller parts are
-- numbered in the order left, right, or kept, goal
pub record Setting (R : Type 0) : Type 0 where
  pub flow : Flow
  pub dead : ℕ → Bool
  pub rows : ℕ → List Row
  pub formula : Ctl
  pub parts : ℕ → Trees R

-- what a family for the part of a formula is held against, given the families of its direct smaller parts
abbrev pub setting_of : {R : Type 0} → Statements → Told → Ctl → (ℕ → Trees R) → Setting R
setting_of body told formula parts = record {
  flow = flow_of body told.bounds;
  dead = told.dead;
  rows = told.rows;
  formula = formula;
  parts = parts;
}
