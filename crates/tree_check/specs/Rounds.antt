-- The rounds: refuted leaves are given up until none is left.
use Rattle.std.specs.Prelude.{◌≡◌, ◌≢◌, ℕ, ◌+◌, ◌<◌, ◌≤◌, Bool, true, false, List, ◌++◌, length, All, Contains, Option, None, Some, slice_index_or, slice_set}
use Rattle.std.specs.List.{sum_by}
use Rattle.step_meaning.specs.Syntax.{statements}
use Rattle.linear_cons.specs.declared.affine.Affine.{Affine}
use Rattle.ctl_formula.specs.Mirror.{ctl}
use Rattle.decision_tree.specs.declared.rank.Rank.{Ghosts as Ranks}
use Rattle.decision_tree.specs.Paths.{with_leaf}
use Rattle.decision_tree.specs.Plans.{Plan, bottom, branch, leaf, leaves_of, top}
use Rattle.num_domain.specs.declared.domain.NumDomain.{Ghosts as Domain}
use Rattle.tree_support.specs.declared.dropped.Dropped.{Dropped}
use Rattle.tree_support.specs.Elimination.{Eliminates, cause_of}
use Rattle.control_flow.specs.declared.edge.Edge.{Edge}
use Rattle.control_flow.specs.Labels.{all_labels}
use Rattle.tree_support.specs.Arcs.{Arc}
use Rattle.control_flow.specs.Transitions.{AreTold}
use Rattle.control_flow.specs.declared.transition.Transition.{Transition}
use Rattle.control_flow.specs.declared.transition.Transition.TheVariants.{Dead}
use Rattle.tree_support.specs.Setting.{Setting, Trees, setting_of, trees_in}
use Rattle.constraint_stack.specs.Claims.{HasNoStore}
use Rattle.tree_support.specs.Systems.{systems}
use Rattle.control_flow.specs.Told.{told_by}
use Rattle.tree_check.specs.Checking.{families_of}
use Rattle.tree_check.specs.declared.rounds.Premises.{Premises}
use Rattle.tree_check.specs.declared.survey.Refuted.{Refuted}

-- none of the arcs leads to the label
abbrev pub Avoid : List Arc → ℕ → Type 0
Avoid arcs other = (arc : Arc) → Contains arcs arc → arc.target ≢ other

-- where an edge leads, and label 0 where there is none
abbrev pub target_of : Option Edge → ℕ
target_of None = 0
target_of (Some edge) = edge.to

-- no run comes to the label
abbrev pub is_dead : Transition → Bool
is_dead Dead = true
is_dead transition = false

-- the drop of a refuted leaf
abbrev pub dropped_by : ℕ → Refuted → Dropped
dropped_by label refuted = record { label = label; leaf = refuted.leaf; edge = refuted.finding.edge; reason = refuted.finding.reason }

module _ {R : Type 0} where
  -- the number of a tree's defined leaves, and of those of all trees
  abbrev pub defined_of : Plan R → ℕ
  defined_of (branch row this that) = defined_of this + defined_of that
  defined_of (leaf why rank) = 1
  defined_of bottom = 0
  defined_of (top cause) = 0

  abbrev pub defined_in : List (Plan R) → ℕ
  defined_in plans = sum_by defined_of plans

  -- the trees without the refuted leaf
  abbrev pub without_refuted : List (Plan R) → ℕ → Refuted → List (Plan R)
  without_refuted plans label refuted =
      slice_set plans label (with_leaf (trees_in plans label) refuted.leaf (top (cause_of refuted.finding.reason)))

  -- no arc leads from the label to the other, whichever outcome or value is picked
  pub record LeadsElsewhere (at : Setting R) (label other : ℕ) : Type 0 where
    pub every : Avoid (at.flow.arcs label) other
    pub outcomes : (outcome : Bool) → Avoid (at.flow.arcs_of label outcome) other
    pub values : (a : Affine) → Avoid (at.flow.arcs_with label a) other

  -- from a number on no arc leads from the label to that of a drop
  abbrev pub AreElsewhere : Setting R → ℕ → ℕ → List Dropped → Type 0
  AreElsewhere at label from drops =
      (number : ℕ) (d : Dropped) → from ≤ number → number < length drops → LeadsElsewhere at label (slice_index_or drops number d).label

-- the setting that they make
abbrev pub setting_on : {D R : Type 0} → Domain D → Premises D R → Setting R
setting_on domain premises =
    setting_of (statements premises.graph.now.body) (told_by domain.told_bounds domain.told_rows domain.seen_empty premises.inv.now) (ctl premises.formula.now)
    (families_of premises.parts.now)

-- there is a set and a transition for each label, and the transitions are over the sets
pub record IsReady {D R : Type 0} (domain : Domain D) (premises : Premises D R) : Type 0 where
  pub states : length premises.inv.now ≡ length (all_labels (statements premises.graph.now.body))
  pub labels : length premises.transitions.now ≡ length (all_labels (statements premises.graph.now.body))
  pub told : AreTold (statements premises.graph.now.body) (told_by domain.told_bounds domain.told_rows domain.seen_empty premises.inv.now) premises.transitions.now

module _ {R : Type 0} (ranks : Ranks R) (at : Setting R) where
  -- legal drops lead from the old trees to the new, and were appended to the list
  pub record Advances (old : List (Plan R)) (drops : List Dropped) (new : List (Plan R)) (dropped : List Dropped) : Type 0 where
    pub more : List Dropped
    pub listed : dropped ≡ drops ++ more
    pub legal : Eliminates ranks at (trees_in old) more (trees_in new)
    pub labels : length new ≡ length old
    pub fewer : defined_in new + length more ≡ defined_in old

  -- each leaf at the label is supported
  abbrev pub IsSupportedAt : Trees R → ℕ → Type 0
  IsSupportedAt family label = (place : ℕ) → place < leaves_of (family label) → All (HasNoStore ranks) (systems at family label place)
