-- What a drop makes new at other labels, and what a label was told of the drops.
use Rattle.std.specs.Prelude.{◌≡◌, ◌⊎◌, ℕ, ◌<◌, ◌≤◌, Bool, true, false, List, [], ◌++◌, length, map, All, Contains, slice_index_or, Option, None, Some, if◌then◌else◌}
use Rattle.linear_cons.specs.declared.affine.Affine.{Affine}
use Rattle.control_flow.specs.declared.edge.Choice.{Choice}
use Rattle.control_flow.specs.declared.edge.Choice.TheVariants.{Branch, None as NoChoice, Range}
use Rattle.decision_tree.specs.declared.rank.Rank.{Ghosts as Ranks}
use Rattle.decision_tree.specs.declared.reason.Pick.{Pick}
use Rattle.decision_tree.specs.declared.reason.Pick.TheVariants.{All as Every, No, Value, Yes}
use Rattle.decision_tree.specs.declared.reason.Why.TheVariants.{Step}
use Rattle.decision_tree.specs.Paths.{leaf_numbered, path_of}
use Rattle.decision_tree.specs.Plans.{Plan, leaf, leaves_of}
use Rattle.tree_support.specs.declared.dropped.Dropped.{Dropped}
use Rattle.tree_support.specs.Arcs.{Arc}
use Rattle.constraint_stack.specs.Forming.{Formed}
use Rattle.tree_support.specs.Setting.{Setting, Trees, trees_in}
use Rattle.constraint_stack.specs.Claims.{HasNoStore, System, nothing}
use Rattle.tree_support.specs.Systems.{is_existential, moved_by, region, systems}
use Rattle.tree_check.specs.declared.survey.Refuted.{Refuted}
use Rattle.tree_check.specs.Rounds.{LeadsElsewhere}
use Rattle.tree_check.specs.Surveys.{IsAside}

-- the trees of the labels that are marked are the same in both lists
abbrev pub AreSame : {R : Type 0} → List (Plan R) → List (Plan R) → List Bool → Type 0
AreSame known trees same = (label : ℕ) → slice_index_or same label false ≡ true → trees_in trees label ≡ trees_in known label

-- the label is marked, and no arc leads from it to one that isn't
pub record IsSameAround {R : Type 0} (at : Setting R) (same : List Bool) (label : ℕ) : Type 0 where
  pub own : slice_index_or same label false ≡ true
  pub ahead : (other : ℕ) → slice_index_or same other false ≡ false → LeadsElsewhere at label other

-- only such labels were told of drops, and of so many
abbrev pub AreToldBeside : {R : Type 0} → Setting R → List Bool → ℕ → List (Option ℕ) → Type 0
AreToldBeside at same number told =
    (label from : ℕ) → slice_index_or told label None ≡ Some from → (from ≡ number) × IsSameAround at same label

-- the system that a leaf given up adds behind an arc that leads to it, where the path is the leaf's
abbrev pub renewed : {R : Type 0} → List Formed → List Affine → Arc → System R
renewed asks path arc = record { edge = arc.edge; asks = (asks ++ arc.asks) ++ map (moved_by arc.sets) path; claim = nothing }

-- the arcs at a range choice
abbrev pub arcs_ranged : Choice → List Arc → List Arc
arcs_ranged (Range lo hi) arcs = arcs
arcs_ranged NoChoice arcs = []
arcs_ranged Branch arcs = []

module _ {R : Type 0} (at : Setting R) where
  -- the arcs that a leaf with the pick follows
  abbrev pub arcs_picked : Pick → ℕ → List Arc
  arcs_picked Every label = at.flow.arcs label
  arcs_picked Yes label = at.flow.arcs_of label true
  arcs_picked No label = at.flow.arcs_of label false
  arcs_picked (Value a) label = if is_existential at at.formula then arcs_ranged (at.flow.choice label) (at.flow.arcs_with label a) else []

  -- the arcs that a leaf follows
  abbrev pub arcs_followed : Plan R → ℕ → List Arc
  arcs_followed (leaf (Step pick) rank) label = arcs_picked pick label
  arcs_followed _ label = []

module _ {R : Type 0} (ranks : Ranks R) (at : Setting R) where
  -- the system was made new by one of the drops, from a number on, behind one of the arcs
  pub record IsOwed (drops : List Dropped) (from : ℕ) (arcs : List Arc) (asks : List Formed) (paths : ℕ → ℕ → List Affine) (s : System R) : Type 0 where
    pub number : ℕ
    pub later : from ≤ number
    pub listed : number < length drops
    pub drop_of : Dropped
    pub numbered : (d : Dropped) → slice_index_or drops number d ≡ drop_of
    pub arc : Arc
    pub follows : Contains arcs arc
    pub leads : arc.target ≡ drop_of.label
    pub is : s ≡ renewed asks (paths arc.target drop_of.leaf) arc

  abbrev pub IsSettled : List Dropped → ℕ → List Arc → List Formed → (ℕ → ℕ → List Affine) → System R → Type 0
  IsSettled drops from arcs asks paths s = HasNoStore ranks s ⊎ IsOwed drops from arcs asks paths s

  abbrev pub paths_in : Trees R → ℕ → ℕ → List Affine
  paths_in family label place = path_of (family label) place

  -- no store meets a system of the leaf, but for those that the drops from a number on made new
  abbrev pub IsLeafTold : Trees R → List Dropped → ℕ → ℕ → ℕ → Type 0
  IsLeafTold family drops from label place =
      All (IsSettled drops from (arcs_followed at (leaf_numbered (family label) place) label) (region at (family label) label place) (paths_in family))
      (systems at family label place)

  -- the label was told of the first of the drops, so many
  abbrev pub IsTold : Trees R → List Dropped → ℕ → ℕ → Type 0
  IsTold family drops from label = (from ≤ length drops) × ((place : ℕ) → place < leaves_of (family label) → IsLeafTold family drops from label place)

  -- of each label: it was told of so many, or nothing is known of it
  abbrev pub AreTold : Trees R → List Dropped → List (Option ℕ) → Type 0
  AreTold family drops told = (label from : ℕ) → slice_index_or told label None ≡ Some from → IsTold family drops from label

  -- no store meets what the drop made new at the leaf
  abbrev pub IsRenewed : Trees R → Dropped → ℕ → ℕ → Type 0
  IsRenewed family d label place =
      (arc : Arc) → Contains (arcs_followed at (leaf_numbered (family label) place) label) arc → arc.target ≡ d.label
      → HasNoStore ranks (renewed (region at (family label) label place) (path_of (family arc.target) d.leaf) arc)

  -- No store meets a system of the leaf; or, behind a drop that is told, none meets what it made new there.
  abbrev pub IsCleared : Trees R → Option Dropped → ℕ → ℕ → Type 0
  IsCleared family None label place = All (HasNoStore ranks) (systems at family label place)
  IsCleared family (Some d) label place = All (HasNoStore ranks) (systems at family label place) ⊎ IsRenewed family d label place

  -- it is so of each leaf of the label but the refuted ones
  abbrev pub AreCleared : Trees R → Option Dropped → ℕ → List Refuted → Type 0
  AreCleared family told label refuted =
      (place : ℕ) → place < leaves_of (family label) → All (IsAside place) refuted → IsCleared family told label place
