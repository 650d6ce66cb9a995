-- The systems of a leaf: whatever a store would have to meet for the leaf to be wrong there. Each why has its own (Urban and Miné, SAS 2014;
-- Urban, Ueltschi and Müller, SAS 2018).
use Rattle.std.specs.Prelude.{ℕ, zero, suc, ℤ, pos, Bool, true, false, List, [], ◌∷◌, ◌++◌, map, Option, None, Some, if◌then◌else◌}
use Rattle.std.specs.List.{flat_map}
use Rattle.linear_cons.specs.declared.affine.Affine.{Affine}
use Rattle.linear_cons.specs.Functions.{complement_of, constant_of}
use Rattle.decision_tree.specs.declared.reason.Pick.{Pick}
use Rattle.decision_tree.specs.declared.reason.Pick.TheVariants.{All as Every, Yes, No, Value}
use Rattle.decision_tree.specs.declared.reason.Why.{Why}
use Rattle.decision_tree.specs.declared.reason.Why.TheVariants.{End, Atom, Both, Left, Right, Now, Dead, Step}
use Rattle.decision_tree.specs.Plans.{Plan, bottom, top, leaf, branch}
use Rattle.decision_tree.specs.Paths.{leaf_numbered, path_of}
use Rattle.control_flow.specs.declared.edge.Choice.{Choice}
use Rattle.control_flow.specs.declared.edge.Choice.TheVariants.{None as NoChoice, Branch, Range}
use Rattle.ctl_formula.specs.Formulas.{Ctl, truth, falsity, exit, not_exit, always, never, least, negation, both, either, next, until, weak}
use Rattle.tree_support.specs.Arcs.{Arc, rows_given}
use Rattle.constraint_stack.specs.Forming.{Formed, given, put, minus}
use Rattle.constraint_stack.specs.Claims.{nothing, unnatural, exceeding, System}
use Rattle.tree_support.specs.Setting.{Setting, Trees}

-- the edge number of a system that has no edge
abbrev pub unedged : ℕ
unedged = 2

-- a row moved back over what an arc sets
abbrev pub moved_by : Option (ℕ × Affine) → Affine → Formed
moved_by None a = given a
moved_by (Some (place, by)) a = put a place by

module _ {R : Type 0} where
  -- a system without a claim
  abbrev pub plain : ℕ → List Formed → List (System R)
  plain edge asks = record { edge = edge; asks = asks; claim = nothing } ∷ []

  -- ---- the leaves of another tree, each with what is asked before it and on its path

  -- a leaf refutes where it is undefined
  abbrev pub if_undefined : ℕ → Plan R → List Formed → List (System R)
  if_undefined edge (leaf why rank) asks = []
  if_undefined edge bottom asks = plain edge asks
  if_undefined edge (top cause) asks = plain edge asks
  if_undefined edge (branch row this that) asks = plain edge asks

  -- a leaf refutes where it is undefined, or where its rank isn't less than this one
  abbrev pub unless_less : ℕ → Option (ℕ × Affine) → R → Plan R → List Formed → List (System R)
  unless_less edge sets rank (leaf why other) asks = record { edge = edge; asks = asks; claim = exceeding other sets rank } ∷ []
  unless_less edge sets rank bottom asks = plain edge asks
  unless_less edge sets rank (top cause) asks = plain edge asks
  unless_less edge sets rank (branch row this that) asks = plain edge asks

  -- the leaves of the tree, whose rows are moved
  abbrev pub at_leaves : (Affine → Formed) → (Plan R → List Formed → List (System R)) → Plan R → List Formed → List (System R)
  at_leaves moved ending (branch row this that) asks =
      at_leaves moved ending this (asks ++ moved row.affine ∷ []) ++ at_leaves moved ending that (asks ++ moved (complement_of row.affine) ∷ [])
  at_leaves moved ending bottom asks = ending bottom asks
  at_leaves moved ending (top cause) asks = ending (top cause) asks
  at_leaves moved ending (leaf why rank) asks = ending (leaf why rank) asks

  -- the undefined leaves of a tree at the same label
  abbrev pub undefined_at : Plan R → List Formed → List (System R)
  undefined_at tree asks = at_leaves given (if_undefined unedged) tree asks

  -- ---- the systems by the why of the leaf, behind what its region asks

  module _ (at : Setting R) where
    -- the targets of arcs: for a next the part's trees, for an until this family's, with a rank that is less, and for a weak until this
    -- family's
    abbrev pub of_arcs : Ctl → Trees R → R → List Arc → List Formed → List (System R)
    of_arcs (next all f) family rank arcs asks =
        flat_map (λ (arc : Arc). at_leaves (moved_by arc.sets) (if_undefined arc.edge) (at.parts 0 arc.target) (asks ++ arc.asks)) arcs
    of_arcs (until all f g) family rank arcs asks =
        flat_map (λ (arc : Arc). at_leaves (moved_by arc.sets) (unless_less arc.edge arc.sets rank) (family arc.target) (asks ++ arc.asks)) arcs
    of_arcs (weak all f g) family rank arcs asks =
        flat_map (λ (arc : Arc). at_leaves (moved_by arc.sets) (if_undefined arc.edge) (family arc.target) (asks ++ arc.asks)) arcs
    of_arcs truth family rank arcs asks = plain unedged asks
    of_arcs falsity family rank arcs asks = plain unedged asks
    of_arcs exit family rank arcs asks = plain unedged asks
    of_arcs not_exit family rank arcs asks = plain unedged asks
    of_arcs always family rank arcs asks = plain unedged asks
    of_arcs never family rank arcs asks = plain unedged asks
    of_arcs (least a) family rank arcs asks = plain unedged asks
    of_arcs (negation f) family rank arcs asks = plain unedged asks
    of_arcs (both f g) family rank arcs asks = plain unedged asks
    of_arcs (either f g) family rank arcs asks = plain unedged asks

    -- the formula speaks of some successor
    abbrev pub is_existential : Ctl → Bool
    is_existential (next all f) = if all then false else true
    is_existential (until all f g) = if all then false else true
    is_existential (weak all f g) = if all then false else true
    is_existential truth = false
    is_existential falsity = false
    is_existential exit = false
    is_existential not_exit = false
    is_existential always = false
    is_existential never = false
    is_existential (least a) = false
    is_existential (negation f) = false
    is_existential (both f g) = false
    is_existential (either f g) = false

    -- one outcome is picked: at a branching choice
    abbrev pub of_outcome : Choice → Bool → Trees R → R → ℕ → List Formed → List (System R)
    of_outcome Branch outcome family rank label asks = of_arcs at.formula family rank (at.flow.arcs_of label outcome) asks
    of_outcome NoChoice outcome family rank label asks = plain unedged asks
    of_outcome (Range lo hi) outcome family rank label asks = plain unedged asks

    -- the value of the function is below the lower end, or above the upper one
    abbrev pub below_range : Option ℤ → Affine → List Formed → List (System R)
    below_range None a asks = []
    below_range (Some lo) a asks = plain unedged (asks ++ minus (minus (given (constant_of lo)) (given a)) (given (constant_of (pos 1))) ∷ [])

    abbrev pub above_range : Option ℤ → Affine → List Formed → List (System R)
    above_range None a asks = []
    above_range (Some hi) a asks = plain unedged (asks ++ minus (minus (given a) (given (constant_of hi))) (given (constant_of (pos 1))) ∷ [])

    -- a value is picked: at a range choice, from the range
    abbrev pub of_value : Choice → Affine → Trees R → R → ℕ → List Formed → List (System R)
    of_value (Range lo hi) a family rank label asks =
        below_range lo a asks ++ (above_range hi a asks ++ of_arcs at.formula family rank (at.flow.arcs_with label a) asks)
    of_value NoChoice a family rank label asks = plain unedged asks
    of_value Branch a family rank label asks = plain unedged asks

    -- a step by its pick: all edges; or, where some successor is spoken of, one outcome or one value
    abbrev pub of_pick : Pick → Trees R → R → ℕ → List Formed → List (System R)
    of_pick Every family rank label asks = of_arcs at.formula family rank (at.flow.arcs label) asks
    of_pick Yes family rank label asks =
        if is_existential at.formula then of_outcome (at.flow.choice label) true family rank label asks else plain unedged asks
    of_pick No family rank label asks =
        if is_existential at.formula then of_outcome (at.flow.choice label) false family rank label asks else plain unedged asks
    of_pick (Value a) family rank label asks =
        if is_existential at.formula then of_value (at.flow.choice label) a family rank label asks else plain unedged asks

    -- what is to be kept holds before a step of an until or weak until
    abbrev pub of_keep : Ctl → ℕ → List Formed → List (System R)
    of_keep (until all f g) label asks = undefined_at (at.parts 0 label) asks
    of_keep (weak all f g) label asks = undefined_at (at.parts 0 label) asks
    of_keep (next all f) label asks = []
    of_keep truth label asks = []
    of_keep falsity label asks = []
    of_keep exit label asks = []
    of_keep not_exit label asks = []
    of_keep always label asks = []
    of_keep never label asks = []
    of_keep (least a) label asks = []
    of_keep (negation f) label asks = []
    of_keep (both f g) label asks = []
    of_keep (either f g) label asks = []

    -- at label 0 stands the end, for `exit` and for an until whose goal it is
    abbrev pub of_end : Ctl → ℕ → List Formed → List (System R)
    of_end exit zero asks = []
    of_end (until all f exit) zero asks = []
    of_end formula label asks = plain unedged asks

    -- an atom: a row asks that its complement is met nowhere in the region
    abbrev pub of_atom : Ctl → ℕ → List Formed → List (System R)
    of_atom truth label asks = []
    of_atom always label asks = []
    of_atom (least a) label asks = plain unedged (asks ++ given (complement_of a) ∷ [])
    of_atom not_exit (suc label) asks = []
    of_atom not_exit zero asks = plain unedged asks
    of_atom falsity label asks = plain unedged asks
    of_atom exit label asks = plain unedged asks
    of_atom never label asks = plain unedged asks
    of_atom (negation f) label asks = plain unedged asks
    of_atom (both f g) label asks = plain unedged asks
    of_atom (either f g) label asks = plain unedged asks
    of_atom (next all f) label asks = plain unedged asks
    of_atom (until all f g) label asks = plain unedged asks
    of_atom (weak all f g) label asks = plain unedged asks

    -- both sides of a conjunction, and one side of a disjunction, are defined
    abbrev pub of_both : Ctl → ℕ → List Formed → List (System R)
    of_both (both f g) label asks = undefined_at (at.parts 0 label) asks ++ undefined_at (at.parts 1 label) asks
    of_both formula label asks = plain unedged asks

    abbrev pub of_side : Ctl → ℕ → ℕ → List Formed → List (System R)
    of_side (either f g) side label asks = undefined_at (at.parts side label) asks
    of_side formula side label asks = plain unedged asks

    -- the goal, or at label 0 the part of a next, holds now
    abbrev pub of_now : Ctl → ℕ → List Formed → List (System R)
    of_now (until all f g) label asks = undefined_at (at.parts 1 label) asks
    of_now (weak all f g) label asks = undefined_at (at.parts 1 label) asks
    of_now (next all f) zero asks = undefined_at (at.parts 0 0) asks
    of_now formula label asks = plain unedged asks

    -- a step stands for a next, an until and a weak until alone
    abbrev pub of_why : Why → Trees R → R → ℕ → List Formed → List (System R)
    of_why End family rank label asks = of_end at.formula label asks
    of_why Atom family rank label asks = of_atom at.formula label asks
    of_why Both family rank label asks = of_both at.formula label asks
    of_why Left family rank label asks = of_side at.formula 0 label asks
    of_why Right family rank label asks = of_side at.formula 1 label asks
    of_why Now family rank label asks = of_now at.formula label asks
    of_why Dead family rank label asks = plain unedged asks
    of_why (Step pick) family rank label asks = of_keep at.formula label asks ++ of_pick pick family rank label asks

    -- the rank of a leaf of an until is a natural
    abbrev pub of_rank : Ctl → R → List Formed → List (System R)
    of_rank (until all f g) rank asks = record { edge = unedged; asks = asks; claim = unnatural rank } ∷ []
    of_rank formula rank asks = []

    -- the region of a leaf: what the invariant says, and its path
    abbrev pub region : Plan R → ℕ → ℕ → List Formed
    region tree label place = rows_given (at.rows label) ++ map given (path_of tree place)

    abbrev pub of_leaf : Plan R → Trees R → ℕ → List Formed → List (System R)
    of_leaf (leaf why rank) family label asks = of_rank at.formula rank asks ++ of_why why family rank label asks
    of_leaf bottom family label asks = []
    of_leaf (top cause) family label asks = []
    of_leaf (branch row this that) family label asks = []

    -- The systems of the leaf with this number at the label. A label where no store is has none, and neither has an undefined leaf.
    abbrev pub systems : Trees R → ℕ → ℕ → List (System R)
    systems family label place =
        if at.dead label then []
        else of_leaf (leaf_numbered (family label) place) family label (region (family label) label place)
