-- The families that sweeps make for the parts of a formula, in a program without loops, by what is done at the labels.
use Rattle.std.specs.Prelude.{◌≡◌, ℕ, zero, suc, ◌<◌, Bool, true, false, List, [], ◌∷◌, ◌++◌, None}
use Rattle.linear_cons.specs.declared.affine.Affine.{Affine}
use Rattle.linear_cons.specs.declared.row.Row.{Row}
use Rattle.linear_forms.specs.Duality.{AreDual, EachOf}
use Rattle.decision_tree.specs.Plans.{Plan, bottom, branch}
use Rattle.decision_tree.specs.declared.affine_rank.AffineRank.{AffineRank}
use Rattle.decision_tree.specs.declared.reason.Pick.TheVariants.{All as Every}
use Rattle.decision_tree.specs.declared.reason.Why.TheVariants.{Atom, Both, Left, Right, Now, Step}
use Rattle.control_flow.specs.declared.edge.Choice.TheVariants.{Branch}
use Rattle.ctl_formula.specs.Formulas.{Ctl, truth, falsity, exit, not_exit, always, never, least, negation, both, either, next, until, weak}
use Rattle.backward_transfer.specs.AffineShapes.{affine_ranks, assigned_shape, cut, picked_shape, same_rank, stepped_shape, tested_shape}
use Rattle.backward_transfer.specs.Ranges.{later_of}
use Rattle.backward_sweeps.specs.Claiming.{claimed, reranked}
use Rattle.backward_sweeps.specs.Moving.{at_once}
use Rattle.backward_sweeps.specs.Remaking.{either_of, made}
use Rattle.part_trees.specs.Local.{end_tree, going_tree, met}
use Rattle.tree_support.specs.Arcs.{Arc, Flow, passing, putting, testing}
use Rattle.tree_support.specs.Setting.{Trees}
use Rattle.unroll.proofs.SpreadRows.{IsLong}

-- what is done at a label of a plain program: nothing more, an assignment of a function, a step that changes nothing, a test of which one
-- outcome is possible, or a free one
pub data Deed : Type 0 where
  finishes : Deed
  sets : ℕ → Affine → ℕ → Deed
  passes : ℕ → Deed
  asks : List (List Row) → List (List Row) → ℕ → ℕ → Deed
  frees : ℕ → ℕ → Deed

-- an outcome of a free test
abbrev pub free_arc : ℕ → ℕ → Arc
free_arc edge target = record { edge = edge; target = target; asks = []; sets = None }

-- the arcs and the choice of a label at which this is done
abbrev pub FlowsAs : Flow → ℕ → Deed → Type 0
FlowsAs flow l finishes = (flow.arcs l ≡ passing 0 ∷ []) × (flow.choice l ≡ Branch → ⊥)
FlowsAs flow l (sets x by target) = (flow.arcs l ≡ putting x target by ∷ []) × (flow.choice l ≡ Branch → ⊥) × x < 16
FlowsAs flow l (passes target) = (flow.arcs l ≡ passing target ∷ []) × (flow.choice l ≡ Branch → ⊥)
FlowsAs flow l (asks holds fails then_to else_to) =
    (flow.arcs l ≡ testing 0 then_to holds ++ testing 1 else_to fails) × (flow.choice l ≡ Branch → ⊥) × AreDual holds fails
    × EachOf (EachOf IsLong) holds
FlowsAs flow l (frees then_to else_to) =
    (flow.arcs l ≡ free_arc 0 then_to ∷ (free_arc 1 else_to ∷ [])) × (flow.choice l ≡ Branch)
    × (flow.arcs_of l true ≡ free_arc 0 then_to ∷ []) × (flow.arcs_of l false ≡ free_arc 1 else_to ∷ [])

-- the tree before a free test: of all outcomes, or of one that is picked
abbrev pub before_free : Bool → Plan AffineRank → Plan AffineRank → Plan AffineRank
before_free true this that = cut (stepped_shape (later_of same_rank affine_ranks.where_greater affine_ranks.greater_fits this that))
before_free false this that = cut (picked_shape this that)

-- the tree before what is done
abbrev pub before : Bool → Deed → Trees AffineRank → Plan AffineRank
before all finishes trees = bottom
before all (sets x by target) trees = cut (assigned_shape x by (trees target))
before all (passes target) trees = cut (stepped_shape (trees target))
before all (asks holds fails then_to else_to) trees = cut (tested_shape (trees then_to) (trees else_to) holds fails)
before all (frees then_to else_to) trees = before_free all (trees then_to) (trees else_to)

-- The tree of a part at a label, by the families of its own parts and, for an until or weak until, by the family itself.
abbrev pub tree_made : Ctl → (ℕ → Deed) → (ℕ → Trees AffineRank) → Trees AffineRank → ℕ → Plan AffineRank
tree_made truth deeds parts family label = at_once Atom
tree_made always deeds parts family label = at_once Atom
tree_made falsity deeds parts family label = bottom
tree_made never deeds parts family label = bottom
tree_made exit deeds parts family zero = end_tree true
tree_made exit deeds parts family (suc l) = end_tree false
tree_made not_exit deeds parts family zero = going_tree true
tree_made not_exit deeds parts family (suc l) = going_tree false
tree_made (least a) deeds parts family label = bottom
tree_made (negation f) deeds parts family label = bottom
tree_made (both f g) deeds parts family label = claimed Both (met (parts 0 label) (parts 1 label))
tree_made (either f g) deeds parts family label = either_of (claimed Left (parts 0 label)) (claimed Right (parts 1 label))
tree_made (next all f) deeds parts family zero = claimed Now (parts 0 0)
tree_made (next all f) deeds parts family (suc l) = before all (deeds (suc l)) (λ target. reranked (parts 0 target))
tree_made (until all f g) deeds parts family zero = claimed Now (parts 1 0)
tree_made (until all f g) deeds parts family (suc l) =
    made (claimed Now (parts 1 (suc l))) (reranked (parts 0 (suc l))) (before all (deeds (suc l)) family)
tree_made (weak all f g) deeds parts family zero = either_of (claimed Now (parts 1 0)) (claimed (Step Every) (reranked (parts 0 0)))
tree_made (weak all f g) deeds parts family (suc l) =
    made (claimed Now (parts 1 (suc l))) (reranked (parts 0 (suc l))) (before all (deeds (suc l)) family)

-- a row's tree asks the row; each other part's is as it is made
abbrev pub IsMadeAt : Ctl → (ℕ → Deed) → (ℕ → Trees AffineRank) → Trees AffineRank → ℕ → Type 0
IsMadeAt (least a) deeds parts family label = (row : Row) × (row.affine ≡ a) × (family label ≡ branch row (at_once Atom) bottom)
IsMadeAt formula deeds parts family label = family label ≡ tree_made formula deeds parts family label
