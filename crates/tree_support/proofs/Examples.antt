-- The systems of a small family, by hand: `while (c) x = e;` with the labels 1 of the test and 2 of the assignment, held against `AF exit`.
use Rattle.std.proofs.Common.{◌≡◌, ℕ, zero, suc, Bool, true, false, List, [], ◌∷◌, None, Some, refl}
use Rattle.linear_cons.specs.declared.affine.Affine.{Affine}
use Rattle.linear_cons.specs.declared.row.Row.{Row}
use Rattle.linear_cons.specs.Functions.{complement_of}
use Rattle.decision_tree.specs.declared.reason.Pick.TheVariants.{All as Every, Yes}
use Rattle.decision_tree.specs.declared.reason.Why.TheVariants.{End, Now, Dead, Step}
use Rattle.decision_tree.specs.Plans.{Plan, bottom, branch, leaf}
use Rattle.control_flow.specs.declared.edge.Choice.TheVariants.{None as NoChoice}
use Rattle.ctl_formula.specs.Formulas.{af_exit}
use Rattle.tree_support.specs.Arcs.{Arc, passing}
use Rattle.constraint_stack.specs.Forming.{Formed, given, put}
use Rattle.tree_support.specs.Setting.{Setting, Trees}
use Rattle.constraint_stack.specs.Claims.{Claim, System, exceeding, nothing, unnatural}
use Rattle.tree_support.specs.Systems.{systems}

-- the rows that the test and its negation spread to, the function that is assigned, what the invariant says at label 1, the row at the root
-- of that label's tree, and ranks
module _ {R : Type 0} (holds fails by : Affine) (known row : Row) (none low high behind : R) where
  abbrev arcs_at : ℕ → List Arc
  arcs_at zero = passing 0 ∷ []
  arcs_at (suc zero) =
      record { edge = 0; target = 2; asks = given holds ∷ []; sets = None } ∷ record { edge = 1; target = 0; asks = given fails ∷ []; sets = None } ∷ []
  arcs_at (suc (suc n)) = record { edge = 0; target = 1; asks = []; sets = Some (0, by) } ∷ []

  abbrev rows_at : ℕ → List Row
  rows_at (suc zero) = known ∷ []
  rows_at label = []

  abbrev dead_at : ℕ → Bool
  dead_at (suc (suc (suc n))) = true
  dead_at label = false

  -- the truth everywhere, and the end at label 0
  abbrev parts : ℕ → Trees R
  parts zero label = leaf Now none
  parts (suc n) zero = leaf End none
  parts (suc n) (suc label) = bottom

  abbrev at : Setting R
  at = record {
    flow = record { arcs = arcs_at; arcs_of = λ label outcome. []; arcs_with = λ label a. []; choice = λ label. NoChoice };
    dead = dead_at;
    rows = rows_at;
    formula = af_exit;
    parts = parts;
  }

  -- label 1 has a row at its root; label 2 is as given
  abbrev family : Plan R → Trees R
  family second zero = leaf End none
  family second (suc zero) = branch row (leaf (Step Every) high) (leaf (Step Every) low)
  family second (suc (suc n)) = second

  -- a system
  abbrev of : ℕ → List Formed → Claim R → System R
  of edge asks claim = record { edge = edge; asks = asks; claim = claim }

  abbrev whole : Plan R
  whole = leaf (Step Every) behind

  -- the loop goes on: a step to label 2, over the first edge, and to label 0, over the second
  goes_on : systems at (family whole) 1 0
      ≡ of 2 (given known.affine ∷ given row.affine ∷ []) (unnatural high)
      ∷ of 0 (given known.affine ∷ given row.affine ∷ given holds ∷ []) (exceeding behind None high)
      ∷ of 1 (given known.affine ∷ given row.affine ∷ given fails ∷ []) (exceeding none None high)
      ∷ []
  goes_on = refl

  -- the leaf on the other side of the row has its complement
  other_side : systems at (family whole) 1 1
      ≡ of 2 (given known.affine ∷ given (complement_of row.affine) ∷ []) (unnatural low)
      ∷ of 0 (given known.affine ∷ given (complement_of row.affine) ∷ given holds ∷ []) (exceeding behind None low)
      ∷ of 1 (given known.affine ∷ given (complement_of row.affine) ∷ given fails ∷ []) (exceeding none None low)
      ∷ []
  other_side = refl

  -- an assignment goes to either leaf of label 1, behind its row with the function put in
  assigned : systems at (family whole) 2 0
      ≡ of 2 [] (unnatural behind)
      ∷ of 0 (put row.affine 0 by ∷ []) (exceeding high (Some (0, by)) behind)
      ∷ of 0 (put (complement_of row.affine) 0 by ∷ []) (exceeding low (Some (0, by)) behind)
      ∷ []
  assigned = refl

  -- where label 2 is undefined the way to it refutes, whatever the rank
  without_body : systems at (family bottom) 1 0
      ≡ of 2 (given known.affine ∷ given row.affine ∷ []) (unnatural high)
      ∷ of 0 (given known.affine ∷ given row.affine ∷ given holds ∷ []) nothing
      ∷ of 1 (given known.affine ∷ given row.affine ∷ given fails ∷ []) (exceeding none None high)
      ∷ []
  without_body = refl

  -- the end stands at label 0 and nowhere else
  at_the_end : systems at (family whole) 0 0 ≡ of 2 [] (unnatural none) ∷ []
  at_the_end = refl

  end_elsewhere : systems at (family (leaf End behind)) 2 0 ≡ of 2 [] (unnatural behind) ∷ of 2 [] nothing ∷ []
  end_elsewhere = refl

  -- the goal isn't there at label 2; no run comes there; one outcome may not be picked for all runs
  goal_missing : systems at (family (leaf Now behind)) 2 0 ≡ of 2 [] (unnatural behind) ∷ of 2 [] nothing ∷ []
  goal_missing = refl

  dead_leaf : systems at (family (leaf Dead behind)) 2 0 ≡ of 2 [] (unnatural behind) ∷ of 2 [] nothing ∷ []
  dead_leaf = refl

  one_outcome : systems at (family (leaf (Step Yes) behind)) 2 0 ≡ of 2 [] (unnatural behind) ∷ of 2 [] nothing ∷ []
  one_outcome = refl

  -- an undefined leaf has no systems, and neither has a label where no store is
  undefined_leaf : systems at (family bottom) 2 0 ≡ []
  undefined_leaf = refl

  dead_label : systems at (family whole) 3 0 ≡ []
  dead_label = refl
