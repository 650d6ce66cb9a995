-- The systems of leaves for each operator, why and pick, by hand: of a test `?` at label 1 that leads to the labels 2 and 3, a number of
-- [0, 9] put at label 2, and a step at label 3, both to the end.
use Rattle.std.proofs.Common.{◌≡◌, ℕ, zero, suc, pos, Bool, true, false, List, [], ◌∷◌, Option, None, Some, refl}
use Rattle.linear_cons.specs.declared.affine.Affine.{Affine}
use Rattle.linear_cons.specs.declared.row.Row.{Row}
use Rattle.linear_cons.specs.Functions.{complement_of, constant_of}
use Rattle.control_flow.specs.declared.edge.Choice.{Choice}
use Rattle.control_flow.specs.declared.edge.Choice.TheVariants.{None as NoChoice, Branch, Range}
use Rattle.ctl_formula.specs.Formulas.{Ctl, truth, falsity, exit, not_exit, always, never, least, negation, both, either, next, until, weak}
use Rattle.decision_tree.specs.declared.reason.Pick.TheVariants.{All as Every, Yes, No, Value}
use Rattle.decision_tree.specs.declared.reason.Why.TheVariants.{End, Atom, Both, Left, Right, Now, Dead, Step}
use Rattle.decision_tree.specs.Plans.{Plan, bottom, branch, leaf}
use Rattle.tree_support.specs.Arcs.{Arc, passing}
use Rattle.constraint_stack.specs.Forming.{Formed, given, minus, put}
use Rattle.tree_support.specs.Setting.{Setting, Trees}
use Rattle.constraint_stack.specs.Claims.{Claim, System, exceeding, nothing, unnatural}
use Rattle.tree_support.specs.Systems.{systems}

-- the function that an arc of label 2 puts, one that a leaf picks, the row at the root of a part's trees, and ranks
module _ {R : Type 0} (by a : Affine) (row : Row) (r s t : R) where
  abbrev arc : ℕ → ℕ → Option (ℕ × Affine) → Arc
  arc edge target sets = record { edge = edge; target = target; asks = []; sets = sets }

  abbrev arcs_at : ℕ → List Arc
  arcs_at zero = passing 0 ∷ []
  arcs_at (suc zero) = arc 0 2 None ∷ arc 1 3 None ∷ []
  arcs_at (suc (suc zero)) = arc 0 0 (Some (0, by)) ∷ []
  arcs_at (suc (suc (suc n))) = arc 0 0 None ∷ []

  abbrev outcome_at : ℕ → Bool → List Arc
  outcome_at (suc zero) true = arc 0 2 None ∷ []
  outcome_at (suc zero) false = arc 1 3 None ∷ []
  outcome_at label outcome = []

  abbrev choice_at : ℕ → Choice
  choice_at (suc zero) = Branch
  choice_at (suc (suc zero)) = Range (Some (pos 0)) (Some (pos 9))
  choice_at label = NoChoice

  -- the first part is defined where the row holds, the second nowhere
  abbrev parts : ℕ → Trees R
  parts zero label = branch row (leaf Atom s) bottom
  parts (suc n) label = bottom

  abbrev at : Ctl → Setting R
  at formula = record {
    flow = record { arcs = arcs_at; arcs_of = outcome_at; arcs_with = λ label b. arc 0 0 (Some (0, b)) ∷ []; choice = choice_at };
    dead = λ label. false;
    rows = λ label. [];
    formula = formula;
    parts = parts;
  }

  -- this leaf at the labels 1 and 2, the goal at the end, and nothing at label 3
  abbrev family : Plan R → Trees R
  family here zero = leaf Now t
  family here (suc zero) = here
  family here (suc (suc zero)) = here
  family here (suc (suc (suc n))) = bottom

  abbrev of : ℕ → List Formed → Claim R → System R
  of edge asks claim = record { edge = edge; asks = asks; claim = claim }

  -- the region of a leaf, which asks nothing here, and with it where the first part is undefined
  abbrev region : System R
  region = of 2 [] nothing

  abbrev without_first : System R
  without_first = of 2 (given (complement_of row.affine) ∷ []) nothing

  -- ---- atoms

  the_truth : systems (at truth) (family (leaf Atom r)) 1 0 ≡ []
  the_truth = refl

  always_met : systems (at always) (family (leaf Atom r)) 1 0 ≡ []
  always_met = refl

  a_row : systems (at (least a)) (family (leaf Atom r)) 1 0 ≡ of 2 (given (complement_of a) ∷ []) nothing ∷ []
  a_row = refl

  no_end : systems (at not_exit) (family (leaf Atom r)) 1 0 ≡ []
  no_end = refl

  no_end_at_the_end : systems (at not_exit) (λ label. leaf Atom r) 0 0 ≡ region ∷ []
  no_end_at_the_end = refl

  the_falsity : systems (at falsity) (family (leaf Atom r)) 1 0 ≡ region ∷ []
  the_falsity = refl

  never_met : systems (at never) (family (leaf Atom r)) 1 0 ≡ region ∷ []
  never_met = refl

  negated : systems (at (negation truth)) (family (leaf (Step Every) r)) 1 0 ≡ region ∷ []
  negated = refl

  end_as_atom : systems (at exit) (λ label. leaf Atom r) 0 0 ≡ region ∷ []
  end_as_atom = refl

  the_end : systems (at exit) (λ label. leaf End r) 0 0 ≡ []
  the_end = refl

  end_elsewhere : systems (at exit) (family (leaf End r)) 1 0 ≡ region ∷ []
  end_elsewhere = refl

  -- ---- connectives

  both_sides : systems (at (both truth truth)) (family (leaf Both r)) 1 0 ≡ without_first ∷ region ∷ []
  both_sides = refl

  left_side : systems (at (either truth truth)) (family (leaf Left r)) 1 0 ≡ without_first ∷ []
  left_side = refl

  right_side : systems (at (either truth truth)) (family (leaf Right r)) 1 0 ≡ region ∷ []
  right_side = refl

  left_of_both : systems (at (both truth truth)) (family (leaf Left r)) 1 0 ≡ region ∷ []
  left_of_both = refl

  -- ---- next: the part's trees at the targets

  all_next : systems (at (next true truth)) (family (leaf (Step Every) r)) 1 0
      ≡ of 0 (given (complement_of row.affine) ∷ []) nothing ∷ of 1 (given (complement_of row.affine) ∷ []) nothing ∷ []
  all_next = refl

  some_next : systems (at (next false truth)) (family (leaf (Step No) r)) 1 0 ≡ of 1 (given (complement_of row.affine) ∷ []) nothing ∷ []
  some_next = refl

  -- for all successors none is picked
  picked_for_all : systems (at (next true truth)) (family (leaf (Step No) r)) 1 0 ≡ region ∷ []
  picked_for_all = refl

  next_put : systems (at (next true truth)) (family (leaf (Step Every) r)) 2 0
      ≡ of 0 (put (complement_of row.affine) 0 by ∷ []) nothing ∷ []
  next_put = refl

  -- at the end the next state is the same
  now_at_the_end : systems (at (next true truth)) (λ label. leaf Now r) 0 0 ≡ without_first ∷ []
  now_at_the_end = refl

  now_elsewhere : systems (at (next true truth)) (family (leaf Now r)) 1 0 ≡ region ∷ []
  now_elsewhere = refl

  end_stays : systems (at (next false truth)) (λ label. leaf (Step Every) r) 0 0 ≡ of 0 (given (complement_of row.affine) ∷ []) nothing ∷ []
  end_stays = refl

  -- ---- until: a natural rank, what is to be kept, and a lower rank at the targets

  some_until : systems (at (until false truth truth)) (family (leaf (Step Yes) r)) 1 0
      ≡ of 2 [] (unnatural r) ∷ without_first ∷ of 0 [] (exceeding r None r) ∷ []
  some_until = refl

  other_outcome : systems (at (until false truth truth)) (family (leaf (Step No) r)) 1 0
      ≡ of 2 [] (unnatural r) ∷ without_first ∷ of 1 [] nothing ∷ []
  other_outcome = refl

  -- a value lies between both ends of its range
  value_picked : systems (at (until false truth truth)) (family (leaf (Step (Value a)) r)) 2 0
      ≡ of 2 [] (unnatural r) ∷ without_first
      ∷ of 2 (minus (minus (given (constant_of (pos 0))) (given a)) (given (constant_of (pos 1))) ∷ []) nothing
      ∷ of 2 (minus (minus (given a) (given (constant_of (pos 9)))) (given (constant_of (pos 1))) ∷ []) nothing
      ∷ of 0 [] (exceeding t (Some (0, a)) r) ∷ []
  value_picked = refl

  value_at_a_test : systems (at (until false truth truth)) (family (leaf (Step (Value a)) r)) 1 0
      ≡ of 2 [] (unnatural r) ∷ without_first ∷ region ∷ []
  value_at_a_test = refl

  outcome_at_a_range : systems (at (until false truth truth)) (family (leaf (Step Yes) r)) 2 0
      ≡ of 2 [] (unnatural r) ∷ without_first ∷ region ∷ []
  outcome_at_a_range = refl

  value_for_all : systems (at (until true truth truth)) (family (leaf (Step (Value a)) r)) 2 0
      ≡ of 2 [] (unnatural r) ∷ without_first ∷ region ∷ []
  value_for_all = refl

  goal_now : systems (at (until false truth truth)) (family (leaf Now r)) 1 0 ≡ of 2 [] (unnatural r) ∷ region ∷ []
  goal_now = refl

  until_the_end : systems (at (until false truth exit)) (λ label. leaf End r) 0 0 ≡ of 2 [] (unnatural r) ∷ []
  until_the_end = refl

  end_for_a_row : systems (at (until false truth (least a))) (λ label. leaf End r) 0 0 ≡ of 2 [] (unnatural r) ∷ region ∷ []
  end_for_a_row = refl

  -- ---- weak until: no rank is asked for

  all_weak : systems (at (weak true truth truth)) (family (leaf (Step Every) r)) 1 0 ≡ without_first ∷ of 1 [] nothing ∷ []
  all_weak = refl

  some_weak : systems (at (weak false truth truth)) (family (leaf (Step Yes) r)) 1 0 ≡ without_first ∷ []
  some_weak = refl

  weak_put : systems (at (weak true truth truth)) (λ label. branch row (leaf (Step Every) r) bottom) 2 0
      ≡ of 2 (given row.affine ∷ given (complement_of row.affine) ∷ []) nothing
      ∷ of 0 (given row.affine ∷ put (complement_of row.affine) 0 by ∷ []) nothing ∷ []
  weak_put = refl

  weak_end : systems (at (weak true truth exit)) (λ label. leaf End r) 0 0 ≡ region ∷ []
  weak_end = refl

  dead_leaf : systems (at (weak true truth truth)) (family (leaf Dead r)) 1 0 ≡ region ∷ []
  dead_leaf = refl
