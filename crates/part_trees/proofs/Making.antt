-- Trees that are made of others.
use Rattle.std.proofs.Common.{◌≡◌, ℕ, zero, suc, ◌<◌, Bool, List, [], ◌∷◌, ◌++◌, get_or, length, map, take, refl, ap, ◌∙◌, arith, Ok, Err, IfOk, Result}
use Rattle.decision_tree.specs.Plans.{Plan, plan_of}
use Rattle.decision_tree.specs.declared.affine_rank.AffineRank.{AffineRank}
use Rattle.decision_tree.specs.declared.tree.Tree.{Tree}
use Rattle.backward_transfer.specs.AffineShapes.{plans, tree_at}
use Rattle.backward_transfer.proofs.Putting.{plans_more}
use Rattle.backward_sweeps.specs.Claiming.{reranked}
use Rattle.control_flow.specs.Transitions.{LeadsWithin, first_target, second_target}
use Rattle.backward_sweeps.specs.Remaking.{Parts}
use Rattle.control_flow.specs.declared.transition.Transition.{Transition}
use Rattle.control_flow.specs.declared.transition.Transition.TheVariants.{Assign, Choose, Dead, End, Pass, Test}
use Rattle.backward_sweeps.proofs.Passing.{both_carried}
use Rattle.part_trees.specs.Next.{AreReranked, IsNext, IsStep}

-- what is made of each tree so far, and of the one behind them
took : (f : Plan AffineRank → Plan AffineRank) (trees : List (Tree AffineRank)) (i : ℕ) (tree : Tree AffineRank) → i < length trees
    → tree ≡ get_or trees i tree → map f (plans (take i trees)) ++ f (plan_of tree) ∷ [] ≡ map f (plans (take (suc i) trees))
took f [] i tree low is = absurd (omega arith)
took f (x ∷ xs) zero tree low is = ap (λ t. f (plan_of t) ∷ []) is
took f (x ∷ xs) (suc i) tree low is = ap (λ t. f (plan_of x) ∷ t) (took f xs i tree (omega arith) is)

pub one_more_made : (f : Plan AffineRank → Plan AffineRank) (trees made : List (Tree AffineRank)) (i : ℕ) (tree one : Tree AffineRank) → i < length trees
    → tree ≡ get_or trees i tree → plan_of one ≡ f (plan_of tree) → plans made ≡ map f (plans (take i trees))
    → plans (made ++ one ∷ []) ≡ map f (plans (take (suc i) trees))
one_more_made f trees made i tree one low is same before =
    plans_more made one ∙ ap (λ t. t ++ plan_of one ∷ []) before ∙ ap (λ t. map f (plans (take i trees)) ++ t ∷ []) same ∙ took f trees i tree low is

-- a step's trees, with the rank 0
module _ (all : Bool) (part behind : List (Plan AffineRank)) (n : ℕ) (are : AreReranked n part behind) (plan : Plan AffineRank) where
  stepped : (transition : Transition) → LeadsWithin n transition → IsStep all transition (tree_at behind (first_target transition)) (tree_at behind (second_target transition)) plan
      → IsStep all transition (reranked (tree_at part (first_target transition))) (reranked (tree_at part (second_target transition))) plan
  stepped transition low step =
      both_carried (λ this that. IsStep all transition this that plan) (tree_at behind (first_target transition)) (reranked (tree_at part (first_target transition)))
      (tree_at behind (second_target transition)) (reranked (tree_at part (second_target transition))) (are (first_target transition) low.0)
      (are (second_target transition) low.1) step

  pub next_of : (label : ℕ) (transition : Transition) → (transition ≡ End → ⊥) → LeadsWithin n transition
      → IsStep all transition (tree_at behind (first_target transition)) (tree_at behind (second_target transition)) plan → IsNext all part label transition plan
  next_of label End going low step = absurd (going refl)
  next_of label Dead going low step = stepped Dead low step
  next_of label (Pass to) going low step = stepped (Pass to) low step
  next_of label (Assign place value to) going low step = stepped (Assign place value to) low step
  next_of label (Choose place range choice cases to) going low step = stepped (Choose place range choice cases to) low step
  next_of label (Test is_head choice holds fails to other) going low step = stepped (Test is_head choice holds fails to other) low step

-- what an until is made of is the same where each of its parts is
pub same_parts : (parts other : Parts) → parts.all ≡ other.all → parts.goals ≡ other.goals → parts.keeps ≡ other.keeps → parts ≡ other
same_parts parts other all goals keeps =
    ap (λ (a : Bool). record { all = a; goals = parts.goals; keeps = parts.keeps }) all
    ∙ ap (λ (g : List (Plan AffineRank)). record { all = other.all; goals = g; keeps = parts.keeps }) goals
    ∙ ap (λ (k : List (Plan AffineRank)). record { all = other.all; goals = other.goals; keeps = k }) keeps

-- what a call's answer is, and what it is under a premise
pub with_premise : {T E : Type 0} (result : Result T E) (P Q : T → Type 0) (H : Type 0) → IfOk result P → (H → IfOk result Q)
    → IfOk result (λ x. P x × (H → Q x))
with_premise (Ok x) P Q H first second = (first, second)
with_premise (Err e) P Q H first second = first
