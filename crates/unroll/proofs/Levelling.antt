-- Trees that tell are those of a level.
use Rattle.std.proofs.Common.{◌≡◌, ℕ, suc, ◌<◌, List, length, set, sym, subst, arith}
use Rattle.decision_tree.specs.Evaluation.{eval}
use Rattle.decision_tree.specs.Plans.{Plan, bottom, plan_of}
use Rattle.decision_tree.specs.declared.affine_rank.AffineRank.{AffineRank}
use Rattle.decision_tree.specs.declared.tree.Tree.{Tree}
use Rattle.step_meaning.specs.Syntax.{Statements}
use Rattle.control_flow.specs.Edges.{configuration}
use Rattle.control_flow.specs.Labels.{all_labels}
use Rattle.control_flow.specs.Actions.{AtAll, AtBehind, AtFirst}
use Rattle.unroll.specs.Building.{ClaimsAt, TellsAt, TellsTree}
use Rattle.backward_transfer.specs.AffineShapes.{tree_at, plans}
use Rattle.unroll.specs.Levels.{IsLevel}
use Rattle.unroll.specs.Within.{place_of}
use Rattle.control_flow.proofs.Filling.{put_behind, put_first}
use Rattle.backward_transfer.proofs.Putting.{plans_length, plans_set}
use Rattle.unroll.proofs.Growing.{below_some}
use Rattle.unroll.proofs.LevelLaws.{tells_exactly}
use Rattle.unroll.proofs.WithinTrees.{rows_at_most}

pub is_level : (tests : ℕ) (body : Statements) (trees : List (Plan AffineRank)) → length trees ≡ length (all_labels body) → AtAll body (TellsAt tests body trees)
    → IsLevel tests body trees
is_level tests body trees long tell = record {
  labels = long;
  exact = λ label low store sixteen n. tells_exactly tests n (configuration body label store) (ClaimsAt (eval (tree_at trees label) store)) ((tell label low).tells store sixteen);
  claimed = λ label low store sixteen n ends. ((tell label low).tells store sixteen).found n ends;
  ranks = λ label low. (tell label low).ranks;
  complements = λ label low. (tell label low).complements;
  variables = λ label low. (tell label low).variables;
  numbers = λ label low. rows_at_most _ _ _ (below_some body (place_of body label)) (tree_at trees label) (tell label low).numbers.within;
  small = λ label low. (tell label low).small;
}

-- ---- a tree put in

module _ (limit : ℕ) (body : Statements) (trees : List (Tree AffineRank)) (l : ℕ) (tree : Tree AffineRank) (low : l < length trees) (here : TellsTree limit body l (plan_of tree)) where
  inside : l < length (plans trees)
  inside = let long = plans_length trees in omega (arith, long, low)

  pub tree_behind : AtBehind body (suc l) (TellsAt limit body (plans trees)) → AtBehind body l (TellsAt limit body (plans (set trees l tree)))
  tree_behind tell =
      subst (λ t. AtBehind body l (TellsAt limit body t)) (sym (plans_set trees l tree))
      (put_behind bottom (TellsTree limit body) body (plans trees) l (plan_of tree) inside tell here)

  pub tree_first : AtFirst body l (TellsAt limit body (plans trees)) → AtFirst body (suc l) (TellsAt limit body (plans (set trees l tree)))
  tree_first tell =
      subst (λ t. AtFirst body (suc l) (TellsAt limit body t)) (sym (plans_set trees l tree))
      (put_first bottom (TellsTree limit body) body (plans trees) l (plan_of tree) inside tell here)
