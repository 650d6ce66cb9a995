-- The trees of the labels that follow, read from a list.
use Rattle.std.proofs.Common.{◌≡◌, ℕ, ◌<◌, List, get_or, length, sym, ap, subst, ◌∙◌}
use Rattle.decision_tree.specs.Plans.{Plan, plan_of}
use Rattle.decision_tree.specs.declared.affine_rank.AffineRank.{AffineRank}
use Rattle.decision_tree.specs.declared.tree.Tree.{Tree}
use Rattle.backward_transfer.specs.AffineShapes.{plans, tree_at}
use Rattle.backward_transfer.proofs.Putting.{plan_at}
use Rattle.control_flow.specs.declared.transition.Transition.{Transition}
use Rattle.control_flow.specs.Transitions.{LeadsWithin, first_target, second_target}

module _ (trees : List (Tree AffineRank)) where
  -- what was read at a label is the tree of the label
  here : (label : ℕ) (tree : Tree AffineRank) → tree ≡ get_or trees label tree → label < length trees → plan_of tree ≡ tree_at (plans trees) label
  here label tree is low = ap plan_of is ∙ plan_at trees label tree low

  -- what holds of the trees that a transition reads is carried to the trees of its labels
  carried : (a : Transition) (this that : Tree AffineRank) → this ≡ get_or trees (first_target a) this → that ≡ get_or trees (second_target a) that
      → LeadsWithin (length trees) a → (P : Transition → Plan AffineRank → Plan AffineRank → Type 0) → P a (plan_of this) (plan_of that)
      → P a (tree_at (plans trees) (first_target a)) (tree_at (plans trees) (second_target a))
  carried a this that first second low P holds =
      subst (λ (t : Plan AffineRank). P a t (tree_at (plans trees) (second_target a))) (here (first_target a) this first low.0)
      (subst (λ (t : Plan AffineRank). P a (plan_of this) t) (here (second_target a) that second low.1) holds)

  pub two_carry : (a transition : Transition) → transition ≡ a → (this : Tree AffineRank) → this ≡ get_or trees (first_target a) this
      → (that : Tree AffineRank) → that ≡ get_or trees (second_target a) that → LeadsWithin (length trees) transition
      → (P : Transition → Plan AffineRank → Plan AffineRank → Type 0) → P a (plan_of this) (plan_of that)
      → P transition (tree_at (plans trees) (first_target transition)) (tree_at (plans trees) (second_target transition))
  two_carry a transition is this first that second low P holds =
      subst (λ (b : Transition). P b (tree_at (plans trees) (first_target b)) (tree_at (plans trees) (second_target b))) (sym is)
      (carried a this that first second (subst (LeadsWithin (length trees)) is low) P holds)

  -- the same where one label follows
  pub one_carries : (a transition : Transition) → transition ≡ a → (this : Tree AffineRank) → this ≡ get_or trees (first_target a) this
      → first_target a ≡ second_target a → LeadsWithin (length trees) transition
      → (P : Transition → Plan AffineRank → Plan AffineRank → Type 0) → P a (plan_of this) (plan_of this)
      → P transition (tree_at (plans trees) (first_target transition)) (tree_at (plans trees) (second_target transition))
  one_carries a transition is this first alike low P holds =
      two_carry a transition is this first this (subst (λ k. this ≡ get_or trees k this) alike first) low P holds
