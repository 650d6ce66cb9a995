-- What is said of the cover of a certificate's families, where more are added only if that has an undefined leaf.
use Rattle.std.proofs.Common.{◌≡◌, ◌⊎◌, inr, ⊎_elim, Some, List, subst}
use Rattle.step_meaning.specs.Syntax.{Statements}
use Rattle.decision_tree.specs.declared.affine_rank.AffineRank.{AffineRank}
use Rattle.decision_tree.specs.declared.family.Family.{Family}
use Rattle.decision_tree.specs.Extent.{IsWhole}
use Rattle.decision_tree.specs.Plans.{Plan, bottom, branch, leaf, rank_of, top}
use Rattle.ctl_rounds.specs.Covers.{IsCover, LeavesOpen}

module _ (body : Statements) (old new : List (Family AffineRank)) (added : (new ≡ old) ⊎ LeavesOpen body old) where
  -- it holds still, if the cover has no undefined leaf
  pub still : (Has : Plan AffineRank → Type 0) → ((cover : Plan AffineRank) → IsCover body old cover → IsWhole cover)
      → ((cover : Plan AffineRank) → IsCover body old cover → Has cover) → (cover : Plan AffineRank) → IsCover body new cover → Has cover
  still Has whole has cover is =
      ⊎_elim {C = Has cover} (λ (same : new ≡ old). has cover (subst (λ tops. IsCover body tops cover) same is))
      (λ (left : LeavesOpen body old). absurd (left.2 (whole left.0 left.1))) added

  -- and so it does, if the cover has none or something else holds
  pub still_or : (Else : Type 0) → ((cover : Plan AffineRank) → IsCover body old cover → IsWhole cover ⊎ Else) → (cover : Plan AffineRank)
      → IsCover body new cover → IsWhole cover ⊎ Else
  still_or Else has cover is =
      ⊎_elim {C = IsWhole cover ⊎ Else} (λ (same : new ≡ old). has cover (subst (λ tops. IsCover body tops cover) same is))
      (λ (left : LeavesOpen body old).
      ⊎_elim {C = IsWhole cover ⊎ Else} (λ (whole : IsWhole left.0). absurd (left.2 whole)) (λ (other : Else). inr other) (has left.0 left.1)) added

-- a tree with a rank is one leaf
pub ranked_is_whole : (plan : Plan AffineRank) (rank : AffineRank) → rank_of plan ≡ Some rank → IsWhole plan
ranked_is_whole bottom rank is = cc
ranked_is_whole (top cause) rank is = cc
ranked_is_whole (leaf why own) rank is = tt
ranked_is_whole (branch row this that) rank is = cc
