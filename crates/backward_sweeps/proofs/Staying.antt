-- A step's tree stays as it is where nothing is claimed now, one leaf keeps everywhere, and none of its leaves has a cause.
use Rattle.std.proofs.Common.{◌≡◌, Bool, true, false, Option, None, Some, List, [], ◌∷◌, ◌++◌, refl, ap, ◌∙◌}
use Rattle.linear_cons.specs.Rows.{complement}
use Rattle.linear_cons.specs.Settling.{settles}
use Rattle.linear_cons.specs.declared.row.Row.{Row}
use Rattle.decision_tree.specs.Nodes.{node}
use Rattle.decision_tree.specs.Plans.{Plan, bottom, branch, leaf, top}
use Rattle.decision_tree.specs.declared.affine_rank.AffineRank.{AffineRank}
use Rattle.decision_tree.specs.declared.reason.Why.{Why}
use Rattle.tree_unify.specs.Shapes.{leaf_met, on_side, trimmed_with}
use Rattle.tree_unify.specs.declared.join.Join.TheVariants.{Either}
use Rattle.backward_transfer.specs.AffineShapes.{affine_ranks, cut, same_rank}
use Rattle.backward_sweeps.specs.Remaking.{HasNoCause, made}

-- what stands in place of a leaf where nothing is claimed
abbrev put : Plan AffineRank → Plan AffineRank
put = leaf_met same_rank affine_ranks.where_greater affine_ranks.greater_fits Either bottom

on_same_side : (side : Option Bool) (row : Row) (this that near far this_too that_too near_too far_too : Plan AffineRank)
    → this ≡ this_too → that ≡ that_too → near ≡ near_too → far ≡ far_too
    → on_side side this that (node same_rank row near far) ≡ on_side side this_too that_too (node same_rank row near_too far_too)
on_same_side (Some true) row this that near far this_too that_too near_too far_too first second third fourth = first
on_same_side (Some false) row this that near far this_too that_too near_too far_too first second third fourth = second
on_same_side None row this that near far this_too that_too near_too far_too first second third fourth =
    ap (λ t. node same_rank row t far) third ∙ ap (λ t. node same_rank row near_too t) fourth

trimmed_alike : (path : List Row) (plan : Plan AffineRank) → HasNoCause plan → trimmed_with same_rank put path plan ≡ trimmed_with same_rank (λ end. end) path plan
trimmed_alike path (branch row this that) none =
    on_same_side (settles path row) row (trimmed_with same_rank put path this) (trimmed_with same_rank put path that)
    (trimmed_with same_rank put (path ++ row ∷ []) this) (trimmed_with same_rank put (path ++ complement row ∷ []) that)
    (trimmed_with same_rank (λ end. end) path this) (trimmed_with same_rank (λ end. end) path that)
    (trimmed_with same_rank (λ end. end) (path ++ row ∷ []) this) (trimmed_with same_rank (λ end. end) (path ++ complement row ∷ []) that)
    (trimmed_alike path this none.0) (trimmed_alike path that none.1) (trimmed_alike (path ++ row ∷ []) this none.0) (trimmed_alike (path ++ complement row ∷ []) that none.1)
trimmed_alike path (top cause) none = absurd none
trimmed_alike path bottom none = refl
trimmed_alike path (leaf why rank) none = refl

pub step_stays : (why : Why) (rank : AffineRank) (step : Plan AffineRank) → HasNoCause step → cut step ≡ step → made bottom (leaf why rank) step ≡ step
step_stays why rank step none whole = ap (λ plan. trimmed_with same_rank put [] plan) whole ∙ trimmed_alike [] step none ∙ whole
