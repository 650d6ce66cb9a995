-- Where the complements that joining two trees forms fit: where those of the rows of both do.
use Rattle.std.proofs.Common.{Bool, true, false, List, [], ◌∷◌, ◌++◌, Option, None, Some}
use Rattle.linear_cons.specs.Functions.{NumbersFit, complement_of}
use Rattle.linear_cons.specs.Rows.{complement}
use Rattle.linear_cons.specs.Settling.{settles}
use Rattle.linear_cons.specs.declared.row.Row.{Row}
use Rattle.decision_tree.specs.Plans.{IsEnd, Plan, bottom, branch, leaf, top}
use Rattle.decision_tree.specs.declared.affine_rank.AffineRank.{AffineRank}
use Rattle.tree_unify.specs.Shapes.{GraftFits, JoinFits, MetFits, OnSide, TrimWithFits}
use Rattle.tree_unify.specs.declared.join.Join.{Join}
use Rattle.tree_unify.specs.declared.join.Join.TheVariants.{Both, Either}
use Rattle.backward_transfer.specs.AffineShapes.{affine_ranks, same_rank}
use Rattle.backward_sweeps.specs.Remaking.{BothFit, EitherFits}
use Rattle.exact_families.proofs.Bounds.{RowsAre}

-- the row's complement fits
abbrev pub Turns : Row → Type 0
Turns row = NumbersFit (complement_of row.affine)

on_each : (t : Option Bool) (This That Neither : Type 0) → This → That → Neither → OnSide t This That Neither
on_each (Some true) This That Neither first second both = first
on_each (Some false) This That Neither first second both = second
on_each None This That Neither first second both = both

cut_fits : (Fits : Plan AffineRank → Type 0) → ((end : Plan AffineRank) → IsEnd end → Fits end) → (path : List Row) (plan : Plan AffineRank) → RowsAre Turns plan
    → TrimWithFits same_rank Fits path plan
cut_fits Fits ends path bottom each = ends bottom tt
cut_fits Fits ends path (top cause) each = ends (top cause) tt
cut_fits Fits ends path (leaf why rank) each = ends (leaf why rank) tt
cut_fits Fits ends path (branch row this that) each =
    on_each (settles path row) (TrimWithFits same_rank Fits path this) (TrimWithFits same_rank Fits path that)
    (TrimWithFits same_rank Fits (path ++ row ∷ []) this × NumbersFit (complement_of row.affine) × TrimWithFits same_rank Fits (path ++ complement row ∷ []) that)
    (cut_fits Fits ends path this each.1) (cut_fits Fits ends path that each.2)
    (cut_fits Fits ends (path ++ row ∷ []) this each.1, each.0, cut_fits Fits ends (path ++ complement row ∷ []) that each.2)

-- of a join whose leaves form nothing
module _ (join : Join)
    (free : (first end : Plan AffineRank) → MetFits same_rank affine_ranks.where_greater affine_ranks.greater_fits join first end) where
  graft_fits : (second : Plan AffineRank) → RowsAre Turns second → (path : List Row) (first : Plan AffineRank) → RowsAre Turns first
      → GraftFits same_rank (JoinFits same_rank affine_ranks.where_greater affine_ranks.greater_fits join second) path first
  graft_fits second two path bottom one = λ asks.
      cut_fits (MetFits same_rank affine_ranks.where_greater affine_ranks.greater_fits join bottom) (λ end ends. free bottom end) path second two
  graft_fits second two path (top cause) one = λ asks.
      cut_fits (MetFits same_rank affine_ranks.where_greater affine_ranks.greater_fits join (top cause)) (λ end ends. free (top cause) end) path second two
  graft_fits second two path (leaf why rank) one = λ asks.
      cut_fits (MetFits same_rank affine_ranks.where_greater affine_ranks.greater_fits join (leaf why rank)) (λ end ends. free (leaf why rank) end) path second two
  graft_fits second two path (branch row this that) one =
      (graft_fits second two (path ++ row ∷ []) this one.1, one.0, graft_fits second two (path ++ complement row ∷ []) that one.2)

both_free : (first end : Plan AffineRank) → MetFits same_rank affine_ranks.where_greater affine_ranks.greater_fits Both first end
both_free first end = tt

either_free : (first end : Plan AffineRank) → MetFits same_rank affine_ranks.where_greater affine_ranks.greater_fits Either first end
either_free first end = tt

pub both_fit : (first second : Plan AffineRank) → RowsAre Turns first → RowsAre Turns second → BothFit first second
both_fit first second one two = graft_fits Both both_free second two [] first one

pub either_fit : (first second : Plan AffineRank) → RowsAre Turns first → RowsAre Turns second → EitherFits first second
either_fit first second one two = graft_fits Either either_free second two [] first one
