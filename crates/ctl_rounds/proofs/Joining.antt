-- A joined tree speaks of the variables of its two trees, and the complements of its rows are those that joining forms.
use Rattle.std.proofs.Common.{ℕ, Bool, true, false, cond, List, [], ◌∷◌, ◌++◌, Option, None, Some, refl}
use Rattle.std.specs.Prelude.{⊤}
use Rattle.linear_cons.specs.Functions.{IsOver, NumbersFit, complement_of}
use Rattle.linear_cons.specs.Rows.{complement}
use Rattle.linear_cons.specs.Settling.{settles}
use Rattle.linear_cons.specs.declared.row.Row.{Row}
use Rattle.decision_tree.specs.Equality.{same_plan}
use Rattle.decision_tree.specs.Extent.{ComplementsFit, IsTreeOver}
use Rattle.decision_tree.specs.Nodes.{node}
use Rattle.decision_tree.specs.Plans.{Plan, IsEnd, bottom, branch, leaf, top}
use Rattle.decision_tree.specs.declared.affine_rank.AffineRank.{AffineRank}
use Rattle.tree_unify.specs.Shapes.{GraftFits, JoinFits, OnSide, TrimWithFits, grafted, joined_at, leaf_met, on_side, trimmed_with}
use Rattle.tree_unify.specs.declared.join.Join.TheVariants.{Either}
use Rattle.backward_transfer.specs.AffineShapes.{affine_ranks, same_rank}
use Rattle.ctl_rounds.specs.Covers.{EitherFits, either_of}

abbrev met : Plan AffineRank → Plan AffineRank → Plan AffineRank
met first second = leaf_met same_rank affine_ranks.where_greater affine_ranks.greater_fits Either first second

abbrev at_leaf : Plan AffineRank → List Row → Plan AffineRank → Plan AffineRank
at_leaf second path end = joined_at same_rank affine_ranks.where_greater affine_ranks.greater_fits Either second path end

abbrev laid : Plan AffineRank → List Row → Plan AffineRank → Plan AffineRank
laid first path second = trimmed_with same_rank (met first) path second

module _ (vars : ℕ) where
  abbrev Over : Plan AffineRank → Type 0
  Over plan = IsTreeOver vars plan

  over_node : (t : Bool) (row : Row) (this that : Plan AffineRank) → IsOver vars row.affine → Over this → Over that → Over (cond t this (branch row this that))
  over_node true row this that own first second = first
  over_node false row this that own first second = (own, first, second)

  over_side : (t : Option Bool) (this that neither : Plan AffineRank) → Over this → Over that → Over neither → Over (on_side t this that neither)
  over_side (Some true) this that neither first second both = first
  over_side (Some false) this that neither first second both = second
  over_side None this that neither first second both = both

  over_met : (first second : Plan AffineRank) → Over first → Over second → Over (met first second)
  over_met first bottom own other = own
  over_met first (top cause) own other = own
  over_met first (leaf why rank) own other = other
  over_met first (branch row this that) own other = own

  over_laid : (first : Plan AffineRank) → Over first → (path : List Row) (second : Plan AffineRank) → Over second → Over (laid first path second)
  over_laid first own path bottom other = over_met first bottom own other
  over_laid first own path (top cause) other = over_met first (top cause) own other
  over_laid first own path (leaf why rank) other = over_met first (leaf why rank) own other
  over_laid first own path (branch row this that) other =
      over_side (settles path row) (laid first path this) (laid first path that)
      (node same_rank row (laid first (path ++ row ∷ []) this) (laid first (path ++ complement row ∷ []) that))
      (over_laid first own path this other.1) (over_laid first own path that other.2)
      (over_node (same_plan same_rank (laid first (path ++ row ∷ []) this) (laid first (path ++ complement row ∷ []) that)) row
      (laid first (path ++ row ∷ []) this) (laid first (path ++ complement row ∷ []) that) other.0
      (over_laid first own (path ++ row ∷ []) this other.1) (over_laid first own (path ++ complement row ∷ []) that other.2))

  over_grafted : (path : List Row) (first second : Plan AffineRank) → Over first → Over second → Over (grafted same_rank (at_leaf second) path first)
  over_grafted path bottom second own other = over_laid bottom own path second other
  over_grafted path (top cause) second own other = over_laid (top cause) own path second other
  over_grafted path (leaf why rank) second own other = own
  over_grafted path (branch row this that) second own other =
      over_node (same_plan same_rank (grafted same_rank (at_leaf second) (path ++ row ∷ []) this) (grafted same_rank (at_leaf second) (path ++ complement row ∷ []) that)) row
      (grafted same_rank (at_leaf second) (path ++ row ∷ []) this) (grafted same_rank (at_leaf second) (path ++ complement row ∷ []) that) own.0
      (over_grafted (path ++ row ∷ []) this second own.1 other) (over_grafted (path ++ complement row ∷ []) that second own.2 other)

  pub over_joined : (first second : Plan AffineRank) → Over first → Over second → Over (either_of first second)
  over_joined first second own other = over_grafted [] first second own other

-- ---- complements

abbrev MetFits : Plan AffineRank → Type 0
MetFits end = ⊤

fits_node : (t : Bool) (row : Row) (this that : Plan AffineRank) → ComplementsFit this → NumbersFit (complement_of row.affine) → ComplementsFit that
    → ComplementsFit (cond t this (branch row this that))
fits_node true row this that first turned second = first
fits_node false row this that first turned second = (turned, first, second)

fits_side : (t : Option Bool) (this that neither : Plan AffineRank) (This That Neither : Type 0) → (This → ComplementsFit this) → (That → ComplementsFit that)
    → (Neither → ComplementsFit neither) → OnSide t This That Neither → ComplementsFit (on_side t this that neither)
fits_side (Some true) this that neither This That Neither first second both fits = first fits
fits_side (Some false) this that neither This That Neither first second both fits = second fits
fits_side None this that neither This That Neither first second both fits = both fits

-- a tree whose rows are trimmed, with trees without rows in place of its leaves
fits_laid : (f : Plan AffineRank → Plan AffineRank) (Fits : Plan AffineRank → Type 0) → ((end : Plan AffineRank) → IsEnd end → ComplementsFit (f end))
    → (path : List Row) (plan : Plan AffineRank) → TrimWithFits same_rank Fits path plan → ComplementsFit (trimmed_with same_rank f path plan)
fits_laid f Fits ends path bottom fits = ends bottom tt
fits_laid f Fits ends path (top cause) fits = ends (top cause) tt
fits_laid f Fits ends path (leaf why rank) fits = ends (leaf why rank) tt
fits_laid f Fits ends path (branch row this that) fits =
    fits_side (settles path row) (trimmed_with same_rank f path this) (trimmed_with same_rank f path that)
    (node same_rank row (trimmed_with same_rank f (path ++ row ∷ []) this) (trimmed_with same_rank f (path ++ complement row ∷ []) that))
    (TrimWithFits same_rank Fits path this) (TrimWithFits same_rank Fits path that)
    (TrimWithFits same_rank Fits (path ++ row ∷ []) this × NumbersFit (complement_of row.affine) × TrimWithFits same_rank Fits (path ++ complement row ∷ []) that)
    (λ own. fits_laid f Fits ends path this own) (λ own. fits_laid f Fits ends path that own)
    (λ both. fits_node (same_plan same_rank (trimmed_with same_rank f (path ++ row ∷ []) this) (trimmed_with same_rank f (path ++ complement row ∷ []) that)) row
    (trimmed_with same_rank f (path ++ row ∷ []) this) (trimmed_with same_rank f (path ++ complement row ∷ []) that)
    (fits_laid f Fits ends (path ++ row ∷ []) this both.0) both.1 (fits_laid f Fits ends (path ++ complement row ∷ []) that both.2)) fits

abbrev FitsAt : Plan AffineRank → List Row → Plan AffineRank → Type 0
FitsAt second path end = JoinFits same_rank affine_ranks.where_greater affine_ranks.greater_fits Either second path end

met_bottom : (end : Plan AffineRank) → IsEnd end → ComplementsFit (met bottom end)
met_bottom bottom is = tt
met_bottom (top cause) is = tt
met_bottom (leaf why rank) is = tt
met_bottom (branch row this that) is = absurd is

met_top : (end : Plan AffineRank) (cause : _) → IsEnd end → ComplementsFit (met (top cause) end)
met_top bottom cause is = tt
met_top (top other) cause is = tt
met_top (leaf why rank) cause is = tt
met_top (branch row this that) cause is = absurd is

fits_grafted : (path : List Row) (first second : Plan AffineRank) → GraftFits same_rank (FitsAt second) path first
    → ComplementsFit (grafted same_rank (at_leaf second) path first)
fits_grafted path bottom second fits = fits_laid (met bottom) MetFits met_bottom path second (fits refl)
fits_grafted path (top cause) second fits = fits_laid (met (top cause)) MetFits (λ end is. met_top end cause is) path second (fits refl)
fits_grafted path (leaf why rank) second fits = tt
fits_grafted path (branch row this that) second fits =
    fits_node (same_plan same_rank (grafted same_rank (at_leaf second) (path ++ row ∷ []) this) (grafted same_rank (at_leaf second) (path ++ complement row ∷ []) that)) row
    (grafted same_rank (at_leaf second) (path ++ row ∷ []) this) (grafted same_rank (at_leaf second) (path ++ complement row ∷ []) that)
    (fits_grafted (path ++ row ∷ []) this second fits.0) fits.1 (fits_grafted (path ++ complement row ∷ []) that second fits.2)

pub complements_joined : (first second : Plan AffineRank) → EitherFits first second → ComplementsFit (either_of first second)
complements_joined first second fits = fits_grafted [] first second fits
