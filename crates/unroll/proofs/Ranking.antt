-- The ranks of the trees before a step are numbers of steps, where those behind it are.
use Rattle.std.proofs.Common.{ℕ, ◌<◌, List, [], ◌∷◌}
use Rattle.std.specs.Prelude.{⊤}
use Rattle.linear_cons.specs.Rows.{row_kind_of}
use Rattle.linear_cons.specs.Functions.{substituted}
use Rattle.linear_cons.specs.declared.affine.Affine.{Affine}
use Rattle.linear_cons.specs.declared.row.Row.{Row}
use Rattle.linear_cons.specs.declared.row.RowKind.{RowKind}
use Rattle.linear_cons.specs.declared.row.RowKind.TheVariants.{Always, Never, Row as Kept}
use Rattle.linear_forms.specs.Duality.{EachOf}
use Rattle.decision_tree.specs.Plans.{Plan, bottom, branch, leaf, top}
use Rattle.decision_tree.specs.declared.affine_rank.AffineRank.{AffineRank}
use Rattle.decision_tree.specs.declared.reason.Why.{Why}
use Rattle.backward_transfer.specs.Tests.{enabled}
use Rattle.unroll.specs.Levels.{RanksCount}
use Rattle.backward_transfer.specs.AffineShapes.{affine_ranks, assigned_shape, cut, same_rank, stepped_shape, tested_shape}
use Rattle.unroll.specs.Within.{EachIs}
use Rattle.unroll.proofs.CountedRanks.{Counts, met_counts, more_counts, put_counts}
use Rattle.unroll.proofs.Every.{every_ask}
use Rattle.unroll.proofs.Keeping.{KindIs, assigned_each, enabled_each, stepped_each, tested_each, trimmed_each}

abbrev Any : Row → Type 0
Any row = ⊤

-- a claim whose rank is a number of steps, for whatever reason
abbrev Claim : Why → AffineRank → Type 0
Claim why rank = Counts rank

any_kind : (kind : RowKind) → KindIs Any kind
any_kind Always = tt
any_kind Never = tt
any_kind (Kept row) = tt

any_rows : (rows : List Row) → EachOf Any rows
any_rows [] = tt
any_rows (row ∷ rest) = (tt, any_rows rest)

any_conjunctions : (list : List (List Row)) → EachOf (EachOf Any) list
any_conjunctions [] = tt
any_conjunctions (rows ∷ rest) = (any_rows rows, any_conjunctions rest)

to_each : (plan : Plan AffineRank) → RanksCount plan → EachIs Any Claim plan
to_each bottom ranks = tt
to_each (top cause) ranks = tt
to_each (leaf why rank) ranks = ranks
to_each (branch row this that) ranks = (tt, to_each this ranks.0, to_each that ranks.1)

of_each : (plan : Plan AffineRank) → EachIs Any Claim plan → RanksCount plan
of_each bottom each = tt
of_each (top cause) each = tt
of_each (leaf why rank) each = each
of_each (branch row this that) each = (of_each this each.1, of_each that each.2)

trimmed_count : (plan : Plan AffineRank) → EachIs Any Claim plan → RanksCount (cut plan)
trimmed_count plan each = of_each (cut plan) (trimmed_each same_rank Any Claim [] plan each)

pub assigned_count : (x : ℕ) (by : Affine) (plan : Plan AffineRank) → x < 16 → RanksCount plan → RanksCount (cut (assigned_shape x by plan))
assigned_count x by plan low ranks =
    trimmed_count (assigned_shape x by plan)
    (assigned_each same_rank Any Any Claim Claim affine_ranks.substituted affine_ranks.one_more x by
    (λ row any. any_kind (row_kind_of (substituted row.affine x by)))
    (λ why rank own. more_counts (affine_ranks.substituted rank x by) (put_counts x by low rank own)) plan (to_each plan ranks))

pub stepped_count : (plan : Plan AffineRank) → RanksCount plan → RanksCount (cut (stepped_shape plan))
stepped_count plan ranks = trimmed_count (stepped_shape plan) (stepped_each same_rank Any Claim Claim affine_ranks.one_more (λ why. more_counts) plan (to_each plan ranks))

pub tested_count : (this that : Plan AffineRank) (holds fails : List (List Row)) → RanksCount this → RanksCount that → RanksCount (cut (tested_shape this that holds fails))
tested_count this that holds fails first second =
    let ends = enabled_each same_rank Any Claim Claim affine_ranks.one_more (λ why. more_counts) affine_ranks.where_greater affine_ranks.greater_fits (met_counts Any) this that
    (to_each this first) (to_each that second) in
    trimmed_count (tested_shape this that holds fails)
    (tested_each same_rank Any Claim affine_ranks.where_greater affine_ranks.greater_fits affine_ranks.one_more this that fails holds
    (every_ask Any (λ t u. EachIs Any Claim (enabled same_rank affine_ranks.where_greater affine_ranks.greater_fits affine_ranks.one_more this that t u)) ends fails
    (any_conjunctions fails) holds (any_conjunctions holds)))
