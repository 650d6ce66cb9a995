-- How large the numbers of the tree before a step are, by those of the trees behind it; and that what is formed for it fits.
use Rattle.std.proofs.Common.{ℕ, suc, ◌+◌, ◌*◌, ◌<◌, ◌≤◌, List, [], refl, arith}
use Rattle.std.proofs.Math.Nat.{le_refl, mul-le-mul}
use Rattle.linear_cons.specs.declared.affine.Affine.{Affine}
use Rattle.linear_cons.specs.declared.row.Row.{Row}
use Rattle.decision_tree.specs.Plans.{Plan, bottom, branch, leaf, top}
use Rattle.decision_tree.specs.declared.affine_rank.AffineRank.{AffineRank}
use Rattle.decision_tree.specs.declared.reason.Why.{Why}
use Rattle.decision_tree.specs.declared.reason.Why.TheVariants.{End}
use Rattle.linear_cons.specs.Sizes.{SizesAtMost, total_size}
use Rattle.step_meaning.specs.Syntax.{Statements}
use Rattle.backward_transfer.specs.Steps.{AssignFits, StepFits}
use Rattle.backward_transfer.specs.Tests.{ComplementFits, EnabledFits, TestAsks, enabled}
use Rattle.unroll.specs.Levels.{RowsAtMost, counted}
use Rattle.backward_transfer.specs.AffineShapes.{CutFits, affine_ranks, assigned_shape, cut, same_rank, stepped_shape, tested_shape}
use Rattle.unroll.specs.Within.{AreWithin, EachIs, IsNarrow, IsSteps, IsWithin, TellsNumbers}
use Rattle.unroll.proofs.CountedRanks.{met_fits, met_steps, more_fits, more_steps, put_fits, put_steps}
use Rattle.unroll.proofs.DualAsks.{IsAsked, ask_each}
use Rattle.unroll.proofs.Keeping.{assigned_each, each_more, enabled_each, later_each, stepped_each, tested_each, trimmed_each}
use Rattle.unroll.proofs.KeptFits.{assign_fits, enabled_fits, step_fits, trim_fits}
use Rattle.unroll.proofs.WithinRows.{put_row_fits, put_within, turned_fits}

module _ (k most steps : ℕ) where
  abbrev Rows : Row → Type 0
  Rows = IsWithin k most

  abbrev Ranks : Why → AffineRank → Type 0
  Ranks why = IsSteps steps

  abbrev Next : Why → AffineRank → Type 0
  Next why = IsSteps (suc steps)

  -- ---- an assignment

  module _ (x : ℕ) (low : x < 16) (by : Affine) where
    moved_within : (plan : Plan AffineRank) → AreWithin ((1 + total_size by) * k) most steps plan → AreWithin k most (suc steps) (assigned_shape x by plan)
    moved_within plan within =
        assigned_each same_rank (IsWithin ((1 + total_size by) * k) most) Rows Ranks Next affine_ranks.substituted affine_ranks.one_more x by
        (put_within x low by k most) (λ why rank own. more_steps steps (affine_ranks.substituted rank x by) (put_steps x by low steps rank own)) plan within

    pub assigned_within : (plan : Plan AffineRank) → AreWithin ((1 + total_size by) * k) most steps plan → AreWithin k most (suc steps) (cut (assigned_shape x by plan))
    assigned_within plan within = trimmed_each same_rank Rows Next [] (assigned_shape x by plan) (moved_within plan within)

    pub assigned_fits : IsNarrow k most steps → (plan : Plan AffineRank) → AreWithin ((1 + total_size by) * k) most steps plan
        → AssignFits affine_ranks.substituted affine_ranks.subst_fits affine_ranks.add_one_fits x by plan × CutFits (assigned_shape x by plan)
    assigned_fits narrow plan within = (
      assign_fits (IsWithin ((1 + total_size by) * k) most) Ranks affine_ranks.substituted affine_ranks.subst_fits affine_ranks.add_one_fits x by
          (put_row_fits x low by k most narrow.some narrow.small)
          (λ why rank own. (put_fits x by low steps narrow.few rank own, more_fits steps narrow.few (affine_ranks.substituted rank x by) (put_steps x by low steps rank own))) plan within,
      trim_fits Rows Next same_rank (turned_fits k most narrow.some narrow.small) [] (assigned_shape x by plan) (moved_within plan within),
    )

  -- ---- a step that changes nothing

  moved_on : (plan : Plan AffineRank) → AreWithin k most steps plan → AreWithin k most (suc steps) (stepped_shape plan)
  moved_on plan within = stepped_each same_rank Rows Ranks Next affine_ranks.one_more (λ why. more_steps steps) plan within

  pub stepped_within : (plan : Plan AffineRank) → AreWithin k most steps plan → AreWithin k most (suc steps) (cut (stepped_shape plan))
  stepped_within plan within = trimmed_each same_rank Rows Next [] (stepped_shape plan) (moved_on plan within)

  pub stepped_fits : IsNarrow k most steps → (plan : Plan AffineRank) → AreWithin k most steps plan
      → StepFits affine_ranks.add_one_fits plan × CutFits (stepped_shape plan)
  stepped_fits narrow plan within = (
    step_fits Rows Ranks affine_ranks.add_one_fits (λ why. more_fits steps narrow.few) plan within,
    trim_fits Rows Next same_rank (turned_fits k most narrow.some narrow.small) [] (stepped_shape plan) (moved_on plan within),
  )

  -- ---- a test

  module _ (this that : Plan AffineRank) (first : AreWithin k most steps this) (second : AreWithin k most steps that) (holds fails : List (List Row))
      (asked : IsAsked Rows holds fails) where
    moved_back : AreWithin k most (suc steps) (tested_shape this that holds fails)
    moved_back =
        tested_each same_rank Rows Next affine_ranks.where_greater affine_ranks.greater_fits affine_ranks.one_more this that fails holds
        (ask_each Rows Rows (λ row own. own)
        (λ t u. EachIs Rows Next (enabled same_rank affine_ranks.where_greater affine_ranks.greater_fits affine_ranks.one_more this that t u))
        (enabled_each same_rank Rows Ranks Next affine_ranks.one_more (λ why. more_steps steps) affine_ranks.where_greater affine_ranks.greater_fits (met_steps Rows steps)
        this that first second) holds fails asked)

    pub tested_within : AreWithin k most (suc steps) (cut (tested_shape this that holds fails))
    tested_within = trimmed_each same_rank Rows Next [] (tested_shape this that holds fails) moved_back

    pub tested_fits : IsNarrow k most steps
        → TestAsks ComplementFits (EnabledFits same_rank affine_ranks.where_greater affine_ranks.greater_fits affine_ranks.one_more affine_ranks.add_one_fits this that) fails holds
        × CutFits (tested_shape this that holds fails)
    tested_fits narrow =
        let both = later_each same_rank Rows Ranks affine_ranks.where_greater affine_ranks.greater_fits (met_steps Rows steps) this that first second in (
          ask_each Rows ComplementFits (turned_fits k most narrow.some narrow.small)
              (EnabledFits same_rank affine_ranks.where_greater affine_ranks.greater_fits affine_ranks.one_more affine_ranks.add_one_fits this that)
              (enabled_fits Rows Ranks same_rank (turned_fits k most narrow.some narrow.small) affine_ranks.where_greater affine_ranks.greater_fits (met_fits steps narrow.few)
              affine_ranks.one_more affine_ranks.add_one_fits (λ why. more_fits steps narrow.few) this that first second both) holds fails asked,
          trim_fits Rows Next same_rank (turned_fits k most narrow.some narrow.small) [] (tested_shape this that holds fails) moved_back,
        )

-- ---- no number of a row passes the most

row_at_most : (k most : ℕ) → 1 ≤ k → (row : Row) → IsWithin k most row → SizesAtMost most row.affine
row_at_most k most some row own =
    let more : own.size * 1 ≤ own.size * k = mul-le-mul (le_refl own.size) some in
    let least = own.small in record {
      coefficients = λ i low. let each = own.sizes.coefficients i low in omega (arith, each, more, least);
      constants = let each = own.sizes.constants in omega (arith, each, more, least);
    }

pub rows_at_most : (k most steps : ℕ) → 1 ≤ k → (plan : Plan AffineRank) → AreWithin k most steps plan → RowsAtMost most plan
rows_at_most k most steps some (branch row this that) within =
    (row_at_most k most some row within.0, rows_at_most k most steps some this within.1, rows_at_most k most steps some that within.2)
rows_at_most k most steps some (leaf why rank) within = tt
rows_at_most k most steps some bottom within = tt
rows_at_most k most steps some (top cause) within = tt

-- ---- trees within larger numbers, and those made without any

pub within_more : (k next most more steps further : ℕ) → ((size : ℕ) → size * k ≤ most → size * next ≤ more) → steps ≤ further → (plan : Plan AffineRank)
    → AreWithin k most steps plan → AreWithin next more further plan
within_more k next most more steps further rows ranks plan within =
    each_more (IsWithin k most) (IsWithin next more) (λ why. IsSteps steps) (λ why. IsSteps further)
    (λ row own. record { size = own.size; sizes = own.sizes; small = rows own.size own.small })
    (λ why rank own. record { steps = own.steps; few = let few = own.few in omega (arith, few, ranks); is = own.is }) plan within

pub end_numbers : (level : ℕ) (body : Statements) → TellsNumbers level body 0 (leaf End (counted 0))
end_numbers level body = record { within = record { steps = 0; few = omega arith; is = refl } }

pub bottom_numbers : (level : ℕ) (body : Statements) (label : ℕ) → TellsNumbers level body label bottom
bottom_numbers level body label = record { within = tt }
