-- The trees of labels, of affine ranks, and the shapes of those before a step.
use Rattle.std.specs.Prelude.{ℕ, ℤ, Bool, List, [], Option, map, slice_index_or}
use Rattle.linear_cons.specs.declared.affine.Affine.{Affine}
use Rattle.linear_cons.specs.declared.bounds.Linear.{Linear}
use Rattle.linear_cons.specs.declared.row.Row.{Row}
use Rattle.decision_tree.specs.Plans.{Plan, bottom, plan_of}
use Rattle.decision_tree.specs.contracts.affine_rank.AffineRankPartialEq.TheImpl as rank_eq
use Rattle.decision_tree.specs.contracts.affine_rank.AffineRankRank.TheImpl as affine_rank
use Rattle.decision_tree.specs.declared.affine_rank.AffineRank.{AffineRank}
use Rattle.decision_tree.specs.declared.rank.Rank.{Ghosts as Ranks}
use Rattle.decision_tree.specs.declared.tree.Tree.{Tree}
use Rattle.tree_unify.specs.Shapes.{TrimFits, trimmed}
use Rattle.backward_transfer.specs.Chosen.{with_some}
use Rattle.backward_transfer.specs.Picks.{picked}
use Rattle.backward_transfer.specs.Ranges.{ranged}
use Rattle.backward_transfer.specs.Steps.{assigned, stepped}
use Rattle.backward_transfer.specs.Tests.{tested}
use Rattle.backward_transfer.specs.Values.{tried_values}

-- the plans of a list of trees, and the tree of the label
abbrev pub plans : List (Tree AffineRank) → List (Plan AffineRank)
plans trees = map plan_of trees

abbrev pub tree_at : List (Plan AffineRank) → ℕ → Plan AffineRank
tree_at trees label = slice_index_or trees label bottom

-- what affine functions are as ranks, and what `==` answers for them
abbrev pub affine_ranks : Ranks AffineRank
affine_ranks = affine_rank.ghosts

abbrev pub same_rank : AffineRank → AffineRank → Bool
same_rank = (rank_eq.ghosts).eq

-- before an assignment, of a value in a range or not, a step that changes nothing, and a test, as they are before they are trimmed
abbrev pub assigned_shape : ℕ → Affine → Plan AffineRank → Plan AffineRank
assigned_shape x by plan = assigned same_rank affine_ranks.substituted affine_ranks.one_more x by plan

abbrev pub ranged_shape : ℕ → Linear → Plan AffineRank → Plan AffineRank
ranged_shape x range plan =
    ranged same_rank affine_ranks.where_greater affine_ranks.greater_fits affine_ranks.trend affine_ranks.substituted affine_ranks.one_more x range plan

abbrev pub stepped_shape : Plan AffineRank → Plan AffineRank
stepped_shape plan = stepped same_rank affine_ranks.one_more plan

abbrev pub tested_shape : Plan AffineRank → Plan AffineRank → List (List Row) → List (List Row) → Plan AffineRank
tested_shape this that holds fails = tested same_rank affine_ranks.where_greater affine_ranks.greater_fits affine_ranks.one_more this that holds fails

-- before a free test and the assignment of a number of a range, of which an outcome or a value is picked
abbrev pub picked_shape : Plan AffineRank → Plan AffineRank → Plan AffineRank
picked_shape this that = picked same_rank affine_ranks.where_greater affine_ranks.greater_fits affine_ranks.one_more this that

abbrev pub chosen_shape : Option ℤ → Option ℤ → ℕ → Plan AffineRank → Plan AffineRank
chosen_shape lo hi x plan =
    with_some same_rank affine_ranks.where_greater affine_ranks.greater_fits affine_ranks.substituted affine_ranks.one_more lo hi x plan
    (tried_values lo hi x plan)

-- trimmed, and where the complements that this forms fit
abbrev pub cut : Plan AffineRank → Plan AffineRank
cut plan = trimmed same_rank [] plan

abbrev pub CutFits : Plan AffineRank → Type 0
CutFits plan = TrimFits same_rank [] plan
