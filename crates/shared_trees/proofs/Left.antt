-- How much of a test is left to ask.
use Rattle.std.proofs.Common.{ℕ, suc, ◌+◌, List, [], ◌∷◌, length}
use Rattle.linear_cons.specs.declared.row.Row.{Row}
use Rattle.shared_trees.specs.declared.testing.Stage.{Stage}
use Rattle.shared_trees.specs.declared.testing.Stage.TheVariants.{Failing, Holding}

-- the rows of the conjunctions, and one more for each of these
unfoldable pub rows_left : List (List Row) → ℕ
rows_left [] = 0
rows_left (rows ∷ rest) = suc (length rows + rows_left rest)

-- what is left behind the stage, by what the failure has
abbrev pub stage_left : Stage → ℕ → ℕ
stage_left Holding fails = fails + 2
stage_left (Failing holds start) fails = 0
