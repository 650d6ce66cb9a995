-- Ways of small inputs through trees.
use Rattle.std.specs.Prelude.{ℕ, ℤ, List, ◌<◌, ◌^◌, unsigned_abs}
use Rattle.linear_cons.specs.Numbers.{number_at}
use Rattle.decision_tree.specs.Evaluation.{WayFits}
use Rattle.decision_tree.specs.Plans.{Plan}
use Rattle.decision_tree.specs.declared.affine_rank.AffineRank.{AffineRank}

-- each of the numbers is below 2^63 in size
abbrev pub HasSmallNumbers : List ℤ → Type 0
HasSmallNumbers store = (place : ℕ) → place < 16 → unsigned_abs (number_at store place) < 2 ^ 63

-- the way of each store with such numbers through the tree is found within 128 bits
abbrev pub SmallWaysFit : Plan AffineRank → Type 0
SmallWaysFit tree = (store : List ℤ) → HasSmallNumbers store → WayFits tree store
