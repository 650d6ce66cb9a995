-- What the calls below a widening answer.
use Rattle.std.specs.Prelude.{ℤ, Bool, true, false, List, Option, None, Some}
use Rattle.linear_cons.specs.Rows.{MeetsAll, MeetsKind}
use Rattle.linear_cons.specs.declared.row.Row.{Row}
use Rattle.linear_cons.specs.declared.row.RowKind.{RowKind}
use Rattle.linear_solve.specs.Answers.{HasNoStore}
use Rattle.decision_tree.specs.Alternatives.{Alternatives, MeetsAny, MeetsEach}
use Rattle.decision_tree.specs.Plans.{Plan, bottom, leaf}
use Rattle.decision_tree.specs.declared.rank.Rank.{Ghosts as Ranks}
use Rattle.tree_widening.specs.declared.extrapolation.Claim.{Claim}
use Rattle.tree_widening.specs.Leaves.{AtEach, AtOne}
use Rattle.tree_widening.specs.Meeting.{IsSoWith, MayBeMet, MayBeMetWith, MayBeMetWithOne}
use Rattle.tree_widening.specs.Widening.{BearsOut, IsAgainst}

-- a point may meet the rows, or no store does
abbrev pub IsDecided : List Row → Bool → Type 0
IsDecided rows true = MayBeMet rows
IsDecided rows false = HasNoStore rows

-- a point may meet the path's rows and the constraint, or no store does
abbrev pub IsKindDecided : List Row → RowKind → Bool → Type 0
IsKindDecided path kind true = MayBeMetWith path kind
IsKindDecided path kind false = (store : List ℤ) → MeetsAll store path → MeetsKind store kind → ⊥

-- a point may meet the path's rows and one of the alternatives, or no store does
abbrev pub IsOneDecided : List Row → Alternatives → Bool → Type 0
IsOneDecided path list true = MayBeMetWithOne path list
IsOneDecided path list false = (store : List ℤ) → MeetsAll store path → MeetsAny store list → ⊥

-- the same behind more constraints
abbrev pub IsBehindDecided : List Row → List RowKind → Alternatives → Bool → Type 0
IsBehindDecided path kinds list true = IsSoWith (λ way. MayBeMetWithOne way list) path kinds
IsBehindDecided path kinds list false = (store : List ℤ) → MeetsAll store path → MeetsEach store kinds → MeetsAny store list → ⊥

module _ {R : Type 0} (ranks : Ranks R) where
  -- the newer rank may exceed the rank at a point of the path, or it does so at no store there
  abbrev pub IsLeafJudged : R → List Row → R → Bool → Type 0
  IsLeafJudged rank path next true = MayBeMetWithOne path (ranks.where_greater next rank)
  IsLeafJudged rank path next false =
      (store : List ℤ) → MeetsAll store path → ranks.exceeds (ranks.rank_value next store) (ranks.rank_value rank store) → ⊥

  -- a leaf of the newer tree on the path tells against a claim of the rank, or each one bears it out
  abbrev pub IsJudged : R → List Row → Plan R → Bool → Type 0
  IsJudged rank path new true = AtOne (IsAgainst ranks rank) path new
  IsJudged rank path new false = AtEach (BearsOut ranks rank) path new

-- a claim as the leaf that makes it; without one the leaf that makes none
abbrev pub claim_of : {R : Type 0} → Option (Claim R) → Plan R
claim_of None = bottom
claim_of (Some claim) = leaf claim.why.now claim.rank.now
