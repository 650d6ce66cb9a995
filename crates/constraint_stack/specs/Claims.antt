-- Systems: what a store would have to meet, functions that are at least 0 and a claim about ranks; and when no store meets one.
use Rattle.std.specs.Prelude.{ℕ, ℤ, pos, ◌<ℤ◌, List, [], ◌∷◌, ◌++◌, map, All, Option, None, Some, ⊤}
use Rattle.linear_cons.specs.declared.affine.Affine.{Affine}
use Rattle.linear_cons.specs.declared.row.RowKind.{RowKind}
use Rattle.linear_cons.specs.Rows.{MeetsKind, PointMeetsKind, row_kind_of}
use Rattle.decision_tree.specs.Alternatives.{lists_of}
use Rattle.decision_tree.specs.declared.rank.Rank.{Ghosts as Ranks}
use Rattle.constraint_stack.specs.Forming.{Formed, exact}

-- what a system asks of ranks besides its rows: nothing; that the rank is no natural; or that the first rank, moved back over what an arc
-- sets, and one more, exceeds the second
pub data Claim (R : Type 0) : Type 0 where
  nothing : Claim R
  unnatural : R → Claim R
  exceeding : R → Option (ℕ × Affine) → R → Claim R

-- a system: the number of its edge, the functions that it asks to be at least 0, and its claim, whose alternatives each make a list of rows
pub record System (R : Type 0) : Type 0 where
  pub edge : ℕ
  pub asks : List Formed
  pub claim : Claim R

module _ {R : Type 0} (ranks : Ranks R) where
  -- a rank moved back over what an arc sets
  abbrev pub moved_rank : Option (ℕ × Affine) → R → R
  moved_rank None rank = rank
  moved_rank (Some (place, by)) rank = ranks.substituted rank place by

  -- no number is outside 128 bits where it is moved
  abbrev pub MoveFits : Option (ℕ × Affine) → R → Type 0
  MoveFits None rank = ⊤
  MoveFits (Some (place, by)) rank = ranks.subst_fits rank place by

  -- the rows that a claim asks for, one list for each alternative
  abbrev pub choices : Claim R → List (List RowKind)
  choices nothing = [] ∷ []
  choices (unnatural rank) = lists_of (ranks.where_negative rank)
  choices (exceeding other sets rank) = lists_of (ranks.where_greater (ranks.one_more (moved_rank sets other)) rank)

  -- no call that forms them leaves 128 bits
  abbrev pub ClaimFits : Claim R → Type 0
  ClaimFits nothing = ⊤
  ClaimFits (unnatural rank) = ranks.negative_fits rank
  ClaimFits (exceeding other sets rank) =
      MoveFits sets other × ranks.add_one_fits (moved_rank sets other)
      × ranks.greater_fits (ranks.one_more (moved_rank sets other)) rank

  -- what a system asks with one of these lists: its functions as rows, rounded for whole numbers, and the list
  abbrev pub kinds_of : System R → List RowKind → List RowKind
  kinds_of system choice = map (λ a. row_kind_of (exact a)) system.asks ++ choice

  -- no store meets the system
  abbrev pub HasNoStore : System R → Type 0
  HasNoStore system =
      All (λ choice. (store : List ℤ) → All (λ kind. MeetsKind store kind) (kinds_of system choice) → ⊥) (choices system.claim)

  -- no point does
  abbrev pub HasNoPoint : System R → Type 0
  HasNoPoint system =
      All
      (λ choice. (num : List ℤ) (den : ℤ) → pos 0 <ℤ den → All (λ kind. PointMeetsKind num den kind) (kinds_of system choice) → ⊥)
      (choices system.claim)
