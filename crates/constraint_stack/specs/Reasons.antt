-- When a reason holds against a system.
use Rattle.std.specs.Prelude.{◌≡◌, ◌⊎◌, ◌<◌, ℤ, pos, ◌<ℤ◌, List, [], length, All, Contains, Option, None, Some}
use Rattle.std.specs.List.{filter_map}
use Rattle.linear_cons.specs.declared.row.Row.{Row}
use Rattle.linear_cons.specs.declared.row.RowKind.{RowKind}
use Rattle.linear_cons.specs.declared.row.RowKind.TheVariants.{Always, Never, Row as Kept}
use Rattle.linear_cons.specs.Exact.{IsOutside}
use Rattle.linear_cons.specs.Rows.{AreOpposed, PointMeetsKind, row_kind_of}
use Rattle.linear_solve.specs.Answers.{MayOutgrow, MayOverflow}
use Rattle.linear_solve.specs.Systems.{IsOctagonList, occurring}
use Rattle.integer_point.specs.Hard.{IsHard}
use Rattle.decision_tree.specs.declared.rank.Rank.{Ghosts as Ranks}
use Rattle.constraint_stack.specs.declared.reason.Reason.{Reason}
use Rattle.constraint_stack.specs.declared.reason.Reason.TheVariants.{Point, Wide as TooWide, Rows}
use Rattle.constraint_stack.specs.Claims.{ClaimFits, System, choices, kinds_of}
use Rattle.constraint_stack.specs.Forming.{Formed, FormsWhole, exact}

-- the rows among the kinds
abbrev pub row_in_kind : RowKind → Option Row
row_in_kind Always = None
row_in_kind Never = None
row_in_kind (Kept row) = Some row

abbrev pub rows_in : List RowKind → List Row
rows_in kinds = filter_map row_in_kind kinds

-- A point with this denominator is a reason against rows that it meets: it is a store, or splits don't tell whether a store meets the rows, or these are too
-- many to be split.
abbrev pub IsReasonable : List Row → ℤ → Type 0
IsReasonable rows den = (den ≡ pos 1) ⊎ IsHard rows ⊎ (4086 < length rows)

module _ {R : Type 0} (ranks : Ranks R) where
  -- the rows of a system with one list of its claim
  abbrev pub rows_of : System R → List RowKind → List Row
  rows_of system choice = rows_in (kinds_of ranks system choice)

  -- the system asks for this kind, and no call that forms it leaves 128 bits
  abbrev pub Shows : System R → List RowKind → RowKind → Type 0
  Shows system choice kind =
      ((a : Formed) × Contains system.asks a × FormsWhole a × (row_kind_of (exact a) ≡ kind))
      ⊎ (ClaimFits ranks system.claim × Contains choice kind)

  -- Nothing that could be formed decides the system at once: none is never met, and no two rows are opposed.
  pub record IsOpen (system : System R) (choice : List RowKind) : Type 0 where
    pub there : Shows system choice Never → ⊥
    pub apart : (row other : Row) → Shows system choice (Kept row) → Shows system choice (Kept other) → AreOpposed row other → ⊥

  -- the list is one of the claim's; where these can't be formed none is seen
  pub record IsSeen (system : System R) (choice : List RowKind) : Type 0 where
    pub one_of : ClaimFits ranks system.claim → Contains (choices ranks system.claim) choice
    pub unseen : ¬ ClaimFits ranks system.claim → choice ≡ []

  -- each call that forms the system stays within 128 bits
  abbrev pub IsWhole : System R → Type 0
  IsWhole system = All FormsWhole system.asks × ClaimFits ranks system.claim

  -- The reason holds for the system: the point meets every row, and is a store where splits tell; a number that is formed for it lies outside 128 bits, or may do so in the
  -- elimination; its rows are too many, or may come to be.
  abbrev pub Justifies : Reason → System R → Type 0
  Justifies (Point num den) system =
      (pos 0 <ℤ den)
      × ((choice : List RowKind) × Contains (choices ranks system.claim) choice
      × All (λ kind. PointMeetsKind num den kind) (kinds_of ranks system choice)
      × IsReasonable (rows_of system choice) den)
  Justifies (TooWide operands) system =
      IsOutside operands
      × ((choice : List RowKind) × IsSeen system choice × IsOpen system choice
      × ((¬ IsWhole system)
      ⊎ ((¬ IsOctagonList (rows_of system choice)) × MayOutgrow (occurring (rows_of system choice)) (rows_of system choice))))
  Justifies (Rows count) system =
      (4096 < count)
      × ((choice : List RowKind) × Contains (choices ranks system.claim) choice × IsOpen system choice
      × ((4096 < length (rows_of system choice))
      ⊎ ((¬ IsOctagonList (rows_of system choice)) × MayOverflow (occurring (rows_of system choice)) (rows_of system choice))))
