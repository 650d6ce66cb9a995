-- The shape of a tree moved back over the assignment of a value in a range, before it is trimmed, and beside it where its numbers fit and
-- its trees are small.
use Rattle.std.specs.Prelude.{ℕ, ◌≤◌, ℤ, Bool, Option, None, Some, ⊤}
use Rattle.linear_cons.specs.Bounds.{end_of}
use Rattle.linear_cons.specs.Functions.{NumbersFit, SubstitutionFits, complement_of, substituted}
use Rattle.linear_cons.specs.Rows.{complement, row_kind_of}
use Rattle.linear_cons.specs.declared.affine.Affine.{Affine}
use Rattle.linear_cons.specs.declared.bounds.Linear.{Linear}
use Rattle.linear_cons.specs.declared.row.Row.{Row}
use Rattle.linear_cons.specs.declared.row.RowKind.{RowKind}
use Rattle.linear_cons.specs.declared.row.RowKind.TheVariants.{Always, Never, Row as Kept}
use Rattle.decision_tree.specs.AffineRanks.{trend_of}
use Rattle.decision_tree.specs.Plans.{Plan, bottom, branch, leaf, size_of}
use Rattle.decision_tree.specs.Trend.{GreatestFits, Trend, falling, greatest_of, rising, unmentioned}
use Rattle.decision_tree.specs.Alternatives.{Alternatives}
use Rattle.decision_tree.specs.declared.rank.Rank.{Ghosts as Ranks}
use Rattle.tree_unify.specs.Builds.{Build, formed}
use Rattle.tree_unify.specs.Shapes.{JoinedFits, joined}
use Rattle.tree_unify.specs.declared.join.Join.TheVariants.{Later}
use Rattle.backward_transfer.specs.Steps.{AskedFits, asked, step_to}

-- what the row says of the store before, where the value that is put is the range's function plus a number
abbrev pub row_at : Row → ℕ → Linear → ℤ → RowKind
row_at row place range n = row_kind_of (substituted row.affine place (end_of range n))

abbrev pub RowAtFits : Row → ℕ → Linear → ℤ → Type 0
RowAtFits row place range n = NumbersFit (end_of range n) × SubstitutionFits row.affine place (end_of range n)

-- the constraint that is met where the other isn't
abbrev pub negated : RowKind → RowKind
negated Always = Never
negated Never = Always
negated (Kept row) = Kept (complement row)

abbrev pub NegationFits : RowKind → Type 0
NegationFits (Kept row) = NumbersFit (complement_of row.affine)
NegationFits _ = ⊤

-- the row holds, or fails, at an end of the range; at an end that isn't known that counts as not met
abbrev pub holds_at : Row → ℕ → Linear → Option ℤ → RowKind
holds_at row place range None = Never
holds_at row place range (Some n) = row_at row place range n

abbrev pub HoldsAtFits : Row → ℕ → Linear → Option ℤ → Type 0
HoldsAtFits row place range None = ⊤
HoldsAtFits row place range (Some n) = RowAtFits row place range n

abbrev pub fails_at : Row → ℕ → Linear → Option ℤ → RowKind
fails_at row place range None = Never
fails_at row place range (Some n) = negated (row_at row place range n)

abbrev pub FailsAtFits : Row → ℕ → Linear → Option ℤ → Type 0
FailsAtFits row place range None = ⊤
FailsAtFits row place range (Some n) = RowAtFits row place range n × NegationFits (row_at row place range n)

-- the row holds for every value of the range: at the end where it is least; a row without the place holds as it stands
abbrev pub holds_throughout : Trend → Row → ℕ → Linear → RowKind
holds_throughout unmentioned row place range = Kept row
holds_throughout rising row place range = holds_at row place range range.lo
holds_throughout falling row place range = holds_at row place range range.hi

abbrev pub HoldsFits : Trend → Row → ℕ → Linear → Type 0
HoldsFits unmentioned row place range = ⊤
HoldsFits rising row place range = HoldsAtFits row place range range.lo
HoldsFits falling row place range = HoldsAtFits row place range range.hi

-- a row that doesn't hold for every value fails for every value: at the end where it is greatest; without the place it does so at once
abbrev pub fails_throughout : Trend → Row → ℕ → Linear → RowKind
fails_throughout unmentioned row place range = Always
fails_throughout rising row place range = fails_at row place range range.hi
fails_throughout falling row place range = fails_at row place range range.lo

abbrev pub FailsFits : Trend → Row → ℕ → Linear → Type 0
FailsFits unmentioned row place range = ⊤
FailsFits rising row place range = FailsAtFits row place range range.hi
FailsFits falling row place range = FailsAtFits row place range range.lo

-- the greatest rank over the range with one more; nothing is claimed where it isn't known
abbrev pub step_to_greatest : {R : Type 0} → (R → R) → Option R → Plan R
step_to_greatest one_more None = bottom
step_to_greatest one_more (Some rank) = step_to (one_more rank)

abbrev pub GreatestStepFits : {R : Type 0} → (R → Type 0) → Option R → Type 0
GreatestStepFits more_fits None = ⊤
GreatestStepFits more_fits (Some rank) = more_fits rank

module _ {R : Type 0} (same : R → R → Bool) (where_greater : R → R → Alternatives) (greater_fits : R → R → Type 0) where
  -- the later of two trees
  abbrev pub later_of : Plan R → Plan R → Plan R
  later_of this that = joined same where_greater greater_fits Later this that

  module _ (trend : R → ℕ → Trend) (put : R → ℕ → Affine → R) (one_more : R → R) where
    -- The yes side where the row holds for every value of the range, the no side where it fails for every one, else the later of both;
    -- each leaf that is defined has the greatest of its ranks over the range, and one more step.
    abbrev pub ranged : ℕ → Linear → Plan R → Plan R
    ranged place range (branch row this that) =
        asked same (holds_throughout (trend_of row.affine place) row place range) (ranged place range this)
        (asked same (fails_throughout (trend_of row.affine place) row place range) (ranged place range that)
        (later_of (ranged place range this) (ranged place range that)))
    ranged place range (leaf why rank) = step_to_greatest one_more (greatest_of rank (trend rank place) range (put rank place))
    ranged place range end = end

    module _ (put_fits : R → ℕ → Affine → Type 0) (more_fits : R → Type 0) where
      -- each function, each complement and each rank that it forms fits
      abbrev pub RangeFits : ℕ → Linear → Plan R → Type 0
      RangeFits place range (branch row this that) =
          HoldsFits (trend_of row.affine place) row place range
          × AskedFits (holds_throughout (trend_of row.affine place) row place range) (RangeFits place range this)
          (FailsFits (trend_of row.affine place) row place range
          × AskedFits (fails_throughout (trend_of row.affine place) row place range) (RangeFits place range that)
          (RangeFits place range this × RangeFits place range that
          × JoinedFits same where_greater greater_fits Later (ranged place range this) (ranged place range that)))
      RangeFits place range (leaf why rank) =
          GreatestFits (trend rank place) range (put_fits rank place)
          × GreatestStepFits more_fits (greatest_of rank (trend rank place) range (put rank place))
      RangeFits place range end = ⊤

    -- no tree that it forms has more nodes
    abbrev pub AreSmall : ℕ → ℕ → Linear → Plan R → Type 0
    AreSmall most place range (branch row this that) =
        (size_of (ranged place range (branch row this that)) ≤ most)
        × AskedFits (holds_throughout (trend_of row.affine place) row place range) (AreSmall most place range this)
        (AskedFits (fails_throughout (trend_of row.affine place) row place range) (AreSmall most place range that)
        (AreSmall most place range this × AreSmall most place range that
        × size_of (later_of (ranged place range this) (ranged place range that)) ≤ most))
    AreSmall most place range end = ⊤

-- ---- what is made on the way

module _ {R : Type 0} (same : R → R → Bool) (ranks : Ranks R) where
  -- the no side where the constraint is met, else the later of both
  abbrev pub asking_second : RowKind → Plan R → Plan R → Build R
  asking_second fails this that = record {
    plan = asked same fails that (later_of same ranks.where_greater ranks.greater_fits this that);
    Fits = AskedFits fails ⊤ (JoinedFits same ranks.where_greater ranks.greater_fits Later this that);
    Room = AskedFits fails ⊤ (size_of (later_of same ranks.where_greater ranks.greater_fits this that) ≤ 65536);
  }

  -- the yes side where the first constraint is met, the no side where the second is, else the later of both
  abbrev pub asking_both : RowKind → RowKind → Plan R → Plan R → Build R
  asking_both holds fails this that = record {
    plan = asked same holds this (asking_second fails this that).plan;
    Fits = (asking_second fails this that).Fits;
    Room = (asking_second fails this that).Room;
  }

  -- the tree before an assignment of a value in a range
  abbrev pub ranging : ℕ → Linear → Plan R → Build R
  ranging place range plan = record {
    plan = ranged same ranks.where_greater ranks.greater_fits ranks.trend ranks.substituted ranks.one_more place range plan;
    Fits = RangeFits same ranks.where_greater ranks.greater_fits ranks.trend ranks.substituted ranks.one_more ranks.subst_fits ranks.add_one_fits place range plan;
    Room = AreSmall same ranks.where_greater ranks.greater_fits ranks.trend ranks.substituted ranks.one_more 65536 place range plan;
  }

-- the greatest of a leaf's ranks over the range, with one more step
abbrev pub spreading : {R : Type 0} → Ranks R → ℕ → Linear → R → Build R
spreading ranks place range rank =
    formed (step_to_greatest ranks.one_more (greatest_of rank (ranks.trend rank place) range (ranks.substituted rank place)))
    (GreatestFits (ranks.trend rank place) range (ranks.subst_fits rank place)
    × GreatestStepFits ranks.add_one_fits (greatest_of rank (ranks.trend rank place) range (ranks.substituted rank place)))
