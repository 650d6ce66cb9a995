-- The shape of a tree moved back over the assignment of some number of a range, of which one is picked, before it is trimmed, and beside it
-- where the functions, ranks and complements that it forms fit and its trees are small.
use Rattle.std.specs.Prelude.{◌≡◌, ℕ, ◌≤◌, ℤ, Bool, List, [], ◌∷◌, Option, None, Some, slice_set, ⊤}
use Rattle.linear_cons.specs.declared.affine.Affine.{Affine}
use Rattle.linear_cons.specs.declared.row.RowKind.{RowKind}
use Rattle.linear_cons.specs.declared.row.RowKind.TheVariants.{Always}
use Rattle.linear_cons.specs.Bounds.{IsFrom, IsUpTo}
use Rattle.linear_cons.specs.Functions.{NumbersFit, constant_of, difference_of, value_at}
use Rattle.linear_cons.specs.Rows.{row_kind_of}
use Rattle.decision_tree.specs.Evaluation.{eval}
use Rattle.decision_tree.specs.Plans.{Plan, bottom, leaf, size_of}
use Rattle.decision_tree.specs.Alternatives.{Alternatives}
use Rattle.decision_tree.specs.declared.rank.Rank.{Ghosts as Ranks}
use Rattle.decision_tree.specs.declared.reason.Pick.TheVariants.{Value}
use Rattle.decision_tree.specs.declared.reason.Why.{Why}
use Rattle.tree_unify.specs.Builds.{Build, formed}
use Rattle.backward_transfer.specs.Picks.{EitherFits, either_of}
use Rattle.backward_transfer.specs.Steps.{AskedFits, AssignFits, asked, assigned_by, step_by}

-- that the value is at least the lower end, and at most the upper one
abbrev pub from_end : Option ℤ → Affine → RowKind
from_end None a = Always
from_end (Some n) a = row_kind_of (difference_of a (constant_of n))

abbrev pub to_end : Option ℤ → Affine → RowKind
to_end None a = Always
to_end (Some n) a = row_kind_of (difference_of (constant_of n) a)

abbrev pub FromFits : Option ℤ → Affine → Type 0
FromFits None a = ⊤
FromFits (Some n) a = NumbersFit (difference_of a (constant_of n))

abbrev pub ToFits : Option ℤ → Affine → Type 0
ToFits None a = ⊤
ToFits (Some n) a = NumbersFit (difference_of (constant_of n) a)

module _ {R : Type 0} (same : R → R → Bool) (put : R → ℕ → Affine → R) (one_more : R → R) where
  -- the tree with this value put in, where it isn't above the upper end, and where it lies in the range
  abbrev pub up_to : Option ℤ → ℕ → Plan R → Affine → Plan R
  up_to hi place plan a = asked same (to_end hi a) (assigned_by same put one_more (Value a) place a plan) bottom

  abbrev pub with_value : Option ℤ → Option ℤ → ℕ → Plan R → Affine → Plan R
  with_value lo hi place plan a = asked same (from_end lo a) (up_to hi place plan a) bottom

module _ {R : Type 0} (put : R → ℕ → Affine → R) (put_fits : R → ℕ → Affine → Type 0) (more_fits : R → Type 0) where
  abbrev pub UpToFits : Option ℤ → ℕ → Plan R → Affine → Type 0
  UpToFits hi place plan a = ToFits hi a × AskedFits (to_end hi a) (AssignFits put put_fits more_fits place a plan) ⊤

  abbrev pub ValueFits : Option ℤ → Option ℤ → ℕ → Plan R → Affine → Type 0
  ValueFits lo hi place plan a = FromFits lo a × AskedFits (from_end lo a) (UpToFits hi place plan a) ⊤

module _ {R : Type 0} (same : R → R → Bool) (where_greater : R → R → Alternatives) (greater_fits : R → R → Type 0) (put : R → ℕ → Affine → R)
    (one_more : R → R)
  where
    -- the claims of the first of the values that leads to one; without values nothing is claimed
    abbrev pub with_more : Option ℤ → Option ℤ → ℕ → Plan R → Plan R → List Affine → Plan R
    with_more lo hi place plan made [] = made
    with_more lo hi place plan made (a ∷ rest) =
        with_more lo hi place plan (either_of same where_greater greater_fits made (with_value same put one_more lo hi place plan a)) rest

    abbrev pub with_some : Option ℤ → Option ℤ → ℕ → Plan R → List Affine → Plan R
    with_some lo hi place plan [] = bottom
    with_some lo hi place plan (a ∷ rest) = with_more lo hi place plan (with_value same put one_more lo hi place plan a) rest

    -- no tree that it forms has more nodes
    abbrev pub IsMoreSmall : ℕ → Option ℤ → Option ℤ → ℕ → Plan R → Plan R → List Affine → Type 0
    IsMoreSmall most lo hi place plan made [] = ⊤
    IsMoreSmall most lo hi place plan made (a ∷ rest) =
        (size_of (with_value same put one_more lo hi place plan a) ≤ most)
        × (size_of (either_of same where_greater greater_fits made (with_value same put one_more lo hi place plan a)) ≤ most)
        × IsMoreSmall most lo hi place plan (either_of same where_greater greater_fits made (with_value same put one_more lo hi place plan a)) rest

    abbrev pub IsSomeSmall : ℕ → Option ℤ → Option ℤ → ℕ → Plan R → List Affine → Type 0
    IsSomeSmall most lo hi place plan [] = ⊤
    IsSomeSmall most lo hi place plan (a ∷ rest) =
        (size_of (with_value same put one_more lo hi place plan a) ≤ most)
        × IsMoreSmall most lo hi place plan (with_value same put one_more lo hi place plan a) rest

    module _ (put_fits : R → ℕ → Affine → Type 0) (more_fits : R → Type 0) where
      -- each function, each rank and each complement that it forms fits
      abbrev pub MoreFits : Option ℤ → Option ℤ → ℕ → Plan R → Plan R → List Affine → Type 0
      MoreFits lo hi place plan made [] = ⊤
      MoreFits lo hi place plan made (a ∷ rest) =
          ValueFits put put_fits more_fits lo hi place plan a
          × EitherFits same where_greater greater_fits made (with_value same put one_more lo hi place plan a)
          × MoreFits lo hi place plan (either_of same where_greater greater_fits made (with_value same put one_more lo hi place plan a)) rest

      abbrev pub SomeFits : Option ℤ → Option ℤ → ℕ → Plan R → List Affine → Type 0
      SomeFits lo hi place plan [] = ⊤
      SomeFits lo hi place plan (a ∷ rest) =
          ValueFits put put_fits more_fits lo hi place plan a × MoreFits lo hi place plan (with_value same put one_more lo hi place plan a) rest

-- A value in the range that leads to a claim: behind the assignment stands one, of which the claim before it has the rank with the value put in
-- and one more step, for that value.
pub record LeadsToClaim {R : Type 0} (put : R → ℕ → Affine → R) (one_more : R → R) (lo hi : Option ℤ) (place : ℕ) (plan : Plan R) (store : List ℤ)
    (why : Why) (rank : R) : Type 0
  where
    pub value : Affine
    pub from : IsFrom lo (value_at value store)
    pub to : IsUpTo hi (value_at value store)
    pub reason : Why
    pub behind : R
    pub claimed : eval plan (slice_set store place (value_at value store)) ≡ leaf reason behind
    pub here : leaf why rank ≡ step_by (Value value) (one_more (put behind place value))

-- ---- what is made on the way

module _ {R : Type 0} (same : R → R → Bool) (ranks : Ranks R) where
  -- the tree with a value put in, where that isn't above the upper end, and where it lies in the range
  abbrev pub putting_up_to : Option ℤ → ℕ → Plan R → Affine → Build R
  putting_up_to hi place plan a =
      formed (up_to same ranks.substituted ranks.one_more hi place plan a) (UpToFits ranks.substituted ranks.subst_fits ranks.add_one_fits hi place plan a)

  abbrev pub putting : Option ℤ → Option ℤ → ℕ → Plan R → Affine → Build R
  putting lo hi place plan a =
      formed (with_value same ranks.substituted ranks.one_more lo hi place plan a)
      (ValueFits ranks.substituted ranks.subst_fits ranks.add_one_fits lo hi place plan a)

  -- what is made, with the claims of the values where it has none, and the claims of the values alone
  abbrev pub adding : Option ℤ → Option ℤ → ℕ → Plan R → Plan R → List Affine → Build R
  adding lo hi place plan made values = record {
    plan = with_more same ranks.where_greater ranks.greater_fits ranks.substituted ranks.one_more lo hi place plan made values;
    Fits = MoreFits same ranks.where_greater ranks.greater_fits ranks.substituted ranks.one_more ranks.subst_fits ranks.add_one_fits lo hi place plan made values;
    Room = IsMoreSmall same ranks.where_greater ranks.greater_fits ranks.substituted ranks.one_more 65536 lo hi place plan made values;
  }

  abbrev pub choosing : Option ℤ → Option ℤ → ℕ → Plan R → List Affine → Build R
  choosing lo hi place plan values = record {
    plan = with_some same ranks.where_greater ranks.greater_fits ranks.substituted ranks.one_more lo hi place plan values;
    Fits = SomeFits same ranks.where_greater ranks.greater_fits ranks.substituted ranks.one_more ranks.subst_fits ranks.add_one_fits lo hi place plan values;
    Room = IsSomeSmall same ranks.where_greater ranks.greater_fits ranks.substituted ranks.one_more 65536 lo hi place plan values;
  }
