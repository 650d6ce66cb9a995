-- The shape of two trees moved back over a free test of which one outcome is picked, before it is trimmed, and beside it where the ranks and
-- complements that it forms fit and its trees are small.
use Rattle.std.specs.Prelude.{ℕ, ◌≤◌, Bool}
use Rattle.decision_tree.specs.Plans.{Plan, size_of}
use Rattle.decision_tree.specs.Alternatives.{Alternatives}
use Rattle.decision_tree.specs.declared.rank.Rank.{Ghosts as Ranks}
use Rattle.decision_tree.specs.declared.reason.Pick.TheVariants.{Yes, No}
use Rattle.tree_unify.specs.Builds.{Build}
use Rattle.tree_unify.specs.Shapes.{JoinedFits, joined}
use Rattle.tree_unify.specs.declared.join.Join.TheVariants.{Either}
use Rattle.backward_transfer.specs.Steps.{StepFits, stepped_by}

module _ {R : Type 0} (same : R → R → Bool) (where_greater : R → R → Alternatives) (greater_fits : R → R → Type 0) where
  -- the first of two trees that claims something
  abbrev pub either_of : Plan R → Plan R → Plan R
  either_of this that = joined same where_greater greater_fits Either this that

  abbrev pub EitherFits : Plan R → Plan R → Type 0
  EitherFits this that = JoinedFits same where_greater greater_fits Either this that

  module _ (one_more : R → R) where
    -- the outcome that holds where its tree claims something, else the one that fails
    abbrev pub picked : Plan R → Plan R → Plan R
    picked this that = either_of (stepped_by same one_more Yes this) (stepped_by same one_more No that)

    -- each rank and each complement that it forms fits
    abbrev pub PickFits : (R → Type 0) → Plan R → Plan R → Type 0
    PickFits more_fits this that =
        StepFits more_fits this × StepFits more_fits that × EitherFits (stepped_by same one_more Yes this) (stepped_by same one_more No that)

    -- no tree that it forms has more nodes
    abbrev pub ArePicksSmall : ℕ → Plan R → Plan R → Type 0
    ArePicksSmall most this that =
        (size_of (stepped_by same one_more Yes this) ≤ most) × (size_of (stepped_by same one_more No that) ≤ most) × (size_of (picked this that) ≤ most)

-- the tree before a free test
abbrev pub picking : {R : Type 0} → (R → R → Bool) → Ranks R → Plan R → Plan R → Build R
picking same ranks this that = record {
  plan = picked same ranks.where_greater ranks.greater_fits ranks.one_more this that;
  Fits = PickFits same ranks.where_greater ranks.greater_fits ranks.one_more ranks.add_one_fits this that;
  Room = ArePicksSmall same ranks.where_greater ranks.greater_fits ranks.one_more 65536 this that;
}
