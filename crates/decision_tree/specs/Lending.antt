-- What a list of trees is once the slice that it lends is given back.
use Rattle.std.specs.Prelude.{Bool, ℕ, ℤ, List, ◌++◌, drop, length, map, take}
use Rattle.std.specs.Borrow.{Array, Fml, Lends, MutBor, RattleType}
use Rattle.linear_cons.specs.declared.affine.Affine.{Affine}
use Rattle.decision_tree.specs.Alternatives.{Alternatives}
use Rattle.decision_tree.specs.declared.tree.Tree.{Tree}
use Rattle.decision_tree.specs.Plans.{Plan, plan_of}
use Rattle.decision_tree.specs.Trend.{Trend}
use Rattle.decision_tree.specs.contracts.family.TreeList.{the_row as list_row}
use Rattle.decision_tree.specs.contracts.tree.Tree.{the_row as tree_row}

-- what a clause has as R.Rank
abbrev pub RankMembers : Type 0 → Type 1
RankMembers R = record {
  hash_input : R → List (List ℕ);
  eq : R → R → Bool;
  PARTS : ℕ;
  Value : Type 0;
  rank_value : R → List ℤ → Value;
  exceeds : Value → Value → Type 0;
  is_natural : Value → Type 0;
  trend : R → ℕ → Trend;
  substituted : R → ℕ → Affine → R;
  subst_fits : R → ℕ → Affine → Type 0;
  one_more : R → R;
  add_one_fits : R → Type 0;
  where_greater : R → R → Alternatives;
  greater_fits : R → R → Type 0;
  where_negative : R → Alternatives;
  negative_fits : R → Type 0;
}

-- the plans with those of the trees in their stead, which are as many where the trees come from a slice
-- that was as long; else they are cut, or filled up from the plans
abbrev pub with_trees : {R : Type 0} → List (Plan R) → List (Tree R) → List (Plan R)
with_trees plans trees = take (length plans) (map plan_of trees ++ drop (length trees) plans)

-- once the slice ends, the list is the plans of the trees that are left there
abbrev pub LendsTrees : (R : RattleType) → RankMembers R.Denot → MutBor (List (Plan R.Denot)) → MutBor (List (Tree R.Denot)) → Fml
LendsTrees R rank list trees = Lends
    (list_row R (record {
      PARTS = rank.PARTS;
      Value = rank.Value;
      rank_value = rank.rank_value;
      exceeds = rank.exceeds;
      is_natural = rank.is_natural;
      trend = rank.trend;
      substituted = rank.substituted;
      subst_fits = rank.subst_fits;
      one_more = rank.one_more;
      add_one_fits = rank.add_one_fits;
      where_greater = rank.where_greater;
      greater_fits = rank.greater_fits;
      where_negative = rank.where_negative;
      negative_fits = rank.negative_fits;
    }) (record { eq = rank.eq }) (record { hash_input = rank.hash_input }))
    (Array (tree_row R) 0) list trees (with_trees list.now)
