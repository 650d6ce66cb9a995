-- What a tree has at the members of a set where a side without members is left out.
use Rattle.std.proofs.Common.{◌≡◌, ◌↔◌, inl, inr, ℤ, Bool, true, false, cond, List, IsTrue, sym, ◌∙◌, ⊎_elim, arith}
use Rattle.linear_cons.specs.Rows.{complement}
use Rattle.linear_cons.specs.declared.row.Row.{Row}
use Rattle.linear_cons.proofs.RowLaws.{complement_met}
use Rattle.num_domain.specs.Domain.{AllMeet, KeepsMeeting, NoneMeets}
use Rattle.decision_tree.specs.Equality.{same_plan}
use Rattle.decision_tree.specs.Nodes.{node}
use Rattle.decision_tree.specs.Plans.{Plan, branch}
use Rattle.tree_unify.specs.Pruned.{IsPartOf, SameLeaves}
use Rattle.tree_unify.proofs.Meeting.{eval_met, eval_missed, meets_or_not, node_eval}

module _ {R : Type 0} (row : Row) (this that : Plan R) (has inside : List ℤ → Type 0) (keeps : KeepsMeeting row has inside) where
  -- where each member meets the row
  pub yes_side : (made : Plan R) → AllMeet row has → SameLeaves inside made this → SameLeaves has made (branch row this that)
  yes_side made all same store is member =
      let met = all store is member in
      same store is (keeps store is member met) ∙ sym (eval_met row this that store met)

module _ {R : Type 0} (row : Row) (this that : Plan R) (has below : List ℤ → Type 0) (leaves : KeepsMeeting (complement row) has below) where
  -- where no member meets the row
  pub no_side : (made : Plan R) → NoneMeets row has → SameLeaves below made that → SameLeaves has made (branch row this that)
  no_side made none same store is member =
      let missed = none store is member in
      same store is (leaves store is member ((complement_met row.affine store).1 missed)) ∙ sym (eval_missed row this that store missed)

module _ {R : Type 0} (row : Row) (this that : Plan R) (has inside below : List ℤ → Type 0) (keeps : KeepsMeeting row has inside) (leaves : KeepsMeeting (complement row) has below) where
  pub both_sides : (same : R → R → Bool) → ((rank other : R) → IsTrue (same rank other) ↔ (rank ≡ other)) → (first other : Plan R)
      → SameLeaves inside first this → SameLeaves below other that → SameLeaves has (node same row first other) (branch row this that)
  both_sides same alike first other here there store is member =
      node_eval same alike row first other store ∙ ⊎_elim
      (λ met. eval_met row first other store met ∙ here store is (keeps store is member met) ∙ sym (eval_met row this that store met))
      (λ missed. eval_missed row first other store missed ∙ there store is (leaves store is member ((complement_met row.affine store).1 missed)) ∙ sym (eval_missed row this that store missed))
      (meets_or_not row store)

-- where no member misses the row each meets it
pub all_meet : (row : Row) (has : List ℤ → Type 0) → NoneMeets (complement row) has → AllMeet row has
all_meet row has none store is member =
    ⊎_elim (λ met. met) (λ missed. absurd (none store is member ((complement_met row.affine store).1 missed))) (meets_or_not row store)

-- what is left of the members that meet a row has none
pub none_meets : (row : Row) (has inside : List ℤ → Type 0) → KeepsMeeting row has inside → ((store : List ℤ) → inside store → ⊥) → NoneMeets row has
none_meets row has inside keeps none store is member met = none store (keeps store is member met)

module _ {R : Type 0} (row : Row) (this that : Plan R) where
  pub part_of_yes : (made : Plan R) → IsPartOf made this → IsPartOf made (branch row this that)
  part_of_yes made part = record {
    rows = λ given has. inr (inl (part.rows given has));
    leaves = λ end has. inl (part.leaves end has);
    size = let low = part.size in omega arith;
  }

  pub part_of_no : (made : Plan R) → IsPartOf made that → IsPartOf made (branch row this that)
  part_of_no made part = record {
    rows = λ given has. inr (inr (part.rows given has));
    leaves = λ end has. inr (part.leaves end has);
    size = let low = part.size in omega arith;
  }

  part_of_sides : (first other : Plan R) → IsPartOf first this → IsPartOf other that → IsPartOf (branch row first other) (branch row this that)
  part_of_sides first other here there = record {
    rows = λ given has. ⊎_elim (λ same. inl same) (⊎_elim (λ low. inr (inl (here.rows given low))) (λ low. inr (inr (there.rows given low)))) has;
    leaves = λ end has. ⊎_elim (λ low. inl (here.leaves end low)) (λ low. inr (there.leaves end low)) has;
    size = let low = here.size in let also = there.size in omega arith;
  }

  part_at : (t : Bool) (first other : Plan R) → IsPartOf first this → IsPartOf other that
      → IsPartOf (cond t first (branch row first other)) (branch row this that)
  part_at true first other here there = part_of_yes first here
  part_at false first other here there = part_of_sides first other here there

  pub part_of_both : (same : R → R → Bool) (first other : Plan R) → IsPartOf first this → IsPartOf other that
      → IsPartOf (node same row first other) (branch row this that)
  part_of_both same first other here there = part_at (same_plan same first other) first other here there
