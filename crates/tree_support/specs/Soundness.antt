-- What is true where a family of affine ranks is defined.
use Rattle.std.specs.Prelude.{◌≡◌, ℕ}
use Rattle.step_meaning.specs.Syntax.{Statements}
use Rattle.step_meaning.specs.Outcome.{Store}
use Rattle.step_meaning.specs.Run.{IsInput, start}
use Rattle.linear_cons.specs.Functions.{value_at}
use Rattle.control_flow.specs.Edges.{configuration}
use Rattle.control_flow.specs.Labels.{entry_of}
use Rattle.decision_tree.specs.declared.affine_rank.AffineRank.{AffineRank}
use Rattle.decision_tree.specs.declared.reason.Why.{Why}
use Rattle.decision_tree.specs.Evaluation.{eval}
use Rattle.decision_tree.specs.Plans.{leaf}
use Rattle.ctl_formula.specs.Formulas.{Ctl}
use Rattle.ctl_formula.specs.Satisfaction.{Sat, WithinBound}
use Rattle.control_flow.specs.States.{IsReachedState}
use Rattle.tree_support.specs.Setting.{Trees}

-- Wherever the family is defined the formula holds: of each state that is reached, by the tree of its label, and so of the start with each
-- input, by the tree at the entry.
pub record IsSound (vars : ℕ) (body : Statements) (formula : Ctl) (family : Trees AffineRank) : Type 0 where
  pub states : (label : ℕ) (store : Store) (why : Why) (rank : AffineRank) → IsReachedState vars body label store
      → eval (family label) store ≡ leaf why rank → Sat formula (configuration body label store)
  pub inputs : (input : Store) (why : Why) (rank : AffineRank) → IsInput vars input → eval (family (entry_of body)) input ≡ leaf why rank
      → Sat formula (start body input)

-- and the formula, an until, holds there within as many steps as the value of the leaf's rank, which is a natural
pub record IsSoundWithin (vars : ℕ) (body : Statements) (formula : Ctl) (family : Trees AffineRank) : Type 0 where
  pub states : (label : ℕ) (store : Store) (why : Why) (rank : AffineRank) → IsReachedState vars body label store
      → eval (family label) store ≡ leaf why rank → WithinBound (value_at rank.value store) formula (configuration body label store)
  pub inputs : (input : Store) (why : Why) (rank : AffineRank) → IsInput vars input → eval (family (entry_of body)) input ≡ leaf why rank
      → WithinBound (value_at rank.value input) formula (start body input)
