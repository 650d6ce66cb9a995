-- Safe trees: where one is defined, the store meets the range rows of each variable and of each number expression of what is done at the label.
use Rattle.std.specs.Prelude.{◌≡◌, ℕ, ◌<◌, true}
use Rattle.linear_cons.specs.declared.bounds.Bounds.{Bounds}
use Rattle.linear_cons.specs.Ends.{exactly}
use Rattle.linear_cons.specs.Functions.{variable_at}
use Rattle.decision_tree.specs.declared.affine_rank.AffineRank.{AffineRank}
use Rattle.decision_tree.specs.declared.reason.Why.{Why}
use Rattle.decision_tree.specs.Evaluation.{eval}
use Rattle.decision_tree.specs.Extent.{ComplementsFit, IsTreeOver}
use Rattle.decision_tree.specs.Plans.{Plan, is_defined, leaf}
use Rattle.step_meaning.specs.Syntax.{Statements}
use Rattle.step_meaning.specs.Outcome.{Store}
use Rattle.step_meaning.specs.Run.{IsInput, start}
use Rattle.control_flow.specs.Edges.{configuration}
use Rattle.control_flow.specs.Labels.{Action, action_at, entry_of}
use Rattle.control_flow.specs.States.{IsReachedState}
use Rattle.tree_support.specs.Setting.{Trees}
use Rattle.int_fit.specs.Fitting.{Fits}
use Rattle.fit_check.specs.Ranges.{NumbersStay, StaysIn}

-- what the safe tree of a label at which this is done says where it is defined
pub record IsSafeAt (vars : ℕ) (bounds : Bounds) (action : Action) (store : Store) : Type 0 where
  pub variables : (place : ℕ) → place < vars → StaysIn store (exactly (variable_at place))
  pub numbers : NumbersStay bounds action store

abbrev pub IsSafeTree : ℕ → Bounds → Action → Plan AffineRank → Type 0
IsSafeTree vars bounds action tree =
    (store : Store) (why : Why) (rank : AffineRank) → eval tree store ≡ leaf why rank → IsSafeAt vars bounds action store

abbrev pub AreSafe : ℕ → Statements → (ℕ → Bounds) → Trees AffineRank → Type 0
AreSafe vars body bounds trees = (label : ℕ) → IsSafeTree vars (bounds label) (action_at body label) (trees label)

-- where the family is defined the configurations fit
pub record TellsFit (vars : ℕ) (body : Statements) (family : Trees AffineRank) : Type 0 where
  pub states : (label : ℕ) (store : Store) (why : Why) (rank : AffineRank) → IsReachedState vars body label store
      → eval (family label) store ≡ leaf why rank → Fits (configuration body label store)
  pub inputs : (input : Store) (why : Why) (rank : AffineRank) → IsInput vars input → eval (family (entry_of body)) input ≡ leaf why rank
      → Fits (start body input)

-- where the tree is defined at an input, the runs from there fit
abbrev pub FitsWhere : ℕ → Statements → Plan AffineRank → Type 0
FitsWhere vars body tree = (input : Store) → IsInput vars input → is_defined (eval tree input) ≡ true → Fits (start body input)

-- so it is; its rows, ranks and picks speak of the variables alone, and the complements of the rows fit 128 bits
pub record IsFitTree (vars : ℕ) (body : Statements) (tree : Plan AffineRank) : Type 0 where
  pub fits : FitsWhere vars body tree
  pub over : IsTreeOver vars tree
  pub complements : ComplementsFit tree
