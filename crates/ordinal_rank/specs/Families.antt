-- Families of ordinal ranks for `AF exit`, and what is true where they are defined.
use Rattle.std.specs.Prelude.{◌≡◌, ℕ, ◌<◌, ◌-◌, ◌^◌, suc, pos, All, ⊤}
use Rattle.linear_cons.specs.Functions.{IsOver, coefficient}
use Rattle.step_meaning.specs.Syntax.{Statements}
use Rattle.step_meaning.specs.Outcome.{Store}
use Rattle.step_meaning.specs.Run.{IsInput, start}
use Rattle.ctl_formula.specs.Formulas.{af_exit}
use Rattle.control_flow.specs.Edges.{configuration}
use Rattle.control_flow.specs.Labels.{entry_of}
use Rattle.control_flow.specs.States.{IsReachedState}
use Rattle.control_flow.specs.Told.{Told}
use Rattle.decision_tree.specs.Evaluation.{eval}
use Rattle.decision_tree.specs.Extent.{ComplementsFit, PickIs}
use Rattle.decision_tree.specs.Plans.{Plan, bottom, branch, leaf, leaves_of, top}
use Rattle.decision_tree.specs.declared.rank.Rank.{Ghosts as Ranks}
use Rattle.decision_tree.specs.declared.reason.Why.{Why}
use Rattle.tree_support.specs.Certificates.{Spares}
use Rattle.tree_support.specs.Setting.{Trees, setting_of}
use Rattle.tree_support.specs.Support.{IsSupported}
use Rattle.ordinal_rank.specs.contracts.ordinal.OrdinalRankRank.TheImpl as ordinal
use Rattle.ordinal_rank.specs.declared.ordinal.OrdinalRank.{OrdinalRank}
use Rattle.ordinal_rank.specs.Ends.{EndsUnder}
use Rattle.ordinal_rank.specs.Ordinals.{functions_of, numbers_at}

-- what affine functions in order are as ranks
abbrev pub ordinal_ranks : Ranks OrdinalRank
ordinal_ranks = ordinal.ghosts

-- no function of the rank mentions the place
abbrev pub IsFreeOf : ℕ → OrdinalRank → Type 0
IsFreeOf place rank = All (λ function. coefficient function place ≡ pos 0) (functions_of rank)

-- Of the families of the two operands of `AF exit` the second says where the program has ended: at label 0 alone. The family is supported
-- over them, and leaves alone the place where a value is kept while it is chosen.
pub record IsRanked (body : Statements) (told : Told) (parts : ℕ → Trees OrdinalRank) (family : Trees OrdinalRank) : Type 0 where
  pub goal : (label : ℕ) → parts 1 (suc label) ≡ bottom
  pub supported : IsSupported ordinal_ranks (setting_of body told af_exit parts) family
  pub spares : (label : ℕ) → Spares (IsFreeOf 15) 15 (family label)

-- With each input at which the tree makes a claim every run from the start ends, bounded one after the other as the values of the rank's functions say.
abbrev pub BoundsEnds : ℕ → Statements → Plan OrdinalRank → Type 0
BoundsEnds vars body tree =
    (input : Store) (why : Why) (rank : OrdinalRank) → IsInput vars input → eval tree input ≡ leaf why rank
    → EndsUnder (numbers_at rank input) (start body input)

-- Wherever the family makes a claim every run ends, so bounded: from each state that is reached, and so from the start with each input.
pub record IsBounded (vars : ℕ) (body : Statements) (family : Trees OrdinalRank) : Type 0 where
  pub states : (label : ℕ) (store : Store) (why : Why) (rank : OrdinalRank) → IsReachedState vars body label store
      → eval (family label) store ≡ leaf why rank → EndsUnder (numbers_at rank store) (configuration body label store)
  pub inputs : BoundsEnds vars body (family (entry_of body))

-- all rows, ranks and picks of the tree are functions of the variables below the place `vars` alone
abbrev pub IsTreeOver : ℕ → Plan OrdinalRank → Type 0
IsTreeOver vars (branch row this that) = IsOver vars row.affine × IsTreeOver vars this × IsTreeOver vars that
IsTreeOver vars (leaf why rank) = All (IsOver vars) (functions_of rank) × PickIs (IsOver vars) why
IsTreeOver vars bottom = ⊤
IsTreeOver vars (top cause) = ⊤

-- The tree speaks of the first `vars` places alone, the complements of its rows fit 128 bits, and its leaves can be numbered.
pub record IsFit (vars : ℕ) (plan : Plan OrdinalRank) : Type 0 where
  pub over : IsTreeOver vars plan
  pub complements : ComplementsFit plan
  pub leaves : leaves_of plan < 2 ^ 64 - 1
