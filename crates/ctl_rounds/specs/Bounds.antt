-- What is true of the inputs at which a tree claims something.
use Rattle.std.specs.Prelude.{◌≡◌, ℕ, true}
use Rattle.step_meaning.specs.Outcome.{Store}
use Rattle.step_meaning.specs.Run.{EndsWithinBound, IsInput, start}
use Rattle.step_meaning.specs.Syntax.{Statements}
use Rattle.linear_cons.specs.Functions.{value_at}
use Rattle.ctl_formula.specs.Formulas.{Ctl}
use Rattle.ctl_formula.specs.Satisfaction.{Sat, WithinBound}
use Rattle.decision_tree.specs.declared.affine_rank.AffineRank.{AffineRank}
use Rattle.decision_tree.specs.declared.reason.Why.{Why}
use Rattle.decision_tree.specs.Evaluation.{WayFits, eval}
use Rattle.decision_tree.specs.Plans.{Plan, is_defined, leaf}
use Rattle.fitting_ways.specs.Ways.{HasSmallNumbers}

-- wherever the tree is defined at an input of a program of `vars` variables, the property holds of the leaf's rank and the input
abbrev pub HoldsAtInputs : ℕ → (AffineRank → Store → Type 0) → Plan AffineRank → Type 0
HoldsAtInputs vars P tree =
    (input : Store) (why : Why) (rank : AffineRank) → IsInput vars input → eval tree input ≡ leaf why rank → P rank input

-- there the start of a program with this body satisfies the formula
abbrev pub SatisfiesInputs : ℕ → Statements → Ctl → Plan AffineRank → Type 0
SatisfiesInputs vars body formula tree = HoldsAtInputs vars (λ rank input. Sat formula (start body input)) tree

-- and, where the formula is an until, within as many steps as the value of the rank
abbrev pub SatisfiesWithin : ℕ → Statements → Ctl → Plan AffineRank → Type 0
SatisfiesWithin vars body formula tree =
    HoldsAtInputs vars (λ rank input. WithinBound (value_at rank.value input) formula (start body input)) tree

-- every run from there ends within as many steps
abbrev pub BoundsInputs : ℕ → Statements → Plan AffineRank → Type 0
BoundsInputs vars body tree = HoldsAtInputs vars (λ rank input. EndsWithinBound (value_at rank.value input) (start body input)) tree

-- and it is defined at each input from which the formula holds
abbrev pub CoversInputs : ℕ → Statements → Ctl → Plan AffineRank → Type 0
CoversInputs vars body formula tree = (input : Store) → IsInput vars input → Sat formula (start body input) → is_defined (eval tree input) ≡ true

-- and, if its numbers are small, its way through the tree is found within 128 bits
abbrev pub FindsInputs : ℕ → Statements → Ctl → Plan AffineRank → Type 0
FindsInputs vars body formula tree =
    (input : Store) → IsInput vars input → HasSmallNumbers input → Sat formula (start body input) → WayFits tree input
