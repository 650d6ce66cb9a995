-- The tree of a label by those of the labels that follow, for an until and a weak until.
use Rattle.std.specs.Prelude.{◌≡◌, ◌⊎◌, ℕ, ◌<◌, ◌≤◌, Bool, true, false, List, length, ⊤}
use Rattle.linear_cons.specs.Exact.{IsOutside}
use Rattle.linear_cons.specs.declared.exact.Wide.{Wide}
use Rattle.decision_tree.specs.Plans.{Plan, bottom, branch, leaf, size_of, top}
use Rattle.decision_tree.specs.declared.affine_rank.AffineRank.{AffineRank}
use Rattle.decision_tree.specs.declared.reason.Cause.TheVariants.{Nodes, Wide as TooWide}
use Rattle.decision_tree.specs.declared.reason.Pick.TheVariants.{All as EveryState}
use Rattle.decision_tree.specs.declared.reason.Why.TheVariants.{Dead as NeverReached, Step}
use Rattle.tree_unify.specs.Shapes.{JoinedFits, joined}
use Rattle.tree_unify.specs.declared.join.Join.TheVariants.{Both, Either}
use Rattle.backward_transfer.specs.AffineShapes.{affine_ranks, plans, same_rank, tree_at}
use Rattle.backward_sweeps.specs.Claiming.{claimed}
use Rattle.control_flow.specs.Transitions.{transition_in, first_target, is_given, is_idle, second_target}
use Rattle.backward_sweeps.specs.Before.{BeforeFits, IsBeforeSmall, before}
use Rattle.backward_sweeps.specs.Moving.{at_once}
use Rattle.control_flow.specs.declared.transition.Transition.{Transition}
use Rattle.control_flow.specs.declared.transition.Transition.TheVariants.{Dead, End}
use Rattle.backward_sweeps.specs.declared.operands.Operands.{Operands}

-- What an until or a weak until is made of: whether it speaks of all next states, and for the labels the trees of the goal and of what is to
-- be kept.
pub record Parts : Type 0 where
  pub all : Bool
  pub goals : List (Plan AffineRank)
  pub keeps : List (Plan AffineRank)

abbrev pub parts_of : Operands → Parts
parts_of operands = record { all = operands.all; goals = plans operands.goal.now; keeps = plans operands.keep.now }

-- the goal's tree at the label, and that of what is to be kept
abbrev pub goal_at : Parts → ℕ → Plan AffineRank
goal_at parts label = tree_at parts.goals label

abbrev pub keep_at : Parts → ℕ → Plan AffineRank
keep_at parts label = tree_at parts.keeps label

-- what the first claims, or else the second; and what the second claims where the first claims something
abbrev pub either_of : Plan AffineRank → Plan AffineRank → Plan AffineRank
either_of this that = joined same_rank affine_ranks.where_greater affine_ranks.greater_fits Either this that

abbrev pub EitherFits : Plan AffineRank → Plan AffineRank → Type 0
EitherFits this that = JoinedFits same_rank affine_ranks.where_greater affine_ranks.greater_fits Either this that

abbrev pub both_of : Plan AffineRank → Plan AffineRank → Plan AffineRank
both_of this that = joined same_rank affine_ranks.where_greater affine_ranks.greater_fits Both this that

abbrev pub BothFit : Plan AffineRank → Plan AffineRank → Type 0
BothFit this that = JoinedFits same_rank affine_ranks.where_greater affine_ranks.greater_fits Both this that

-- no leaf of the tree has a cause
abbrev pub HasNoCause : Plan AffineRank → Type 0
HasNoCause (branch row this that) = HasNoCause this × HasNoCause that
HasNoCause (top cause) = ⊥
HasNoCause bottom = ⊤
HasNoCause (leaf why rank) = ⊤

-- what is claimed now, or else what a step claims where it is to be kept
abbrev pub made : Plan AffineRank → Plan AffineRank → Plan AffineRank → Plan AffineRank
made now keep step = either_of now (both_of keep step)

-- the trees that this forms have at most 65,536 nodes, and its complements fit
abbrev pub IsMadeSmall : Plan AffineRank → Plan AffineRank → Plan AffineRank → Type 0
IsMadeSmall now keep step = (size_of (both_of keep step) ≤ 65536) × (size_of (made now keep step) ≤ 65536)

abbrev pub MadeFits : Plan AffineRank → Plan AffineRank → Plan AffineRank → Type 0
MadeFits now keep step = BothFit keep step × EitherFits now (both_of keep step)

-- The tree of a label at which this is done: what the goal claims, or else what is claimed behind what is done, where it is to be kept.
abbrev pub remade : Parts → ℕ → Transition → Plan AffineRank → Plan AffineRank → Plan AffineRank
remade parts label transition this that = made (goal_at parts label) (keep_at parts label) (before parts.all transition this that)

abbrev pub IsRemadeSmall : Parts → ℕ → Transition → Plan AffineRank → Plan AffineRank → Type 0
IsRemadeSmall parts label transition this that =
    IsBeforeSmall parts.all transition this that
    × IsMadeSmall (goal_at parts label) (keep_at parts label) (before parts.all transition this that)

abbrev pub RemadeFits : Parts → ℕ → Transition → Plan AffineRank → Plan AffineRank → Type 0
RemadeFits parts label transition this that =
    BeforeFits parts.all transition this that
    × MadeFits (goal_at parts label) (keep_at parts label) (before parts.all transition this that)

-- the tree is made so, by those of all labels
abbrev pub IsMade : Parts → ℕ → Transition → List (Plan AffineRank) → Plan AffineRank → Type 0
IsMade parts label transition trees plan =
    plan ≡ remade parts label transition (tree_at trees (first_target transition)) (tree_at trees (second_target transition))

-- the tree claims nothing, since a number doesn't fit or a tree on the way isn't small
abbrev pub IsTop : Type 0 → Type 0 → Plan AffineRank → Type 0
IsTop Fits IsSmall plan =
    ((w : Wide) × (plan ≡ top (TooWide w)) × IsOutside w × (Fits → ⊥)) ⊎ ((n : ℕ) × (plan ≡ top (Nodes n)) × (IsSmall → ⊥))

-- it is this one, or it claims nothing for such a reason
abbrev pub IsOrTop : Plan AffineRank → Type 0 → Type 0 → Plan AffineRank → Type 0
IsOrTop that Fits IsSmall plan = (plan ≡ that) ⊎ IsTop Fits IsSmall plan

-- so it is with the tree of the label, by the trees of the labels that follow, and by those of all labels
abbrev pub IsRefused : Parts → ℕ → Transition → Plan AffineRank → Plan AffineRank → Plan AffineRank → Type 0
IsRefused parts label transition this that plan =
    IsTop (RemadeFits parts label transition this that) (IsRemadeSmall parts label transition this that) plan

abbrev pub IsGivenUp : Parts → ℕ → Transition → List (Plan AffineRank) → Plan AffineRank → Type 0
IsGivenUp parts label transition trees plan =
    IsRefused parts label transition (tree_at trees (first_target transition)) (tree_at trees (second_target transition)) plan

-- The tree of each label is so, by the trees as they stand, but of labels whose trees are given.
abbrev pub AreMade : Parts → List Transition → List (Plan AffineRank) → Type 0
AreMade parts transitions trees =
    (label : ℕ) → label < length transitions → is_given (transition_in transitions label) ≡ false
    → IsMade parts label (transition_in transitions label) trees (tree_at trees label)

-- it is made so, or given up unless all are made
abbrev pub IsRemade : Parts → ℕ → Bool → Transition → List (Plan AffineRank) → Plan AffineRank → Type 0
IsRemade parts label all transition trees plan =
    IsMade parts label transition trees plan ⊎ ((all ≡ false) × IsGivenUp parts label transition trees plan)

-- the same from the number on
abbrev pub AreRemadeFrom : ℕ → Bool → Parts → List Transition → List (Plan AffineRank) → Type 0
AreRemadeFrom n all parts transitions trees =
    (label : ℕ) → n ≤ label → label < length transitions → is_given (transition_in transitions label) ≡ false
    → IsRemade parts label all (transition_in transitions label) trees (tree_at trees label)

-- the trees of labels at which such a thing is done are the same
abbrev pub AreKept : (Transition → Bool) → List Transition → List (Plan AffineRank) → List (Plan AffineRank) → Type 0
AreKept which transitions old trees =
    (label : ℕ) → label < length transitions → which (transition_in transitions label) ≡ true → tree_at trees label ≡ tree_at old label

-- the tree that is given at a label: at the end what the goal claims, and at the test of a loop the one at hand
abbrev pub given_for : Plan AffineRank → Transition → Plan AffineRank → Plan AffineRank
given_for goal End old = goal
given_for goal Dead old = at_once NeverReached
given_for goal transition old = old

-- the trees that are given are these
abbrev pub AreGiven : Parts → List Transition → List (Plan AffineRank) → List (Plan AffineRank) → Type 0
AreGiven parts transitions old trees =
    (label : ℕ) → label < length transitions → is_given (transition_in transitions label) ≡ true
    → tree_at trees label ≡ given_for (goal_at parts label) (transition_in transitions label) (tree_at old label)

-- the tree where nothing is done: what the goal claims, or everything where no run comes
abbrev pub end_for : Plan AffineRank → Transition → Plan AffineRank
end_for goal Dead = at_once NeverReached
end_for goal transition = goal

-- so it is at each such label
abbrev pub AreEndsGiven : Parts → List Transition → List (Plan AffineRank) → Type 0
AreEndsGiven parts transitions trees =
    (label : ℕ) → label < length transitions → is_idle (transition_in transitions label) ≡ true
    → tree_at trees label ≡ end_for (goal_at parts label) (transition_in transitions label)

-- A weak until begins with what the goal claims, or else with what is to be kept, for every next state.
abbrev pub started : Parts → ℕ → Plan AffineRank
started parts label = either_of (goal_at parts label) (claimed (Step EveryState) (keep_at parts label))

abbrev pub StartFits : Parts → ℕ → Type 0
StartFits parts label = EitherFits (goal_at parts label) (claimed (Step EveryState) (keep_at parts label))

-- so it is, or it is given up
abbrev pub IsStartOrTop : Parts → ℕ → Plan AffineRank → Type 0
IsStartOrTop parts label plan = IsOrTop (started parts label) (StartFits parts label) (size_of (started parts label) ≤ 65536) plan

-- the tree of a label at which this is done; where no run comes it claims everything
abbrev pub IsStarted : Parts → ℕ → Transition → Plan AffineRank → Type 0
IsStarted parts label Dead plan = plan ≡ at_once NeverReached
IsStarted parts label transition plan = IsStartOrTop parts label plan

-- so is each where nothing is done
abbrev pub AreEndsStarted : Parts → List Transition → List (Plan AffineRank) → Type 0
AreEndsStarted parts transitions trees =
    (label : ℕ) → label < length transitions → is_idle (transition_in transitions label) ≡ true
    → IsStarted parts label (transition_in transitions label) (tree_at trees label)
