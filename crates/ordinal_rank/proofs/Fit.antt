-- Trees over the variables leave alone each place past them.
use Rattle.std.proofs.Common.{◌≡◌, ◌⊎◌, ℕ, ◌≤◌, inl, inr, pos, List, All, length, sym, subst, ⊎_elim, arith}
use Rattle.std.proofs.lemmas.Bool.{cases_lt}
use Rattle.std.proofs.lemmas.List.{get_or_past}
use Rattle.std.proofs.lemmas.List.Elements.{All-get_or}
use Rattle.linear_cons.specs.Functions.{IsOver, coefficient}
use Rattle.decision_tree.specs.Extent.{PickIs}
use Rattle.decision_tree.specs.declared.reason.Pick.TheVariants.{All as EveryState, No, Value, Yes}
use Rattle.decision_tree.specs.declared.reason.Why.{Why}
use Rattle.decision_tree.specs.declared.reason.Why.TheVariants.{Atom, Both, Dead, End, Left, Now, Right, Step}
use Rattle.decision_tree.specs.Plans.{Plan, bottom, branch, leaf, top}
use Rattle.tree_support.specs.Certificates.{Spares}
use Rattle.tree_support.specs.Setting.{trees_in}
use Rattle.ordinal_rank.specs.declared.ordinal.OrdinalRank.{OrdinalRank}
use Rattle.step_meaning.specs.Syntax.{Statements}
use Rattle.decision_tree.specs.declared.reason.Cause.TheVariants.{Given}
use Rattle.ordinal_rank.specs.Families.{BoundsEnds, IsFit, IsFreeOf, IsTreeOver}

pick_spares : (vars place : ℕ) → vars ≤ place → (why : Why) → PickIs (IsOver vars) why → PickIs (λ function. coefficient function place ≡ pos 0) why
pick_spares vars place high (Step (Value by)) over = over.past place high
pick_spares vars place high (Step EveryState) over = tt
pick_spares vars place high (Step Yes) over = tt
pick_spares vars place high (Step No) over = tt
pick_spares vars place high End over = tt
pick_spares vars place high Atom over = tt
pick_spares vars place high Both over = tt
pick_spares vars place high Left over = tt
pick_spares vars place high Right over = tt
pick_spares vars place high Now over = tt
pick_spares vars place high Dead over = tt

over_spares : (vars place : ℕ) → vars ≤ place → (tree : Plan OrdinalRank) → IsTreeOver vars tree → Spares (IsFreeOf place) place tree
over_spares vars place high bottom over = tt
over_spares vars place high (top cause) over = tt
over_spares vars place high (leaf why rank) over =
    (λ k function low. (over.0 k function low).past place high, pick_spares vars place high why over.1)
over_spares vars place high (branch row this that) over =
    (over.0.past place high, over_spares vars place high this over.1, over_spares vars place high that over.2)

bottom_fit : (vars : ℕ) → IsFit vars bottom
bottom_fit vars = record { over = tt; complements = tt; leaves = omega (arith) }

pub fit_at : (vars : ℕ) (plans : List (Plan OrdinalRank)) → All (IsFit vars) plans → (label : ℕ) → IsFit vars (trees_in plans label)
fit_at vars plans all label = ⊎_elim
    (λ low. All-get_or (IsFit vars) plans label bottom low all)
    (λ past. subst (IsFit vars) (sym (get_or_past plans label bottom past)) (bottom_fit vars))
    (cases_lt label (length plans))

pub fit_spares : (vars : ℕ) (plans : List (Plan OrdinalRank)) → vars ≤ 15 → All (IsFit vars) plans → (label : ℕ)
    → Spares (IsFreeOf 15) 15 (trees_in plans label)
fit_spares vars plans few all label = over_spares vars 15 few (trees_in plans label) (fit_at vars plans all label).over

-- a tree that is kept or given up bounds ends where it did
pub given_up_bounds : (vars : ℕ) (body : Statements) (tree made : Plan OrdinalRank) → BoundsEnds vars body tree
    → (made ≡ tree) ⊎ (made ≡ top Given) → BoundsEnds vars body made
given_up_bounds vars body tree made bounds (inl same) = subst (BoundsEnds vars body) (sym same) bounds
given_up_bounds vars body tree made bounds (inr gone) = subst (BoundsEnds vars body) (sym gone) (λ input why rank is_input is. absurd (cc))
