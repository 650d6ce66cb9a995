-- Trees that may be checked and printed, in lists.
use Rattle.linear_cons.specs.Functions.{IsOver}
use Rattle.linear_cons.specs.declared.affine.Affine.{Affine}
use Rattle.line_text.specs.Names.{IsOver as IsOverNames}
use Rattle.std.proofs.Common.{⊎_elim, ℕ, ◌≤◌, List, All, length, sym, subst, arith}
use Rattle.std.proofs.lemmas.Bool.{cases_lt}
use Rattle.std.proofs.lemmas.List.{get_or_past}
use Rattle.std.proofs.lemmas.List.Elements.{All-from_get_or, All-get_or}
use Rattle.decision_tree.specs.declared.affine_rank.AffineRank.{AffineRank}
use Rattle.decision_tree.specs.Plans.{Plan, bottom}
use Rattle.tree_support.specs.Setting.{trees_in}
use Rattle.part_families.specs.Fitting.{IsFit}

pub bottom_fit : (vars : ℕ) → IsFit vars bottom
bottom_fit vars = record { over = tt; complements = tt; leaves = omega (arith) }

-- each tree of a list is fit where all are, past its end too, and the other way round
pub fit_at : (vars : ℕ) (plans : List (Plan AffineRank)) → All (IsFit vars) plans → (label : ℕ) → IsFit vars (trees_in plans label)
fit_at vars plans all label = ⊎_elim
    (λ low. All-get_or (IsFit vars) plans label bottom low all)
    (λ past. subst (IsFit vars) (sym (get_or_past plans label bottom past)) (bottom_fit vars))
    (cases_lt label (length plans))

pub all_fit : (vars : ℕ) (plans : List (Plan AffineRank)) → ((label : ℕ) → IsFit vars (trees_in plans label)) → All (IsFit vars) plans
all_fit vars plans each = All-from_get_or (IsFit vars) plans bottom (λ label low. each label)

-- a function over the first places is over as many names, and the other way round
pub over_names : (names : List (List ℕ)) (a : Affine) → length names ≤ 16 → IsOver (length names) a → IsOverNames names a
over_names names a few over = record { few = few; places = over.places; past = over.past }

pub names_over : (names : List (List ℕ)) (a : Affine) → IsOverNames names a → IsOver (length names) a
names_over names a over = record { places = over.places; past = over.past }
