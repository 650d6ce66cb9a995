-- Functions in order exceed themselves nowhere.
use Rattle.std.proofs.Common.{ℕ, zero, suc, List, [], ◌∷◌, ◌++◌, ⊎_elim}
use Rattle.linear_cons.specs.declared.row.Row.{Row}
use Rattle.linear_cons.specs.declared.row.RowKind.{RowKind}
use Rattle.linear_cons.specs.declared.row.RowKind.TheVariants.{Always, Never, Row as Kept}
use Rattle.decision_tree.specs.Alternatives.{rows_of}
use Rattle.tree_widening.specs.Laws.RaisingLaws.{never_met, exceeds_itself_nowhere as function_exceeds_nowhere}
use Rattle.tree_widening.specs.Meeting.{IsSoWith, MayBeMetWithOne}
use Rattle.ordinal_rank.specs.Parts.{Parts, compared, excesses}

-- what holds of no path holds of none with more constraints
none_with : (Is : List Row → Type 0) → ((path : List Row) → Is path → ⊥) → (kinds : List RowKind) (path : List Row) → IsSoWith Is path kinds → ⊥
none_with Is none [] path is = none path is
none_with Is none (Always ∷ rest) path is = none_with Is none rest path is
none_with Is none (Never ∷ rest) path is = is
none_with Is none (Kept row ∷ rest) path is = none_with Is none rest (path ++ row ∷ []) is

pub exceeds_itself_nowhere : (j : ℕ) (path : List Row) (parts : Parts j) → MayBeMetWithOne path (excesses j parts parts) → ⊥
exceeds_itself_nowhere zero path a one = function_exceeds_nowhere path a one
exceeds_itself_nowhere (suc j) path parts one =
    ⊎_elim (λ met. never_met path parts.0 met)
    (λ other. none_with (λ way. MayBeMetWithOne way (excesses j parts.1 parts.1)) (λ way met. exceeds_itself_nowhere j way parts.1 met)
    (rows_of (compared parts.0 parts.0).same) path other)
    one
