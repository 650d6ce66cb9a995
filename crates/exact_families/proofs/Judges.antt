-- Judges: whatever says of each function, as stores do, whether it is at least 0. Rows that don't clash have one too, and where no store
-- meets them it is no store.
use Rattle.std.specs.Prelude.{◌≡◌, Bool, true, false, not, List, if◌then◌else◌}
use Rattle.linear_cons.specs.declared.affine.Affine.{Affine}
use Rattle.linear_cons.specs.declared.row.RowKind.{RowKind}
use Rattle.linear_cons.specs.declared.row.RowKind.TheVariants.{Always, Never, Row as Kept}
use Rattle.linear_cons.specs.Functions.{complement_of}
use Rattle.linear_cons.specs.Rows.{row_kind_of}
use Rattle.linear_cons.specs.Settling.{tells}
use Rattle.decision_tree.specs.Plans.{Plan, branch}
use Rattle.linear_forms.specs.Duality.{EachOf, SomeOf}
use Rattle.linear_cons.specs.declared.row.Row.{Row}
use Rattle.constraint_stack.specs.Forming.{Formed, exact}

abbrev pub judge_kind : (Affine → Bool) → RowKind → Bool
judge_kind v Always = true
judge_kind v Never = false
judge_kind v (Kept row) = v row.affine

-- Of a function and its complement just one is at least 0; a function of the same linear part and a constant not less is so with it; and so
-- is the function rounded to a row.
pub record IsJudge (v : Affine → Bool) : Type 0 where
  pub turned : (a : Affine) → v (complement_of a) ≡ not (v a)
  pub more : (a b : Affine) → tells a b ≡ true → v a ≡ true → v b ≡ true
  pub rounded : (a : Affine) → v a ≡ judge_kind v (row_kind_of a)

-- the leaf of the tree by the judge
abbrev pub judged : {R : Type 0} → (Affine → Bool) → Plan R → Plan R
judged v (branch row this that) = if v row.affine then judged v this else judged v that
judged v end = end

-- it says of each of the functions that it is at least 0
abbrev pub Granted : (Affine → Bool) → List Formed → Type 0
Granted v asks = EachOf (λ (f : Formed). v (exact f) ≡ true) asks

abbrev pub GrantsRows : (Affine → Bool) → List Row → Type 0
GrantsRows v rows = EachOf (λ (row : Row). v row.affine ≡ true) rows

-- it says so of the rows of one of the conjunctions
abbrev pub GrantsOne : (Affine → Bool) → List (List Row) → Type 0
GrantsOne v conjunctions = SomeOf (λ (rows : List Row). GrantsRows v rows) conjunctions
