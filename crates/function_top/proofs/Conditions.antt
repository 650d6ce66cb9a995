-- A condition is met with the rows of which it is the text, whatever their order.
use Rattle.std.proofs.Common.{◌≤ℤ◌, pos, List}
use Rattle.std.specs.Prelude.{IsPermutation}
use Rattle.std.proofs.lemmas.List.Elements.{All-map}
use Rattle.std.proofs.lemmas.List.Sorted.{All-permutation, IsPermutation-sym}
use Rattle.step_meaning.specs.Outcome.{Store}
use Rattle.linear_cons.specs.declared.row.Row.{Row}
use Rattle.linear_cons.specs.Functions.{value_at}
use Rattle.linear_cons.specs.Rows.{Meets, MeetsAll}
use Rattle.linear_solve.proofs.Lists.{all_of, in_map, member_of}
use Rattle.line_text.specs.LineText.{functions_of}
use Rattle.line_text.specs.Spells.{MeetsCondition}

pub condition_met : (rows sorted : List Row) (input : Store) → IsPermutation rows sorted → MeetsCondition input (functions_of sorted) → MeetsAll input rows
condition_met rows sorted input same met =
    All-permutation (λ row. Meets input row) sorted rows (IsPermutation-sym rows sorted same)
    (all_of (λ row. Meets input row) sorted
    (λ row member. member_of (λ a. pos 0 ≤ℤ value_at a input) (functions_of sorted) row.affine met (in_map (λ (row : Row). row.affine) sorted row member)))

pub rows_met : (rows sorted : List Row) (input : Store) → IsPermutation rows sorted → MeetsAll input rows → MeetsCondition input (functions_of sorted)
rows_met rows sorted input same met =
    All-map (λ a. pos 0 ≤ℤ value_at a input) (λ (row : Row). row.affine) sorted (All-permutation (λ row. Meets input row) rows sorted same met)
