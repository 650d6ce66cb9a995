-- Stores that meet conjunctions: along the lists that a spreading makes of them.
use Rattle.std.proofs.Common.{ℤ, pos, ◌≤ℤ◌, ◌↔◌, ◌⊎◌, inl, inr, ⊎_elim, List, [], ◌∷◌, ◌++◌, map, Option, Some, None, arith}
use Rattle.std.proofs.lemmas.Int.{ints}
use Rattle.linear_cons.specs.declared.affine.Affine.{Affine}
use Rattle.linear_cons.specs.declared.row.Row.{Row}
use Rattle.linear_cons.specs.declared.row.RowKind.{RowKind}
use Rattle.linear_cons.specs.declared.row.RowKind.TheVariants.{Always, Never, Row as Kept}
use Rattle.linear_cons.specs.Functions.{value_at}
use Rattle.linear_cons.specs.Rows.{IsRowOf, MeetsKind}
use Rattle.linear_cons.proofs.KindLaws.{row_kind_is}
use Rattle.linear_cons.specs.Rows.{row_kind_of}
use Rattle.linear_cons.proofs.RowLaws.{constant_value, quotient_same_stores}
use Rattle.linear_forms.specs.Meeting.{MeetsEach, MeetsOne}
use Rattle.linear_forms.specs.Spreading.{before, kept_before, pairs}

kind_meets : (a : Affine) (s : List ℤ) (kind : RowKind) → IsRowOf a kind → MeetsKind s kind ↔ (pos 0 ≤ℤ value_at a s)
kind_meets a s Always is = let value = constant_value a s is.0 in (λ met. rw value is.1, λ from. tt)
kind_meets a s Never is = let value = constant_value a s is.0 in (λ met. absurd met, λ from. omega (arith, ints))
kind_meets a s (Kept row) is = quotient_same_stores a row.affine is s

-- a store meets a constraint's row exactly where the function is at least 0
pub row_meets : (a : Affine) (s : List ℤ) → MeetsKind s (row_kind_of a) ↔ (pos 0 ≤ℤ value_at a s)
row_meets a s = kind_meets a s (row_kind_of a) (row_kind_is a)

module _ (s : List ℤ) where
  -- the store meets the conjunction, which isn't dropped
  abbrev pub MeetsKept : Option (List Row) → Type 0
  MeetsKept None = ⊥
  MeetsKept (Some rows) = MeetsEach s rows

  pub meets_before : (kind : RowKind) (rows : Option (List Row)) → MeetsKind s kind → MeetsKept rows → MeetsKept (before kind rows)
  meets_before Always rows met rest = rest
  meets_before Never rows met rest = absurd met
  meets_before (Kept row) None met rest = rest
  meets_before (Kept row) (Some rows) met rest = (met, rest)

  pub met_before : (kind : RowKind) (rows : Option (List Row)) → MeetsKept (before kind rows) → MeetsKind s kind × MeetsKept rows
  met_before Always rows met = (tt, met)
  met_before Never rows met = absurd met
  met_before (Kept row) None met = absurd met
  met_before (Kept row) (Some rows) met = met

  pub meets_kept : (rows : Option (List Row)) (more : List (List Row)) → MeetsKept rows → MeetsOne s (kept_before rows more)
  meets_kept None more met = absurd met
  meets_kept (Some rows) more met = inl met

  pub meets_later : (rows : Option (List Row)) (more : List (List Row)) → MeetsOne s more → MeetsOne s (kept_before rows more)
  meets_later None more met = met
  meets_later (Some rows) more met = inr met

  pub met_kept : (rows : Option (List Row)) (more : List (List Row)) → MeetsOne s (kept_before rows more) → MeetsKept rows ⊎ MeetsOne s more
  met_kept None more met = inr met
  met_kept (Some rows) more met = met

  pub meets_left : (xs ys : List (List Row)) → MeetsOne s xs → MeetsOne s (xs ++ ys)
  meets_left [] ys met = absurd met
  meets_left (rows ∷ xs) ys (inl met) = inl met
  meets_left (rows ∷ xs) ys (inr met) = inr (meets_left xs ys met)

  pub meets_right : (xs ys : List (List Row)) → MeetsOne s ys → MeetsOne s (xs ++ ys)
  meets_right [] ys met = met
  meets_right (rows ∷ xs) ys met = inr (meets_right xs ys met)

  pub met_either : (xs ys : List (List Row)) → MeetsOne s (xs ++ ys) → MeetsOne s xs ⊎ MeetsOne s ys
  met_either [] ys met = inr met
  met_either (rows ∷ xs) ys (inl met) = inl (inl met)
  met_either (rows ∷ xs) ys (inr met) = ⊎_elim (λ left. inl (inr left)) (λ right. inr right) (met_either xs ys met)

  pub meets_both : (rows other : List Row) → MeetsEach s rows → MeetsEach s other → MeetsEach s (rows ++ other)
  meets_both [] other met rest = rest
  meets_both (row ∷ rows) other met rest = (met.0, meets_both rows other met.1 rest)

  pub met_both : (rows other : List Row) → MeetsEach s (rows ++ other) → MeetsEach s rows × MeetsEach s other
  met_both [] other met = (tt, met)
  met_both (row ∷ rows) other met = let rest = met_both rows other met.1 in ((met.0, rest.0), rest.1)

  meets_with_each : (rows : List Row) (ys : List (List Row)) → MeetsEach s rows → MeetsOne s ys → MeetsOne s (map (λ other. rows ++ other) ys)
  meets_with_each rows [] met rest = absurd rest
  meets_with_each rows (other ∷ ys) met (inl rest) = inl (meets_both rows other met rest)
  meets_with_each rows (other ∷ ys) met (inr rest) = inr (meets_with_each rows ys met rest)

  met_with_each : (rows : List Row) (ys : List (List Row)) → MeetsOne s (map (λ other. rows ++ other) ys) → MeetsEach s rows × MeetsOne s ys
  met_with_each rows [] met = absurd met
  met_with_each rows (other ∷ ys) (inl met) = let both = met_both rows other met in (both.0, inl both.1)
  met_with_each rows (other ∷ ys) (inr met) = let both = met_with_each rows ys met in (both.0, inr both.1)

  pub meets_pairs : (xs ys : List (List Row)) → MeetsOne s xs → MeetsOne s ys → MeetsOne s (pairs xs ys)
  meets_pairs [] ys left right = absurd left
  meets_pairs (rows ∷ xs) ys (inl left) right = meets_left _ (pairs xs ys) (meets_with_each rows ys left right)
  meets_pairs (rows ∷ xs) ys (inr left) right = meets_right _ (pairs xs ys) (meets_pairs xs ys left right)

  pub met_pairs : (xs ys : List (List Row)) → MeetsOne s (pairs xs ys) → MeetsOne s xs × MeetsOne s ys
  met_pairs [] ys met = absurd met
  met_pairs (rows ∷ xs) ys met = ⊎_elim
      (λ first. let both = met_with_each rows ys first in (inl both.0, both.1))
      (λ later. let both = met_pairs xs ys later in (inr both.0, both.1))
      (met_either (map (λ other. rows ++ other) ys) (pairs xs ys) met)
