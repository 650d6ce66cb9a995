-- Names of variables, and affine functions over them.
use Rattle.std.specs.Prelude.{◌≡◌, ◌≢◌, ℕ, ◌<◌, ◌≤◌, Bool, ◌||◌, ◌==◌, pos, List, length, IsTrue, All, AllPairs, slice_index}
use Rattle.std.specs.Char.{is_ascii_alphabetic, is_ascii_digit}
use Rattle.linear_cons.specs.declared.affine.Affine.{Affine}
use Rattle.linear_cons.specs.Functions.{coefficient}

-- The function's variables are among the names: it has sixteen coefficients, at least as many as there are names, and the coefficients
-- at the places past the names are 0.
pub record IsOver (names : List (List ℕ)) (affine : Affine) : Type 0 where
  pub few : length names ≤ 16
  pub places : length affine.coef ≡ 16
  pub past : (place : ℕ) → length names ≤ place → coefficient affine place ≡ pos 0

-- What follows has no part in the headline.

-- a letter or `_`
abbrev pub begins_name : ℕ → Bool
begins_name byte = is_ascii_alphabetic byte || byte == 95

-- a letter or `_`, and then letters, digits, `_` and dots
pub record IsName (name : List ℕ) : Type 0 where
  pub nonempty : 0 < length name
  pub begins : IsTrue (begins_name (slice_index name 0))
  pub each : All (λ byte. IsTrue (begins_name byte || is_ascii_digit byte || byte == 46)) name

-- each of the list is a name, and no two of them are equal
pub record AreNames (names : List (List ℕ)) : Type 0 where
  pub each : All IsName names
  pub distinct : AllPairs (λ a b. a ≢ b) names
