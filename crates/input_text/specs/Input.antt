-- Inputs as texts: pairs of a name and its number, joined by commas, as `x=1,y=-2`.
use Rattle.std.specs.Prelude.{◌≡◌, ℕ, ◌<◌, ◌^◌, ℤ, unsigned_abs, List, [], ◌∷◌, ◌++◌, length, All, Any, slice_index_or}
use Rattle.linear_cons.specs.Numbers.{number_at}
use Rattle.step_meaning.specs.Outcome.{Store}
use Rattle.step_meaning.specs.Run.{IsInput}
use Rattle.number_parse.specs.Signed.{IsNumberText}
use Rattle.input_text.specs.Pieces.{pieces}

-- the name at a place
abbrev pub name_at : List (List ℕ) → ℕ → List ℕ
name_at names place = slice_index_or names place []

-- the name, `=`, code 61, and the text of the number, which is below 2^63 in size
pub record IsPairText (name : List ℕ) (number : ℤ) (text : List ℕ) : Type 0 where
  pub digits : List ℕ
  pub text_is : text ≡ name ++ 61 ∷ digits
  pub says : IsNumberText digits number
  pub small : unsigned_abs number < 2 ^ 63

-- the text gives the name at the place the number that the input has there
abbrev pub IsPairAt : List (List ℕ) → Store → ℕ → List ℕ → Type 0
IsPairAt names input place text = IsPairText (name_at names place) (number_at input place) text

-- it does so for some name
abbrev pub IsPairOf : List (List ℕ) → Store → List ℕ → Type 0
IsPairOf names input text = (place : ℕ) × (place < length names) × IsPairAt names input place text

-- The text is that of the input: as many pieces between commas, code 44, as there are names, each of which gives a name its number, and for each
-- name there is one. So where no two names are equal each has exactly one. Without names no text is one: it would have at least one piece.
pub record IsInputText (names : List (List ℕ)) (text : List ℕ) (input : Store) : Type 0 where
  pub input_is : IsInput (length names) input
  pub count : length (pieces 44 text) ≡ length names
  pub each : All (λ piece. IsPairOf names input piece) (pieces 44 text)
  pub some : (place : ℕ) → place < length names → Any (λ piece. IsPairAt names input place piece) (pieces 44 text)
