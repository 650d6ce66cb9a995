-- Where the tokens of a text lie.
use Rattle.std.specs.Prelude.{ℕ, ◌<◌, ◌≤◌, List, [], ◌∷◌, length, map, slice_index_or}
use Rattle.source_lex.specs.declared.token.Token.{Token}

-- where the token of this number, counted from 0, starts; behind the last token it is the end that is given
abbrev pub start_of : List Token → ℕ → ℕ → ℕ
start_of tokens number end = slice_index_or (map (λ token. token.start) tokens) number end

-- What follows has no part in the headline.

-- the token has at least one byte, and all its bytes are within the text
pub record IsWithin (text : List ℕ) (token : Token) : Type 0 where
  pub nonempty : token.start < token.end
  pub inside : token.end ≤ length text

-- the tokens lie one behind the other, from offset i on
abbrev pub InOrderFrom : ℕ → List Token → Type 0
InOrderFrom i [] = Unit {0}
InOrderFrom i (token ∷ tokens) = (i ≤ token.start) × InOrderFrom token.end tokens
