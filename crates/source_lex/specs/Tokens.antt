-- A text and its tokens.
use Rattle.std.specs.Prelude.{◌≡◌, ℕ, List, [], ◌∷◌, length}
use Rattle.source_lex.specs.Gaps.{GapAt}
use Rattle.source_lex.specs.Words.{TokenAt}
use Rattle.source_lex.specs.declared.token.Kind.{Kind}
use Rattle.source_lex.specs.declared.token.Token.{Token}

-- from offset i to its end the text is these tokens, with only blanks and comments before, between and behind them
pub data TokensFrom (text : List ℕ) : ℕ → List Token → Type 0 where
  -- nothing is left
  finish : (i : ℕ) → i ≡ length text → TokensFrom text i []
  -- a blank or a comment is passed over
  gap : (i j : ℕ) (tokens : List Token) → GapAt text i j → TokensFrom text j tokens → TokensFrom text i tokens
  -- a token is the first
  token : (i j : ℕ) (kind : Kind) (tokens : List Token) → TokenAt text i j kind → TokensFrom text j tokens → TokensFrom text i (record { kind = kind; start = i; end = j } ∷ tokens)

-- the whole text is these tokens
abbrev pub TokensOf : List ℕ → List Token → Type 0
TokensOf text tokens = TokensFrom text 0 tokens
