-- Laws of words.
use Rattle.std.specs.Prelude.{◌≢◌, ℕ, List, All}
use Rattle.source_lex.specs.Tokens.{TokensOf}
use Rattle.source_lex.specs.declared.token.Token.{Token}
use Rattle.derivation.specs.Word.{unknown, words}

-- no token of a text is without a word
abbrev pub TokensAreWords : Type 0
TokensAreWords = (text : List ℕ) (tokens : List Token) → TokensOf text tokens → All (λ word. word ≢ unknown) (words text tokens)
