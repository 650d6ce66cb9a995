-- What a token says of its text.
use Rattle.std.specs.Prelude.{ℕ, List, slice_range}
use Rattle.source_lex.specs.Words.{TokenAt}
use Rattle.source_lex.specs.declared.token.Token.{Token}

-- the bytes of the text that the token stands for
abbrev pub lexeme : List ℕ → Token → List ℕ
lexeme text token = slice_range text token.start token.end

-- What follows has no part in the headline.

-- the token stands in the text, at its offset and with its kind
abbrev pub StandsIn : List ℕ → Token → Type 0
StandsIn text token = TokenAt text token.start token.end token.kind
