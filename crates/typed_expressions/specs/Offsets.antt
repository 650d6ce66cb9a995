-- Where the tokens of statements stand in the text.
use Rattle.std.specs.Prelude.{ℕ, List, map}
use Rattle.source_lex.specs.Spans.{start_of}
use Rattle.source_lex.specs.declared.token.Token.{Token}

-- where the token of this number starts, or 0 behind the last
abbrev pub offset_in : List Token → ℕ → ℕ
offset_in tokens number = start_of tokens number 0

abbrev pub offsets_in : List Token → List ℕ → List ℕ
offsets_in tokens numbers = map (offset_in tokens) numbers
