-- The words that the parser's own lexemes are.
use Rattle.std.specs.Prelude.{ℕ, ◌<◌, ◌≤◌, List, map, drop, length}
use Rattle.derivation.specs.declared.lexeme.Lexeme.{Lexeme}
use Rattle.derivation.specs.declared.lexeme.Lexeme.TheVariants.{Symbol, Name, Number, Unknown}
use Rattle.derivation.specs.Word.{Word, symbol, name, number, unknown}

abbrev pub spelled : Lexeme → Word
spelled (Symbol s) = symbol s
spelled (Name bytes) = name bytes.now
spelled (Number value) = number value
spelled Unknown = unknown

abbrev pub all_spelled : List Lexeme → List Word
all_spelled lexemes = map spelled lexemes

-- the words from a number on
abbrev pub words_from : List Lexeme → ℕ → List Word
words_from lexemes at = all_spelled (drop at lexemes)

-- the second number is behind the first, and no farther than the end
pub record IsBehind (lexemes : List Lexeme) (at next : ℕ) : Type 0 where
  pub forward : at < next
  pub inside : next ≤ length lexemes
