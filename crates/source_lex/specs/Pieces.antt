-- What the lexer meets at an offset.
use Rattle.std.specs.Prelude.{ℕ, List}
use Rattle.source_lex.specs.Gaps.{GapAt}
use Rattle.source_lex.specs.Words.{TokenAt}
use Rattle.source_lex.specs.declared.piece.Piece.{Piece}
use Rattle.source_lex.specs.declared.piece.Piece.TheVariants.{Gap, Token}

-- the piece begins at i
abbrev pub PieceAt : List ℕ → ℕ → Piece → Type 0
PieceAt text i (Gap end) = GapAt text i end
PieceAt text i (Token kind end) = TokenAt text i end kind
