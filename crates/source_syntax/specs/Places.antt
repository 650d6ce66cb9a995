-- Which expression stands at a token of a text.
use Rattle.std.specs.Prelude.{◌≡◌, ℕ, List, [], ◌++◌, drop, ⊤}
use Rattle.source_lex.specs.declared.token.Token.{Token}
use Rattle.concrete_syntax.specs.Trees.{Expression}
use Rattle.derivation.specs.declared.fault.SyntaxFault.{SyntaxFault}
use Rattle.derivation.specs.declared.fault.SyntaxFault.TheVariants.{Lex, Broken, Memory}
use Rattle.derivation.specs.Limits.{AllWithin}
use Rattle.derivation.specs.Pieces.{spelling, first, FitsBefore}
use Rattle.derivation.specs.Texts.{offset_in}
use Rattle.derivation.specs.Word.{words}
use Rattle.source_syntax.specs.Language.{Rest}
use Rattle.source_syntax.specs.Pending.{an_expression}
use Rattle.source_syntax.specs.Reads.{RefusesCounting}
use Rattle.source_syntax.specs.Spelling.{expression_pieces}

-- what is left of the tokens of a text from a number on
abbrev pub left_from : List ℕ → List Token → ℕ → Rest
left_from text tokens at = record { number = at; words = drop at (words text tokens) }

-- The tokens from the one number up to the other are what this expression spells, where so many levels are open around it, within the limits; and no binary
-- operator stands behind it.
pub record IsExpressionAt (text : List ℕ) (tokens : List Token) (level at : ℕ) (tree : Expression) (next : ℕ) : Type 0 where
  pub spelled : drop at (words text tokens) ≡ spelling (expression_pieces level tree []) ++ drop next (words text tokens)
  pub fits : FitsBefore at (expression_pieces level tree []) (first (drop next (words text tokens)))
  pub within : AllWithin 0 (expression_pieces level tree [])

-- what may be answered in place of an expression: the first token at which reading one stops, whatever is to be read behind it; or that memory ran out
abbrev pub IsNoExpressionAt : List ℕ → List Token → ℕ → ℕ → SyntaxFault → Type 0
IsNoExpressionAt text tokens level at (Lex fault) = ⊥
IsNoExpressionAt text tokens level at (Broken rule offset) =
    (stop : ℕ) × RefusesCounting 0 (an_expression level) (left_from text tokens at) rule (left_from text tokens stop) × (offset ≡ offset_in text tokens stop)
IsNoExpressionAt text tokens level at (Memory error) = ⊤
