-- The word that stands at a number, by how it opens.
use Rattle.std.proofs.Common.{◌≡◌, ℕ, ◌+◌, List, Option, None, Some, refl, sym, subst, arith}
use Rattle.derivation.specs.declared.lexeme.Lexeme.{Lexeme}
use Rattle.derivation.specs.declared.symbol.Symbol.{Symbol}
use Rattle.derivation.specs.declared.symbol.Symbol.TheVariants as Sym
use Rattle.derivation.specs.Word.{Word, symbol, number as numbered}
use Rattle.derivation.specs.Spelled.{spelled, words_from, IsBehind}
use Rattle.derivation.specs.Pieces.{first}
use Rattle.derivation.specs.Comes.{IsNext}
use Rattle.derivation.proofs.Answering.{front_at, room_at}
use Rattle.source_syntax.specs.declared.opening.OperandOpening.{OperandOpening}
use Rattle.source_syntax.specs.declared.opening.SizeOpening.{SizeOpening}
use Rattle.source_syntax.specs.declared.opening.LinkOpening.{LinkOpening}
use Rattle.source_syntax.specs.declared.opening.LinkOpening.TheVariants as Link
use Rattle.source_syntax.specs.Openings.{opening_of_operand, size_opening}
use Rattle.source_syntax.specs.Language.{rest_from, link_opening}
use Rattle.source_syntax.specs.Spelling.{sign_of, division_sign, prefix_sign, truth_word}

-- the word that is first stands at the front, and one is behind it
module _ (lexemes : List Lexeme) (at : ℕ) {w : Word} (e : first (words_from lexemes at) ≡ Some w) where
  pub next_word : IsNext w (rest_from lexemes at) (rest_from lexemes (at + 1))
  next_word = (front_at spelled lexemes at w e, refl)

  pub one_behind : IsBehind lexemes at (at + 1)
  one_behind = record { forward = omega arith; inside = omega (arith, room_at spelled lexemes at w e) }

-- the word that opens an operand so, where one alone does; of others nothing is said
abbrev WordFor : OperandOpening → Option Word → Type 0
WordFor (OperandOpening.Number z) next = next ≡ Some (numbered z)
WordFor (OperandOpening.Truth b) next = next ≡ Some (symbol (truth_word b))
WordFor OperandOpening.Unknown next = next ≡ Some (symbol Sym.Question)
WordFor (OperandOpening.Signed prefix) next = next ≡ Some (symbol (prefix_sign prefix))
WordFor _ next = next ≡ next

pub operand_word : (next : Option Word) (o : OperandOpening) → o ≡ opening_of_operand next → WordFor o next
operand_word next o e = subst (λ o. WordFor o next) (sym e) (word next)
  where
    word : (next : Option Word) → WordFor (opening_of_operand next) next
    word (Some (symbol Sym.True)) = refl
    word _ = refl

-- the end of a range
abbrev WordForSize : SizeOpening → Option Word → Type 0
WordForSize (SizeOpening.Number z) next = next ≡ Some (numbered z)
WordForSize SizeOpening.Infinite next = next ≡ Some (symbol Sym.Infinite)
WordForSize SizeOpening.Nothing next = next ≡ next

pub size_word : (next : Option Word) (o : SizeOpening) → o ≡ size_opening next → WordForSize o next
size_word next o e = subst (λ o. WordForSize o next) (sym e) (word next)
  where
    word : (next : Option Word) → WordForSize (size_opening next) next
    word (Some (symbol Sym.Infinite)) = refl
    word _ = refl

-- the sign that a link opens with
abbrev pub link_sign : LinkOpening → Symbol
link_sign (Link.Operation op) = sign_of op
link_sign (Link.Division sign) = division_sign sign

abbrev WordForLink : Option LinkOpening → Option Word → Type 0
WordForLink (Some o) next = next ≡ Some (symbol (link_sign o))
WordForLink None next = next ≡ next

pub link_word : (next : Option Word) (o : LinkOpening) → Some o ≡ link_opening next → next ≡ Some (symbol (link_sign o))
link_word next o e = subst (λ o. WordForLink o next) (sym e) (word next)
  where
    word : (next : Option Word) → WordForLink (link_opening next) next
    word (Some (symbol Sym.Plus)) = refl
    word _ = refl
