-- The word that stands at a number, by how it opens.
use Rattle.std.proofs.Common.{◌≡◌, ℕ, ◌+◌, Bool, List, Option, Some, refl, sym, ap, subst}
use Rattle.derivation.specs.Pieces.{first}
use Rattle.derivation.specs.Comes.{IsNext}
use Rattle.derivation.proofs.Answering.{front_at}
use Rattle.formula_syntax.specs.declared.sign.Comparison.{Comparison}
use Rattle.formula_syntax.specs.declared.sign.Connective.{Connective}
use Rattle.formula_syntax.specs.declared.sign.Operator.{Operator}
use Rattle.formula_syntax.specs.declared.sign.Operator.TheVariants as O
use Rattle.formula_syntax.specs.declared.sign.Sign.TheVariants as Mark
use Rattle.formula_syntax.specs.declared.lexeme.Lexeme.{Lexeme}
use Rattle.formula_syntax.specs.declared.opening.Opening.{Opening}
use Rattle.formula_syntax.specs.declared.opening.FactorOpening.{FactorOpening}
use Rattle.formula_syntax.specs.Words.{Word, sign, number as numbered, spelled, words_from}
use Rattle.formula_syntax.specs.Language.{rest_from, operator_of, connective_of}
use Rattle.formula_syntax.specs.Openings.{opening_of_part, opening_of_factor, comparison_of, until_of}
use Rattle.formula_syntax.specs.Spelling.{sign_of}

-- the word that is first stands at the front
pub next_word : (lexemes : List Lexeme) (at : ℕ) {w : Word} → first (words_from lexemes at) ≡ Some w → IsNext w (rest_from lexemes at) (rest_from lexemes (at + 1))
next_word lexemes at {w} e = (front_at spelled lexemes at w e, refl)

-- the word of a class of signs, where the class says so
pub operator_word : (next : Option Word) (op : Operator) → Some op ≡ operator_of next → next ≡ Some (sign (Mark.Operator op))
operator_word (Some (sign (Mark.Operator o))) op e = let same : op ≡ o = cc in ap (λ o. Some (sign (Mark.Operator o))) (sym same)
operator_word _ op e = absurd (cc)

pub connective_word : (next : Option Word) (c : Connective) → Some c ≡ connective_of next → next ≡ Some (sign (Mark.Connective c))
connective_word (Some (sign (Mark.Connective o))) c e = let same : c ≡ o = cc in ap (λ o. Some (sign (Mark.Connective o))) (sym same)
connective_word _ c e = absurd (cc)

pub comparison_word : (next : Option Word) (c : Comparison) → Some c ≡ comparison_of next → next ≡ Some (sign (Mark.Comparison c))
comparison_word (Some (sign (Mark.Comparison o))) c e = let same : c ≡ o = cc in ap (λ o. Some (sign (Mark.Comparison o))) (sym same)
comparison_word _ c e = absurd (cc)

pub until_word : (next : Option Word) (weak : Bool) → Some weak ≡ until_of next → next ≡ Some (sign (Mark.Until weak))
until_word (Some (sign (Mark.Until o))) weak e = let same : weak ≡ o = cc in ap (λ o. Some (sign (Mark.Until o))) (sym same)
until_word _ weak e = absurd (cc)

-- the word that opens a factor or a part so, where one alone does; of others nothing is said
abbrev WordFor : FactorOpening → Option Word → Type 0
WordFor (FactorOpening.Number z) next = next ≡ Some (numbered z)
WordFor (FactorOpening.Signed negative) next = next ≡ Some (sign (Mark.Operator (sign_of negative)))
WordFor _ next = next ≡ next

pub factor_word : (next : Option Word) (o : FactorOpening) → o ≡ opening_of_factor next → WordFor o next
factor_word next o e = subst (λ o. WordFor o next) (sym e) (word next)
  where
    word : (next : Option Word) → WordFor (opening_of_factor next) next
    word (Some (sign (Mark.Operator O.Add))) = refl
    word _ = refl

abbrev WordForPart : Opening → Option Word → Type 0
WordForPart (Opening.Prefix p) next = next ≡ Some (sign (Mark.Prefix p))
WordForPart (Opening.Quantifier all) next = next ≡ Some (sign (Mark.Quantifier all))
WordForPart (Opening.Truth b) next = next ≡ Some (sign (Mark.Truth b))
WordForPart Opening.Exit next = next ≡ Some (sign Mark.Exit)
WordForPart _ next = next ≡ next

pub part_word : (next : Option Word) (o : Opening) → o ≡ opening_of_part next → WordForPart o next
part_word next o e = subst (λ o. WordForPart o next) (sym e) (word next)
  where
    word : (next : Option Word) → WordForPart (opening_of_part next) next
    word (Some (sign (Mark.Operator O.Add))) = refl
    word _ = refl
