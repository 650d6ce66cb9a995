-- A test of the definitions: the first fault of `(x && 1 >= 0)` is the `&&`, since behind the `x` a sum goes on, whatever the parentheses hold.
use Rattle.std.proofs.Common.{pos, List, [], ◌∷◌, ℕ, refl, arith}
use Rattle.derivation.specs.declared.rule.Rule.TheVariants.{Expected}
use Rattle.derivation.specs.Comes.{FirstFault}
use Rattle.derivation.proofs.Whole.{whole_stops}
use Rattle.formula_syntax.specs.declared.sign.Comparison.TheVariants as Comparison
use Rattle.formula_syntax.specs.declared.sign.Connective.TheVariants as Connective
use Rattle.formula_syntax.specs.declared.sign.Sign.TheVariants as Mark
use Rattle.formula_syntax.specs.declared.opening.Opening.TheVariants as Opening
use Rattle.formula_syntax.specs.declared.opening.FactorOpening.TheVariants as FactorOpening
use Rattle.formula_syntax.specs.Words.{Word, sign, name, number}
use Rattle.formula_syntax.specs.Language.{Rest}
use Rattle.formula_syntax.specs.Texts.{formulas}
use Rattle.formula_syntax.proofs.Steps.{fails, goes, held, left_out, opening_reads, bytes_reads}
use Rattle.formula_syntax.proofs.Sums.{located_factors, factors, sum_goes, tail_ends, right_missing}
use Rattle.formula_syntax.proofs.Parts.{located_groups, parts, inners, inner_ends, formula_goes}
use Rattle.formula_syntax.proofs.Whole.{a_text}

module _ (x : List ℕ) where
  -- all words, those behind the `(`, and those behind the `x`
  abbrev behind_name : List Word
  behind_name = sign (Mark.Connective Connective.And) ∷ number (pos 1) ∷ sign (Mark.Comparison Comparison.GreaterEqual) ∷ number (pos 0) ∷ sign Mark.CloseParenthesis ∷ []

  abbrev start : Rest
  start = record { number = 0; words = sign Mark.OpenParenthesis ∷ name x ∷ behind_name }

  abbrev second : Rest
  second = record { number = 1; words = name x ∷ behind_name }

  abbrev third : Rest
  third = record { number = 2; words = behind_name }

  fault_of_the_example : FirstFault formulas start.words Expected behind_name
  fault_of_the_example =
      whole_stops a_text start third refl Expected
      (fails (formula_goes 0 0 _ start)
      (fails (goes (parts 0 _) 0 start Opening.Parenthesis refl)
      (fails (held (located_groups 0 _) 0 start)
      (fails (opening_reads {to = second} Mark.OpenParenthesis _ (refl, refl) (refl, refl) (omega arith))
      (fails (goes (inners 1 _) 0 second Opening.Sum refl)
      (fails (sum_goes 1 0 _ second)
      (fails (held (located_factors 1 _) 0 second)
      (fails (goes (factors 1 _) 0 second FactorOpening.Name refl)
      (fails (bytes_reads {to = third} (refl, refl))
      (fails (tail_ends 1 0 _ third refl)
      (fails (left_out (inner_ends 1 _) {from = third} (λ e. cc))
      (right_missing 1 _ 0 third refl))))))))))))
