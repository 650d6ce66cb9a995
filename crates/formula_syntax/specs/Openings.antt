-- How each kind of phrase opens, by its next word.
use Rattle.std.specs.Prelude.{true, false, Bool, Option, None, Some, ⊤}
use Rattle.formula_syntax.specs.declared.sign.Comparison.{Comparison}
use Rattle.formula_syntax.specs.declared.sign.Operator.TheVariants as O
use Rattle.formula_syntax.specs.declared.sign.Sign.TheVariants as S
use Rattle.formula_syntax.specs.declared.opening.Opening.{Opening}
use Rattle.formula_syntax.specs.declared.opening.FactorOpening.{FactorOpening}
use Rattle.formula_syntax.specs.Words.{Word, sign, name, number}

abbrev pub opening_of_part : Option Word → Opening
opening_of_part (Some (number z)) = Opening.Sum
opening_of_part (Some (name x)) = Opening.Sum
opening_of_part (Some (sign (S.Operator O.Add))) = Opening.Sum
opening_of_part (Some (sign (S.Operator O.Subtract))) = Opening.Sum
opening_of_part (Some (sign S.OpenParenthesis)) = Opening.Parenthesis
opening_of_part (Some (sign (S.Prefix p))) = Opening.Prefix p
opening_of_part (Some (sign (S.Quantifier all))) = Opening.Quantifier all
opening_of_part (Some (sign (S.Truth b))) = Opening.Truth b
opening_of_part (Some (sign S.Exit)) = Opening.Exit
opening_of_part _ = Opening.Nothing

abbrev pub opening_of_factor : Option Word → FactorOpening
opening_of_factor (Some (number z)) = FactorOpening.Number z
opening_of_factor (Some (name x)) = FactorOpening.Name
opening_of_factor (Some (sign (S.Operator O.Add))) = FactorOpening.Signed false
opening_of_factor (Some (sign (S.Operator O.Subtract))) = FactorOpening.Signed true
opening_of_factor (Some (sign S.OpenParenthesis)) = FactorOpening.Parenthesis
opening_of_factor _ = FactorOpening.Nothing

-- the comparison, or `U` or `W`, that a word is
abbrev pub comparison_of : Option Word → Option Comparison
comparison_of (Some (sign (S.Comparison c))) = Some c
comparison_of _ = None

abbrev pub until_of : Option Word → Option Bool
until_of (Some (sign (S.Until weak))) = Some weak
until_of _ = None

-- what opens so is no sum, nor begins with a `(`
abbrev pub IsProper : Opening → Type 0
IsProper (Opening.Prefix p) = ⊤
IsProper (Opening.Quantifier all) = ⊤
IsProper (Opening.Truth b) = ⊤
IsProper Opening.Exit = ⊤
IsProper _ = ⊥

-- a part, or a factor, opens so
abbrev pub IsPart : Opening → Type 0
IsPart Opening.Nothing = ⊥
IsPart _ = ⊤

abbrev pub IsFactor : FactorOpening → Type 0
IsFactor FactorOpening.Nothing = ⊥
IsFactor _ = ⊤
