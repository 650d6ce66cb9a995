use Rattle.line_text.proofs.Numerals.{numeral_is_decimal}
use Rattle.line_text.proofs.Words.{numeral_is_numeral, numeral_value}
use Rattle.line_text.proofs.laws.numerals_say_their_numbers.Goals as goal

pub returns-clause-digits : goal.returns-clause-digits
returns-clause-digits c = numeral_is_numeral

pub returns-clause-value : goal.returns-clause-value
returns-clause-value c = numeral_value

pub returns-clause-decimal : goal.returns-clause-decimal
returns-clause-decimal c = numeral_is_decimal
