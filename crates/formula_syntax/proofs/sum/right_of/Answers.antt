use Rattle.std.proofs.Common.{arith}
use Rattle.derivation.specs.declared.rule.Rule.TheVariants.{Operators}
use Rattle.formula_syntax.proofs.Steps.{over, fails, read, exceeds, lawful, passed_on}
use Rattle.formula_syntax.proofs.Words.{next_word, comparison_word}
use Rattle.formula_syntax.proofs.Sums.{rights}
use Rattle.formula_syntax.proofs.sum.right_of.Goals as goal

pub returns-then-more-gt-MOST_OPERATORS-clause-refused : goal.returns-then-more-gt-MOST_OPERATORS-clause-refused
returns-then-more-gt-MOST_OPERATORS-clause-refused c = λ behind.
    exceeds (rights _ behind c.args.comparison) lawful (next_word c.args.reader.words.now c.args.at (comparison_word _ c.args.comparison c.requires.opens)) Operators (λ e. cc) (omega arith, c.if-more-gt-MOST_OPERATORS.true)

pub returns-in_err-value-clause-refused : goal.returns-in_err-value-clause-refused
returns-in_err-value-clause-refused c =
    passed_on _ _ _ _ c.from_residual.ensures c.in_err-value.ensures.refused
    (λ fault refused behind.
    fails (read (rights _ behind c.args.comparison) (next_word c.args.reader.words.now c.args.at (comparison_word _ c.args.comparison c.requires.opens)) (omega arith, c.if-more-gt-MOST_OPERATORS.false)) (refused _))

pub returns-clause-read : goal.returns-clause-read
returns-clause-read c = λ behind.
    over (read (rights _ behind c.args.comparison) (next_word c.args.reader.words.now c.args.at (comparison_word _ c.args.comparison c.requires.opens)) (omega arith, c.if-more-gt-MOST_OPERATORS.false))
    (c.in_ok-value.ensures.read _)
