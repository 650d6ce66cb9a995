use Rattle.std.proofs.Common.{sym, ◌∙◌, arith}
use Rattle.formula_syntax.proofs.Steps.{read}
use Rattle.formula_syntax.proofs.Sums.{untils, until_missing}
use Rattle.formula_syntax.proofs.Words.{next_word, until_word}
use Rattle.formula_syntax.proofs.reader.until.Goals as goal

pub returns-in-Some-clause-read : goal.returns-in-Some-clause-read
returns-in-Some-clause-read c =
    let word = until_word _ c.in-Some.weak (sym c.in-Some.is ∙ c.until_of.ensures.class) in
    λ count behind. read (untils behind c.in-Some.weak) (next_word c.args.reader.words.now c.args.at word) (omega arith, tt)

pub returns-in-None-clause-refused : goal.returns-in-None-clause-refused
returns-in-None-clause-refused c = λ count behind. until_missing behind count _ (sym c.in-None.is ∙ c.until_of.ensures.class)
