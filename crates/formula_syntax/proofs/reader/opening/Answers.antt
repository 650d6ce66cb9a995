use Rattle.std.proofs.Common.{refl}
use Rattle.formula_syntax.specs.Language.{rest_from}
use Rattle.formula_syntax.proofs.reader.opening.Goals as goal

pub returns-then-level-gt-MOST_LEVELS-clause-missed : goal.returns-then-level-gt-MOST_LEVELS-clause-missed
returns-then-level-gt-MOST_LEVELS-clause-missed c =
    (((rest_from c.args.reader.words.now c.in-Some.next, c.in-Some.ensures.read), c.if-level-gt-MOST_LEVELS.true), refl)
