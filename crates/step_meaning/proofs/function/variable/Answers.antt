use Rattle.std.proofs.Common.{◌∙◌, arith}
use Rattle.step_meaning.proofs.FunctionLaws.{no_place}
use Rattle.step_meaning.proofs.function.variable.Goals as goal

pub returns-else-place-lt-PLACES : goal.returns-else-place-lt-PLACES
returns-else-place-lt-PLACES c = c.constant.ensures ∙ no_place c.args.place (omega (arith, c.if-place-lt-PLACES.false))
