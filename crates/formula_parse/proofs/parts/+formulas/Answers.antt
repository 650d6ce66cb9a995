use Rattle.std.proofs.Common.{arith}
use Rattle.std.proofs.lemmas.Grind.{elements}
use Rattle.formula_parse.proofs.parts.+formulas.Goals as goal

pub behind-returns-in_ok-made-in-Or-clause-meaning : goal.behind-returns-in_ok-made-in-Or-clause-meaning
behind-returns-in_ok-made-in-Or-clause-meaning t c = grind (arith, elements)
