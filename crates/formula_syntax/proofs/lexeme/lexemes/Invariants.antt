use Rattle.std.proofs.Common.{◌≡◌, take}
use Rattle.formula_syntax.specs.Words.{words, all_spelled}
use Rattle.formula_syntax.proofs.lexeme.lexemes.Given as goal

abbrev pub invariant-loop-token : goal.invariant-loop-token
invariant-loop-token l = all_spelled l.found.items ≡ words l.text (take l.token-index l.tokens)
