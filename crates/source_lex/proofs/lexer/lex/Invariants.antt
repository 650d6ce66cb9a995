use Rattle.std.proofs.Common.{◌-◌, length}
use Rattle.source_lex.proofs.Reached.{Reached}
use Rattle.source_lex.proofs.lexer.lex.Given as goal

-- what lies before this offset is gaps and the tokens so far
abbrev pub invariant-loop-at : goal.invariant-loop-at
invariant-loop-at l = Reached l.text l.at l.tokens.items

abbrev pub decreases-loop-at : goal.decreases-loop-at
decreases-loop-at l = length l.text - l.at
