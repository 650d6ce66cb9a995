use Rattle.std.proofs.Common.{◌+◌, ◌-◌, ◌*◌, ◌≤◌, length}
use Rattle.source_syntax.specs.Language.{rest_from}
use Rattle.concrete_syntax.specs.Mirror.{links}
use Rattle.source_syntax.specs.Reads.{ComesToTail}
use Rattle.source_syntax.proofs.expression.+expressions.Given as goal

abbrev pub decreases-expression : goal.decreases-expression
decreases-expression l = 4 * (length l.reader.words.now - l.at) + 3

abbrev pub decreases-tail : goal.decreases-tail
decreases-tail l = 4 * (length l.reader.words.now - l.at)

abbrev pub decreases-right : goal.decreases-right
decreases-right l = 4 * (length l.reader.words.now - l.at) + 3

abbrev pub decreases-operand : goal.decreases-operand
decreases-operand l = 4 * (length l.reader.words.now - l.at) + 2

abbrev pub decreases-operand_kind : goal.decreases-operand_kind
decreases-operand_kind l = 4 * (length l.reader.words.now - l.at) + 1

abbrev pub decreases-signed : goal.decreases-signed
decreases-signed l = 4 * (length l.reader.words.now - l.at)

abbrev pub decreases-parentheses : goal.decreases-parentheses
decreases-parentheses l = 4 * (length l.reader.words.now - l.at)

-- reading a tail has read these links, and has come to reading what is left of it
abbrev pub invariant-tail-operators : goal.invariant-tail-operators
invariant-tail-operators l = record {
  forward : l.at ≤ l.here;
  inside : l.here ≤ length l.reader.words.now;
  few : l.count ≤ 256;
  comes : ComesToTail l.operators l.levels (links l.links.items) (rest_from l.reader.words.now l.at) l.count (rest_from l.reader.words.now l.here);
}

abbrev pub decreases-tail-operators : goal.decreases-tail-operators
decreases-tail-operators l = length l.reader.words.now - l.here
