use Rattle.std.proofs.Common.{◌+◌, ◌-◌, ◌*◌, ◌≤◌, length, map}
use Rattle.source_syntax.specs.Language.{rest_from}
use Rattle.concrete_syntax.specs.Chains.{items_of}
use Rattle.concrete_syntax.specs.Mirror.{item}
use Rattle.source_syntax.specs.Pending.{items as pending_items}
use Rattle.source_syntax.specs.Reads.{Continues}
use Rattle.source_syntax.proofs.statement.+statements.Given as goal

abbrev pub decreases-statement : goal.decreases-statement
decreases-statement l = 4 * (length l.reader.words.now - l.at) + 2

abbrev pub decreases-boxed : goal.decreases-boxed
decreases-boxed l = 4 * (length l.reader.words.now - l.at) + 3

abbrev pub decreases-kind : goal.decreases-kind
decreases-kind l = 4 * (length l.reader.words.now - l.at) + 1

abbrev pub decreases-items : goal.decreases-items
decreases-items l = 4 * (length l.reader.words.now - l.at) + 3

abbrev pub decreases-braces : goal.decreases-braces
decreases-braces l = 4 * (length l.reader.words.now - l.at)

abbrev pub decreases-conditional : goal.decreases-conditional
decreases-conditional l = 4 * (length l.reader.words.now - l.at)

abbrev pub decreases-otherwise : goal.decreases-otherwise
decreases-otherwise l = 4 * (length l.reader.words.now - l.at)

abbrev pub decreases-while_loop : goal.decreases-while_loop
decreases-while_loop l = 4 * (length l.reader.words.now - l.at)

abbrev pub decreases-do_loop : goal.decreases-do_loop
decreases-do_loop l = 4 * (length l.reader.words.now - l.at)

abbrev pub decreases-for_loop : goal.decreases-for_loop
decreases-for_loop l = 4 * (length l.reader.words.now - l.at)

-- reading items has come to reading further items from here
abbrev pub invariant-items-further : goal.invariant-items-further
invariant-items-further l = record {
  forward : l.at ≤ l.here;
  comes : Continues (pending_items l.functions l.levels) (items_of (map item l.list.items)) (rest_from l.reader.words.now l.at) (rest_from l.reader.words.now l.here);
}

abbrev pub decreases-items-further : goal.decreases-items-further
decreases-items-further l = length l.reader.words.now - l.here
