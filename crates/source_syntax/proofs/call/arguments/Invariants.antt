use Rattle.std.proofs.Common.{◌-◌, ◌+◌, ◌≤◌, length}
use Rattle.source_syntax.specs.Language.{rest_from}
use Rattle.concrete_syntax.specs.Mirror.{expressions}
use Rattle.source_syntax.specs.Reads.{ComesToArguments}
use Rattle.source_syntax.proofs.call.arguments.Given as goal

-- reading arguments has come to reading further ones from here
abbrev pub invariant-further : goal.invariant-further
invariant-further l = record {
  forward : l.at + 1 ≤ l.here;
  comes : ComesToArguments l.levels (expressions l.list.items) (rest_from l.reader.words.now l.at) (rest_from l.reader.words.now l.here);
}

abbrev pub decreases-further : goal.decreases-further
decreases-further l = length l.reader.words.now - l.here
