use Rattle.std.proofs.Common.{◌-◌, ◌+◌, ◌≤◌, length}
use Rattle.source_syntax.specs.Language.{rest_from}
use Rattle.concrete_syntax.specs.Mirror.{name, names}
use Rattle.source_syntax.specs.Reads.{ComesToParameters}
use Rattle.source_syntax.proofs.program.parameters.Given as goal

-- reading parameters has come to reading further ones from here
abbrev pub invariant-further : goal.invariant-further
invariant-further l = record {
  forward : l.at + 1 ≤ l.here;
  comes : ComesToParameters (name l.first) (names l.more.items) (rest_from l.reader.words.now l.at) (rest_from l.reader.words.now l.here);
}

abbrev pub decreases-further : goal.decreases-further
decreases-further l = length l.reader.words.now - l.here
