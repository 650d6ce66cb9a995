use Rattle.std.proofs.Common.{◌-◌, ◌+◌, ◌≤◌, length, map}
use Rattle.source_syntax.specs.Language.{rest_from}
use Rattle.concrete_syntax.specs.Mirror.{part}
use Rattle.source_syntax.specs.Reads.{ComesToParts}
use Rattle.source_syntax.proofs.declaration.declaration.Given as goal

-- reading a declaration has come to reading its further parts from here
abbrev pub invariant-parts : goal.invariant-parts
invariant-parts l = record {
  forward : l.at + 1 ≤ l.here;
  comes : ComesToParts l.functions l.levels (part l.first) (map part l.more.items) (rest_from l.reader.words.now l.at) (rest_from l.reader.words.now l.here);
}

abbrev pub decreases-parts : goal.decreases-parts
decreases-parts l = length l.reader.words.now - l.here
