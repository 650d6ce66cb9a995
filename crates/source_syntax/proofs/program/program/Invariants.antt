use Rattle.std.proofs.Common.{◌-◌, ◌≤◌, length, map}
use Rattle.source_syntax.specs.Language.{rest_from}
use Rattle.concrete_syntax.specs.Mirror.{prelude}
use Rattle.source_syntax.specs.Pending.{a_program}
use Rattle.source_syntax.specs.Reads.{Continues, behind_preludes}
use Rattle.source_syntax.proofs.program.program.Given as goal

-- reading a program has come to reading what is left of it from here
abbrev pub invariant-preludes : goal.invariant-preludes
invariant-preludes l = record {
  forward : l.at ≤ l.here;
  comes : Continues (a_program l.functions) (behind_preludes (map prelude l.preludes.items)) (rest_from l.reader.words.now l.at) (rest_from l.reader.words.now l.here);
}

abbrev pub decreases-preludes : goal.decreases-preludes
decreases-preludes l = length l.reader.words.now - l.here
