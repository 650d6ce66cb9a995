use Rattle.std.proofs.Common.{◌-◌, ◌≤◌, true, length}
use Rattle.source_syntax.specs.Language.{rest_from}
use Rattle.concrete_syntax.specs.Mirror.{functions}
use Rattle.source_syntax.specs.Pending.{definitions}
use Rattle.source_syntax.specs.Reads.{Continues, behind_functions}
use Rattle.source_syntax.proofs.program.with_functions.Given as goal

-- reading functions and `main` has come to reading what is left of them from here
abbrev pub invariant-further : goal.invariant-further
invariant-further l = record {
  forward : l.at ≤ l.here;
  comes : Continues (definitions true) (behind_functions (functions l.functions.items)) (rest_from l.reader.words.now l.at) (rest_from l.reader.words.now l.here);
}

abbrev pub decreases-further : goal.decreases-further
decreases-further l = length l.reader.words.now - l.here
