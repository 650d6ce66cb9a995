use Rattle.std.proofs.Common.{◌+◌, ◌<◌, ◌≤◌, drop, length}
use Rattle.derivation.specs.declared.rule.Rule.{Rule}
use Rattle.source_syntax.specs.Language.{Rest, rest_from}
use Rattle.source_syntax.specs.Reads.{AreNext, MissesOne}
use Rattle.source_syntax.proofs.reader.signs.Given as goal

-- where the signs that are left stand here, all do; and where one of them is missed, one of all is
abbrev pub invariant-loop-symbol : goal.invariant-loop-symbol
invariant-loop-symbol l = record {
  forward : l.at + l.symbol-index ≤ l.here;
  inside : 0 < l.symbol-index → l.here ≤ length l.reader.words.now;
  stand : (to : Rest) → AreNext (drop l.symbol-index l.wanted) (rest_from l.reader.words.now l.here) to → AreNext l.wanted (rest_from l.reader.words.now l.at) to;
  missed : (rule : Rule) (to : Rest) → MissesOne (drop l.symbol-index l.wanted) (rest_from l.reader.words.now l.here) rule to
      → MissesOne l.wanted (rest_from l.reader.words.now l.at) rule to;
}
