use Rattle.std.proofs.Common.{◌≡◌, ◌+◌, ◌*◌, ◌^◌, ◌<◌, ◌≤◌, ◌↔◌}
use Rattle.step_meaning.specs.Syntax.{statements, statement, size_of, size_of_statement}
use Rattle.step_meaning.specs.Countdown.{AreCounting}
use Rattle.step_meaning.specs.Turns.{IsModerate, count_of, joined}
use Rattle.step_meaning.proofs.count.+turns.Given as goal

abbrev pub decreases-turn : goal.decreases-turn
decreases-turn l = 2 * size_of (statements l.block.now) + 1

abbrev pub decreases-turn_of_one : goal.decreases-turn_of_one
decreases-turn_of_one l = 2 * size_of_statement (statement l.kind.now)

-- the count so far, joined to that of what is left, is that of all
abbrev pub invariant-turn-loop-left : goal.invariant-turn-loop-left
invariant-turn-loop-left l = record {
  fewer : size_of (statements l.left) ≤ size_of (statements l.block);
  fits : l.count.most < 2 ^ 64;
  moderate : IsModerate l.count;
  all : AreCounting l.function (statements l.left) ↔ AreCounting l.function (statements l.block);
  whole : AreCounting l.function (statements l.left) → count_of l.function (statements l.block) ≡ joined l.count (count_of l.function (statements l.left));
}
