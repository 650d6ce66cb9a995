use Rattle.std.proofs.Common.{ℕ, ◌<◌}
use Rattle.octagon_dom.specs.Cells.{bound}
use Rattle.octagon_dom.specs.Closure.{IsModerateAt}
use Rattle.octagon_dom.proofs.cells.are_moderate.Given as goal

abbrev pub invariant-loop-i : goal.invariant-loop-i
invariant-loop-i l = (k : ℕ) → k < l.i → IsModerateAt (bound l.cells) k
