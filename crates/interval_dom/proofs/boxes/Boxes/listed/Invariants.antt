use Rattle.std.proofs.Common.{◌≡◌}
use Rattle.num_domain.specs.Lines.{rows_of_lines}
use Rattle.interval_dom.specs.Boxes.{bounds_of, lines_below}
use Rattle.interval_dom.proofs.boxes.Boxes.listed.Given as goal

abbrev pub invariant-loop-place : goal.invariant-loop-place
invariant-loop-place l = l.rows.items ≡ rows_of_lines (lines_below l.place (bounds_of l.self))
