use Rattle.std.proofs.Common.{◌≡◌}
use Rattle.num_domain.specs.Lines.{rows_of_lines}
use Rattle.octagon_dom.specs.Octagons.{lines_below}
use Rattle.octagon_dom.proofs.listing.rows_of.Given as goal

abbrev pub invariant-loop-k : goal.invariant-loop-k
invariant-loop-k l = l.rows.items ≡ rows_of_lines (lines_below l.k l.cells)
