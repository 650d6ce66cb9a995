use Rattle.std.proofs.Common.{◌≡◌, ◌++◌, reverse, vec_len}
use Rattle.report_text.specs.Leaves.{claiming, claiming_nothing}
use Rattle.report_text.proofs.line_list.Lines.parted.Given as goal

abbrev pub decreases-loop-line : goal.decreases-loop-line
decreases-loop-line l = vec_len l.lines

abbrev pub invariant-loop-line : goal.invariant-loop-line
invariant-loop-line l =
    (l.claimed.items ++ claiming (reverse l.lines.items) ≡ claiming (reverse l.initial.lines.items))
    × (l.unknown.items ++ claiming_nothing (reverse l.lines.items) ≡ claiming_nothing (reverse l.initial.lines.items))
