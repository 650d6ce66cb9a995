-- The text is what was read so far, with no fault, and a piece has room.
use Rattle.std.proofs.Common.{◌≡◌, ◌+◌, ◌-◌, ◌≤◌, vec_len}
use Rattle.std.specs.Io.KnownBytes.{Consumes}
use Rattle.outside.proofs.reading.read_up_to.Given as goal

abbrev pub invariant-loop-text : goal.invariant-loop-text
invariant-loop-text g l = record {
  within : vec_len l.text ≤ l.limit + 1;
  piece : vec_len l.piece ≡ l.piece_len;
  read : Consumes (g.S.Source.left l.fn.source) (g.S.Source.left l.source) l.text.items;
  stays : g.S.Source.faults l.source ≡ g.S.Source.faults l.fn.source;
}

abbrev pub decreases-loop-text : goal.decreases-loop-text
decreases-loop-text g l = l.limit + 1 - vec_len l.text
