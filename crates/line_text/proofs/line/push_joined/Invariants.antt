use Rattle.std.proofs.Common.{◌≡◌, ◌++◌, take}
use Rattle.line_text.specs.Buffer.{BeginsWith, bytes_in}
use Rattle.line_text.specs.LineText.{more_joined}
use Rattle.line_text.proofs.line.push_joined.Given as goal

-- the rows so far stand behind the first, and what stood before stands
abbrev pub invariant-loop-row : goal.invariant-loop-row
invariant-loop-row l = record {
  text : l.text.items ≡ l.initial.text.items ++ more_joined (bytes_in (take l.row-index l.more));
  kept : BeginsWith l.text.items l.initial.text.items;
}
