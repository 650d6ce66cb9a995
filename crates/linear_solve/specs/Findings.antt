-- What is found of rows before they are eliminated as a whole.
use Rattle.std.specs.Prelude.{List, ⊤}
use Rattle.linear_cons.specs.declared.row.Row.{Row}
use Rattle.linear_solve.specs.Answers.{HasNoStore, IsPointOf}
use Rattle.linear_solve.specs.declared.attempt.Finding.{Finding}
use Rattle.linear_solve.specs.declared.attempt.Finding.TheVariants.{Nothing, Point}

-- no store meets the rows, or the point meets them all
abbrev pub IsFinding : List Row → Finding → Type 0
IsFinding rows Nothing = HasNoStore rows
IsFinding rows (Point point) = IsPointOf rows point.num point.den

-- no store meets the rows, or a point is proposed that is still to be checked
abbrev pub IsProposal : List Row → Finding → Type 0
IsProposal rows Nothing = HasNoStore rows
IsProposal rows (Point point) = ⊤
