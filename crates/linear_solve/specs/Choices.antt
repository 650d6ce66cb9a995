-- A place that is chosen.
use Rattle.std.specs.Prelude.{◌≡◌, ◌<◌, List, true}
use Rattle.linear_cons.specs.declared.row.Row.{Row}
use Rattle.linear_solve.specs.Systems.{occurs}
use Rattle.linear_solve.specs.declared.order.Choice.{Choice}

-- the chosen place occurs in the rows
abbrev pub IsAmong : List Row → Choice → Type 0
IsAmong rows choice = (choice.place < 16) × (occurs choice.place rows ≡ true)
