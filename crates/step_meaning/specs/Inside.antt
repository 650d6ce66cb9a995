-- Jumps on the way: along the runs of a valid program the mark of its loop stands behind each `break` and `continue` that is still to do.
use Rattle.std.specs.Prelude.{Bool, true, false, [], ◌∷◌, ⊤}
use Rattle.step_meaning.specs.Step.{Todo, one, turn}
use Rattle.step_meaning.specs.Valid.{IsInside, IsInsideStatement}

-- a mark stands in the list
abbrev pub has_mark : Todo → Bool
has_mark [] = false
has_mark (one s ∷ rest) = has_mark rest
has_mark (turn test body step ∷ rest) = true

-- each jump still to do has a mark behind it, or a loop around it
abbrev pub AreInside : Todo → Type 0
AreInside [] = ⊤
AreInside (one s ∷ rest) = IsInsideStatement (has_mark rest) s × AreInside rest
AreInside (turn test body step ∷ rest) = IsInside true body × IsInside (has_mark rest) step × AreInside rest
