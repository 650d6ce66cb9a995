-- Frames with stores of their own as a transition system.
use Rattle.step_meaning.specs.Outcome.{Store}
use Rattle.step_meaning.specs.Systems.{System}
use Rattle.call_meaning.specs.Units.{Table}
use Rattle.call_meaning.specs.Frames.{Stack, whole_store}
use Rattle.call_meaning.specs.Frames as frames

-- the frames where those of calls begin with the store `fresh`
abbrev pub framed : Table → Store → System
framed table fresh = record { State = Stack; Step = frames.Step table fresh; IsFinal = frames.IsFinal table fresh; store = whole_store }
