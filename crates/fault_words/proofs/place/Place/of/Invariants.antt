use Rattle.std.specs.Prelude.{take}
use Rattle.fault_words.specs.Places.{IsBehind}
use Rattle.fault_words.proofs.place.Place.of.Given as goal

abbrev pub invariant-loop-byte : goal.invariant-loop-byte
invariant-loop-byte l = IsBehind (take l.byte-index l.text) l.place
