use Rattle.std.proofs.Common.{◌≡◌, [], take}
use Rattle.call_meaning.specs.Tables.{places_from}
use Rattle.call_inline.proofs.layout.has_free.Given as goal

abbrev pub invariant-loop-place : goal.invariant-loop-place
invariant-loop-place l = places_from 0 (take l.place-index l.free) ≡ []
