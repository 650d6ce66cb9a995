use Rattle.std.proofs.Common.{◌∷◌, [], ap, length, length-append, take, arith}
use Rattle.call_meaning.specs.Tables.{places_from}
use Rattle.call_inline.proofs.Freeing.{place_more, place_same}
use Rattle.call_inline.proofs.room.count_free.Goals as goal
use Rattle.call_inline.proofs.room.count_free.Goals.{then-is_free, else-is_free}

pub loop-is_free-preserved : goal.loop-is_free-preserved
loop-is_free-preserved c =
    let free = c.args.free.now in
    let i = c.loop-is_free.is_free-index in
    elim c.if-is_free.branch [
      | then-is_free w ↦
          let step = ap length (place_more free i (omega arith) w.if-is_free.true) in
          let both = length-append (places_from 0 (take i free)) (i ∷ []) in
          record { few = omega arith; counted = omega arith }
      | else-is_free w ↦
          let step = ap length (place_same free i (omega arith) w.if-is_free.false) in
          record { few = omega arith; counted = omega arith }
    ]
