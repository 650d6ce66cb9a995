use Rattle.std.proofs.Common.{◌≡◌, ◌+◌, ◌∷◌, [], ◌++◌, length, replicate, take, sym, ap, ◌∙◌, arith}
use Rattle.step_meaning.specs.Syntax as syntax
use Rattle.call_meaning.specs.Tables.{places_from}
use Rattle.call_inline.specs.Inlined.{followed, freed, single}
use Rattle.call_inline.proofs.Adding.{added_both, added_same, freed_more, offsets_more}
use Rattle.call_inline.proofs.Freeing.{place_more, place_same}
use Rattle.call_inline.proofs.writer.add_choices.Goals as goal
use Rattle.call_inline.proofs.writer.add_choices.Goals.{then-is_free+in_ok-add, else-is_free}

pub loop-is_free-preserved : goal.loop-is_free-preserved
loop-is_free-preserved c =
    let free = c.args.free.now in
    let i = c.loop-is_free.is_free-index in
    let base = c.args.base in
    let at = c.args.at in
    let h = c.loop-is_free.invariant in
    let place = h.place in
    let before = c.args.list.now.items in
    let list = c.loop-is_free.list.items in
    let now = places_from 0 (take i free) in
    let next = places_from 0 (take (i + 1) free) in
    elim c.if-is_free.branch [
      | then-is_free+in_ok-add w ↦
          let more : next ≡ now ++ i ∷ [] = place_more free i (omega arith) w.if-is_free.true in
          let one = single (syntax.assign c.loop-is_free.place syntax.free) in
          let both = added_both (freed base now) one (replicate (length now) at) (at ∷ []) before list w.add.new.list.items h.added w.in_ok-add.ensures in
          let made = ap (λ p. followed (freed base now) (single (syntax.assign p syntax.free))) place ∙ sym (freed_more base now i) ∙ sym (ap (freed base) more) in
          let places = sym (offsets_more at now i) ∙ sym (ap (λ l. replicate (length l) at) more) in
          let added = added_same (followed (freed base now) one) (freed base next) (replicate (length now) at ++ at ∷ []) (replicate (length next) at) before w.add.new.list.items
          made places both in
          record { place = omega arith; added = rw w.list-is added }
      | else-is_free w ↦
          let same : next ≡ now = place_same free i (omega arith) w.if-is_free.false in
          let added = added_same (freed base now) (freed base next) (replicate (length now) at) (replicate (length next) at) before list
          (sym (ap (freed base) same)) (sym (ap (λ l. replicate (length l) at) same)) h.added in
          record { place = omega arith; added = rw w.list-is added }
    ]
