use Rattle.std.proofs.Common.{◌∙◌, ◌<◌, ◌^◌, ◌-◌, ◌∷◌, ◌++◌, [], take, length, sym, subst, ap, rules, arith}
use Rattle.std.proofs.lemmas.List.{get_or-take, length-take-le, take_more}
use Rattle.fault_words.specs.Places.{IsBehind}
use Rattle.fault_words.proofs.Behind.{column_bounded, line_bounded}
use Rattle.fault_words.proofs.place.Place.of.Goals as goal

pub behind-place-requires : goal.behind-place-requires
behind-place-requires c =
    let front = take c.loop-byte.byte-index c.args.text.now in
    let line = line_bounded front c.loop-byte.place c.loop-byte.invariant in
    let column = column_bounded front c.loop-byte.place c.loop-byte.invariant in
    let long = length-take-le c.loop-byte.byte-index c.args.text.now (search rules) in
    let low : c.loop-byte.byte-index < 2 ^ 64 - 2 = search rules in (omega (arith, line, long, low), omega (arith, column, long, low))

pub loop-byte-preserved : goal.loop-byte-preserved
loop-byte-preserved c =
    let text = c.args.text.now in let i = c.loop-byte.byte-index in
    let within : i < c.args.offset = let low = c.loop-byte-test.true in let long = length-take-le c.args.offset text c.requires in omega (arith, low, long) in
    let inside : i < length text = let most = c.requires in omega (arith, most, within) in
    subst (λ front. IsBehind front c.behind-place.result) (ap (λ b. take i text ++ b ∷ []) (get_or-take c.args.offset text i 0 within) ∙ sym (take_more text i 0 inside))
    (c.behind-place.ensures (take i text) c.loop-byte.invariant)
