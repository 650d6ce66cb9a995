use Rattle.std.proofs.Common.{◌≡◌, length, arith, rules, refl}
use Rattle.interval_dom.proofs.BoxLaws.{ends_all}
use Rattle.interval_dom.proofs.boxes.Boxes.ends.Goals as goal

pub returns : goal.returns
returns c =
    let long : length c.args.self.now.intervals ≡ 16 = search rules in
    let all : c.loop-place.place ≡ 16 = omega arith in
    let kept = rw all at c.loop-place.invariant in
    rw (ends_all c.args.self.now c.loop-place.ends long kept.0 kept.1) refl
