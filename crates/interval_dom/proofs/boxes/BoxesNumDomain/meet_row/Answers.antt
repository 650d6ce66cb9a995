use Rattle.std.proofs.Common.{◌≢◌, ◌-◌, ◌^◌, negsuc, arith}
use Rattle.std.proofs.lemmas.Int.{ints}
use Rattle.interval_dom.proofs.boxes.BoxesNumDomain.meet_row.Goals as goal

pub returns-clause-plain : goal.returns-clause-plain
returns-clause-plain c place plain store is has =
    let small = plain.small in
    let fits : c.args.row.now.affine.constant ≢ negsuc (2 ^ 127 - 1) = λ least. omega (arith, ints, least) in
    c.refine.ensures.alone place (record { inside = plain.inside; alone = plain.alone; fits = fits }) store is has

pub returns-clause-exact : goal.returns-clause-exact
returns-clause-exact c place one store is = (
  λ has. (c.refine.ensures.inside store is has, c.refine.ensures.alone place one store is has),
  λ both. c.refine.ensures.keeps store is both.0 both.1,
)
