use Rattle.std.proofs.Common.{◌≡◌, None, arith, refl}
use Rattle.std.proofs.lemmas.List.FromFn.{fill_by_all}
use Rattle.octagon_dom.specs.Octagons.{bounds_of_cells, ends_at}
use Rattle.octagon_dom.proofs.ends.bounds_of.Goals as goal

pub returns : goal.returns
unfolding bounds_of_cells
returns c =
    let all : c.loop-place.place ≡ 16 = omega arith in
    let kept = rw all at c.loop-place.invariant in
    rw (fill_by_all (ends_at c.args.cells.now) c.loop-place.ends 16 (None, None) kept.0 kept.1) refl
