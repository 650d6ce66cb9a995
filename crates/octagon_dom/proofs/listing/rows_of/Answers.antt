use Rattle.std.proofs.Common.{◌≡◌, ◌∙◌, arith, refl, sym}
use Rattle.octagon_dom.specs.Octagons.{rows_of_cells}
use Rattle.octagon_dom.proofs.Listed.{rows_more, rows_none}
use Rattle.octagon_dom.proofs.listing.rows_of.Goals as goal

pub loop-k-init : goal.loop-k-init
loop-k-init c = c.new-rows.ensures.items ∙ sym (rows_none c.args.cells.now)

pub loop-k-preserved : goal.loop-k-preserved
loop-k-preserved c = rw (rows_more, c.in_ok-push_bound.ensures, c.loop-k.invariant) refl

pub returns : goal.returns
unfolding rows_of_cells
returns c =
    let all : c.loop-k.k ≡ 1024 = omega arith in
    rw all at c.loop-k.invariant
