use Rattle.std.proofs.Common.{◌<◌, length, sym, ap, arith, ◌∙◌}
use Rattle.decision_tree.proofs.Gathering.{place_found, place_none}
use Rattle.decision_tree.proofs.held.HeldRows.place_of.Goals as goal

pub returns-then-has_part : goal.returns-then-has_part
returns-then-has_part c =
    let low : c.loop-place.place < length c.args.self.now = (let same = ap length c.rows-place-end.ensures in omega (arith, same)) in (
      low,
      λ d. sym (c.has_part.ensures d) ∙ c.if-has_part.true,
      λ d. place_found c.args.self.now c.args.row.now c.loop-place.place d low c.loop-place.invariant (sym (c.has_part.ensures d) ∙ c.if-has_part.true),
    )

pub returns : goal.returns
returns c = place_none c.args.self.now c.args.row.now (λ k d low. c.loop-place.invariant k d (let same = ap length c.rows-place-end.ensures in omega (arith, same)))
