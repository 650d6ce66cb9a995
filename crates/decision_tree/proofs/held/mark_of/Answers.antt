use Rattle.std.proofs.Common.{◌≡◌, ap, ◌∙◌, arith}
use Rattle.decision_tree.specs.Marks.{mark_before, mark_of}
use Rattle.decision_tree.proofs.held.mark_of.Goals as goal

pub returns : goal.returns
unfolding mark_of
returns c =
    let last : c.loop-place.place ≡ 16 = omega arith in
    c.loop-place.invariant ∙ ap (mark_before c.args.row.now.affine) last
