use Rattle.std.proofs.Common.{◌<◌, List, length, sym, subst, ◌∙◌}
use Rattle.linear_cons.specs.Functions.{complement_of}
use Rattle.linear_cons.specs.declared.row.Row.{Row}
use Rattle.decision_tree.proofs.Marking.{not_opposed, told_at}
use Rattle.decision_tree.proofs.held.HeldRows.opposes_at.Goals as goal

pub returns-then-index-mark : goal.returns-then-index-mark
returns-then-index-mark c d =
    let given = c.index-then-index-mark.result.now in
    let low : c.args.place < length c.self.inside.rows.items = subst (λ (list : List Row). c.args.place < length list) (sym c.self.view_is) c.requires.within in
    rw (← c.self.view_is) (c.refutes.ensures ∙ told_at c.self.inside.rows.items (complement_of c.args.row.now.affine) c.args.place given low c.index-then-index-mark.ensures d)

pub returns-else-index-mark : goal.returns-else-index-mark
returns-else-index-mark c d =
    rw (← c.self.view_is) (not_opposed c.self.inside.rows.items c.self.inside.marks.items c.args.row.now c.args.place c.index.result.now c.args.mark record {
      within = subst (λ (list : List Row). c.args.place < length list) (sym c.self.view_is) c.requires.within;
      all = c.self.invariant;
      there = c.index.ensures;
      own = c.requires.mark;
      apart = c.if-index-mark.false;
    } d)
