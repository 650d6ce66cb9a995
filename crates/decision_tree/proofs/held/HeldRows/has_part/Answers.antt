use Rattle.std.proofs.Common.{◌<◌, List, length, sym, subst}
use Rattle.linear_cons.specs.declared.row.Row.{Row}
use Rattle.decision_tree.proofs.Marking.{no_part}
use Rattle.decision_tree.proofs.held.HeldRows.has_part.Goals as goal

pub returns-else-index-mark : goal.returns-else-index-mark
returns-else-index-mark c d =
    rw (← c.self.view_is) (no_part c.self.inside.rows.items c.self.inside.marks.items c.args.row.now c.args.place c.index.result.now c.args.mark record {
      within = subst (λ (list : List Row). c.args.place < length list) (sym c.self.view_is) c.requires.within;
      all = c.self.invariant;
      there = c.index.ensures;
      own = c.requires.mark;
      apart = c.if-index-mark.false;
    } d)
