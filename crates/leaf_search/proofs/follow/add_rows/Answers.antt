use Rattle.std.proofs.Common.{Ok, sym, arith}
use Rattle.constraint_stack.proofs.Choosing.{rows_longer, wide_longer}
use Rattle.linear_cons.specs.declared.row.RowKind.TheVariants.{Row as Kept}
use Rattle.linear_cons.proofs.KindLaws.{primitive_kind}
use Rattle.leaf_search.proofs.Following.{row_end, row_held, row_nowhere}
use Rattle.leaf_search.proofs.follow.add_rows.Goals as goal

pub returns-then-not-branch-clause-nowhere : goal.returns-then-not-branch-clause-nowhere
returns-then-not-branch-clause-nowhere c same asks held =
    row_nowhere asks c.args.rows.now c.loop-row.row-index c.row-item.result (Kept c.row-item.result) c.loop-row.stack.rows c.add_row.new.self.rows c.loop-row.stack.wide c.add_row.new.self.wide (omega arith) c.row-item.is (sym (primitive_kind c.row-item.result.affine c.row-item.result.primitive c.has_sixteen_places.ensures))
    (c.loop-row.invariant.1 asks held) (rw c.if-not-branch.true at c.in_ok-add_row.ensures)

pub loop-row-preserved : goal.loop-row-preserved
loop-row-preserved c = (
  (
    rows_longer c.args.stack.now.rows c.loop-row.stack.rows c.add_row.new.self.rows (Ok (Kept c.row-item.result)) c.loop-row.stack.wide c.add_row.new.self.wide c.in_ok-add_row.field-0 c.loop-row.invariant.0.0 c.in_ok-add_row.ensures,
    wide_longer c.args.stack.now.wide c.loop-row.stack.wide c.add_row.new.self.wide (Ok (Kept c.row-item.result)) c.loop-row.stack.rows c.add_row.new.self.rows c.in_ok-add_row.field-0 c.loop-row.invariant.0.1 c.in_ok-add_row.ensures,
  ),
  λ asks held.
      row_held asks c.args.rows.now c.loop-row.row-index c.row-item.result (Kept c.row-item.result) c.loop-row.stack.rows c.add_row.new.self.rows c.loop-row.stack.wide c.add_row.new.self.wide (omega arith) c.row-item.is (sym (primitive_kind c.row-item.result.affine c.row-item.result.primitive c.has_sixteen_places.ensures))
      (c.loop-row.invariant.1 asks held) (rw c.if-not-branch.false at c.in_ok-add_row.ensures),
)

pub returns-clause-held : goal.returns-clause-held
returns-clause-held c same asks held =
    row_end asks c.args.rows.now c.loop-row.stack.rows c.loop-row.stack.wide c.loop-row.row-index (omega arith) (c.loop-row.invariant.1 asks held)
