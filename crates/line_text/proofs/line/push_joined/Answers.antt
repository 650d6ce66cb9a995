use Rattle.std.proofs.lemmas.Grind.{common_steps}
use Rattle.std.proofs.Common.{arith}
use Rattle.line_text.proofs.Buffers.{kept_added, kept_after}
use Rattle.line_text.proofs.Joined.{rows_more}
use Rattle.line_text.proofs.line.push_joined.Goals as goal

pub loop-row-preserved : goal.loop-row-preserved
loop-row-preserved c =
    let first = c.in_ok-extend_from_slice-2.ensures.items in
    let row = rw c.deref-in-loop-row.ensures.value at c.in_ok-extend_from_slice-3.ensures.items in
    let step = rw first at row in
    record {
      text = rows_more _ _ c.row-item.result _ _ _ (omega arith) c.row-item.is c.loop-row.invariant.text step;
      kept = kept_after (kept_after c.loop-row.invariant.kept (kept_added _ _ _ first)) (kept_added _ _ _ row);
    }

pub returns-in_default-clause-text : goal.returns-in_default-clause-text
returns-in_default-clause-text c = grind (arith, common_steps)

pub returns-in_err-extend_from_slice-2-clause-kept : goal.returns-in_err-extend_from_slice-2-clause-kept
returns-in_err-extend_from_slice-2-clause-kept c = grind (arith, common_steps)

pub returns-in_err-extend_from_slice-3-clause-kept : goal.returns-in_err-extend_from_slice-3-clause-kept
returns-in_err-extend_from_slice-3-clause-kept c = grind (arith, common_steps)

pub returns-clause-text : goal.returns-clause-text
returns-clause-text c = grind (arith, common_steps)

pub returns-clause-kept : goal.returns-clause-kept
returns-clause-kept c = grind (arith, common_steps)
