use Rattle.std.proofs.Common.{◌<◌, length, get_or, arith}
use Rattle.std.proofs.lemmas.List.{get_or_default}
use Rattle.report_text.proofs.Spelling.{advisers_more}
use Rattle.report_text.proofs.printing.push_advisers.Goals as goal

pub loop-index-preserved : goal.loop-index-preserved
loop-index-preserved c =
    let low : c.loop-index.index < length c.args.asked.now = omega arith in
    let times = get_or c.args.asked.now c.loop-index.index 0 in
    advisers_more c.args.asked.now c.loop-index.index times _ _ _ _ _ low (get_or_default c.args.asked.now c.loop-index.index 0 times low) c.loop-index.invariant c.in_ok-extend_from_slice.ensures.items c.in_ok-push_numeral.ensures.text c.in_ok-push_counted.ensures
