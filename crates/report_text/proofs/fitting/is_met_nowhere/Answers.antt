use Rattle.std.proofs.Common.{◌≡◌, ◌++◌, ◌∙◌, List, take, ap, arith, sym, append-nil}
use Rattle.std.proofs.lemmas.List.{take_all}
use Rattle.linear_cons.specs.declared.row.Row.{Row}
use Rattle.report_text.proofs.FitLines.{both_met_nowhere, one_down}
use Rattle.report_text.proofs.fitting.is_met_nowhere.Goals as goal

pub loop-row-init : goal.loop-row-init
loop-row-init c = c.in_ok-trail.ensures ∙ sym (append-nil c.args.rows.now)

pub loop-row-preserved : goal.loop-row-preserved
loop-row-preserved c =
    one_down c.args.rows.now c.args.ranges.now _ _ c.loop-row.row-index c.row-item.result (omega arith) c.row-item.is c.loop-row.invariant
    c.in_ok-down.ensures.down

pub has_no_store-requires : goal.has_no_store-requires
has_no_store-requires c = rw c.items.ensures c.in_ok-tightest.ensures.distinct

pub returns : goal.returns
returns c =
    let all : take c.loop-row.row-index c.args.ranges.now ≡ c.args.ranges.now = take_all _ _ (omega arith) in
    let way : c.loop-row.trail ≡ c.args.rows.now ++ c.args.ranges.now = c.loop-row.invariant ∙ ap (λ (t : List Row). c.args.rows.now ++ t) all in
    both_met_nowhere c.args.rows.now c.args.ranges.now c.loop-row.trail _ _ way c.in_ok-tightest.ensures (rw c.items.ensures at c.in_ok-nowhere.ensures)
