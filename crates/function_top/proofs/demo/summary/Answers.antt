use Rattle.std.proofs.Common.{◌∷◌, ◌++◌, [], codes, length}
use Rattle.line_text.specs.Numeral.{numeral}
use Rattle.function_top.proofs.Summing.{summed}
use Rattle.function_top.proofs.demo.summary.Goals as goal

pub returns : goal.returns
returns c =
    let begun = c.in_ok-push_counted.ensures in
    let counted = rw c.new-text.ensures.items at begun in
    let first = rw c.from.ensures at counted in
    let second = c.in_ok-push_counted-2.ensures in
    let labelled = c.in_ok-push_counted-3.ensures in
    let third = rw c.from-2.ensures at labelled in
    let proved = c.in_ok-push_counted-4.ensures in
    let fourth = rw c.items.ensures at proved in
    summed (codes "demo ") (numeral c.args.number) (codes "bytes ") (numeral c.args.bytes) (codes "labels ") (numeral c.args.labels) (codes "proved lines ")
    (numeral (length c.args.report.now.proved)) (codes "verdict: all inputs" ++ 10 ∷ []) _ _ _ _ _ first second third fourth
    c.in_ok-extend_from_slice.ensures.items
