use Rattle.std.proofs.Common.{◌∙◌, arith, sym}
use Rattle.std.proofs.lemmas.Grind.{common_steps}
use Rattle.step_meaning.specs.Syntax.{statements}
use Rattle.forward_inv.specs.Sets.{kept_at}
use Rattle.forward_inv.proofs.Holding.{free_entry, inductive_by}
use Rattle.forward_inv.proofs.keeping.are_inductive.Goals as goal

pub returns : goal.returns
returns g c truth =
    let body = statements c.args.graph.now.body in
    let rows_at = kept_at g.D.NumDomain.told_rows c.args.guesses.now c.args.marks.now in
    let low = c.edges_lead_to_labels.ensures.entry body in
    let count = c.requires.count in
    inductive_by g.D.NumDomain.has body c.args.sets.now count
    (rw c.entry.ensures at (free_entry g.D.NumDomain.has rows_at c.args.sets.now c.entry.result c.requires.holds
    (sym c.in_ok-free.ensures ∙ sym c.deref.ensures.value ∙ c.has_no_row.ensures c.if-not-has_no_row.false) (rw c.entry.ensures (omega (arith, low, count)))))
    (λ label low. c.loop-label.invariant label (let end = c.loop-label-test.false in let last = c.labels-label-end.ensures.count in omega (arith, low, end, last)))

pub are_kept-requires : goal.are_kept-requires
are_kept-requires g c = grind (arith, common_steps)
