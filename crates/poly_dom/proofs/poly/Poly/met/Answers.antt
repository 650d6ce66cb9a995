use Rattle.std.proofs.Common.{refl}
use Rattle.linear_solve.specs.Answers.{HasNoStore}
use Rattle.poly_dom.proofs.AddedRows.{none_added}
use Rattle.poly_dom.proofs.poly.Poly.met.Goals as goal

pub invariant_of-result : goal.invariant_of-result
invariant_of-result c =
    let added = rw c.deref.ensures.value at c.in_ok-rows.ensures in
    let none : HasNoStore c.in_ok-rows.rows.items =
    none_added c.args.row.now c.args.self.now.rows.items c.in_ok-rows.rows.items added (c.if-excludes.ensures.room refl) (c.if-excludes.ensures.opposed refl) in
    record {
      few = added.few;
      void = λ empty. none;
      around = λ store long met. absurd (none store met);
    }
