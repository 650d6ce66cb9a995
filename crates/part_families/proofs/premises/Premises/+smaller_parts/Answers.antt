use Rattle.std.proofs.Common.{◌≡◌, ℕ, inl, inr, suc, ap, subst, ◌∙◌}
use Rattle.ctl_formula.specs.Mirror.{ctl}
use Rattle.ctl_formula.specs.Parts.{number_from}
use Rattle.part_families.specs.Knowing.{told_on}
use Rattle.part_families.specs.Showing.{AreShown, AreSmaller}
use Rattle.part_families.proofs.Combining.{HasOne, HasTwo, with_one, with_two}
use Rattle.part_families.proofs.premises.Premises.+smaller_parts.Goals as goal

pub returns-in_ok-found-in-And : goal.returns-in_ok-found-in-And
returns-in_ok-found-in-And g t c =
    let program = c.args.self.now.graph.now in
    let told = told_on g.D.NumDomain c.args.self.now in
    let count = c.args.self.now.labels in
    let k = c.args.first in
    let h = ctl c.args.formula.now in
    let f = ctl c.in-And.left.value in
    let other = ctl c.in-And.right.value in
    let first = c.in_ok-left-in-And.left in
    let second = c.in_ok-right-in-And.right in
    let below : AreSmaller program told count k f c.in_ok-below-in-And.below = rw c.deref.ensures at c.in_ok-below-in-And.ensures in
    let shown : (n : ℕ) → AreSmaller program told count n f c.in_ok-below-in-And.below → AreShown program told count n f first =
    rw c.deref-in-And.ensures at c.in_ok-left-in-And.ensures in
    let one : AreShown program told count k f first = shown k below in
    let behind : c.in_ok-second-in-And.second ≡ suc (number_from k f) = c.in_ok-second-in-And.ensures ∙ ap suc one.number in
    let below_other : AreSmaller program told count c.in_ok-second-in-And.second other c.in_ok-below-in-And-2.below =
    rw c.deref-in-And-2.ensures at c.in_ok-below-in-And-2.ensures in
    let shown_other : (n : ℕ) → AreSmaller program told count n other c.in_ok-below-in-And-2.below → AreShown program told count n other second =
    rw c.deref-in-And-3.ensures at c.in_ok-right-in-And.ensures in
    let two : AreShown program told count (suc (number_from k f)) other second =
    subst (λ n. AreShown program told count n other second) behind (shown_other c.in_ok-second-in-And.second below_other) in
    let has : HasTwo h f other = elim c.in-And.is [
      | inl is ↦ inl (ap ctl is)
      | inr (inl is) ↦ inr (inl (ap ctl is))
      | inr (inr (inl (all, is))) ↦ inr (inr (inl (all, ap ctl is)))
      | inr (inr (inr (all, is))) ↦ inr (inr (inr (all, ap ctl is)))
    ] in
    let own = c.in_ok-found-in-And.ensures in
    with_two program told count k f other first second one two c.in_ok-found-in-And.found own.operands own.of_first own.of_second own.number h has

pub returns-in_ok-found-in-Not : goal.returns-in_ok-found-in-Not
returns-in_ok-found-in-Not g t c =
    let program = c.args.self.now.graph.now in
    let told = told_on g.D.NumDomain c.args.self.now in
    let count = c.args.self.now.labels in
    let k = c.args.first in
    let h = ctl c.args.formula.now in
    let f = ctl c.in-Not.part.value in
    let part = c.in_ok-part-in-Not.part in
    let below : AreSmaller program told count k f c.in_ok-below-in-Not.below = rw c.deref-in-Not.ensures at c.in_ok-below-in-Not.ensures in
    let shown : (n : ℕ) → AreSmaller program told count n f c.in_ok-below-in-Not.below → AreShown program told count n f part =
    rw c.deref-in-Not-2.ensures at c.in_ok-part-in-Not.ensures in
    let one : AreShown program told count k f part = shown k below in
    let has : HasOne h f = elim c.in-Not.is [
      | inl is ↦ inl (ap ctl is)
      | inr (all, is) ↦ inr (all, ap ctl is)
    ] in
    let own = c.in_ok-found-in-Not.ensures in
    with_one program told count k f part one c.in_ok-found-in-Not.found own.operands own.of_first own.of_second own.number h has
