use Rattle.std.proofs.Common.{◌≡◌, ◌∙◌, ap, length, subst, sym, arith}
use Rattle.std.proofs.lemmas.Grind.{common_steps}
use Rattle.octagon_dom.specs.Cells.{IsBelow}
use Rattle.octagon_dom.specs.Laws.Rows.{empty_none}
use Rattle.octagon_dom.proofs.Members.{widened_newer, widened_own}
use Rattle.octagon_dom.proofs.Writing.{written_back}
use Rattle.octagon_dom.proofs.octagon.Octagon.stretch.Goals as goal

pub returns-then-has_none-clause-others : goal.returns-then-has_none-clause-others
returns-then-has_none-clause-others c store is has = absurd (empty_none c.args.newer.now store (sym c.has_none.ensures
    ∙ c.if-has_none.true) has)

pub returns-then-has_none-2-clause-own : goal.returns-then-has_none-2-clause-own
returns-then-has_none-2-clause-own c store is has =
    absurd (empty_none c.args.self.now store (sym c.has_none-2.ensures ∙ c.if-has_none-2.true) has)

pub returns-clause-own : goal.returns-clause-own
returns-clause-own c store is has =
    let len : c.args.self.now.cells.len ≡ 1024 = sym c.as_mut_slice.ensures.len ∙ ap length c.as_mut_slice.ensures.value
    ∙ c.args.self.now.size in
    let before = subst (λ items. IsBelow items store) (sym c.as_mut_slice.ensures.value) has in
    subst (λ items. IsBelow items store) (sym (written_back _ c.widen.new.cells _ c.widen.ensures.long len))
    (widened_own _ _ _ c.widen.ensures store before)

pub returns-clause-others : goal.returns-clause-others
returns-clause-others c store is has =
    let len : c.args.self.now.cells.len ≡ 1024 = sym c.as_mut_slice.ensures.len ∙ ap length c.as_mut_slice.ensures.value
    ∙ c.args.self.now.size in
    let before = subst (λ items. IsBelow items store) (sym c.deref.ensures.value) has in
    subst (λ items. IsBelow items store) (sym (written_back _ c.widen.new.cells _ c.widen.ensures.long len))
    (widened_newer _ _ _ c.widen.ensures store before)

pub invariant_of-self : goal.invariant_of-self
invariant_of-self c = grind (arith, common_steps)

pub returns-clause-unmarks : goal.returns-clause-unmarks
returns-clause-unmarks c = grind (arith, common_steps)
