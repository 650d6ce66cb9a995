use Rattle.std.proofs.lemmas.Grind.{common_steps}
use Rattle.std.proofs.Common.{◌≡◌, ◌∙◌, ap, length, subst, sym, arith}
use Rattle.octagon_dom.specs.Cells.{IsBelow, bound}
use Rattle.octagon_dom.specs.Closure.{ArePassed, IsClosed}
use Rattle.octagon_dom.proofs.Writing.{written_back}
use Rattle.octagon_dom.proofs.octagon.Octagon.close_up.Goals as goal

pub returns-then-not-self-clause-same : goal.returns-then-not-self-clause-same
returns-then-not-self-clause-same c store is =
    let len : c.args.self.now.cells.len ≡ 1024 =
    sym c.as_mut_slice.ensures.len ∙ ap length c.as_mut_slice.ensures.value ∙ c.args.self.now.size in
    let back = written_back _ c.close-whole.new.cells _ c.close-whole.ensures.long len in (
      λ has. subst (λ items. IsBelow items store) (sym back)
          (c.close-whole.ensures.keeps store (subst (λ items. IsBelow items store) (sym c.as_mut_slice.ensures.value) has)),
      λ has. subst (λ items. IsBelow items store) c.as_mut_slice.ensures.value
          (c.close-whole.ensures.inside store (subst (λ items. IsBelow items store) back has)),
    )

pub returns-then-not-self-clause-stays : goal.returns-then-not-self-clause-stays
returns-then-not-self-clause-stays c closed i j h g =
    let len : c.args.self.now.cells.len ≡ 1024 =
    sym c.as_mut_slice.ensures.len ∙ ap length c.as_mut_slice.ensures.value ∙ c.args.self.now.size in
    let back = written_back _ c.close-whole.new.cells _ c.close-whole.ensures.long len in
    ap (λ items. bound items i j) back
    ∙ c.close-whole.ensures.stays (subst (λ items. IsClosed (bound items)) (sym c.as_mut_slice.ensures.value) closed) i j h g
    ∙ ap (λ items. bound items i j) c.as_mut_slice.ensures.value

pub returns-then-not-self-clause-passes : goal.returns-then-not-self-clause-passes
returns-then-not-self-clause-passes c wide =
    let len : c.args.self.now.cells.len ≡ 1024 =
    sym c.as_mut_slice.ensures.len ∙ ap length c.as_mut_slice.ensures.value ∙ c.args.self.now.size in
    let back = written_back _ c.close-whole.new.cells _ c.close-whole.ensures.long len in
    subst (ArePassed c.args.self.now.cells.items 32) (sym back)
    (subst (λ items. ArePassed items 32 c.close-whole.new.cells) c.as_mut_slice.ensures.value c.close-whole.ensures.passes)

pub invariant_of-self : goal.invariant_of-self
invariant_of-self c = grind (arith, common_steps)
