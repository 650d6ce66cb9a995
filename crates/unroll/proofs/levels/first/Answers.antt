use Rattle.std.proofs.Common.{inl, inr, Err, sym, ap, subst}
use Rattle.step_meaning.specs.Syntax.{statements}
use Rattle.control_flow.specs.Sizing.{HasSizes}
use Rattle.unroll.specs.Refusals.{IsRefusalAt}
use Rattle.unroll.proofs.Refusing.{refused_at, refused_by, told_of}
use Rattle.unroll.proofs.levels.first.Goals as goal

pub returns-in_err-check_sizes-clause-refusal : goal.returns-in_err-check_sizes-clause-refusal
returns-in_err-check_sizes-clause-refusal c =
    let body = statements c.args.graph.now.body in
    told_of (IsRefusalAt body 0) _ _ c.from_residual-in_err-check_sizes.ensures.1
    (refused_by body 0 _ c.in_err-check_sizes.ensures.nodes
    (c.in_err-check_sizes.ensures.heavy 0 (subst (HasSizes body 0) (sym c.deref.ensures.value) c.in_ok-sizes.ensures.sizes)))

pub returns-in-Err-clause-refusal : goal.returns-in-Err-clause-refusal
returns-in-Err-clause-refusal c =
    let body = statements c.args.graph.now.body in (
      c.in-Err.ensures.operands,
      c.in_ok-check_sizes.ensures.light 0 (subst (HasSizes body 0) (sym c.deref.ensures.value) c.in_ok-sizes.ensures.sizes),
      inl c.in-Err.ensures.wide,
    )

pub returns-in_err-trees-clause-refusal : goal.returns-in_err-trees-clause-refusal
returns-in_err-trees-clause-refusal c =
    let body = statements c.args.graph.now.body in
    told_of (IsRefusalAt body 0) _ _ c.from_residual-in_err-trees.ensures.1
    (refused_at body 0 _ (c.in_ok-check_sizes.ensures.light 0 (subst (HasSizes body 0) (sym c.deref.ensures.value) c.in_ok-sizes.ensures.sizes))
    c.in_err-trees.ensures.refusal (λ count is. c.in_err-trees.ensures.full count (ap Err is))
    (λ operands is. inr (c.in_err-trees.ensures.wide operands (ap Err is))))

pub returns-clause-light : goal.returns-clause-light
returns-clause-light c =
    c.in_ok-check_sizes.ensures.light 0 (subst (HasSizes (statements c.args.graph.now.body) 0) (sym c.deref.ensures.value) c.in_ok-sizes.ensures.sizes)
