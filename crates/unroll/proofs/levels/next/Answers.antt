use Rattle.std.proofs.Common.{inr, ◌≡◌, ℕ, suc, Err, List, length, sym, ap, subst, ◌∙◌}
use Rattle.step_meaning.specs.Syntax.{Statements, statements}
use Rattle.control_flow.specs.Sizing.{HasSizes}
use Rattle.unroll.specs.Refusals.{IsRefusalAt}
use Rattle.unroll.proofs.Refusing.{refused_at, refused_by, told_of}
use Rattle.unroll.proofs.levels.next.Goals as goal

-- the sizes of the next level
more_sizes : (body : Statements) (tests : ℕ) (last own made given : List ℕ) → last ≡ own → given ≡ made
    → ((level : ℕ) → HasSizes body level last → HasSizes body (suc level) made) → HasSizes body tests own → HasSizes body (suc tests) given
more_sizes body tests last own made given same alike more has =
    subst (HasSizes body (suc tests)) (sym alike) (more tests (subst (HasSizes body tests) (sym same) has))

pub next_sizes-requires : goal.next_sizes-requires
next_sizes-requires c = ap length c.deref.ensures.value ∙ c.requires.sizes_count

pub returns-clause-tells : goal.returns-clause-tells
returns-clause-tells c tests tell = c.in_ok-trees.ensures.tells tests (rw c.deref-3.ensures.value tell)

pub returns-in_err-check_sizes-clause-refusal : goal.returns-in_err-check_sizes-clause-refusal
returns-in_err-check_sizes-clause-refusal c tests small has tell =
    let body = statements c.args.graph.now.body in
    told_of (IsRefusalAt body (suc tests)) _ _ c.from_residual-in_err-check_sizes.ensures.1
    (refused_by body (suc tests) _ c.in_err-check_sizes.ensures.nodes
    (c.in_err-check_sizes.ensures.heavy (suc tests) (more_sizes body tests _ _ _ _ c.deref.ensures.value c.deref-2.ensures.value c.in_ok-sizes.ensures.sizes has)))

pub returns-in_err-trees-clause-refusal : goal.returns-in_err-trees-clause-refusal
returns-in_err-trees-clause-refusal c tests small has tell =
    let body = statements c.args.graph.now.body in
    told_of (IsRefusalAt body (suc tests)) _ _ c.from_residual-in_err-trees.ensures.1
    (refused_at body (suc tests) _
    (c.in_ok-check_sizes.ensures.light (suc tests) (more_sizes body tests _ _ _ _ c.deref.ensures.value c.deref-2.ensures.value c.in_ok-sizes.ensures.sizes has))
    c.in_err-trees.ensures.refusal (λ count is. c.in_err-trees.ensures.full tests count (rw c.deref-3.ensures.value tell) (ap Err is))
    (λ operands is. inr (c.in_err-trees.ensures.wide tests operands small (rw c.deref-3.ensures.value tell) (ap Err is))))

pub returns-clause-light : goal.returns-clause-light
returns-clause-light c tests has =
    c.in_ok-check_sizes.ensures.light (suc tests)
    (more_sizes (statements c.args.graph.now.body) tests _ _ _ _ c.deref.ensures.value c.deref-2.ensures.value c.in_ok-sizes.ensures.sizes has)
