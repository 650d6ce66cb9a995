use Rattle.std.proofs.Common.{◌≡◌, ◌*◌, ◌-◌, ◌^◌, min, length, ap, ◌∙◌, arith}
use Rattle.step_meaning.specs.Syntax.{statements}
use Rattle.control_flow.specs.Labels.{action_at, all_labels}
use Rattle.control_flow.specs.Measures.{size_before}
use Rattle.control_flow.specs.Sizing.{HoldsAt, held, held_at}
use Rattle.control_flow.proofs.Filling.{behind_next, put_behind}
use Rattle.formula_measures.specs.Measures.{until_size}
use Rattle.formula_measures.proofs.Deep.{until_from}
use Rattle.formula_measures.proofs.Loopless.{no_heads}
use Rattle.formula_measures.proofs.Products.{until_kept}
use Rattle.formula_measures.proofs.sizes.fill_one.Goals as goal

pub returns-clause-each : goal.returns-clause-each
returns-clause-each c loopless k g one two behind =
    let body = statements c.args.graph.now.body in
    let sizes = until_size body k g (length (all_labels body)) in
    let label = c.args.label in
    let within = c.requires.within in
    let count = c.requires.count in
    let before = c.size_before-before.ensures sizes
    (behind_next body (HoldsAt sizes c.args.sizes.now) label within (no_heads body loopless label within) behind) in
    put_behind 0 (λ l n. n ≡ held (sizes l)) body c.args.sizes.now label c.saturating_mul-3.result (omega (arith, within, count)) behind
    (c.saturating_mul-3.ensures
    ∙ ap (λ t. min (t * 16) (2 ^ 128 - 1)) (c.saturating_mul-2.ensures ∙ ap (λ t. min (t * c.size_before-before.result) (2 ^ 128 - 1)) c.saturating_mul.ensures)
    ∙ until_kept (2 ^ 128 - 1) (omega arith) (held_at c.args.keep.now label) (held_at c.args.goal.now label) c.size_before-before.result (k label) (g label)
    (size_before sizes (action_at body label)) (one label within) (two label within) before
    ∙ ap held (until_from body loopless k g label c.requires.some within))
