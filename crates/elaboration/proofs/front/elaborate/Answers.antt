use Rattle.std.proofs.Common.{ap, ◌∙◌}
use Rattle.concrete_syntax.specs.Mirror.{program as program_of}
use Rattle.step_meaning.specs.Syntax.{statements}
use Rattle.elaboration.specs.Elaborates.{plain, StandsFor}
use Rattle.elaboration.proofs.Whole.{valid}
use Rattle.elaboration.proofs.front.elaborate.Goals as goal

pub invariant_of-result : goal.invariant_of-result
invariant_of-result c =
    let unit = c.in_ok-parts.ensures.unit in
    let p = program_of c.args.tree.now in
    let stands : StandsFor p c.in_ok-parts.parts.names (statements c.in_ok-body.body) =
    record { faultless = unit.faultless; declares = unit.declares; means = c.in_ok-body.ensures.meaning ∙ ap plain unit.means }
    in
    record { valid = valid p c.in_ok-parts.parts.names c.in_ok-body.body stands }
