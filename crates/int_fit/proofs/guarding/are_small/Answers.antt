use Rattle.std.proofs.Common.{ap₂, sym, ◌∙◌}
use Rattle.step_meaning.specs.declared.expression.Op2.TheVariants.{And}
use Rattle.step_meaning.specs.Syntax.{pair}
use Rattle.int_fit.proofs.Guarded.{no_guard, one_more}
use Rattle.int_fit.proofs.guarding.are_small.Goals as goal

pub loop-place-init : goal.loop-place-init
loop-place-init c = sym no_guard

pub loop-place-preserved : goal.loop-place-preserved
loop-place-preserved c = c.in_ok-test.ensures ∙ ap₂ (pair And) c.loop-place.invariant c.in_ok-one.ensures ∙ one_more c.loop-place.place
