use Rattle.std.proofs.Common.{arith}
use Rattle.std.proofs.lemmas.Grind.{common_steps}
use Rattle.step_meaning.proofs.affine.+is_affine.Goals as goal

pub returns-in-Neg : goal.returns-in-Neg
returns-in-Neg t c = grind (arith, common_steps)
