use Rattle.std.proofs.Common.{arith}
use Rattle.std.proofs.lemmas.Grind.{elements}
use Rattle.normal_form.proofs.negate.+normal_forms.Goals as goal

pub made_opposite-returns : goal.made_opposite-returns
made_opposite-returns t c = grind (arith, elements)
