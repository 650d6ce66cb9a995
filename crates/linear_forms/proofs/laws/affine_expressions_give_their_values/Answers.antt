use Rattle.std.proofs.Common.{subst, sym}
use Rattle.step_meaning.specs.Outcome.{May}
use Rattle.linear_forms.proofs.Exactness.{may_have_value, only_value}
use Rattle.linear_forms.proofs.laws.affine_expressions_give_their_values.Goals as goal

pub returns : goal.returns
returns c = λ store e named affine v. (only_value store e named affine v, λ is. subst (May e store) (sym is) (may_have_value store e named affine))
