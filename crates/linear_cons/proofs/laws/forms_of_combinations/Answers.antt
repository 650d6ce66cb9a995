use Rattle.linear_cons.proofs.Forms.{form_constant, form_difference, form_multiple, form_sum, form_variable}
use Rattle.linear_cons.proofs.laws.forms_of_combinations.Goals as goal

pub returns : goal.returns
returns c = record { constant = form_constant; variable = form_variable; sum = form_sum; difference = form_difference; multiple = form_multiple }
