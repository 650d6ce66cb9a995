use Rattle.function_top.proofs.Named.{own_named, programs_named}
use Rattle.function_top.proofs.Parsed.{one_program, one_main, own_fewer}
use Rattle.function_top.proofs.laws.texts_are_known.Goals as goal

pub returns : goal.returns
returns c = record {
  unique = one_program c.a_text_is_one_unit.ensures;
  formulas = c.a_text_is_one_formula.ensures;
  named = programs_named c.names_of_units_are_spelled_as_names.ensures;
  own_unique = one_main c.a_text_is_one_unit.ensures;
  own_named = own_named c.names_of_units_are_spelled_as_names.ensures;
  own_fewer = own_fewer c.a_text_is_one_unit.ensures;
  variables = c.texts_name_their_variables.ensures;
  normal_variables = c.normal_forms_keep_variables.ensures;
  opening = c.lines_have_their_own_form.ensures.opening;
  lines = λ names are. record {
    newline = λ line condition claim. c.lines_have_their_own_form.ensures.newline names line condition claim are;
    one = λ line condition other claim claim'. c.a_line_spells_at_most_one_claim.ensures names line condition other claim claim' are;
  };
  alone = λ names are. record {
    newline = λ line claim. c.claims_have_their_own_form.ensures.newline names line claim are;
    one = λ line claim other. c.a_line_tells_at_most_one_claim.ensures names line claim other are;
    apart = λ line condition claim other. c.claims_have_their_own_form.ensures.apart names line condition claim other are;
    colon = λ line claim. c.claims_have_their_own_form.ensures.colon names line claim are;
  };
}
