use Rattle.std.proofs.Common.{ap, inl, inr, refl}
use Rattle.function_top.specs.ProgramText.{inline_numbered}
use Rattle.function_top.proofs.question.inlined.Goals as goal

pub returns-in-Ok-clause-parsed : goal.returns-in-Ok-clause-parsed
returns-in-Ok-clause-parsed c = λ text short is. record {
  short = short;
  derived = record { unit = c.args.unit; derived = is; names_are = c.in-Ok.ensures.names; means = c.in-Ok.ensures.body };
  stand = record { unit = c.args.unit; derived = is; stand = c.in-Ok.ensures.places };
}

pub returns-in-Ok-clause-own : goal.returns-in-Ok-clause-own
returns-in-Ok-clause-own c = λ text is. record { unit = c.args.unit; derived = is; names_are = refl }

pub returns-in-Err-Nesting-clause-refused : goal.returns-in-Err-Nesting-clause-refused
returns-in-Err-Nesting-clause-refused c = λ task text is.
    inr (inr (inl record {
      unit = c.args.unit;
      derived = is;
      fault = c.in-Err-Nesting.field-0;
      fault_of = c.in-Err-Nesting.ensures.fault;
      number_of = ap inline_numbered c.in-Err-Nesting.field-0-is;
    }))

pub returns-in-Err-Labels-clause-refused : goal.returns-in-Err-Labels-clause-refused
returns-in-Err-Labels-clause-refused c = λ task text is.
    inr (inr (inl record {
      unit = c.args.unit;
      derived = is;
      fault = c.in-Err-Labels.field-0;
      fault_of = c.in-Err-Labels.ensures.fault;
      number_of = ap inline_numbered c.in-Err-Labels.field-0-is;
    }))
