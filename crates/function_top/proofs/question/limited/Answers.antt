use Rattle.std.proofs.Common.{ap, inr, subst, sym}
use Rattle.function_top.specs.Output.{flow_numbered}
use Rattle.function_top.specs.Text.{IsGraphOf}
use Rattle.function_top.proofs.question.limited.Goals as goal

pub returns-in-Ok-clause-graph : goal.returns-in-Ok-clause-graph
returns-in-Ok-clause-graph c = λ text parsed.
    subst (IsGraphOf text) (sym c.in-Ok.ensures.program)
    (record { parsed = parsed; labels = c.in-Ok.ensures.labels; conjunctions = c.in-Ok.ensures.conjunctions })

pub returns-in-Err-Labels-clause-refused : goal.returns-in-Err-Labels-clause-refused
returns-in-Err-Labels-clause-refused c = λ task text parsed.
    inr (inr (inr record {
      program = c.args.program;
      parsed = parsed;
      fault = c.in-Err-Labels.field-0;
      fault_of = c.in-Err-Labels.ensures.fault;
      number_of = ap flow_numbered c.in-Err-Labels.field-0-is;
    }))

pub returns-in-Err-Conjunctions-clause-refused : goal.returns-in-Err-Conjunctions-clause-refused
returns-in-Err-Conjunctions-clause-refused c = λ task text parsed.
    inr (inr (inr record {
      program = c.args.program;
      parsed = parsed;
      fault = c.in-Err-Conjunctions.field-0;
      fault_of = c.in-Err-Conjunctions.ensures.fault;
      number_of = ap flow_numbered c.in-Err-Conjunctions.field-0-is;
    }))
