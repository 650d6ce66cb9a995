use Rattle.std.proofs.Common.{◌≡◌, ◌∙◌, Some, refl, sym}
use Rattle.step_meaning.specs.Syntax.{statements}
use Rattle.ctl_formula.specs.Mirror.{ctl}
use Rattle.formula_parse.specs.Laws.{numbered}
use Rattle.command_words.specs.Order.{task_of}
use Rattle.function_top.specs.Output.{IsReason}
use Rattle.function_top.proofs.Parsed.{own_few}
use Rattle.function_top.proofs.Refusing.{asked_refused, passed_on}
use Rattle.function_top.proofs.Reported.{read_given}
use Rattle.function_top.proofs.Wider.{wider_rows}
use Rattle.function_top.proofs.question.question_of.Goals as goal

pub returns-in_err-whole-clause-refused : goal.returns-in_err-whole-clause-refused
returns-in_err-whole-clause-refused c =
    passed_on _ _ (IsReason (task_of c.args.query.now) c.args.text.now) c.from_residual.ensures (c.in_err-whole.ensures.refused (task_of c.args.query.now))

pub returns-in_err-graph-clause-refused : goal.returns-in_err-graph-clause-refused
returns-in_err-graph-clause-refused c =
    passed_on _ _ (IsReason (task_of c.args.query.now) c.args.text.now) c.from_residual-in_err-graph.ensures
    (c.in_err-graph.ensures.refused (task_of c.args.query.now) c.args.text.now c.in_ok-whole.ensures.parsed)

pub input_asked-requires : goal.input_asked-requires
input_asked-requires c = own_few c.args.text.now c.in_ok-whole.whole.own c.in_ok-whole.ensures.own

pub formula_asked-requires : goal.formula_asked-requires
formula_asked-requires c = own_few c.args.text.now c.in_ok-whole.whole.own c.in_ok-whole.ensures.own

pub returns-in_default-clause-refused : goal.returns-in_default-clause-refused
returns-in_default-clause-refused c =
    let own = c.in_ok-whole.whole.own in
    record {
      names = own;
      within = record {
        program = c.in_ok-graph.graph;
        graph = c.in_ok-graph.ensures.graph c.args.text.now c.in_ok-whole.ensures.parsed;
        own_is = c.in_ok-whole.ensures.own;
      };
      refused = c.in_default.ensures.none (c.texts_are_known.ensures.own_named c.args.text.now own c.in_ok-whole.ensures.own);
    }

pub returns-in-Ok-clause-asked : goal.returns-in-Ok-clause-asked
returns-in-Ok-clause-asked c =
    let own = c.in_ok-whole.whole.own in
    let graph = c.in_ok-graph.graph in
    let within = c.in_ok-graph.ensures.graph c.args.text.now c.in_ok-whole.ensures.parsed in
    let fewer = c.texts_are_known.ensures.own_fewer c.args.text.now graph.names own (statements graph.body) within.parsed.derived c.in_ok-whole.ensures.own in
    record {
      task_is = refl;
      graph = within;
      own = c.in_ok-whole.ensures.own;
      input = c.in-Some.ensures.given;
      formula = c.in-Ok.ensures.formula;
      over = wider_rows (ctl c.in-Ok.formula) fewer c.in-Ok.ensures.variables;
    }

pub returns-in-Some-numbered-clause-refused : goal.returns-in-Some-numbered-clause-refused
returns-in-Some-numbered-clause-refused c =
    let own = c.in_ok-whole.whole.own in
    let task = task_of c.args.query.now in
    let told : numbered c.in-Err.fault ≡ Some (c.in-Some-numbered.number, c.in-Some-numbered.offset) = sym c.numbered.ensures ∙ c.in-Some-numbered.is in
    let graph = c.in_ok-graph.ensures.graph c.args.text.now c.in_ok-whole.ensures.parsed in
    asked_refused task c.args.text.now own (record { program = c.in_ok-graph.graph; graph = graph; own_is = c.in_ok-whole.ensures.own })
    (read_given own task.input c.in-Some.input c.in-Some.ensures.given) task.formula refl c.in-Err.fault c.in-Some-numbered.number c.in-Some-numbered.offset
    c.a_formula_has_no_fault.ensures c.in-Err.ensures.fault told
