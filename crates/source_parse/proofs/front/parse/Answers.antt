use Rattle.std.proofs.Common.{false}
use Rattle.concrete_syntax.specs.Mirror.{program as program_tree}
use Rattle.step_meaning.specs.Syntax.{statements}
use Rattle.source_parse.proofs.front.parse.Goals as goal

pub returns-in-Err-clause-fault : goal.returns-in-Err-clause-fault
returns-in-Err-clause-fault c = c.of_syntax.ensures.inside false c.args.text.now c.in-Err.ensures.fault

pub returns-clause-size : goal.returns-clause-size
returns-clause-size c =
    c.a_program_is_no_larger_than_its_text.ensures c.args.text.now c.in_ok-program.program.names (statements c.in_ok-program.program.body)
    record { tree = program_tree c.in-Ok.syntax.tree; spelled = c.in-Ok.ensures.syntax; stands = c.in_ok-program.ensures.program }

pub returns-clause-offsets : goal.returns-clause-offsets
returns-clause-offsets c =
    record {
      tree = program_tree c.in-Ok.syntax.tree;
      spelled = c.in-Ok.ensures.syntax;
      tokens = c.in-Ok.syntax.tokens.items;
      lexed = c.in-Ok.ensures.tokens;
      stand = rw c.deref.ensures.value at c.in_ok-program.ensures.offsets;
    }
