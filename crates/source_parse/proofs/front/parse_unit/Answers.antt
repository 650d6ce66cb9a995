use Rattle.std.proofs.Common.{true}
use Rattle.concrete_syntax.specs.Mirror.{program as program_tree}
use Rattle.source_parse.proofs.front.parse_unit.Goals as goal

pub returns-in-Err-clause-fault : goal.returns-in-Err-clause-fault
returns-in-Err-clause-fault c = c.of_syntax.ensures.inside true c.args.text.now c.in-Err.ensures.fault

pub returns-clause-unit : goal.returns-clause-unit
returns-clause-unit c = record {
  tree = program_tree c.in-Ok.syntax.tree;
  spelled = c.in-Ok.ensures.syntax;
  tokens = c.in-Ok.syntax.tokens.items;
  lexed = c.in-Ok.ensures.tokens;
  stands = rw c.deref.ensures.value at c.in_ok-unit.ensures.unit;
}
