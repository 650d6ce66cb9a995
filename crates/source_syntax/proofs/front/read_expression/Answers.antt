use Rattle.std.proofs.Common.{ap, ◌∙◌}
use Rattle.source_lex.proofs.SpanLemmas.{tokens_within}
use Rattle.derivation.specs.Spelled.{all_spelled}
use Rattle.source_syntax.proofs.Standing.{expression_at, stopped_at}
use Rattle.source_syntax.proofs.front.read_expression.Goals as goal

pub lexemes-requires : goal.lexemes-requires
lexemes-requires c = tokens_within c.args.text.now 0 c.args.tokens.now c.requires.lexed

pub returns-in-Ok-expression-clause-read : goal.returns-in-Ok-expression-clause-read
returns-in-Ok-expression-clause-read c =
    expression_at c.args.text.now c.args.tokens.now c.deref.result.now (ap all_spelled c.deref.ensures.value ∙ c.in-Ok.ensures)
    c.args.level c.args.at c.in-Ok-expression.next _ _ c.in-Ok-expression.ensures.read

pub returns-in-Err-Fault-clause-fault : goal.returns-in-Err-Fault-clause-fault
returns-in-Err-Fault-clause-fault c = (
  c.in-Err-Fault.fault.at,
  stopped_at c.args.text.now c.args.tokens.now c.deref.result.now (ap all_spelled c.deref.ensures.value ∙ c.in-Ok.ensures)
      c.args.level c.args.at c.in-Err-Fault.fault.at c.in-Err-Fault.fault.rule (rw c.in-Err-Fault.field-0-is at c.in-Err-Fault.ensures.refused),
  c.offset_in.ensures,
)
