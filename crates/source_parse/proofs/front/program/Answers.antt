use Rattle.std.proofs.Common.{false}
use Rattle.concrete_syntax.specs.Mirror.{program as program_tree}
use Rattle.source_parse.proofs.front.program.Goals as goal

pub returns-in-Err-Fault-clause-fault : goal.returns-in-Err-Fault-clause-fault
returns-in-Err-Fault-clause-fault c =
    c.of_names.ensures.inside false (program_tree c.args.tree.now) c.requires.lexed c.requires.spelled
    (rw c.in-Err-Fault.field-0-is at c.in-Err-Fault.ensures.refusal)
