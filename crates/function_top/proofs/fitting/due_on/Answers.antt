use Rattle.function_top.specs.Fitting.{refused}
use Rattle.function_top.proofs.fitting.due_on.Goals as goal

pub due-requires : goal.due-requires
due-requires c = c.in-Ok.ensures.graph

pub returns-in_ok-refused-in-Err : goal.returns-in_ok-refused-in-Err
returns-in_ok-refused-in-Err c =
    refused c.in-Err.refusal c.in-Err.ensures.refused c.in_ok-refused-in-Err.ensures.says c.in_ok-refused-in-Err.ensures.unasked
