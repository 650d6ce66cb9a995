use Rattle.std.proofs.Common.{refl, Err}
use Rattle.constraint_stack.specs.Stacks.{unformed}
use Rattle.constraint_stack.proofs.Holding.{held_more}
use Rattle.constraint_stack.proofs.claim.try_unformed.Goals as goal

pub returns-clause-tried : goal.returns-clause-tried
returns-clause-tried c items held =
    let adds = c.in_ok-add.ensures in
    let more = held_more items _ _ unformed (Err c.args.wide) _ _ held (c.requires, λ formed. formed) (refl, adds.1, adds.2) in
    c.in_ok-refuted.ensures _ more
