use Rattle.leaf_search.proofs.leaf.Stand.aimed.Goals as goal

pub returns-in-Next : goal.returns-in-Next
returns-in-Next g c = rw c.in-Next.is c.operand.ensures
