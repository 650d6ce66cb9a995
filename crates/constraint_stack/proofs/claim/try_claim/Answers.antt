use Rattle.std.proofs.Common.{Err, Ok, refl}
use Rattle.std.proofs.lemmas.Result.{IfOk-weaker}
use Rattle.constraint_stack.specs.Searches.{alternatives_of}
use Rattle.constraint_stack.proofs.Choosing.{as_many, asked_parts}
use Rattle.constraint_stack.proofs.claim.try_claim.Goals as goal

pub try_from-requires-clause-number : goal.try_from-requires-clause-number
try_from-requires-clause-number g c =
    asked_parts g.R.Rank g.met.R.Rank.greater_length_law g.met.R.Rank.negative_length_law g.met.R.Rank.more_law g.met.R.Rank.greater_law c.args.asked.now

pub try_from-requires-clause-parts : goal.try_from-requires-clause-parts
try_from-requires-clause-parts g c = as_many g.R.Rank g.met.R.Rank.greater_length_law g.met.R.Rank.negative_length_law c.args.asked.now

pub returns-in-Ok-clause-tried : goal.returns-in-Ok-clause-tried
returns-in-Ok-clause-tried g c =
    IfOk-weaker c.try_from.result _ _
    (λ refuted tried. (Ok (alternatives_of g.R.Rank c.args.asked.now), (c.in-Ok.ensures.exact.0, refl), tried)) c.try_from.ensures.tried

pub returns-in-Err-clause-tried : goal.returns-in-Err-clause-tried
returns-in-Err-clause-tried g c =
    IfOk-weaker c.try_unformed.result _ _
    (λ refuted tried. (Err c.in-Err.wide, (c.in-Err.ensures.wide, c.in-Err.ensures.exact), tried)) c.try_unformed.ensures.tried
