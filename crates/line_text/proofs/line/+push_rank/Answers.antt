use Rattle.std.proofs.Common.{◌<◌, length, rules, append_assoc}
use Rattle.line_text.proofs.Ranks.{rank_parts}
use Rattle.line_text.proofs.line.+push_rank.Goals as goal

pub returns-clause-text : goal.returns-clause-text
returns-clause-text t c =
    let some : 0 < length c.in-Some.rest.now = search rules in
    let whole = rank_parts c.args.names.now c.args.functions.now c.in-Some.rest.now c.in-Some.first.now c.in-Some.ensures.cases.0 some in
    rw whole (search (rules, append_assoc))
