use Rattle.std.proofs.Common.{refl}
use Rattle.constraint_stack.specs.Claims.{unnatural}
use Rattle.constraint_stack.specs.Stacks.{all_asked}
use Rattle.leaf_search.proofs.Walking.{claim_searched, formed_as_told}
use Rattle.leaf_search.proofs.leaf.refute_rank.Goals as goal

pub returns-clause-searched : goal.returns-clause-searched
returns-clause-searched g c asks held =
    let tried = c.in_ok-refuted.ensures.tried in
    let claim = unnatural c.args.rank.now in
    claim_searched g.R.Rank 2 asks claim tried.0 c.in_ok-refuted.refuted c.try_claim.new.found
    (formed_as_told g.R.Rank claim (g.R.Rank.where_negative c.args.rank.now) (g.R.Rank.negative_fits c.args.rank.now) tried.0 refl (λ told. told) (λ fits. fits) tried.1) (tried.2 (all_asked asks) held)
