use Rattle.std.proofs.Common.{Err, ap, subst, sym}
use Rattle.decision_tree.specs.Alternatives.{lists_of}
use Rattle.constraint_stack.specs.Claims.{exceeding}
use Rattle.constraint_stack.specs.Stacks.{all_asked}
use Rattle.leaf_search.proofs.Walking.{claim_searched, formed_as_told}
use Rattle.leaf_search.proofs.walk.Way.refute_less.Goals as goal

pub returns-in_ok-refuted-in-Ok-clause-searched : goal.returns-in_ok-refuted-in-Ok-clause-searched
returns-in_ok-refuted-in-Ok-clause-searched g c why asks held =
    let tried = c.in_ok-refuted-in-Ok.ensures.tried in
    let limit = c.in-Some.limit in
    let claim = exceeding c.deref-rank.result.now c.args.self.now.sets limit in
    let more = c.in-Ok.ensures.exact.1 in
    let formed = formed_as_told g.R.Rank claim (g.R.Rank.where_greater c.in-Ok.more limit) (g.R.Rank.greater_fits c.in-Ok.more limit) tried.0
    (ap (λ rank. lists_of (g.R.Rank.where_greater rank limit)) (sym more))
    (λ told. (c.in-Ok.ensures.exact.0.0, c.in-Ok.ensures.exact.0.1, subst (λ rank. g.R.Rank.greater_fits rank limit) more told))
    (λ fits. subst (λ rank. g.R.Rank.greater_fits rank limit) (sym more) fits.2) tried.1 in
    rw (← c.deref-rank.ensures, c.in-Some.is) (claim_searched g.R.Rank c.args.self.now.edge asks claim tried.0 c.in_ok-refuted-in-Ok.refuted c.try_claim.new.found formed (tried.2 (all_asked asks) held))

pub returns-in_ok-refuted-in-Err-clause-searched : goal.returns-in_ok-refuted-in-Err-clause-searched
returns-in_ok-refuted-in-Err-clause-searched g c why asks held =
    let claim = exceeding c.deref-rank.result.now c.args.self.now.sets c.in-Some.limit in
    rw (← c.deref-rank.ensures, c.in-Some.is) (claim_searched g.R.Rank c.args.self.now.edge asks claim (Err c.in-Err.wide) c.in_ok-refuted-in-Err.refuted c.try_unformed.new.found
    (c.in-Err.ensures.wide, λ fits. c.in-Err.ensures.exact (fits.0, fits.1)) (c.in_ok-refuted-in-Err.ensures.tried (all_asked asks) held))
