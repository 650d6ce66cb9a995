use Rattle.std.proofs.Common.{◌≡◌, ◌⊎◌, ⊎_elim, inl, inr, ◌∙◌, Some, pos, subst, rules}
use Rattle.step_meaning.specs.Syntax.{statements}
use Rattle.linear_cons.specs.Functions.{constant_of}
use Rattle.count_down.specs.Candidates.{last_steps}
use Rattle.count_down.specs.Trees.{ranked}
use Rattle.decision_tree.specs.Extent.{IsWhole}
use Rattle.decision_tree.specs.Plans.{rank_of}
use Rattle.fitting_ways.specs.Ways.{SmallWaysFit}
use Rattle.ctl_rounds.specs.Covers.{IsCover, LeavesOpen}
use Rattle.function_top.proofs.Refined.{ranked_is_whole, still, still_or}
use Rattle.function_top.proofs.finding.certified.Goals as goal

pub returns-then-not-query-clause-strong : goal.returns-then-not-query-clause-strong
returns-then-not-query-clause-strong g c cover is =
    let own = c.in_ok-certificate.ensures in record {
      countdown = λ ends counted. own.countdown ends counted cover is;
      loopless = λ ends free. own.loopless ends free cover is;
      ways = λ ends counted little. own.ways ends counted little cover is;
    }

pub returns-clause-certified : goal.returns-clause-certified
returns-clause-certified g c = c.refine.ensures.refined.certified

pub returns-in_err-refine-clause-asked : goal.returns-in_err-refine-clause-asked
returns-in_err-refine-clause-asked g c = let asked = c.in_ok-certificate.ensures.asked in (asked.0, asked.1, asked.2, search rules)

pub returns-clause-asked : goal.returns-clause-asked
returns-clause-asked g c =
    let asked = c.in_ok-certificate.ensures.asked in (asked.0, asked.1, asked.2, c.refine.ensures.refined.turns ∙ asked.3)

pub returns-clause-unadvised : goal.returns-clause-unadvised
returns-clause-unadvised g c = λ free. c.refine.ensures.refined.turns ∙ c.in_ok-certificate.ensures.unadvised free

pub returns-clause-turns : goal.returns-clause-turns
returns-clause-turns g c = λ advised.
    still_or (statements c.args.graph.now.body) c.in_ok-certificate.certificate.tops c.refine.new.certificate.tops c.refine.ensures.whole
    (c.refine.new.certificate.turns ≡ 8)
    (λ cover is.
    ⊎_elim {C = IsWhole cover ⊎ (c.refine.new.certificate.turns ≡ 8)} (λ (whole : IsWhole cover). inl whole)
    (λ (eight : c.in_ok-certificate.certificate.turns ≡ 8). inr (c.refine.ensures.refined.turns ∙ eight)) (c.in_ok-certificate.ensures.turns advised cover is))

pub returns-clause-narrow : goal.returns-clause-narrow
returns-clause-narrow g c = λ loopless free within cover is.
    c.in_ok-certificate.ensures.narrow loopless free within cover
    (subst (λ tops. IsCover (statements c.args.graph.now.body) tops cover) (c.refine.ensures.loopless loopless) is)

pub returns-clause-narrow_ways : goal.returns-clause-narrow_ways
returns-clause-narrow_ways g c = λ loopless free within growth cover is.
    c.in_ok-certificate.ensures.narrow_ways loopless free within growth cover
    (subst (λ tops. IsCover (statements c.args.graph.now.body) tops cover) (c.refine.ensures.loopless loopless) is)

pub returns-clause-strong : goal.returns-clause-strong
returns-clause-strong g c cover is =
    let body = statements c.args.graph.now.body in
    let old = c.in_ok-certificate.certificate.tops in
    let new = c.refine.new.certificate.tops in
    let own = c.in_ok-certificate.ensures in
    let added : (new ≡ old) ⊎ LeavesOpen body old = c.refine.ensures.whole in record {
      countdown = λ ends counted. still body old new added IsWhole (own.countdown ends counted) (own.countdown ends counted) cover is;
      loopless = λ ends free.
          still body old new added (λ tree. rank_of tree ≡ Some (ranked (constant_of (pos (last_steps body)))))
          (λ tree own_cover. ranked_is_whole tree (ranked (constant_of (pos (last_steps body)))) (own.loopless ends free tree own_cover))
          (own.loopless ends free) cover is;
      ways = λ ends counted little. still body old new added SmallWaysFit (own.countdown ends counted) (own.ways ends counted little) cover is;
    }
