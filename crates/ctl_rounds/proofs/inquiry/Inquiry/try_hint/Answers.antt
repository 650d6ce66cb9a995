use Rattle.std.proofs.Common.{◌≡◌, ◌-◌, All, Some, length, slice_get, subst, sym}
use Rattle.std.proofs.lemmas.List.Elements.{All-get_or}
use Rattle.std.proofs.lemmas.Option.{get_or_from_slice_get, slice_get_within}
use Rattle.decision_tree.specs.declared.affine_rank.AffineRank.{AffineRank}
use Rattle.decision_tree.specs.declared.family.Family.{Family}
use Rattle.ctl_rounds.specs.Finding.{IsTop}
use Rattle.ctl_rounds.proofs.inquiry.Inquiry.try_hint.Goals as goal

pub proposed_beside-requires-clause-known : goal.proposed_beside-requires-clause-known
proposed_beside-requires-clause-known g c =
    let Is : Family AffineRank → Type 0 = IsTop g.D.NumDomain c.args.self.now in
    let tops = c.deref-2.result.now in
    let place = length tops - 1 in
    let last = c.in-Some.last.now in
    let found : slice_get tops place ≡ Some last = sym c.in-Some.ensures.value in
    let all : All Is tops = subst (All Is) (sym c.deref-2.ensures.value) c.in_ok-settle.ensures.found.families in
    subst Is (get_or_from_slice_get tops place last last found) (All-get_or Is tops place last (slice_get_within tops place last found) all)

pub returns-clause-exact : goal.returns-clause-exact
returns-clause-exact g c begins = c.in_ok-keep.ensures.exact (c.in_ok-settle.ensures.exact begins)
