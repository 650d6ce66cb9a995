use Rattle.std.proofs.Common.{rules, ◌≡◌, ◌∙◌, ◌<◌, arith, below_more, false, refl, subst, sym, true}
use Rattle.octagon_dom.specs.Closure.{IsModerateEnd}
use Rattle.octagon_dom.proofs.cells.is_moderate_at.Goals as goal

pub loop-a-preserved : goal.loop-a-preserved
loop-a-preserved c =
    let so : c.both.result ≡ true = search rules in
    below_more _ _ c.loop-a.invariant (
      subst IsModerateEnd c.at.ensures (c.is_moderate-from.ensures.only (c.both.ensures.one so)),
      subst IsModerateEnd c.at-in-loop-a.ensures (c.is_moderate-to.ensures.only (c.both.ensures.other so)),
    )

pub returns-then-not-both : goal.returns-then-not-both
returns-then-not-both c =
    let low : c.loop-a.a < 32 = omega arith in
    let so : c.both.result ≡ false = search rules in (
      λ is. absurd (cc),
      λ moderate. sym so ∙ c.both.ensures.all
          (c.is_moderate-from.ensures.each (subst IsModerateEnd (sym c.at.ensures) (moderate c.loop-a.a low).0))
          (c.is_moderate-to.ensures.each (subst IsModerateEnd (sym c.at-in-loop-a.ensures) (moderate c.loop-a.a low).1)),
    )

pub returns : goal.returns
returns c =
    let all : c.loop-a.a ≡ 32 = omega arith in
    (λ is a low. c.loop-a.invariant a (omega arith), λ moderate. refl)
