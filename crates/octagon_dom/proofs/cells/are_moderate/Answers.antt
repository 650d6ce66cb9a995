use Rattle.std.proofs.Common.{rules, ◌≡◌, ◌∙◌, ◌<◌, arith, below_more, false, refl, sym, true}
use Rattle.octagon_dom.proofs.cells.are_moderate.Goals as goal

pub loop-i-preserved : goal.loop-i-preserved
loop-i-preserved c =
    let here : c.is_moderate_at.result ≡ true = search rules in
    below_more _ _ c.loop-i.invariant (c.is_moderate_at.ensures.0 here)

pub returns-then-not-is_moderate_at : goal.returns-then-not-is_moderate_at
returns-then-not-is_moderate_at c =
    let low : c.loop-i.i < 32 = omega arith in
    let so : c.is_moderate_at.result ≡ false = search rules in (
      λ is. absurd (cc),
      λ bounds. sym so ∙ c.is_moderate_at.ensures.1
          (λ a h. (λ z is. bounds a c.loop-i.i z h low is, λ z is. bounds c.loop-i.i a z low h is)),
    )

pub returns : goal.returns
returns c =
    let all : c.loop-i.i ≡ 32 = omega arith in
    (λ is i j end low also there. (c.loop-i.invariant i (omega arith) j also).1 end there, λ moderate. refl)
