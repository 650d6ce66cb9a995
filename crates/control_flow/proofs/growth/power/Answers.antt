use Rattle.std.proofs.Common.{◌≡◌, ℕ, suc, ◌+◌, ◌*◌, ◌-◌, ◌^◌, min, sym, ap, ◌∙◌, arith}
use Rattle.std.proofs.Math.Nat.{one-mul, pow-suc, pow-zero}
use Rattle.control_flow.specs.Sizing.{held}
use Rattle.control_flow.proofs.Held.{product_left, product_right}
use Rattle.control_flow.proofs.growth.power.Goals as goal

pub loop-init : goal.loop-init
loop-init c n is =
    let one : n ^ 1 ≡ n = pow-suc n 0 ∙ ap (λ t. t * n) (pow-zero n) ∙ one-mul n in
    is ∙ ap held (sym one)

-- a factor more
power_more : (n k power base made : ℕ) → made ≡ min (power * base) (2 ^ 128 - 1) → power ≡ held (n ^ (k + 1)) → base ≡ held n → made ≡ held (n ^ (k + 1 + 1))
power_more n k power base made is before own =
    let one : suc (k + 1) ≡ k + 1 + 1 = omega arith in
    is ∙ ap (λ t. min (t * base) (2 ^ 128 - 1)) before ∙ ap (λ t. min (min (n ^ (k + 1)) (2 ^ 128 - 1) * t) (2 ^ 128 - 1)) own
    ∙ product_left (2 ^ 128 - 1) (omega arith) (n ^ (k + 1)) (min n (2 ^ 128 - 1)) ∙ product_right (2 ^ 128 - 1) (omega arith) (n ^ (k + 1)) n
    ∙ ap held (sym (pow-suc n (k + 1)) ∙ ap (λ h. n ^ h) one)

pub loop-preserved : goal.loop-preserved
loop-preserved c n is =
    power_more n c.loop.counter c.loop.power c.args.base c.saturating_mul-power.result c.saturating_mul-power.ensures (c.loop.invariant n is) is

pub returns : goal.returns
returns c n is =
    let end = c.loop-test.false in
    let most = c.loop.auto.counter-end in
    let last : c.loop.counter ≡ c.args.exponent = omega (arith, end, most) in
    c.loop.invariant n is ∙ ap (λ k. held (n ^ (k + 1))) last
