-- All signed places passed in turn, where no sum leaves 128 bits: the bounds are closed then.
use Rattle.std.proofs.Common.{◌≡◌, ℕ, zero, suc, ◌+◌, ◌*◌, ◌<◌, ◌≤◌, ℤ, pos, ◌+ℤ◌, ◌≤ℤ◌, List, Some, false, arith, refl, subst, sym}
use Rattle.std.proofs.lemmas.Int.{ints}
use Rattle.linear_cons.specs.Numbers.{Fits128}
use Rattle.num_domain.specs.declared.bound.Bound.{Bound}
use Rattle.octagon_dom.specs.Cells.{AreCellsOf, bound, cell, is_void, sum_end, tightened, way_over}
use Rattle.octagon_dom.specs.Closure.{IsClosed, SumsFit}
use Rattle.octagon_dom.specs.Laws.Members.{bound_same}
use Rattle.octagon_dom.proofs.Closures.{natural_sum}
use Rattle.octagon_dom.proofs.Passing.{HasNoNegative, IsClosedOver, over_all, over_more, over_none}
use Rattle.octagon_dom.proofs.Shortened.{bounds_by, tightened_short}
use Rattle.octagon_dom.proofs.Voids.{no_negative}
use Rattle.octagon_dom.proofs.Ways.{HasWays, IsNoMore, IsShortened, sum_end_is, within_least_right, within_some}

whole_ways : (old new : List (Bound ℤ)) (k : ℕ) → k < 32 → AreCellsOf (tightened old k k (Some (pos 0))) new
    → SumsFit (bound old) k k (Some (pos 0)) → HasNoNegative (bound new) → HasWays (bound old) k k (Some (pos 0)) (bound new)
whole_ways old new k low are fits natural a b h g z way = bounds_by old new a b (λ was now. IsNoMore now z)
    (λ same.
    let round = natural a k h low way.into way.out (short.own a k h low way.into way.first)
    (short.own k a low h way.out (subst (λ t. IsNoMore (bound old k t) way.out) (sym same) way.third)) in
    let step = way.second in
    let sum = way.sum in
    omega (arith, ints))
    (λ apart. subst (λ end. IsNoMore end z) (sym (are.each a b h g))
    (within_least_right (cell old (32 * a + b)) (way_over old k k (Some (pos 0)) a b) z
    (subst (λ end. IsNoMore end z) (sym exact) enough)))
  where
    short : IsShortened (bound old) k k (Some (pos 0)) (bound new)
    short = tightened_short old new k k (Some (pos 0)) low low are

    first : (x : ℤ) × (bound old a k ≡ Some x) × (x ≤ℤ way.into)
    first = within_some (bound old a k) way.into way.first

    last : (x : ℤ) × (bound old k b ≡ Some x) × (x ≤ℤ way.out)
    last = within_some (bound old k b) way.out way.third

    both : Fits128 (first.0 +ℤ pos 0) × Fits128 (first.0 +ℤ pos 0 +ℤ last.0)
    both = fits a b h g first.0 (pos 0) last.0 first.1 refl last.1

    exact : way_over old k k (Some (pos 0)) a b ≡ Some (first.0 +ℤ pos 0 +ℤ last.0)
    exact = sum_end_is (sum_end (bound old a k) (Some (pos 0))) (bound old k b) (first.0 +ℤ pos 0) last.0
        (sum_end_is (bound old a k) (Some (pos 0)) first.0 (pos 0) first.1 refl both.0) last.1 both.1

    enough : (first.0 +ℤ pos 0 +ℤ last.0) ≤ℤ z
    enough = let one = first.2 in let two = last.2 in let step = way.second in let sum = way.sum in omega (arith, ints)

-- the first n signed places are passed, and no sum leaves 128 bits
abbrev pub ArePassedWhole : ℕ → List (Bound ℤ) → List (Bound ℤ) → Type 0
ArePassedWhole zero old new = old ≡ new
ArePassedWhole (suc n) old new = (between : List (Bound ℤ)) × ArePassedWhole n old between × AreCellsOf (tightened between n n (Some (pos 0))) new
    × SumsFit (bound between) n n (Some (pos 0))

pub passes_over : (n : ℕ) (old new : List (Bound ℤ)) → n ≤ 32 → ArePassedWhole n old new → HasNoNegative (bound new)
    → IsClosedOver n (bound new)
passes_over zero old new few passed natural = over_none (bound new)
passes_over (suc n) old new few passed natural =
    let low : n < 32 = omega arith in
    let one : n + 1 ≡ suc n = omega arith in
    let short = tightened_short passed.0 new n n (Some (pos 0)) low low passed.2 in
    let before = passes_over n old passed.0 (omega arith) passed.1
    (λ a b h g x y first second. natural a b h g x y (short.own a b h g x first) (short.own b a g h y second)) in
    subst (λ m. IsClosedOver m (bound new)) one
    (over_more n (bound passed.0) (bound new) low (λ i h. bound_same passed.0 i i refl) before short
    (whole_ways passed.0 new n low passed.2 passed.3 natural) natural)

pub passed_closed : (old new : List (Bound ℤ)) (n : ℕ) → n ≡ 32 → ArePassedWhole n old new → is_void new ≡ false → IsClosed (bound new)
passed_closed old new n all passed filled = over_all (bound new) (λ i h. bound_same new i i refl)
    (subst (λ m. IsClosedOver m (bound new)) all (passes_over n old new (omega arith) passed
    (λ a b h g x y first second. natural_sum (bound new a b) (bound new b a) x y (no_negative new filled a b h g) first second)))
