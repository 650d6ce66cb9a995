-- A bound that the cells contradict.
use Rattle.std.proofs.Common.{◌≡◌, ℕ, ◌<◌, ℤ, pos, neg_ℤ, ◌+ℤ◌, ◌-ℤ◌, true, List, Option, arith}
use Rattle.std.proofs.lemmas.Int.{ints}
use Rattle.linear_cons.specs.Bounds.{IsUpTo}
use Rattle.linear_cons.proofs.EndLaws.{up_to_same, up_to_sum}
use Rattle.num_domain.specs.declared.bound.Bound.{Bound}
use Rattle.octagon_dom.specs.Cells.{IsBelow, bound, is_negative, least_end, signed, sum_end, turned}
use Rattle.octagon_dom.specs.Laws.LeastEnds.{up_to_least}
use Rattle.octagon_dom.specs.Laws.Members.{signed_turned, turned_low}
use Rattle.octagon_dom.specs.Laws.Voids.{negative_none}

module _ (cells : List (Bound ℤ)) (high low : ℕ) (step : Option ℤ) (below_high : high < 32) (below_low : low < 32) (store : List ℤ)
    (below : IsBelow cells store) (holds : IsUpTo step (signed store high -ℤ signed store low)) where
  -- its opposite is too small
  pub opposed_bound : is_negative step (bound cells low high) ≡ true → ⊥
  opposed_bound is = negative_none step (bound cells low high) (signed store high -ℤ signed store low) is holds
      (up_to_same (bound cells low high) _ _ (omega (arith, ints)) (below low high below_low below_high))

  -- the opposite of its twin is, by itself or by the way over the bound
  pub opposed_twin : is_negative step (least_end (bound cells (turned high) (turned low))
      (sum_end (sum_end (bound cells (turned high) high) step) (bound cells low (turned low)))) ≡ true → ⊥
  opposed_twin is =
      let from = turned_low high below_high in
      let to = turned_low low below_low in
      let one : signed store (turned high) ≡ neg_ℤ (signed store high) = signed_turned store high in
      let other : signed store (turned low) ≡ neg_ℤ (signed store low) = signed_turned store low in
      let own = up_to_same (bound cells (turned high) (turned low)) (signed store (turned high) -ℤ signed store (turned low))
      (pos 0 -ℤ (signed store high -ℤ signed store low)) (rw (one, other) (omega (arith, ints))) (below (turned high) (turned low) from to) in
      let way = up_to_same (sum_end (sum_end (bound cells (turned high) high) step) (bound cells low (turned low)))
      (signed store (turned high) -ℤ signed store high +ℤ (signed store high -ℤ signed store low) +ℤ (signed store low -ℤ signed store (turned low)))
      (pos 0 -ℤ (signed store high -ℤ signed store low)) (rw (one, other) (omega (arith, ints)))
      (up_to_sum (sum_end (bound cells (turned high) high) step) (bound cells low (turned low)) _ _
      (up_to_sum (bound cells (turned high) high) step _ _ (below (turned high) high from below_high) holds) (below low (turned low) below_low to)) in
      negative_none step _ (signed store high -ℤ signed store low) is holds (up_to_least (bound cells (turned high) (turned low)) _ _ own way)
