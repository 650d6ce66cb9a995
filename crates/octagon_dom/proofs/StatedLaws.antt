-- The bounds that rows state and imply.
use Rattle.std.proofs.Common.{◌≡◌, ℕ, ◌+◌, ◌*◌, ◌/◌, ◌%◌, ◌<◌, ℤ, pos, negsuc, neg_ℤ, ◌+ℤ◌, ◌-ℤ◌, ◌*ℤ◌, ◌≤ℤ◌, ◌<ℤ◌, Bool, true, false}
use Rattle.std.proofs.Common.{int_lt, cond, List, None, Some, arith, refl, sym, ◌∙◌, ap, unsigned_abs}
use Rattle.std.proofs.lemmas.Int.{by_lt_z, ints}
use Rattle.linear_cons.specs.declared.bounds.Bounds.{Bounds}
use Rattle.linear_cons.specs.declared.row.Row.{Row}
use Rattle.linear_cons.specs.Ends.{exact_end, exactly, fits, greatest_value}
use Rattle.linear_cons.specs.Functions.{coefficient, value_at, without}
use Rattle.linear_cons.specs.Numbers.{Fits128, number_at}
use Rattle.linear_cons.proofs.EndLaws.{exactly_covers, up_to_end, up_to_greatest}
use Rattle.linear_cons.proofs.Forms.{form_apart}
use Rattle.linear_cons.proofs.KnownEnds.{known_end, when_not, when_so}
use Rattle.linear_cons.proofs.Places.{eqb_apart}
use Rattle.std.proofs.Common.{◌≢◌, eqb, ⊎_elim}
use Rattle.std.proofs.lemmas.Bool.Decides.{eqb_tells}
use Rattle.linear_cons.proofs.Ring.{mul_le, mul_neg, neg_mul}
use Rattle.linear_cons.proofs.Sums.{value_is}
use Rattle.num_domain.specs.declared.bound.Bound.{Bound}
use Rattle.num_domain.specs.declared.bound.Bound.TheVariants.{At}
use Rattle.num_domain.specs.Ends.{some_end}
use Rattle.octagon_dom.specs.declared.stated.Stated.{Stated}
use Rattle.octagon_dom.specs.Cells.{signed, turned}
use Rattle.octagon_dom.specs.Stated.{IsHalfSized, IsImpliedBy, IsRefining, IsStatedBy, signed_place}
use Rattle.octagon_dom.specs.Terms.{AreTwoTerms, IsOneTerm}
use Rattle.octagon_dom.specs.Laws.Members.{signed_even, signed_odd, signed_turned, turned_apart, turned_low, turned_place}

pub exact_is : (z w : ℤ) → exact_end z ≡ Some w → w ≡ z
exact_is z w is = chosen (fits z) is
  where
    chosen : (t : Bool) → cond t (Some z) None ≡ Some w → w ≡ z
    chosen true is = cc
    chosen false is = absurd (cc)

eqb_one : (i j : ℕ) → i ≡ j → eqb i j ≡ true
eqb_one i j is = ⊎_elim
    (λ (same : (eqb i j ≡ true) × (i ≡ j)). same.0)
    (λ (apart : (eqb i j ≡ false) × (i ≢ j)). absurd (apart.1 is))
    (eqb_tells i j)

pub one_stated : (row : Row) (term high : ℕ) (step : Bound ℤ) → high ≡ turned term
    → some_end step ≡ exact_end (row.affine.constant +ℤ row.affine.constant) → IsOneTerm 16 row.affine term
    → IsStatedBy row (record { high = high; low = term; step = step })
one_stated row term high step is sum one = record {
  between = record {
    from = rw is (turned_low term low);
    to = low;
    apart = rw is (turned_apart term);
  };
  keeps = λ store met.
      let value = value_is row.affine.coef row.affine.constant store in
      let products = one.sum store in
      let other = ap (signed store) is ∙ signed_turned store term in
      rw sum (up_to_end (row.affine.constant +ℤ row.affine.constant) (signed store high -ℤ signed store term) (omega (arith, ints)));
  exact = λ c there store holds.
      let value = value_is row.affine.coef row.affine.constant store in
      let products = one.sum store in
      let other = ap (signed store) is ∙ signed_turned store term in
      let same : c ≡ row.affine.constant +ℤ row.affine.constant = exact_is _ c (sym sum ∙ there) in
      let most : (signed store high -ℤ signed store term) ≤ℤ c = rw there at holds in
      omega (arith, ints);
  fits = λ half. (row.affine.constant +ℤ row.affine.constant, sum ∙ known_end _ (double half));
  most = row.affine.constant +ℤ row.affine.constant;
  sized = omega (arith, ints);
  states = record {
    from = rw is (turned_low term low);
    to = low;
    apart = rw is (turned_apart term);
    line = λ store.
        let value = value_is row.affine.coef row.affine.constant store in
        let products = one.sum store in
        let other = ap (signed store) is ∙ signed_turned store term in
        let place : high / 2 ≡ term / 2 = ap (λ i. i / 2) is ∙ turned_place term in
        let twice = when_so (eqb (high / 2) (term / 2)) (value_at row.affine store +ℤ value_at row.affine store) (value_at row.affine store)
        (eqb_one (high / 2) (term / 2) place) in
        sym (twice ∙ (omega (arith, ints)));
  };
  known = λ end there. exact_is _ end (sym sum ∙ there);
  told = λ fit. sum ∙ known_end _ fit;
}
  where
    low : term < 32
    low = let h = one.inside in omega arith

    double : IsHalfSized row.affine.constant → Fits128 (row.affine.constant +ℤ row.affine.constant)
    double half = let from = half.from in let below = half.below in omega (arith, ints)

pub two_stated : (row : Row) (first second high : ℕ) → high ≡ turned second → AreTwoTerms 16 row.affine first second
    → IsStatedBy row (record { high = high; low = first; step = At row.affine.constant })
two_stated row first second high is two = record {
  between = record {
    from = rw is (turned_low second (let h = two.inside in omega arith));
    to = let h = two.inside in let o = two.ordered in omega arith;
    apart = λ same. let o = two.ordered in let p = turned_place second in let also : turned second ≡ first = sym is ∙ same in
        let q : turned second / 2 ≡ first / 2 = ap (λ i. i / 2) also in omega arith;
  };
  keeps = λ store met.
      let value = value_is row.affine.coef row.affine.constant store in
      let products = two.sum store in
      let other = ap (signed store) is ∙ signed_turned store second in
      omega (arith, ints);
  exact = λ c there store holds.
      let value = value_is row.affine.coef row.affine.constant store in
      let products = two.sum store in
      let other = ap (signed store) is ∙ signed_turned store second in
      omega (arith, ints);
  fits = λ half. (row.affine.constant, refl);
  most = row.affine.constant;
  sized = omega (arith, ints);
  states = record {
    from = rw is (turned_low second (let h = two.inside in omega arith));
    to = let h = two.inside in let o = two.ordered in omega arith;
    apart = λ same. let o = two.ordered in let p = turned_place second in let also : turned second ≡ first = sym is ∙ same in
        let q : turned second / 2 ≡ first / 2 = ap (λ i. i / 2) also in omega arith;
    line = λ store.
        let value = value_is row.affine.coef row.affine.constant store in
        let products = two.sum store in
        let other = ap (signed store) is ∙ signed_turned store second in
        let place : high / 2 ≡ second / 2 = ap (λ i. i / 2) is ∙ turned_place second in
        let ordered = two.ordered in
        let once = when_not (eqb (high / 2) (first / 2)) (value_at row.affine store +ℤ value_at row.affine store) (value_at row.affine store)
        (eqb_apart (high / 2) (first / 2) (λ same. omega arith)) in
        sym (once ∙ (omega (arith, ints)));
  };
  known = λ end there. cc;
  told = λ fit. refl;
}

-- ---- implied bounds

-- the factor is its size times the sign of the place's number in the signed place
factor_value : (factor : ℤ) (place size : ℕ) (store : List ℤ) → size ≡ unsigned_abs factor
    → factor *ℤ number_at store place ≡ pos size *ℤ signed store (signed_place factor place)
factor_value (pos n) place size store is =
    let even : (2 * place) % 2 ≡ 0 = omega arith in
    let half : (2 * place) / 2 ≡ place = omega arith in
    let own = signed_even store (2 * place) even ∙ ap (number_at store) half in
    let above : false ≡ int_lt (pos n) (pos 0) = omega (arith, ints) in
    let at : signed_place (pos n) place ≡ 2 * place = ap (λ t. cond t (2 * place + 1) (2 * place)) (sym above) in
    ap (λ x. pos n *ℤ x) (sym own) ∙ ap (λ s. pos s *ℤ signed store (2 * place)) (sym is) ∙ ap (λ i. pos size *ℤ signed store i) (sym at)
factor_value (negsuc n) place size store is =
    let odd : (2 * place + 1) % 2 ≡ 1 = omega arith in
    let half : (2 * place + 1) / 2 ≡ place = omega arith in
    let own = signed_odd store (2 * place + 1) odd ∙ ap (λ p. neg_ℤ (number_at store p)) half in
    let size_is : size ≡ n + 1 = omega (arith, ints) in
    let factor : negsuc n ≡ neg_ℤ (pos size) = omega (arith, ints) in
    ap (λ f. f *ℤ number_at store place) factor ∙ neg_mul (pos size) (number_at store place)
    ∙ sym (ap (λ x. pos size *ℤ x) own ∙ mul_neg (pos size) (number_at store place))

pub refined_bound : (factor rest most : ℤ) (place size high low : ℕ) (step : Bound ℤ) → place < 16 → 0 < size → size ≡ unsigned_abs factor
    → rest <ℤ (pos size *ℤ (most +ℤ pos 1)) → low ≡ signed_place factor place → high ≡ turned low
    → some_end step ≡ exact_end (most +ℤ most) → IsRefining factor rest place (record { high = high; low = low; step = step })
refined_bound factor rest most place size high low step inside positive is floor at turn sum = record {
  between = record {
    from = rw turn (turned_low low small);
    to = small;
    apart = rw turn (turned_apart low);
  };
  keeps = λ store above.
      let product : factor *ℤ number_at store place ≡ pos size *ℤ signed store low =
      factor_value factor place size store is ∙ ap (λ i. pos size *ℤ signed store i) (sym at) in
      let negative : pos size *ℤ neg_ℤ (signed store low) ≡ neg_ℤ (pos size *ℤ signed store low) = mul_neg (pos size) (signed store low) in
      let at_most : neg_ℤ (signed store low) ≤ℤ most = by_lt_z most (neg_ℤ (signed store low))
      (λ more.
      let step : (most +ℤ pos 1) ≤ℤ neg_ℤ (signed store low) = omega (arith, ints) in
      let natural : pos 0 ≤ℤ pos size = omega (arith, ints) in
      let products = mul_le (pos size) (most +ℤ pos 1) (neg_ℤ (signed store low)) natural step in
      absurd (omega (arith, ints)))
      (λ here. here) in
      let other = ap (signed store) turn ∙ signed_turned store low in
      rw sum (up_to_end (most +ℤ most) (signed store high -ℤ signed store low) (omega (arith, ints)));
}
  where
    small : low < 32
    small = rw at (chosen (int_lt factor (pos 0)))
      where
        chosen : (t : Bool) → (cond t (2 * place + 1) (2 * place)) < 32
        chosen true = omega arith
        chosen false = omega arith

pub implied_bound : (row : Row) (bounds : Bounds) (place : ℕ) (rest : ℤ) (stated : Stated) → place < 16
    → greatest_value (exactly (without row.affine place)) bounds ≡ Some rest
    → IsRefining (coefficient row.affine place) rest place stated → IsImpliedBy row bounds stated
implied_bound row bounds place rest stated low known refining = record {
  between = refining.between;
  keeps = λ store lies met.
      let others = exactly_covers (without row.affine place) store _ refl in
      let at_most : value_at (without row.affine place) store ≤ℤ rest =
      rw known at (up_to_greatest (exactly (without row.affine place)) bounds store _ lies others) in
      let split = form_apart row.affine place store (pos 1) low in
      refining.keeps store (omega (arith, ints));
}
