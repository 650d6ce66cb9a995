-- The search for the tightest bound, one row at a time.
use Rattle.std.proofs.Common.{◌≡◌, ◌⊎◌, inl, inr, ℕ, zero, suc, add-one, [], ◌∷◌, ◌+◌, ◌<◌, ◌≤◌, ℤ, pos, ◌+ℤ◌, ◌*ℤ◌, ◌≤ℤ◌, ◌<ℤ◌, List, length, take, get_or, refl, sym, ap, subst, ◌∙◌, arith, All, Contains, Option, None, Some, MatchOption}
use Rattle.std.proofs.lemmas.Int.{ints, by_lt_z}
use Rattle.std.proofs.lemmas.List.{take_all}
use Rattle.std.proofs.lemmas.List.Elements.{Contains-append_left, Contains-push}
use Rattle.linear_cons.specs.declared.affine.Affine.{Affine}
use Rattle.linear_cons.specs.declared.row.Row.{Row}
use Rattle.linear_cons.specs.Functions.{form_at}
use Rattle.linear_cons.specs.LinearForm.{products_below, linear_form}
use Rattle.linear_cons.proofs.Ring.{mul_assoc, mul_commutes, mul_le, mul_lt}
use Rattle.linear_solve.specs.Points.{BoundsFit, CrossesFit, IsBound, IsFree, IsTighterOf, IsTightest, slope_at}
use Rattle.linear_solve.specs.declared.point.Bound.{Bound}
use Rattle.linear_solve.specs.declared.point.Side.{Side}
use Rattle.linear_solve.proofs.Lists.{all_more, all_none, taken_in, take_snoc}

pub form_is : (a : Affine) (num : List ℤ) (den : ℤ) → form_at a num den ≡ products_below 16 a.coef num +ℤ a.constant *ℤ den
unfolding linear_form
form_is a num den = refl

-- a positive factor can be taken away
cancel_le : (a x y : ℤ) → pos 0 <ℤ a → (a *ℤ x) ≤ℤ (a *ℤ y) → x ≤ℤ y
cancel_le a x y more le = by_lt_z y x (λ less. absurd (let p = mul_lt a y x more less in omega (arith, ints))) (λ from. from)

-- of three quotients of form and slope: the first below the second, which is at most the third
chain : (nf ns of os f s : ℤ) → pos 0 <ℤ ns → pos 0 <ℤ os → pos 0 <ℤ s → (nf *ℤ os) <ℤ (of *ℤ ns) → (of *ℤ s) ≤ℤ (f *ℤ os) → (nf *ℤ s) ≤ℤ (f *ℤ ns)
chain nf ns of os f s ns_above os_above s_above less le =
    let p : (s *ℤ (nf *ℤ os)) ≤ℤ (s *ℤ (of *ℤ ns)) = mul_le s (nf *ℤ os) (of *ℤ ns) (omega (arith, ints)) (omega (arith, ints)) in
    let q : (ns *ℤ (of *ℤ s)) ≤ℤ (ns *ℤ (f *ℤ os)) = mul_le ns (of *ℤ s) (f *ℤ os) (omega (arith, ints)) le in
    let left : s *ℤ (nf *ℤ os) ≡ os *ℤ (nf *ℤ s) = rotate s nf os in
    let middle : s *ℤ (of *ℤ ns) ≡ ns *ℤ (of *ℤ s) = rotate s of ns in
    let right : ns *ℤ (f *ℤ os) ≡ os *ℤ (f *ℤ ns) = rotate ns f os in
    cancel_le os (nf *ℤ s) (f *ℤ ns) os_above (omega (arith, ints))
  where
    rotate : (a b c : ℤ) → a *ℤ (b *ℤ c) ≡ c *ℤ (b *ℤ a)
    rotate a b c = sym (mul_assoc a b c) ∙ mul_commutes (a *ℤ b) c ∙ ap (λ t. c *ℤ t) (mul_commutes a b)

-- a bound of the rows seen is one of the rows
pub bound_of_taken : (rows : List Row) (i place : ℕ) (side : Side) (num : List ℤ) (den : ℤ) (bound : Bound) → IsBound (take i rows) place side num den bound → IsBound rows place side num den bound
bound_of_taken rows i place side num den bound own = record {
  row = own.row;
  row_in = taken_in rows i own.row own.row_in;
  form = own.form;
  slope = own.slope;
  positive = own.positive;
}

-- a product of the comparison that is outside is one of those that all fit
pub crosses_fit : (rows : List Row) (place : ℕ) (side : Side) (num : List ℤ) (den : ℤ) (old next : Bound) → IsBound rows place side num den old → IsBound rows place side num den next → BoundsFit rows place num den → CrossesFit old next
crosses_fit rows place side num den old next own other fit = record {
  new_form = rw (other.form, own.slope) (fit.crosses other.row own.row side other.row_in own.row_in);
  old_form = rw (own.form, other.slope) (fit.crosses own.row other.row side own.row_in other.row_in);
}

pub crosses_unfit : (rows : List Row) (i place : ℕ) (side : Side) (num : List ℤ) (den : ℤ) (best : Option Bound) (next : Bound)
    → MatchOption best (IsFree (take i rows) place side) (IsTightest (take i rows) place side num den)
    → IsBound rows place side num den next
    → MatchOption best ⊥ (λ old. ¬ CrossesFit old next)
    → ¬ BoundsFit rows place num den
crosses_unfit rows i place side num den None next before own unfit fit = unfit
crosses_unfit rows i place side num den (Some old) next before own unfit fit =
    unfit (crosses_fit rows place side num den old next (bound_of_taken rows i place side num den old before.bounds) own fit)

-- one more row has a bound from the side
pub tightest_next : (rows : List Row) (i place : ℕ) (side : Side) (num : List ℤ) (den : ℤ) (row : Row) (best : Option Bound) (next result : Bound) → i < length rows → row ≡ get_or rows i row
    → next.form ≡ form_at row.affine num den → next.slope ≡ slope_at side row place → pos 0 <ℤ next.slope
    → MatchOption best (IsFree (take i rows) place side) (IsTightest (take i rows) place side num den)
    → MatchOption best (result ≡ next) (λ old. IsTighterOf old next result)
    → IsTightest (take (i + 1) rows) place side num den result
tightest_next rows i place side num den row best next result low is form slope positive before step = go best before step
  where
    Seen : Bound → Row → Type 0
    Seen bound r = pos 0 <ℤ slope_at side r place → (bound.form *ℤ slope_at side r place) ≤ℤ (form_at r.affine num den *ℤ bound.slope)

    newest : Contains (take (i + 1) rows) row
    newest = subst (λ seen. Contains seen row) (sym (take_snoc rows i row low is)) (Contains-push (take i rows) row)

    older : (r : Row) → Contains (take i rows) r → Contains (take (i + 1) rows) r
    older r member = subst (λ seen. Contains seen r) (sym (take_snoc rows i row low is)) (Contains-append_left (take i rows) _ r member)

    own : IsBound (take (i + 1) rows) place side num den next
    own = record { row = row; row_in = newest; form = form; slope = slope; positive = positive }

    own_least : Seen next row
    own_least more = rw (form, slope) (omega (arith, ints))

    at_next : result ≡ next → All (Seen next) (take i rows) → IsTightest (take (i + 1) rows) place side num den result
    at_next same seen = subst (λ (t : Bound). IsTightest (take (i + 1) rows) place side num den t) (sym same) (record { bounds = own; least = all_more (Seen next) rows i row low is seen own_least })

    go : (best : Option Bound) → MatchOption best (IsFree (take i rows) place side) (IsTightest (take i rows) place side num den) → MatchOption best (result ≡ next) (λ old. IsTighterOf old next result) → IsTightest (take (i + 1) rows) place side num den result
    go None free same = at_next same (λ k d inside more. absurd (free k d inside more))
    go (Some old) tightest (inl both) = at_next both.0 (λ k d inside more.
        chain next.form next.slope old.form old.slope (form_at (get_or (take i rows) k d).affine num den) (slope_at side (get_or (take i rows) k d) place) positive tightest.bounds.positive more both.1 (tightest.least k d inside more))
    go (Some old) tightest (inr both) = subst (λ (t : Bound). IsTightest (take (i + 1) rows) place side num den t) (sym both.0) (record {
      bounds = record { row = tightest.bounds.row; row_in = older tightest.bounds.row tightest.bounds.row_in; form = tightest.bounds.form; slope = tightest.bounds.slope; positive = tightest.bounds.positive };
      least = all_more (Seen old) rows i row low is tightest.least (λ more. rw (← form, ← slope) both.1);
    })

-- one more row has none
pub tightest_same : (rows : List Row) (i place : ℕ) (side : Side) (num : List ℤ) (den : ℤ) (row : Row) (best : Option Bound) → i < length rows → row ≡ get_or rows i row
    → (pos 0 <ℤ slope_at side row place → ⊥)
    → MatchOption best (IsFree (take i rows) place side) (IsTightest (take i rows) place side num den)
    → MatchOption best (IsFree (take (i + 1) rows) place side) (IsTightest (take (i + 1) rows) place side num den)
tightest_same rows i place side num den row None low is none before = all_more (λ (r : Row). pos 0 <ℤ slope_at side r place → ⊥) rows i row low is before none
tightest_same rows i place side num den row (Some old) low is none before = record {
  bounds = record { row = before.bounds.row; row_in = subst (λ seen. Contains seen before.bounds.row) (sym (take_snoc rows i row low is)) (Contains-append_left (take i rows) _ before.bounds.row before.bounds.row_in); form = before.bounds.form; slope = before.bounds.slope; positive = before.bounds.positive };
  least = all_more (λ (r : Row). pos 0 <ℤ slope_at side r place → (old.form *ℤ slope_at side r place) ≤ℤ (form_at r.affine num den *ℤ old.slope)) rows i row low is before.least (λ more. absurd (none more));
}

-- ---- the same search for rows with unbounded numbers

row_at : (rows : List Row) (i : ℕ) → i < length rows → (row : Row) × (row ≡ get_or rows i row)
row_at [] i low = absurd (omega arith)
row_at (x ∷ xs) zero low = (x, refl)
row_at (x ∷ xs) (suc i) low = row_at xs i (omega arith)

exists_below : (rows : List Row) (place : ℕ) (side : Side) (num : List ℤ) (den : ℤ) (i : ℕ) → i ≤ length rows → (best : Option Bound) × MatchOption best (IsFree (take i rows) place side) (IsTightest (take i rows) place side num den)
exists_below rows place side num den zero low = (None, all_none (λ (r : Row). pos 0 <ℤ slope_at side r place → ⊥) rows)
exists_below rows place side num den (suc i) low =
    let before = exists_below rows place side num den i (omega arith) in
    let row = row_at rows i (omega arith) in
    let next : Bound = record { form = form_at row.0.affine num den; slope = slope_at side row.0 place } in
    rw (← add-one) (by_lt_z (pos 0) (slope_at side row.0 place)
    (λ more. let best = tighter_exists before.0 next in (Some best.0, tightest_next rows i place side num den row.0 before.0 next best.0 (omega arith) row.1 refl refl more before.1 best.1))
    (λ none. (before.0, tightest_same rows i place side num den row.0 before.0 (omega arith) row.1 (λ more. absurd (omega (arith, ints))) before.1)))
  where
    tighter_exists : (best : Option Bound) (next : Bound) → (result : Bound) × MatchOption best (result ≡ next) (λ old. IsTighterOf old next result)
    tighter_exists None next = (next, refl)
    tighter_exists (Some old) next = by_lt_z (next.form *ℤ old.slope) (old.form *ℤ next.slope)
        (λ less. (next, inl (refl, less)))
        (λ from. (old, inr (refl, from)))

-- rows with any numbers have a tightest bound from a side, or none
pub tightest_exists : (rows : List Row) (place : ℕ) (side : Side) (num : List ℤ) (den : ℤ) → IsFree rows place side ⊎ ((bound : Bound) × IsTightest rows place side num den bound)
tightest_exists rows place side num den =
    let best = exists_below rows place side num den (length rows) (omega arith) in
    either best.0 (subst (λ seen. MatchOption best.0 (IsFree seen place side) (IsTightest seen place side num den)) (take_all (length rows) rows (omega arith)) best.1)
  where
    either : (best : Option Bound) → MatchOption best (IsFree rows place side) (IsTightest rows place side num den) → IsFree rows place side ⊎ ((bound : Bound) × IsTightest rows place side num den bound)
    either None free = inl free
    either (Some bound) tightest = inr (bound, tightest)
