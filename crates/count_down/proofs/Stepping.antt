-- A step between labels whose trees count down: from the tree of a function e to that of a function f whose value behind the step is e's,
-- and at most 0 more.
use Rattle.std.proofs.Common.{◌≡◌, ℕ, ◌+◌, ◌<◌, ℤ, pos, negsuc, neg_ℤ, ◌+ℤ◌, ◌-ℤ◌, ◌*ℤ◌, ◌≤ℤ◌, ◌<ℤ◌, inl, inr, List, [], ◌∷◌, ◌++◌, Option, None, Some, length, All, Contains, refl, ap, ◌∙◌, arith}
use Rattle.std.specs.Bool.{⊤}
use Rattle.std.proofs.lemmas.Int.{ints}
use Rattle.std.proofs.lemmas.List.{length-set}
use Rattle.std.proofs.lemmas.List.Elements.{All-append, Contains-append_left, Contains-append_right}
use Rattle.linear_cons.specs.declared.affine.Affine.{Affine}
use Rattle.linear_cons.specs.declared.row.Row.{Row}
use Rattle.linear_cons.specs.declared.row.RowKind.{RowKind}
use Rattle.linear_cons.specs.declared.row.RowKind.TheVariants.{Always, Never, Row as Kept}
use Rattle.linear_cons.specs.Functions.{IsQuotient, complement_of, constant_of, difference_of, multiple_of, sum_of, value_at}
use Rattle.linear_cons.specs.LinearForm.{products_below}
use Rattle.linear_cons.specs.Rows.{IsRowOf, row_kind_of}
use Rattle.linear_cons.proofs.Forms.{products_multiple, value_complement, value_constant, value_difference, value_multiple, value_substituted, value_sum}
use Rattle.linear_cons.proofs.KindLaws.{row_kind_is}
use Rattle.linear_cons.proofs.Ring.{mul_add, mul_neg, mul_one, mul_sub, one_mul}
use Rattle.linear_cons.proofs.RowLaws.{constant_value}
use Rattle.linear_cons.proofs.Sums.{value_is}
use Rattle.decision_tree.specs.declared.affine_rank.AffineRank.{AffineRank}
use Rattle.decision_tree.specs.AffineRanks.{excess_of}
use Rattle.tree_support.specs.Certificates.{affine_ranks}
use Rattle.constraint_stack.specs.Forming.{Formed, FormsWhole, exact}
use Rattle.constraint_stack.specs.Claims.{ClaimFits, moved_rank, System, exceeding}
use Rattle.tree_support.specs.Systems.{at_leaves, moved_by, unless_less}
use Rattle.tree_support.proofs.Lists.{all_one}
use Rattle.tree_support.proofs.Moving.{store_after}
use Rattle.count_down.specs.Blocking.{IsBlocked}
use Rattle.count_down.specs.Trees.{bound, count_tree, ranked, shifted, split, within}
use Rattle.count_down.proofs.Lining.{Falls, Lower, Natural, Negative, by_claim, by_fall, by_sides}

-- the place that is set is one of a store
abbrev pub SetsPlace : Option (ℕ × Affine) → Type 0
SetsPlace None = ⊤
SetsPlace (Some (place, value)) = place < 16

long_after : (sets : Option (ℕ × Affine)) (store : List ℤ) → length store ≡ 16 → length (store_after sets store) ≡ 16
long_after None store long = long
long_after (Some (place, value)) store long = length-set store place (value_at value store) ∙ long

moved_value : (sets : Option (ℕ × Affine)) → SetsPlace sets → (a : Affine) (store : List ℤ) → length store ≡ 16
    → value_at (exact (moved_by sets a)) store ≡ value_at a (store_after sets store)
moved_value None place a store long = refl
moved_value (Some (at, value)) place a store long = value_substituted a at value store place (omega arith)

ranked_value : (sets : Option (ℕ × Affine)) → SetsPlace sets → (a : Affine) (store : List ℤ) → length store ≡ 16
    → value_at (moved_rank affine_ranks sets (ranked a)).value store ≡ value_at a (store_after sets store)
ranked_value None place a store long = refl
ranked_value (Some (at, value)) place a store long = value_substituted a at value store place (omega arith)

-- the value of a function by that of a quotient
pub quotient_value : (a q : Affine) (store : List ℤ) (by : IsQuotient a q)
    → value_at a store ≡ pos by.divisor *ℤ value_at q store +ℤ (a.constant -ℤ pos by.divisor *ℤ q.constant)
quotient_value a q store by =
    let whole = value_is a.coef a.constant store in
    let part = value_is q.coef q.constant store in
    let products = products_multiple 16 a.coef q.coef store (pos by.divisor) by.coefficients in
    let put = ap (λ t. pos by.divisor *ℤ t) part in
    let spread = mul_add (pos by.divisor) (products_below 16 q.coef store) q.constant in
    omega (arith, ints)

pub bound_value : (m s : ℕ) (e : Affine) (k : ℕ) (store : List ℤ)
    → value_at (bound m s e k) store ≡ pos m *ℤ (value_at e store +ℤ pos 1) +ℤ pos (k + 1 + s)
bound_value m s e k store =
    let sum = value_sum (multiple_of (shifted e (pos 1)) (pos m)) (constant_of (pos (k + 1 + s))) store in
    let last = value_constant (pos (k + 1 + s)) store in
    let product = value_multiple (shifted e (pos 1)) (pos m) store in
    let inner : value_at (shifted e (pos 1)) store ≡ value_at e store +ℤ pos 1 =
    value_sum e (constant_of (pos 1)) store ∙ ap (λ t. value_at e store +ℤ t) (value_constant (pos 1) store) in
    let put = ap (λ t. pos m *ℤ t) inner in
    omega (arith, ints)

module _ (sets : Option (ℕ × Affine)) (place : SetsPlace sets) where
  -- the value of a function behind the step
  abbrev pub behind : Affine → List ℤ → ℤ
  behind f store = value_at f (store_after sets store)

  -- the function that a claim between two bounds asks for
  abbrev pub excess : Affine → Affine → Affine
  excess a b = excess_of (affine_ranks.one_more (moved_rank affine_ranks sets (ranked a))).value b

  pub claim_value : (a b : Affine) (store : List ℤ) → length store ≡ 16 → value_at (excess a b) store ≡ behind a store -ℤ value_at b store
  claim_value a b store long =
      let moved : Affine = (moved_rank affine_ranks sets (ranked a)).value in
      let more : Affine = sum_of moved (constant_of (pos 1)) in
      let own = ranked_value sets place a store long in
      let one = value_sum moved (constant_of (pos 1)) store in
      let one_is = value_constant (pos 1) store in
      let difference = value_difference more b store in
      let sum = value_sum (difference_of more b) (constant_of (negsuc 0)) store in
      let minus_one_is = value_constant (negsuc 0) store in
      omega (arith, ints)

  pub lower_of : (f : Affine) (row : Row) → IsQuotient f row.affine → Lower (behind f) (exact (moved_by sets row.affine))
  lower_of f row by = record {
    scale = by.divisor;
    some = by.positive;
    off = pos by.divisor *ℤ row.affine.constant -ℤ f.constant;
    low = let at_most = by.at_most in omega (arith, ints);
    is = λ store long.
        let own = quotient_value f row.affine (store_after sets store) by in
        let put = ap (λ t. pos by.divisor *ℤ t) (moved_value sets place row.affine store long) in
        omega (arith, ints);
  }

  pub falls_of : (f : Affine) (row : Row) → IsQuotient f row.affine → Falls (behind f) (exact (moved_by sets (complement_of row.affine)))
  falls_of f row by = record {
    scale = by.divisor;
    some = by.positive;
    slope = 1;
    some_slope = omega arith;
    off = f.constant -ℤ pos by.divisor *ℤ (row.affine.constant +ℤ pos 1);
    low = let below = by.below_next in omega (arith, ints);
    is = λ store long.
        let after = store_after sets store in
        let own = quotient_value f row.affine after by in
        let put = ap (λ t. pos by.divisor *ℤ t) (moved_value sets place (complement_of row.affine) store long ∙ value_complement row.affine after) in
        let spread = mul_sub (pos by.divisor) (negsuc 0) (value_at row.affine after) in
        let next = mul_add (pos by.divisor) row.affine.constant (pos 1) in
        let unit = mul_one (pos by.divisor) in
        let minus : pos by.divisor *ℤ negsuc 0 ≡ neg_ℤ (pos by.divisor *ℤ pos 1) = mul_neg (pos by.divisor) (pos 1) in
        let one : pos 1 *ℤ behind f store ≡ behind f store = one_mul (behind f store) in
        omega (arith, ints);
  }

  -- the rows of the tree behind the step can be moved back over it
  abbrev pub RowsFit : RowKind → Type 0
  RowsFit Always = ⊤
  RowsFit Never = ⊤
  RowsFit (Kept row) = FormsWhole (moved_by sets row.affine) × FormsWhole (moved_by sets (complement_of row.affine))

  abbrev pub Extends : List Formed → List Formed → Type 0
  Extends asks more = (a : Formed) → Contains asks a → Contains more a

  abbrev system : ℕ → List Formed → Affine → Affine → System AffineRank
  system edge asks end b = record { edge = edge; asks = asks; claim = exceeding (ranked end) sets (ranked b) }

  -- what holds at both sides of a split holds of its leaves
  pub sides : (f : Affine) (kind : RowKind) → IsRowOf f kind → RowsFit kind → (edge : ℕ) (first second b : Affine) (asks : List Formed)
      → ((more : List Formed) → Extends asks more → Natural more (behind f) → IsBlocked (system edge more first b))
      → ((more : List Formed) → Extends asks more → Negative more (behind f) → IsBlocked (system edge more second b))
      → All IsBlocked (at_leaves (moved_by sets) (unless_less edge sets (ranked b)) (split kind (within first) (within second)) asks)
  sides f Always is fit edge first second b asks one two =
      all_one IsBlocked (system edge asks first b)
      (one asks (λ a inside. inside) (inr (f.constant, is.1, λ store long. constant_value f (store_after sets store) is.0)))
  sides f Never is fit edge first second b asks one two =
      all_one IsBlocked (system edge asks second b)
      (two asks (λ a inside. inside) (inr (f.constant, is.1, λ store long. constant_value f (store_after sets store) is.0)))
  sides f (Kept row) is fit edge first second b asks one two =
      let this : Formed = moved_by sets row.affine in
      let that : Formed = moved_by sets (complement_of row.affine) in
      All-append IsBlocked (system edge (asks ++ this ∷ []) first b ∷ []) (system edge (asks ++ that ∷ []) second b ∷ [])
      (all_one IsBlocked (system edge (asks ++ this ∷ []) first b)
      (one (asks ++ this ∷ []) (λ a inside. Contains-append_left asks (this ∷ []) a inside)
      (inl (exact this, (this, Contains-append_right asks (this ∷ []) this (0, omega arith, refl), fit.0, refl), lower_of f row is))))
      (all_one IsBlocked (system edge (asks ++ that ∷ []) second b)
      (two (asks ++ that ∷ []) (λ a inside. Contains-append_left asks (that ∷ []) a inside)
      (inl (exact that, (that, Contains-append_right asks (that ∷ []) that (0, omega arith, refl), fit.1, refl), falls_of f row is))))

-- what is asked by fewer is asked by more
pub more_natural : (asks more : List Formed) (v : List ℤ → ℤ) → ((a : Formed) → Contains asks a → Contains more a) → Natural asks v → Natural more v
more_natural asks more v extends (inl natural) = inl (natural.0, (natural.1.0, extends natural.1.0 natural.1.1, natural.1.2, natural.1.3), natural.2)
more_natural asks more v extends (inr always) = inr always

pub more_negative : (asks more : List Formed) (v : List ℤ → ℤ) → ((a : Formed) → Contains asks a → Contains more a) → Negative asks v
    → Negative more v
more_negative asks more v extends (inl negative) = inl (
  negative.0,
  (negative.1.0, extends negative.1.0 negative.1.1, negative.1.2, negative.1.3),
  negative.2,
)
more_negative asks more v extends (inr always) = inr always

-- the numbers of a step fit: its rows moved back, and the claims between the bounds
pub record StepFits (sets : Option (ℕ × Affine)) (m s : ℕ) (e : Affine) (k : ℕ) (f : Affine) (j : ℕ) : Type 0 where
  pub place : SetsPlace sets
  pub rows : RowsFit sets place (row_kind_of f)
  pub bounds : ClaimFits affine_ranks (exceeding (ranked (bound m s f j)) sets (ranked (bound m s e k)))
  pub last : ClaimFits affine_ranks (exceeding (ranked (constant_of (pos (j + 1 + s)))) sets (ranked (bound m s e k)))
  pub lasts : ClaimFits affine_ranks (exceeding (ranked (constant_of (pos (j + 1 + s)))) sets (ranked (constant_of (pos (k + 1 + s)))))

module _ (sets : Option (ℕ × Affine)) (m s : ℕ) (e : Affine) (k : ℕ) (f : Affine) (j : ℕ) (fits : StepFits sets m s e k f j)
    (d : ℤ) (less : d ≤ℤ pos 0)
    (is : (store : List ℤ) → length store ≡ 16 → value_at f (store_after sets store) ≡ value_at e store +ℤ d)
    (edge : ℕ) (asks : List Formed) where
  -- where e is at least 0
  pub from_yes : 0 < m → j < k + m → (pos j +ℤ pos m *ℤ d) <ℤ pos k → Natural asks (λ store. value_at e store)
      → All IsBlocked (at_leaves (moved_by sets) (unless_less edge sets (ranked (bound m s e k))) (count_tree m s f j) asks)
  from_yes turn last_less bound_less natural =
      sides sets fits.place f (row_kind_of f) (row_kind_is f) fits.rows edge (bound m s f j) (constant_of (pos (j + 1 + s))) (bound m s e k) asks
      (λ more extends there.
      by_claim _ (excess sets fits.place (bound m s f j) (bound m s e k)) (pos j +ℤ pos m *ℤ d -ℤ pos k) (inr (fits.bounds, refl))
      (omega (arith, ints))
      (λ store long.
      let claim = claim_value sets fits.place (bound m s f j) (bound m s e k) store long in
      let first = bound_value m s f j (store_after sets store) in
      let second = bound_value m s e k store in
      let after : value_at f (store_after sets store) +ℤ pos 1 ≡ (value_at e store +ℤ pos 1) +ℤ d = let own = is store long in omega (arith, ints) in
      let put = ap (λ t. pos m *ℤ t) after in
      let spread = mul_add (pos m) (value_at e store +ℤ pos 1) d in
      omega (arith, ints)))
      (λ more extends there.
      by_fall _ (λ store. value_at e store) (excess sets fits.place (constant_of (pos (j + 1 + s))) (bound m s e k)) (inr (fits.last, refl))
      (record {
        scale = 1;
        some = omega arith;
        slope = m;
        some_slope = turn;
        off = pos j -ℤ pos k -ℤ pos m;
        low = omega (arith, ints);
        is = λ store long.
            let claim = claim_value sets fits.place (constant_of (pos (j + 1 + s))) (bound m s e k) store long in
            let first = value_constant (pos (j + 1 + s)) (store_after sets store) in
            let second = bound_value m s e k store in
            let spread = mul_add (pos m) (value_at e store) (pos 1) in
            let unit = mul_one (pos m) in
            let one = one_mul (value_at (excess sets fits.place (constant_of (pos (j + 1 + s))) (bound m s e k)) store) in
            omega (arith, ints);
      })
      (more_natural asks more (λ store. value_at e store) extends natural))

  -- where it is below 0
  pub from_no : j < k → Negative asks (λ store. value_at e store)
      → All IsBlocked (at_leaves (moved_by sets) (unless_less edge sets (ranked (constant_of (pos (k + 1 + s))))) (count_tree m s f j) asks)
  from_no last_less negative =
      sides sets fits.place f (row_kind_of f) (row_kind_is f) fits.rows edge (bound m s f j) (constant_of (pos (j + 1 + s)))
      (constant_of (pos (k + 1 + s))) asks
      (λ more extends there.
      by_sides _ (λ store. value_at e store) (behind sets fits.place f) d less is
      (more_negative asks more (λ store. value_at e store) extends negative) there)
      (λ more extends there.
      by_claim _ (excess sets fits.place (constant_of (pos (j + 1 + s))) (constant_of (pos (k + 1 + s)))) (pos j -ℤ pos k)
      (inr (fits.lasts, refl)) (omega (arith, ints))
      (λ store long.
      let claim = claim_value sets fits.place (constant_of (pos (j + 1 + s))) (constant_of (pos (k + 1 + s))) store long in
      let first = value_constant (pos (j + 1 + s)) (store_after sets store) in
      let second = value_constant (pos (k + 1 + s)) store in
      omega (arith, ints)))
