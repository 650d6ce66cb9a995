-- Constraints of which none is impossible and no two are opposed have a judge that grants them all.
use Rattle.std.proofs.Common.{◌≡◌, inl, inr, ℕ, zero, suc, ◌<◌, ℤ, pos, negsuc, ◌-ℤ◌, ◌≤ℤ◌, int_le, int_lt, ◌/◌, ◌≤◌, Bool, true, false, not, cond, List, [], ◌∷◌, length, Contains, refl, sym, ap, subst, ◌∙◌, arith}
use Rattle.std.proofs.lemmas.Bool.{false≢true}
use Rattle.std.proofs.lemmas.Int.{ints}
use Rattle.std.proofs.lemmas.Nat.{le-div}
use Rattle.std.proofs.Math.Nat.{div-mul-le_self}
use Rattle.linear_cons.specs.declared.affine.Affine.{Affine}
use Rattle.linear_cons.specs.declared.row.Row.{Row}
use Rattle.linear_cons.specs.declared.row.RowKind.{RowKind}
use Rattle.linear_cons.specs.declared.row.RowKind.TheVariants.{Always, Never, Row as Kept}
use Rattle.linear_cons.specs.Divisor.{IsDivisorOf, divisor_of}
use Rattle.linear_cons.specs.Functions.{coefficient, complement_of, constant_of, quotient_by}
use Rattle.linear_cons.specs.Numbers.{floor_by, number_at}
use Rattle.linear_cons.specs.Laws.Primitive.{divisor_is}
use Rattle.linear_cons.specs.Rows.{AreOpposed, IsRowOf, kind_by, row_kind_of}
use Rattle.linear_cons.specs.Settling.{functions_of_rows, settled, tells}
use Rattle.linear_cons.proofs.Forms.{affine_of_parts, affine_same}
use Rattle.linear_cons.proofs.KindLaws.{primitive_kind, row_kind_is}
use Rattle.linear_cons.proofs.Places.{length-at_places, number_at_places}
use Rattle.linear_cons.proofs.Telling.{tells-Decides}
use Rattle.linear_forms.proofs.DualLists.{AreComplements, complement_kinds}
use Rattle.constraint_stack.specs.Reasons.{rows_in}
use Rattle.exact_families.proofs.Judges.{IsJudge, judge_kind}
use Rattle.exact_families.specs.Shut.{IsConsistent}
use Rattle.unroll.proofs.Agreeing.{SomeTells, some_told, tells_own, told_some}
use Rattle.tree_support.proofs.Lists.{contains_first, contains_later}

-- ---- what functions tell

tells_through : (a b c : Affine) → tells a b ≡ true → tells b c ≡ true → tells a c ≡ true
tells_through a b c first second =
    let one = (tells-Decides a b).0 first in
    let two = (tells-Decides b c).0 second in
    let le = one.1 in
    let more = two.1 in
    (tells-Decides a c).1 (one.0 ∙ two.0, omega (arith, ints))

some_through : (path : List Row) (a b : Affine) → tells a b ≡ true → SomeTells path a → SomeTells path b
some_through [] a b tell some = some
some_through (row ∷ rest) a b tell (inl here) = inl (tells_through row.affine a b here tell)
some_through (row ∷ rest) a b tell (inr later) = inr (some_through rest a b tell later)

complement_coef : (a b : Affine) → a.coef ≡ b.coef → (complement_of a).coef ≡ (complement_of b).coef
complement_coef a b same = ap (λ t. (complement_of (record { coef = t; constant = pos 0 })).coef) same

-- the complement of the one with the greater constant tells that of the other
turned_tells : (a b : Affine) → tells a b ≡ true → tells (complement_of b) (complement_of a) ≡ true
turned_tells a b tell =
    let both = (tells-Decides a b).0 tell in
    let le = both.1 in
    (tells-Decides (complement_of b) (complement_of a)).1 (sym (complement_coef a b both.0), omega (arith, ints))

coefficient_turned : (a : Affine) (i : ℕ) → i < 16 → coefficient (complement_of a) i ≡ pos 0 -ℤ coefficient a i
coefficient_turned a i low =
    number_at_places (λ j. coefficient (constant_of (negsuc 0)) j -ℤ coefficient a j) i low
    ∙ ap (λ t. t -ℤ coefficient a i) (number_at_places (λ j. pos 0) i low)

complement_twice : (a : Affine) → length a.coef ≡ 16 → complement_of (complement_of a) ≡ a
complement_twice a long =
    affine_same (complement_of (complement_of a)) a (length-at_places _) long
    (λ i low. let once = coefficient_turned a i low in let again = coefficient_turned (complement_of a) i low in omega (arith, ints)) (omega (arith, ints))

-- rows that tell a function and its complement are opposed
apart_told : (given other : Row) (a : Affine) → tells given.affine a ≡ true → tells other.affine (complement_of a) ≡ true → AreOpposed given other
apart_told given other a tell against =
    let one = (tells-Decides given.affine a).0 tell in
    let two = (tells-Decides other.affine (complement_of a)).0 against in
    let le = one.1 in
    let low = two.1 in
    record {
      negatives = λ i h.
          let first : coefficient given.affine i ≡ coefficient a i = ap (λ t. number_at t i) one.0 in
          let second : coefficient other.affine i ≡ coefficient (complement_of a) i = ap (λ t. number_at t i) two.0 in
          let turn = coefficient_turned a i h in
          omega (arith, ints);
      constants = omega (arith, ints);
    }

-- rounding down keeps the order
floor_more : (g : ℕ) (z w : ℤ) → 0 < g → z ≤ℤ w → floor_by g z ≤ℤ floor_by g w
floor_more g (pos m) (pos n) positive le =
    let low = div-mul-le_self m g in let d : m / g ≤ n / g = le-div (m / g) n g positive (omega (arith, ints)) in omega (arith, ints)
floor_more g (negsuc m) (pos n) positive le = omega (arith, ints)
floor_more g (pos m) (negsuc n) positive le = absurd (omega (arith, ints))
floor_more g (negsuc m) (negsuc n) positive le =
    let low = div-mul-le_self n g in let d : n / g ≤ m / g = le-div (n / g) m g positive (omega (arith, ints)) in omega (arith, ints)

-- the row that tells
which_tells : (path : List Row) (a : Affine) → SomeTells path a → (row : Row) × Contains path row × (tells row.affine a ≡ true)
which_tells [] a some = absurd some
which_tells (row ∷ rest) a (inl here) = (row, contains_first row rest, here)
which_tells (row ∷ rest) a (inr later) = let found = which_tells rest a later in (found.0, contains_later row found.0 rest found.1, found.2)

-- ---- the judge of a path

module _ (path : List Row) (apart : (row other : Row) → Contains path row → Contains path other → AreOpposed row other → ⊥) where
  abbrev told : Affine → Bool
  told a = settled (functions_of_rows path) a

  not_both : (a : Affine) → SomeTells path a → SomeTells path (complement_of a) → ⊥
  not_both a some other =
      let one = which_tells path a some in
      let two = which_tells path (complement_of a) other in
      apart one.0 two.0 one.1 two.1 (apart_told one.0 two.0 a one.2 two.2)

  -- what the path tells, and where it tells nothing the sign of the constant
  abbrev by_path : Bool → Bool → ℤ → Bool
  by_path here turn z = cond here true (cond turn false (int_le (pos 0) z))

  abbrev path_says : Affine → Bool
  path_says a = by_path (told a) (told (complement_of a)) a.constant

  turned_by : (here turn : Bool) (z w : ℤ) (t u : Bool) → (here ≡ true → turn ≡ true → ⊥) → w ≡ negsuc 0 -ℤ z → int_le (pos 0) z ≡ t → int_le (pos 0) w ≡ u
      → cond turn true (cond here false u) ≡ not (cond here true (cond turn false t))
  turned_by true true z w t u both is one two = absurd (both refl refl)
  turned_by true false z w t u both is one two = refl
  turned_by false true z w t u both is one two = refl
  turned_by false false z w true true both is one two = absurd (omega (arith, ints))
  turned_by false false z w true false both is one two = refl
  turned_by false false z w false true both is one two = refl
  turned_by false false z w false false both is one two = absurd (omega (arith, ints))

  path_turned : (a : Affine) → length a.coef ≡ 16 → path_says (complement_of a) ≡ not (path_says a)
  path_turned a long =
      ap (λ t. by_path (told (complement_of a)) (told t) (complement_of a).constant) (complement_twice a long)
      ∙ turned_by (told a) (told (complement_of a)) a.constant (complement_of a).constant _ _
      (λ here turn. not_both a (told_some path a here) (told_some path (complement_of a) turn)) refl refl refl

  more_by : (here turn there back : Bool) (z w : ℤ) (t u : Bool) → (here ≡ true → there ≡ true) → (back ≡ true → turn ≡ true) → z ≤ℤ w → int_le (pos 0) z ≡ t
      → int_le (pos 0) w ≡ u → cond here true (cond turn false t) ≡ true → cond there true (cond back false u) ≡ true
  more_by true turn there back z w t u on off le one two own = rw (on refl) refl
  more_by false true there back z w t u on off le one two own = absurd (false≢true own)
  more_by false false true back z w t u on off le one two own = refl
  more_by false false false true z w t u on off le one two own = absurd (false≢true (off refl))
  more_by false false false false z w true true on off le one two own = refl
  more_by false false false false z w true false on off le one two own = absurd (omega (arith, ints))
  more_by false false false false z w false u on off le one two own = absurd (false≢true own)

  path_more : (a b : Affine) → tells a b ≡ true → path_says a ≡ true → path_says b ≡ true
  path_more a b tell own =
      more_by (told a) (told (complement_of a)) (told b) (told (complement_of b)) a.constant b.constant _ _
      (λ here. some_told path b (some_through path a b tell (told_some path a here)))
      (λ back. some_told path (complement_of a) (some_through path (complement_of b) (complement_of a) (turned_tells a b tell) (told_some path (complement_of b) back)))
      ((tells-Decides a b).0 tell).1 refl refl own

  path_grants : (row : Row) → Contains path row → path_says row.affine ≡ true
  path_grants row inside = ap (λ t. by_path t (told (complement_of row.affine)) row.affine.constant) (some_told path row.affine (tells_there path row inside))
    where
      tells_there : (path : List Row) (row : Row) → Contains path row → SomeTells path row.affine
      tells_there [] row inside = absurd (let low = inside.1 in omega arith)
      tells_there (x ∷ rest) row (zero, low, is) = inl (subst (λ (r : Row). tells x.affine r.affine ≡ true) is (tells_own x.affine))
      tells_there (x ∷ rest) row (suc k, low, is) = inr (tells_there rest row (k, omega arith, is))

  -- ---- over rounded functions

  abbrev pub opened : Affine → Bool
  opened a = judge_kind path_says (row_kind_of a)

  turned_kinds : (kind other : RowKind) (a b : Affine) → IsRowOf a kind → IsRowOf b other → AreComplements kind other → judge_kind path_says other ≡ not (judge_kind path_says kind)
  turned_kinds Always Never a b is too are = refl
  turned_kinds Never Always a b is too are = refl
  turned_kinds (Kept row) (Kept other) a b is too are = ap path_says are ∙ path_turned row.affine is.places
  turned_kinds Always Always a b is too are = absurd are
  turned_kinds Always (Kept other) a b is too are = absurd are
  turned_kinds Never Never a b is too are = absurd are
  turned_kinds Never (Kept other) a b is too are = absurd are
  turned_kinds (Kept row) Always a b is too are = absurd are
  turned_kinds (Kept row) Never a b is too are = absurd are

  own_kind : (kind : RowKind) (a : Affine) → IsRowOf a kind → judge_kind path_says kind ≡ judge_kind opened kind
  own_kind Always a is = refl
  own_kind Never a is = refl
  own_kind (Kept row) a is = sym (ap (judge_kind path_says) (primitive_kind row.affine row.primitive is.places))

  -- ---- rounding keeps the order

  kind_more : (coef : List ℤ) (z w : ℤ) (g : ℕ) (d : IsDivisorOf coef g) → z ≤ℤ w
      → judge_kind path_says (kind_by (record { coef = coef; constant = z }) g d) ≡ true
      → judge_kind path_says (kind_by (record { coef = coef; constant = w }) g d) ≡ true
  kind_more coef z w zero d le own = at (int_lt z (pos 0)) (int_lt w (pos 0)) refl refl own
    where
      at : (t u : Bool) → int_lt z (pos 0) ≡ t → int_lt w (pos 0) ≡ u → judge_kind path_says (cond t Never Always) ≡ true
          → judge_kind path_says (cond u Never Always) ≡ true
      at true u one two own = absurd (false≢true own)
      at false true one two own = absurd (omega (arith, ints))
      at false false one two own = refl
  kind_more coef z w (suc n) d le own =
      let less = floor_more (suc n) z w (omega arith) le in
      path_more (quotient_by (suc n) (record { coef = coef; constant = z })) (quotient_by (suc n) (record { coef = coef; constant = w }))
      ((tells-Decides (quotient_by (suc n) (record { coef = coef; constant = z })) (quotient_by (suc n) (record { coef = coef; constant = w }))).1 (refl, less)) own

  same_part : (a b : Affine) → a.coef ≡ b.coef → a ≡ record { coef = b.coef; constant = a.constant }
  same_part a b same = affine_of_parts a (record { coef = b.coef; constant = a.constant }) same refl

  rounded_more : (a b : Affine) → a.coef ≡ b.coef → a.constant ≤ℤ b.constant → judge_kind path_says (row_kind_of a) ≡ true → judge_kind path_says (row_kind_of b) ≡ true
  unfolding row_kind_of
  rounded_more a b same le own =
      kind_more b.coef a.constant b.constant (divisor_of b.coef) (divisor_is b.coef) le
      (subst (λ (t : Affine). judge_kind path_says (row_kind_of t) ≡ true) (same_part a b same) own)

  pub opened_judges : IsJudge opened
  opened_judges = record {
    turned = λ a. turned_kinds (row_kind_of a) (row_kind_of (complement_of a)) a (complement_of a) (row_kind_is a) (row_kind_is (complement_of a)) (complement_kinds a (complement_of a) refl);
    more = λ a b tell own. let both = (tells-Decides a b).0 tell in rounded_more a b both.0 both.1 own;
    rounded = λ a. own_kind (row_kind_of a) a (row_kind_is a);
  }

  pub opened_grants : (a : Affine) (kind : RowKind) → row_kind_of a ≡ kind → (kind ≡ Never → ⊥) → ((row : Row) → kind ≡ Kept row → Contains path row) → opened a ≡ true
  opened_grants a Always is possible inside = ap (judge_kind path_says) is
  opened_grants a Never is possible inside = absurd (possible refl)
  opened_grants a (Kept row) is possible inside = ap (judge_kind path_says) is ∙ path_grants row (inside row refl)

-- ---- constraints

row_inside : (kinds : List RowKind) (row : Row) → Contains kinds (Kept row) → Contains (rows_in kinds) row
row_inside [] row inside = absurd (let low = inside.1 in omega arith)
row_inside (Always ∷ rest) row (zero, low, is) = absurd (cc)
row_inside (Always ∷ rest) row (suc k, low, is) = row_inside rest row (k, omega arith, is)
row_inside (Never ∷ rest) row (zero, low, is) = absurd (cc)
row_inside (Never ∷ rest) row (suc k, low, is) = row_inside rest row (k, omega arith, is)
row_inside (Kept x ∷ rest) row (zero, low, is) = (0, omega arith, cc)
row_inside (Kept x ∷ rest) row (suc k, low, is) = contains_later x row (rows_in rest) (row_inside rest row (k, omega arith, is))

inside_row : (kinds : List RowKind) (row : Row) → Contains (rows_in kinds) row → Contains kinds (Kept row)
inside_row [] row inside = absurd (let low = inside.1 in omega arith)
inside_row (Always ∷ rest) row inside = contains_later Always (Kept row) rest (inside_row rest row inside)
inside_row (Never ∷ rest) row inside = contains_later Never (Kept row) rest (inside_row rest row inside)
inside_row (Kept x ∷ rest) row (zero, low, is) = (0, omega arith, ap (λ t. Kept t) is)
inside_row (Kept x ∷ rest) row (suc k, low, is) = contains_later (Kept x) (Kept row) rest (inside_row rest row (k, omega arith, is))

-- a judge that grants the function of each of the constraints
pub record Opens (kinds : List RowKind) : Type 0 where
  pub says : Affine → Bool
  pub judges : IsJudge says
  pub grants : (a : Affine) → Contains kinds (row_kind_of a) → says a ≡ true

pub opening : (kinds : List RowKind) → IsConsistent kinds → Opens kinds
opening kinds fair =
    let apart : (row other : Row) → Contains (rows_in kinds) row → Contains (rows_in kinds) other → AreOpposed row other → ⊥ =
    λ row other here there. fair.apart row other (inside_row kinds row here) (inside_row kinds other there) in
    record {
      says = opened (rows_in kinds) apart;
      judges = opened_judges (rows_in kinds) apart;
      grants = λ a inside.
          opened_grants (rows_in kinds) apart a (row_kind_of a) refl
          (λ is. fair.possible (subst (Contains kinds) is inside))
          (λ row is. row_inside kinds row (subst (Contains kinds) is inside));
    }
