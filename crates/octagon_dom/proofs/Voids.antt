-- A cell that contradicts its opposite.
use Rattle.std.proofs.Common.{◌≡◌, ℕ, zero, suc, ◌+◌, ◌*◌, ◌/◌, ◌%◌, ◌<◌, ◌≤◌, ℤ, pos, ◌+ℤ◌, Bool, true, false, ◌||◌, List, Option, None, Some, int_lt, arith, refl, add-one}
use Rattle.std.proofs.Common.{◌∙◌, ⊎_elim, ap, subst, sym}
use Rattle.std.proofs.lemmas.Bool.{cases_lt}
use Rattle.std.proofs.lemmas.Int.{ints}
use Rattle.num_domain.specs.declared.bound.Bound.{Bound}
use Rattle.octagon_dom.specs.Cells.{bound, is_negative, void_below}
use Rattle.octagon_dom.specs.Laws.Members.{bound_same}

pub void_none : (cells : List (Bound ℤ)) → void_below 0 cells ≡ false
unfolding void_below
void_none cells = refl

pub void_more : (n : ℕ) (cells : List (Bound ℤ)) → void_below (n + 1) cells
    ≡ (void_below n cells || is_negative (bound cells (n / 32) (n % 32)) (bound cells (n % 32) (n / 32)))
unfolding void_below
void_more n cells = rw add-one refl

pub void_later : (n m : ℕ) (cells : List (Bound ℤ)) → n ≤ m → void_below n cells ≡ true → void_below m cells ≡ true
unfolding void_below
void_later n zero cells few is = let same : n ≡ 0 = omega arith in rw same at is
void_later n (suc m) cells few is = ⊎_elim
    (λ (less : n < suc m). rw (void_later n m cells (omega arith) is) refl)
    (λ (from : suc m ≤ n). let same : n ≡ suc m = omega arith in rw same at is)
    (cases_lt n (suc m))

either_false : (a b : Bool) → (a || b) ≡ false → (a ≡ false) × (b ≡ false)
either_false true b is = absurd (cc)
either_false false b is = (refl, is)

-- where no cell contradicts its opposite, no two opposite bounds sum below 0
below_none : (n : ℕ) (cells : List (Bound ℤ)) → void_below n cells ≡ false → (k : ℕ) → k < n
    → is_negative (bound cells (k / 32) (k % 32)) (bound cells (k % 32) (k / 32)) ≡ false
unfolding void_below
below_none zero cells is k low = absurd (omega arith)
below_none (suc n) cells is k low =
    let both = either_false (void_below n cells) _ is in
    ⊎_elim
    (λ (less : k < n). below_none n cells both.0 k less)
    (λ (from : n ≤ k). let same : k ≡ n = omega arith in
    subst (λ k. is_negative (bound cells (k / 32) (k % 32)) (bound cells (k % 32) (k / 32)) ≡ false) (sym same) both.1)
    (cases_lt k n)

pub no_negative : (cells : List (Bound ℤ)) → void_below 1024 cells ≡ false → (i j : ℕ) → i < 32 → j < 32
    → is_negative (bound cells i j) (bound cells j i) ≡ false
no_negative cells is i j low also =
    let row : (32 * i + j) / 32 ≡ i = omega arith in
    let column : (32 * i + j) % 32 ≡ j = omega arith in
    let here = below_none 1024 cells is (32 * i + j) (omega arith) in
    subst (λ a. is_negative (bound cells a j) (bound cells j a) ≡ false) row
    (subst (λ b. is_negative (bound cells ((32 * i + j) / 32) b) (bound cells b ((32 * i + j) / 32)) ≡ false) column here)

-- the two bounds that do
pub record IsNegative (cells : List (Bound ℤ)) : Type 0 where
  pub i : ℕ
  pub j : ℕ
  pub low : i < 32
  pub also : j < 32
  pub is : is_negative (bound cells i j) (bound cells j i) ≡ true

pub some_negative : (n : ℕ) (cells : List (Bound ℤ)) → n ≤ 1024 → void_below n cells ≡ true → IsNegative cells
unfolding void_below
some_negative zero cells few is = absurd (cc)
some_negative (suc n) cells few is = chosen (void_below n cells) refl (λ before. some_negative n cells (omega arith) before)
  where
    chosen : (t : Bool) → void_below n cells ≡ t → (void_below n cells ≡ true → IsNegative cells) → IsNegative cells
    chosen true before more = more before
    chosen false before more = record {
      i = n / 32;
      j = n % 32;
      low = omega arith;
      also = omega arith;
      is = rw before at is;
    }

-- two ends sum below 0 in either order
negative_turned : (left right : Option ℤ) → is_negative left right ≡ is_negative right left
negative_turned None None = refl
negative_turned None (Some b) = refl
negative_turned (Some a) None = refl
negative_turned (Some a) (Some b) = let same : a +ℤ b ≡ b +ℤ a = omega (arith, ints) in ap (λ t. int_lt t (pos 0)) same

-- one cell that contradicts its opposite
pub void_found : (cells : List (Bound ℤ)) (i j : ℕ) → i < 32 → j < 32 → is_negative (bound cells i j) (bound cells j i) ≡ true
    → void_below 1024 cells ≡ true
void_found cells i j low also is =
    let row : (32 * i + j) / 32 ≡ i = omega arith in
    let column : (32 * i + j) % 32 ≡ j = omega arith in
    let here : is_negative (bound cells ((32 * i + j) / 32) ((32 * i + j) % 32)) (bound cells ((32 * i + j) % 32) ((32 * i + j) / 32)) ≡ true =
    rw (row, column) is in
    void_later (32 * i + j + 1) 1024 cells (omega arith) (void_more (32 * i + j) cells ∙ either_true (void_below (32 * i + j) cells) _ here)
  where
    either_true : (a b : Bool) → b ≡ true → (a || b) ≡ true
    either_true true b is = refl
    either_true false b is = is

-- a signed place less itself is 0
negative_itself : (cells : List (Bound ℤ)) (i j : ℕ) → i ≡ j → is_negative (bound cells i j) (bound cells j i) ≡ false
negative_itself cells i j same = rw (bound_same cells i j same, bound_same cells j i (sym same)) refl

-- no cell contradicts its opposite where the later of two never does
negative_nowhere : (cells : List (Bound ℤ)) → ((i j : ℕ) → i < 32 → j < i → is_negative (bound cells i j) (bound cells j i) ≡ false) → (i j : ℕ) → i < 32 → j < 32
    → is_negative (bound cells i j) (bound cells j i) ≡ false
negative_nowhere cells none i j low also = ⊎_elim
    (λ (later : j < i). none i j low later)
    (λ (from : i ≤ j). ⊎_elim
    (λ (earlier : i < j). negative_turned (bound cells i j) (bound cells j i) ∙ none j i also earlier)
    (λ (upto : j ≤ i). let same : i ≡ j = omega arith in negative_itself cells i j same)
    (cases_lt i j))
    (cases_lt j i)

pub void_nowhere : (cells : List (Bound ℤ)) → ((i j : ℕ) → i < 32 → j < i → is_negative (bound cells i j) (bound cells j i) ≡ false) → (n : ℕ) → n ≤ 1024
    → void_below n cells ≡ false
unfolding void_below
void_nowhere cells none zero few = refl
void_nowhere cells none (suc n) few = rw (void_nowhere cells none n (omega arith), negative_nowhere cells none (n / 32) (n % 32) (omega arith) (omega arith)) refl
