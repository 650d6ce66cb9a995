-- The recursion over places: from what is left to the rows, the bounds on numbers and on rows.
use Rattle.std.proofs.Common.{◌≡◌, ◌≢◌, ◌⊎◌, inl, inr, ℕ, zero, suc, ◌+◌, ◌-◌, ◌*◌, ◌/◌, ◌<◌, ◌≤◌, ℤ, pos, List, length, refl, sym, subst, ◌∙◌, arith, Contains, ⊎_elim, max, Bool, true, false}
use Rattle.std.proofs.Math.Nat.{le_trans, mul-le-mul_left, mul-le-mul_right}
use Rattle.std.specs.Ordering.{int_eq}
use Rattle.std.proofs.lemmas.Bool.{false_from_ne_true, false≢true, true_from_ne_false}
use Rattle.std.proofs.lemmas.Bool.Decides.{Decides-int_eq}
use Rattle.linear_cons.specs.declared.row.Row.{Row}
use Rattle.linear_cons.specs.Functions.{coefficient}
use Rattle.linear_solve.specs.Elimination.{IsEliminated, IsMade, lowers_of, made_of, mixture, others_of, uppers_of}
use Rattle.linear_solve.specs.Systems.{occurring, occurs, rows_after}
use Rattle.linear_solve.proofs.Growing.{sides_fit}
use Rattle.linear_solve.proofs.Mixing.{kept_unmentioned, mixture_unmentioned}
use Rattle.linear_solve.proofs.Extending.{made_unmentioned}
use Rattle.linear_solve.proofs.Occurring.{occurring_lt, occurs_in, occurs_of}

-- ---- fewer places occur

-- a place that an elimination's rows have occurs in the rows
made_occurs : (rows : List Row) (place i : ℕ) (row : Row) → i < 16 → IsMade rows place row → coefficient row.affine i ≢ pos 0 → occurs i rows ≡ true
made_occurs rows place i row low (inl (member, none)) apart = occurs_of i rows row member apart
made_occurs rows place i row low (inr mix) apart = ⊎_elim
    (λ (some : occurs i rows ≡ true). some)
    (λ (none : occurs i rows ≡ false).
    absurd (apart (kept_unmentioned (mixture mix.lower mix.upper place) row mix.normal i low (mixture_unmentioned mix.lower mix.upper place i low (absent mix.lower mix.pair.lower_in none) (absent mix.upper mix.pair.upper_in none)))))
    (either_bool (occurs i rows))
  where
    either_bool : (b : Bool) → (b ≡ true) ⊎ (b ≡ false)
    either_bool true = inl refl
    either_bool false = inr refl

    zero_of : (z : ℤ) → (z ≢ pos 0 → ⊥) → z ≡ pos 0
    zero_of z h = (Decides-int_eq z (pos 0)).0 (true_from_ne_false (int_eq z (pos 0)) (λ f. h (λ is. false≢true (sym f ∙ (Decides-int_eq z (pos 0)).1 is))))

    absent : (other : Row) → Contains rows other → occurs i rows ≡ false → coefficient other.affine i ≡ pos 0
    absent other member none = zero_of (coefficient other.affine i) (λ some. false≢true (sym none ∙ occurs_of i rows other member some))

pub left_occurs : (rows : List Row) (place : ℕ) (left : List Row) → IsEliminated rows place left → (i : ℕ) → i < 16 → occurs i left ≡ true → occurs i rows ≡ true
left_occurs rows place left eliminated i low is =
    let found = occurs_in i left is in
    made_occurs rows place i found.0 low (eliminated.made found.0 found.1.0) found.1.1

-- the place that was eliminated does not occur
pub left_without : (rows : List Row) (place : ℕ) (left : List Row) → place < 16 → IsEliminated rows place left → occurs place left ≡ false
left_without rows place left low eliminated = false_from_ne_true (occurs place left) (λ is.
    let found = occurs_in place left is in
    found.1.1 (made_unmentioned rows place found.0 low (eliminated.made found.0 found.1.0)))

pub fewer_occur : (rows : List Row) (place : ℕ) (left : List Row) → place < 16 → occurs place rows ≡ true → IsEliminated rows place left → occurring left < occurring rows
fewer_occur rows place left low some eliminated =
    occurring_lt 16 left rows place low (left_occurs rows place left eliminated) (left_without rows place left low eliminated) some

-- ---- how many rows are left

max_left : (x a b : ℕ) → x ≤ a → x ≤ max a b
max_left x a b le = omega arith

max_right : (x a b : ℕ) → x ≤ b → x ≤ max a b
max_right x a b le = omega arith

quarter : (x y : ℕ) → 4 * x ≤ y → x ≤ y / 4
quarter x y le = omega arith

square_sum : (a b : ℕ) → 2 * (a * b) ≤ a * a + b * b
square_sum a b = ⊎_elim
    (λ (less : a ≤ b). let e : b ≡ a + (b - a) = omega arith in square_step a b (b - a) e)
    (λ (more : b ≤ a). let e : a ≡ b + (a - b) = omega arith in let p = square_step b a (a - b) e in omega (arith, p))
    (total a b)
  where
    total : (m n : ℕ) → (m ≤ n) ⊎ (n ≤ m)
    total m n = grind arith

    square_step : (m n d : ℕ) → n ≡ m + d → 2 * (m * n) ≤ m * m + n * n
    square_step m n d is = rw is (omega arith)

-- l pairs with u and r others: at most max(m, m * m / 4) of m
pairs_bound : (l u r : ℕ) → l * u + r ≤ max (l + u + r) ((l + u + r) * (l + u + r) / 4)
pairs_bound zero u r = max_left (zero * u + r) (zero + u + r) ((zero + u + r) * (zero + u + r) / 4) (omega arith)
pairs_bound (suc l) zero r = max_left (suc l * zero + r) (suc l + zero + r) ((suc l + zero + r) * (suc l + zero + r) / 4) (omega arith)
pairs_bound (suc l) (suc u) r =
    let squares = square_sum (suc l) (suc u) in
    let by_l : r * 1 ≤ r * suc l = mul-le-mul_left r (omega arith) in
    let by_u : r * 1 ≤ r * suc u = mul-le-mul_left r (omega arith) in
    let square : 0 ≤ r * r = omega arith in
    let four : 4 * (suc l * suc u + r) ≤ (suc l + suc u + r) * (suc l + suc u + r) = omega (arith, squares, by_l, by_u) in
    max_right (suc l * suc u + r) (suc l + suc u + r) ((suc l + suc u + r) * (suc l + suc u + r) / 4) (quarter (suc l * suc u + r) ((suc l + suc u + r) * (suc l + suc u + r)) four)

pub made_bound : (place : ℕ) (rows : List Row) → made_of place rows ≤ max (length rows) (length rows * length rows / 4)
made_bound place rows =
    let l = lowers_of place rows in
    let u = uppers_of place rows in
    let fit = sides_fit place rows in
    let whole : l + u + others_of place rows ≡ length rows = omega (arith, fit) in
    subst (λ m. l * u + others_of place rows ≤ max m (m * m / 4)) whole (pairs_bound l u (others_of place rows))

step_mono : (m k : ℕ) → m ≤ k → max m (m * m / 4) ≤ max k (k * k / 4)
step_mono m k le =
    let p : m * m ≤ k * m = mul-le-mul_right m le in
    let q : k * m ≤ k * k = mul-le-mul_left k le in
    both m k (m * m / 4) (k * k / 4) le (quarters (m * m) (k * k) (omega (arith, p, q)))
  where
    quarters : (a b : ℕ) → a ≤ b → a / 4 ≤ b / 4
    quarters a b le = omega arith

    both : (a b c d : ℕ) → a ≤ b → c ≤ d → max a c ≤ max b d
    both a b c d le also = omega arith

after_from : (n m : ℕ) → m ≤ rows_after n m
after_from zero m = omega arith
after_from (suc n) m =
    let p = after_from n (max m (m * m / 4)) in
    let q = max_left m m (m * m / 4) (omega arith) in
    le_trans q p

-- more rows stay more
pub after_mono : (n m k : ℕ) → m ≤ k → rows_after n m ≤ rows_after n k
after_mono zero m k le = le
after_mono (suc n) m k le = after_mono n (max m (m * m / 4)) (max k (k * k / 4)) (step_mono m k le)

-- more places leave more
pub after_more : (n p m : ℕ) → n ≤ p → rows_after n m ≤ rows_after p m
after_more zero p m le = after_from p m
after_more (suc n) zero m le = absurd (omega arith)
after_more (suc n) (suc p) m le = after_more n p (max m (m * m / 4)) (omega arith)

-- the bound for what is left is a bound for the rows
pub after_left : (rows : List Row) (place : ℕ) (left : List Row) (n p : ℕ) → n < p → IsEliminated rows place left → rows_after n (length left) ≤ rows_after p (length rows)
after_left rows place left n p less eliminated =
    let short = le_trans eliminated.short (made_bound place rows) in
    le_trans (after_mono n (length left) (max (length rows) (length rows * length rows / 4)) short) (after_more (suc n) p (length rows) (omega arith))

-- where an elimination makes too many rows the bound says so
pub after_made : (rows : List Row) (place n : ℕ) → 0 < n → made_of place rows ≤ rows_after n (length rows)
after_made rows place zero some = absurd (omega arith)
after_made rows place (suc n) some = le_trans (made_bound place rows) (after_from n (max (length rows) (length rows * length rows / 4)))
