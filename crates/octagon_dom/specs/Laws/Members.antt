-- Signed places, and bounds against cells.
use Rattle.std.proofs.Common.{◌≡◌, ◌≢◌, ⊎_elim, ℕ, ◌+◌, ◌*◌, ◌-◌, ◌/◌, ◌%◌, ◌<◌, ℤ, pos, neg_ℤ, ◌-ℤ◌, true, false, eqb, cond}
use Rattle.std.proofs.Common.{List, Some, arith, refl, sym, ◌∙◌, ap}
use Rattle.std.proofs.lemmas.Bool.Decides.{eqb_tells}
use Rattle.std.proofs.lemmas.Int.{ints}
use Rattle.linear_cons.specs.Bounds.{IsUpTo}
use Rattle.linear_cons.specs.Numbers.{number_at}
use Rattle.linear_cons.proofs.Places.{eqb_apart}
use Rattle.num_domain.specs.declared.bound.Bound.{Bound}
use Rattle.octagon_dom.specs.Cells.{IsBelow, bound, cell, signed, turned}

-- ---- signed places

pub signed_even : (store : List ℤ) (i : ℕ) → i % 2 ≡ 0 → signed store i ≡ number_at store (i / 2)
signed_even store i even = rw even refl

pub signed_odd : (store : List ℤ) (i : ℕ) → i % 2 ≡ 1 → signed store i ≡ neg_ℤ (number_at store (i / 2))
signed_odd store i odd = rw odd refl

-- the signed places of a place
pub signed_own : (store : List ℤ) (place : ℕ) → signed store (2 * place) ≡ number_at store place
signed_own store place =
    let even : (2 * place) % 2 ≡ 0 = omega arith in
    let half : (2 * place) / 2 ≡ place = omega arith in
    signed_even store (2 * place) even ∙ ap (number_at store) half

pub signed_negative : (store : List ℤ) (place : ℕ) → signed store (2 * place + 1) ≡ neg_ℤ (number_at store place)
signed_negative store place =
    let odd : (2 * place + 1) % 2 ≡ 1 = omega arith in
    let half : (2 * place + 1) / 2 ≡ place = omega arith in
    signed_odd store (2 * place + 1) odd ∙ ap (λ p. neg_ℤ (number_at store p)) half

pub parity : (i : ℕ) (P : Type 0) → (i % 2 ≡ 0 → P) → (i % 2 ≡ 1 → P) → P
parity i P even odd = ⊎_elim
    (λ (same : (eqb (i % 2) 0 ≡ true) × (i % 2 ≡ 0)). even same.1)
    (λ (apart : (eqb (i % 2) 0 ≡ false) × (i % 2 ≢ 0)). odd (let ne = apart.1 in omega arith))
    (eqb_tells (i % 2) 0)

pub turned_even : (i : ℕ) → i % 2 ≡ 0 → turned i ≡ i + 1
turned_even i even = rw even refl

pub turned_odd : (i : ℕ) → i % 2 ≡ 1 → turned i ≡ i - 1
turned_odd i odd = rw odd refl

pub turned_low : (i : ℕ) → i < 32 → turned i < 32
turned_low i low = parity i (turned i < 32)
    (λ even. rw (turned_even i even) (omega arith))
    (λ odd. rw (turned_odd i odd) (omega arith))

pub turned_apart : (i : ℕ) → turned i ≢ i
turned_apart i = parity i (turned i ≢ i)
    (λ even. rw (turned_even i even) (λ same. omega arith))
    (λ odd. rw (turned_odd i odd) (λ same. omega arith))

pub turned_place : (i : ℕ) → turned i / 2 ≡ i / 2
turned_place i = parity i (turned i / 2 ≡ i / 2)
    (λ even. rw (turned_even i even) (omega arith))
    (λ odd. rw (turned_odd i odd) (omega arith))

pub turned_twice : (i : ℕ) → turned (turned i) ≡ i
turned_twice i = parity i (turned (turned i) ≡ i)
    (λ even. let odd : (i + 1) % 2 ≡ 1 = omega arith in ap turned (turned_even i even) ∙ turned_odd (i + 1) odd ∙ (omega arith))
    (λ odd. let even : (i - 1) % 2 ≡ 0 = omega arith in ap turned (turned_odd i odd) ∙ turned_even (i - 1) even ∙ (omega arith))

pub signed_turned : (store : List ℤ) (i : ℕ) → signed store (turned i) ≡ neg_ℤ (signed store i)
signed_turned store i = parity i (signed store (turned i) ≡ neg_ℤ (signed store i))
    (λ even.
    let odd : (i + 1) % 2 ≡ 1 = omega arith in
    let half : (i + 1) / 2 ≡ i / 2 = omega arith in
    ap (signed store) (turned_even i even) ∙ signed_odd store (i + 1) odd ∙ ap (λ p. neg_ℤ (number_at store p)) half
    ∙ ap neg_ℤ (sym (signed_even store i even)))
    (λ odd.
    let even : (i - 1) % 2 ≡ 0 = omega arith in
    let half : (i - 1) / 2 ≡ i / 2 = omega arith in
    let own = signed_odd store i odd in
    let other : signed store (turned i) ≡ number_at store (i / 2) =
    ap (signed store) (turned_odd i odd) ∙ signed_even store (i - 1) even ∙ ap (number_at store) half in
    rw (other, own) (omega (arith, ints)))

-- ---- bounds and cells

pub bound_apart : (cells : List (Bound ℤ)) (i j : ℕ) → i ≢ j → bound cells i j ≡ cell cells (32 * i + j)
bound_apart cells i j apart = ap (λ t. cond t (Some (pos 0)) (cell cells (32 * i + j))) (eqb_apart i j apart)

pub bound_same : (cells : List (Bound ℤ)) (i j : ℕ) → i ≡ j → bound cells i j ≡ Some (pos 0)
bound_same cells i j same = ⊎_elim
    (λ (is : (eqb i j ≡ true) × (i ≡ j)). rw is.0 refl)
    (λ (apart : (eqb i j ≡ false) × (i ≢ j)). absurd (apart.1 same))
    (eqb_tells i j)

-- a store is below the cells where it keeps to each cell that isn't on the diagonal
pub below_of_cells : (cells : List (Bound ℤ)) (store : List ℤ)
    → ((i j : ℕ) → i < 32 → j < 32 → i ≢ j → IsUpTo (cell cells (32 * i + j)) (signed store i -ℤ signed store j)) → IsBelow cells store
below_of_cells cells store each i j h g = ⊎_elim
    (λ (same : (eqb i j ≡ true) × (i ≡ j)).
    let nought : signed store i -ℤ signed store j ≡ pos 0 = rw same.1 (omega (arith, ints)) in
    rw same.0 (omega (arith, ints)))
    (λ (apart : (eqb i j ≡ false) × (i ≢ j)). rw apart.0 (each i j h g apart.1))
    (eqb_tells i j)

pub cell_of_below : (cells : List (Bound ℤ)) (store : List ℤ) → IsBelow cells store → (i j : ℕ) → i < 32 → j < 32 → i ≢ j
    → IsUpTo (cell cells (32 * i + j)) (signed store i -ℤ signed store j)
cell_of_below cells store below i j h g apart = rw (bound_apart cells i j apart) at (below i j h g)
