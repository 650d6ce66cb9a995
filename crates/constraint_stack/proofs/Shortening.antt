-- A list of rows that loses its last one.
use Rattle.std.proofs.Common.{◌≡◌, ℕ, zero, suc, ◌+◌, ◌<◌, ◌≤◌, List, [], ◌∷◌, ◌++◌, length, take, refl, sym, ap, ◌∙◌, arith}
use Rattle.std.proofs.lemmas.List.{length-append}
use Rattle.linear_cons.specs.declared.row.Row.{Row}
use Rattle.decision_tree.specs.Trails.{IsShortened}

last_of : (row : Row) (rows : List Row) → (front : List Row) × ((last : Row) × (row ∷ rows ≡ front ++ last ∷ []))
last_of row [] = ([], (row, refl))
last_of row (next ∷ rows) = let found = last_of next rows in (row ∷ found.0, (found.1.0, ap (λ rest. row ∷ rest) found.1.1))

take_front : (n : ℕ) (front more : List Row) → n ≤ length front → take n (front ++ more) ≡ take n front
take_front zero front more few = refl
take_front (suc n) [] more few = absurd (omega (arith, few))
take_front (suc n) (row ∷ front) more few = ap (λ rest. row ∷ rest) (take_front n front more (omega (arith, few)))

pub shorter : (n : ℕ) (old new : List Row) → n < length old → IsShortened old new → length new < length old
shorter n [] new more shortened = absurd (omega (arith, more))
shorter n (row ∷ rows) new more shortened =
    let found = last_of row rows in
    let front : length new ≡ length found.0 = ap length (shortened found.0 found.1.0 found.1.1) in
    let whole : length (row ∷ rows) ≡ length found.0 + 1 = ap length found.1.1 ∙ length-append found.0 (found.1.0 ∷ []) in
    omega (arith, front, whole)

pub shortened_take : (n : ℕ) (old new : List Row) → n < length old → IsShortened old new → take n new ≡ take n old
shortened_take n [] new more shortened = absurd (omega (arith, more))
shortened_take n (row ∷ rows) new more shortened =
    let found = last_of row rows in
    let whole : length (row ∷ rows) ≡ length found.0 + 1 = ap length found.1.1 ∙ length-append found.0 (found.1.0 ∷ []) in
    ap (take n) (shortened found.0 found.1.0 found.1.1) ∙ sym (ap (take n) found.1.1 ∙ take_front n found.0 (found.1.0 ∷ []) (omega (arith, more, whole)))
