-- Counts of conjunctions.
use Rattle.std.proofs.Common.{◌≡◌, ℕ, ◌+◌, ◌*◌, ◌≤◌, not, Bool, true, false, List, [], ◌∷◌, ◌++◌, length, map, length-append, Option, Some, None, ◌∙◌, arith}
use Rattle.std.specs.Bool.{⊤}
use Rattle.std.proofs.Math.Nat.{mul-le-mul, suc-mul}
use Rattle.std.proofs.lemmas.List.{length-map}
use Rattle.step_meaning.specs.declared.expression.Op2.{Op2}
use Rattle.step_meaning.specs.declared.expression.Op2.TheVariants.{Add, Sub, Mul, Less, LessEqual, Greater, GreaterEqual, Equal, NotEqual, And, Or}
use Rattle.step_meaning.specs.Syntax.{Expression, free, truth, negation, pair, divided}
use Rattle.linear_cons.specs.declared.bounds.Bounds.{Bounds}
use Rattle.linear_cons.specs.declared.bounds.Linear.{Linear}
use Rattle.linear_cons.specs.declared.row.Row.{Row}
use Rattle.linear_forms.specs.Linearising.{linear_of}
use Rattle.linear_forms.specs.Spreading.{Claim, above, all_rows_of, at_least, claims, comparison_for, kept_before, pairs, rows_of, spread_of}
use Rattle.linear_forms.specs.Counting.{count_by, conjunctions}

some_product : (a b : ℕ) → 1 ≤ a → 1 ≤ b → 1 ≤ a * b
some_product a b h k = let product : 1 * 1 ≤ a * b = mul-le-mul h k in omega arith

some_of_two : (op : Op2) (outcome : Bool) (a b : ℕ) → 1 ≤ a → 1 ≤ b → 1 ≤ count_by op outcome a b
some_of_two And true a b h k = some_product a b h k
some_of_two And false a b h k = omega arith
some_of_two Or true a b h k = omega arith
some_of_two Or false a b h k = some_product a b h k
some_of_two Equal false a b h k = omega arith
some_of_two NotEqual true a b h k = omega arith
some_of_two _ outcome a b h k = omega arith

-- there is at least one
pub some_conjunction : (c : Expression) (outcome : Bool) → 1 ≤ conjunctions c outcome
some_conjunction (negation c) outcome = some_conjunction c (not outcome)
some_conjunction (pair op l r) outcome = some_of_two op outcome (conjunctions l outcome) (conjunctions r outcome) (some_conjunction l outcome) (some_conjunction r outcome)
some_conjunction _ outcome = omega arith

-- ---- no spreading has more

-- the operator compares
abbrev pub IsComparison : Op2 → Type 0
IsComparison Less = ⊤
IsComparison LessEqual = ⊤
IsComparison Greater = ⊤
IsComparison GreaterEqual = ⊤
IsComparison Equal = ⊤
IsComparison NotEqual = ⊤
IsComparison _ = ⊥

kept_length : (rows : Option (List Row)) (more : List (List Row)) → length (kept_before rows more) ≤ 1 + length more
kept_length None more = omega arith
kept_length (Some rows) more = omega arith

pairs_length : (xs ys : List (List Row)) → length (pairs xs ys) ≡ length xs * length ys
pairs_length [] ys = omega arith
pairs_length (rows ∷ xs) ys =
    length-append (map (λ other. rows ++ other) ys) (pairs xs ys)
    ∙ rw (length-map ys (λ other. rows ++ other), pairs_length xs ys) (omega (arith, suc-mul (length xs) (length ys)))

one_length : (conjunction : List Claim) → length (all_rows_of (conjunction ∷ [])) ≤ 1
one_length conjunction = let kept = kept_length (rows_of conjunction) [] in omega arith

two_length : (first second : List Claim) → length (all_rows_of (first ∷ second ∷ [])) ≤ 2
two_length first second =
    let one = one_length second in
    let kept = kept_length (rows_of first) (all_rows_of (second ∷ [])) in
    omega arith

claims_length : (outcome : Bool) (op : Op2) (x y : Linear) (a b : ℕ) → IsComparison op → length (all_rows_of (claims (comparison_for outcome op) x y)) ≤ count_by op outcome a b
claims_length true Less x y a b is = one_length (above y x ∷ [])
claims_length true LessEqual x y a b is = one_length (at_least y x ∷ [])
claims_length true Greater x y a b is = one_length (above x y ∷ [])
claims_length true GreaterEqual x y a b is = one_length (at_least x y ∷ [])
claims_length true Equal x y a b is = one_length (at_least x y ∷ at_least y x ∷ [])
claims_length true NotEqual x y a b is = two_length (above x y ∷ []) (above y x ∷ [])
claims_length false Less x y a b is = one_length (at_least x y ∷ [])
claims_length false LessEqual x y a b is = one_length (above x y ∷ [])
claims_length false Greater x y a b is = one_length (at_least y x ∷ [])
claims_length false GreaterEqual x y a b is = one_length (above y x ∷ [])
claims_length false Equal x y a b is = two_length (above x y ∷ []) (above y x ∷ [])
claims_length false NotEqual x y a b is = one_length (at_least x y ∷ at_least y x ∷ [])
claims_length _ _ x y a b is = absurd is

joined_length : (xs ys : List (List Row)) (a b : ℕ) → length xs ≤ a → length ys ≤ b → length (xs ++ ys) ≤ a + b
joined_length xs ys a b h k = let sum = length-append xs ys in omega arith

paired_length : (xs ys : List (List Row)) (a b : ℕ) → length xs ≤ a → length ys ≤ b → length (pairs xs ys) ≤ a * b
paired_length xs ys a b h k =
    let product : length xs * length ys ≤ a * b = mul-le-mul h k in
    let same = pairs_length xs ys in
    omega arith

pub spread_length : (bounds : Bounds) (c : Expression) (outcome : Bool) → length (spread_of bounds c outcome) ≤ conjunctions c outcome
spread_length bounds free outcome = omega arith
spread_length bounds (truth true) true = omega arith
spread_length bounds (truth true) false = omega arith
spread_length bounds (truth false) true = omega arith
spread_length bounds (truth false) false = omega arith
spread_length bounds (divided division e b) outcome = omega arith
spread_length bounds (negation c) outcome = spread_length bounds c (not outcome)
spread_length bounds (pair And l r) true = paired_length (spread_of bounds l true) (spread_of bounds r true) _ _ (spread_length bounds l true) (spread_length bounds r true)
spread_length bounds (pair And l r) false = joined_length (spread_of bounds l false) (spread_of bounds r false) _ _ (spread_length bounds l false) (spread_length bounds r false)
spread_length bounds (pair Or l r) true = joined_length (spread_of bounds l true) (spread_of bounds r true) _ _ (spread_length bounds l true) (spread_length bounds r true)
spread_length bounds (pair Or l r) false = paired_length (spread_of bounds l false) (spread_of bounds r false) _ _ (spread_length bounds l false) (spread_length bounds r false)
spread_length bounds (pair Less l r) outcome = claims_length outcome Less (linear_of bounds l) (linear_of bounds r) 0 0 tt
spread_length bounds (pair LessEqual l r) outcome = claims_length outcome LessEqual (linear_of bounds l) (linear_of bounds r) 0 0 tt
spread_length bounds (pair Greater l r) outcome = claims_length outcome Greater (linear_of bounds l) (linear_of bounds r) 0 0 tt
spread_length bounds (pair GreaterEqual l r) outcome = claims_length outcome GreaterEqual (linear_of bounds l) (linear_of bounds r) 0 0 tt
spread_length bounds (pair Equal l r) true = claims_length true Equal (linear_of bounds l) (linear_of bounds r) 0 0 tt
spread_length bounds (pair Equal l r) false = claims_length false Equal (linear_of bounds l) (linear_of bounds r) 0 0 tt
spread_length bounds (pair NotEqual l r) true = claims_length true NotEqual (linear_of bounds l) (linear_of bounds r) 0 0 tt
spread_length bounds (pair NotEqual l r) false = claims_length false NotEqual (linear_of bounds l) (linear_of bounds r) 0 0 tt
spread_length bounds (pair Add l r) true = omega arith
spread_length bounds (pair Add l r) false = omega arith
spread_length bounds (pair Sub l r) true = omega arith
spread_length bounds (pair Sub l r) false = omega arith
spread_length bounds (pair Mul l r) true = omega arith
spread_length bounds (pair Mul l r) false = omega arith
spread_length bounds _ outcome = omega arith
