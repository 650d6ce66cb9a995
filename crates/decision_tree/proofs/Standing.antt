-- A store stands at a leaf exactly where it meets the leaf's path.
use Rattle.std.proofs.Common.{◌≡◌, ◌↔◌, ℕ, suc, ◌+◌, ◌-◌, ◌<◌, ◌≤◌, ℤ, pos, ◌≤ℤ◌, Bool, true, false, cond, nat_lt, int_le, List, ◌∷◌, refl, arith}
use Rattle.std.proofs.Common.{⊎_elim}
use Rattle.std.proofs.lemmas.Bool.{cases_lt, le-ltb, lt-ltb, ltb-true}
use Rattle.std.proofs.lemmas.Int.{ints}
use Rattle.std.proofs.lemmas.List.Elements.{All-cons}
use Rattle.linear_cons.specs.Functions.{complement_of, value_at}
use Rattle.linear_cons.specs.declared.affine.Affine.{Affine}
use Rattle.linear_cons.proofs.RowLaws.{complement_met}
use Rattle.decision_tree.specs.Evaluation.{eval}
use Rattle.decision_tree.specs.Paths.{MeetsPath, leaf_numbered, number_met, path_of}
use Rattle.decision_tree.specs.Plans.{Plan, bottom, leaf, leaves_of, branch, top}

below_at : (t : Bool) (m n k l : ℕ) → m < k → n < l → cond t m (k + n) < k + l
below_at true m n k l first second = omega arith
below_at false m n k l first second = omega arith

-- the store stands at one of the leaves
pub met_below : {R : Type 0} (plan : Plan R) (store : List ℤ) → number_met plan store < leaves_of plan
met_below bottom store = omega arith
met_below (top cause) store = omega arith
met_below (leaf why rank) store = omega arith
met_below (branch row this that) store = below_at (int_le (pos 0) (value_at row.affine store)) _ _ _ _ (met_below this store) (met_below that store)

past_tells : (m k : ℕ) → nat_lt m k ≡ false → k ≤ m
past_tells m k is = ⊎_elim (λ (less : m < k). absurd (let low = lt-ltb m k less in cc)) (λ (high : k ≤ m). high) (cases_lt m k)

eval_at : {R : Type 0} (t : Bool) (this that : Plan R) (m n k : ℕ) (here there : Plan R) → m < k → here ≡ leaf_numbered this m → there ≡ leaf_numbered that n → cond t here there ≡ cond (nat_lt (cond t m (k + n)) k) (leaf_numbered this (cond t m (k + n))) (leaf_numbered that (cond t m (k + n) - k))
eval_at true this that m n k here there low first second = rw (lt-ltb m k low) first
eval_at false this that m n k here there low first second =
    let same : k + n - k ≡ n = omega arith in
    rw (le-ltb (k + n) k (omega arith), same) second

-- the leaf at which the store stands is the one with that number
pub eval_is : {R : Type 0} (plan : Plan R) (store : List ℤ) → eval plan store ≡ leaf_numbered plan (number_met plan store)
eval_is bottom store = refl
eval_is (top cause) store = refl
eval_is (leaf why rank) store = refl
eval_is (branch row this that) store = eval_at (int_le (pos 0) (value_at row.affine store)) this that (number_met this store) (number_met that store) (leaves_of this) (eval this store) (eval that store) (met_below this store) (eval_is this store) (eval_is that store)

met_first : (store : List ℤ) (a : Affine) (path : List Affine) → MeetsPath store (a ∷ path) → pos 0 ≤ℤ value_at a store
met_first store a path met = met 0 a (omega arith)

met_rest : (store : List ℤ) (a : Affine) (path : List Affine) → MeetsPath store (a ∷ path) → MeetsPath store path
met_rest store a path met k d h = met (suc k) d (omega arith)

standing_at : (t s : Bool) (store : List ℤ) (a : Affine) (m n k l number : ℕ) (first second : List Affine) → int_le (pos 0) (value_at a store) ≡ t → nat_lt number k ≡ s → m < k → number < k + l → (number < k → (m ≡ number) ↔ MeetsPath store first) → (number - k < l → (n ≡ number - k) ↔ MeetsPath store second) → (cond t m (k + n) ≡ number) ↔ MeetsPath store (cond s (a ∷ first) (complement_of a ∷ second))
standing_at true true store a m n k l number first second least low below whole here there =
    let early : number < k = ltb-true number k low in
    let met : pos 0 ≤ℤ value_at a store = omega (arith, ints) in
    (λ is. All-cons (λ a. pos 0 ≤ℤ value_at a store) a first met ((here (omega arith)).0 is), λ all. (here (omega arith)).1 (met_rest store a first all))
standing_at true false store a m n k l number first second least low below whole here there =
    let late : k ≤ number = past_tells number k low in
    let met : pos 0 ≤ℤ value_at a store = omega (arith, ints) in
    (λ is. absurd (omega arith), λ all. absurd ((complement_met a store).0 (met_first store (complement_of a) second all) met))
standing_at false true store a m n k l number first second least low below whole here there =
    let early : number < k = ltb-true number k low in
    (λ is. absurd (omega arith), λ all. absurd (let met = met_first store a first all in omega (arith, ints)))
standing_at false false store a m n k l number first second least low below whole here there =
    let late : k ≤ number = past_tells number k low in
    let fails : pos 0 ≤ℤ value_at a store → ⊥ = λ met. omega (arith, ints) in (
      λ is. All-cons (λ a. pos 0 ≤ℤ value_at a store) (complement_of a) second ((complement_met a store).1 fails) ((there (omega arith)).0 (omega arith)),
      λ all. let same = (there (omega arith)).1 (met_rest store (complement_of a) second all) in omega arith,
    )

pub standing : {R : Type 0} (plan : Plan R) (number : ℕ) (store : List ℤ) → number < leaves_of plan → (number_met plan store ≡ number) ↔ MeetsPath store (path_of plan number)
standing bottom number store low = (λ is k d h. absurd (omega arith), λ met. omega arith)
standing (top cause) number store low = (λ is k d h. absurd (omega arith), λ met. omega arith)
standing (leaf why rank) number store low = (λ is k d h. absurd (omega arith), λ met. omega arith)
standing (branch row this that) number store low =
    standing_at (int_le (pos 0) (value_at row.affine store)) (nat_lt number (leaves_of this)) store row.affine (number_met this store) (number_met that store) (leaves_of this) (leaves_of that) number (path_of this number) (path_of that (number - leaves_of this)) refl refl (met_below this store) low (standing this number store) (standing that (number - leaves_of this) store)
