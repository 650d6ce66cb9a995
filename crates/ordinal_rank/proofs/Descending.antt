-- Whatever falls in the order of some whole numbers bounds ends, over any states.
use Rattle.std.proofs.Common.{◌≡◌, ◌⊎◌, ℕ, zero, suc, ◌+◌, ℤ, pos, negsuc, ◌≤ℤ◌, ◌<ℤ◌, inl, inr, List, [], ◌∷◌, length, refl, ap, subst, arith}
use Rattle.std.proofs.lemmas.Int.{ints, by_lt_z}
use Rattle.step_meaning.specs.Step.{Configuration, IsFinal, Step}
use Rattle.ctl_formula.proofs.Alike.{Alike, Respects}
use Rattle.ctl_formula.proofs.Classical.{Property}
use Rattle.ordinal_rank.specs.Ends.{ComesBy, ComesTo, EndsBy, EndsByFirst, EndsUnder}
use Rattle.ordinal_rank.specs.Parts.{AreNatural, Exceeds, Numbers}
use Rattle.ordinal_rank.proofs.Comings.{None, by_now, by_respects, comes_now, comes_respects, ends_of_by}

-- the first number, and all as a list
abbrev head : (j : ℕ) → Numbers j → ℤ
head zero v = v
head (suc j) v = v.0

abbrev pub list_of : (j : ℕ) → Numbers j → List ℤ
list_of zero v = v ∷ []
list_of (suc j) v = v.0 ∷ list_of j v.1

head_natural : (j : ℕ) (v : Numbers j) → AreNatural j v → pos 0 ≤ℤ head j v
head_natural zero v natural = natural
head_natural (suc j) v natural = natural.0

past : (z : ℤ) → pos 0 ≤ℤ z → (n : ℕ) × (z <ℤ pos n)
past (pos n) from = (suc n, omega (arith, ints))
past (negsuc n) from = absurd (omega (arith, ints))

none_respects : Respects None
none_respects c d alike h = h

list_length : (j : ℕ) (v : Numbers j) → length (list_of j v) ≡ suc j
list_length zero v = refl
list_length (suc j) v = ap suc (list_length j v.1)

two_more : (i l : ℕ) → l ≡ suc i → suc (suc (suc i)) ≡ 2 + l
two_more i l is = omega (arith, is)

-- what the first of more than two numbers says
by_list : (i : ℕ) (n m : ℤ) (v : Numbers i) (c : Configuration) → EndsByFirst (suc (suc i)) n (EndsUnder (m ∷ list_of i v)) c
    → EndsUnder (n ∷ m ∷ list_of i v) c
by_list zero n m v c h = h
by_list (suc i) n m v c h =
    subst (λ order. EndsByFirst order n (EndsUnder (m ∷ list_of (suc i) v)) c) (two_more i (length (list_of i v.1)) (list_length i v.1)) h

by_first : (i : ℕ) (z : ℤ) (Lower : Property) (c : Configuration) → pos 0 ≤ℤ z → (z ≡ pos 0 → Lower c)
    → ((k : ℕ) → z <ℤ pos (suc k) → ComesBy (suc (suc i)) (suc k) None c) → EndsByFirst (suc (suc i)) z Lower c
by_first i (pos zero) Lower c from lower each = lower refl
by_first i (pos (suc k)) Lower c from lower each = ends_of_by (suc i) (suc k) c (each (suc k) (omega (arith, ints)))
by_first i (negsuc k) Lower c from lower each = absurd (omega (arith, ints))

by_number : (z : ℤ) (c : Configuration) → pos 0 ≤ℤ z → ((k : ℕ) → z <ℤ pos (suc k) → ComesBy 1 (suc k) None c) → EndsBy 1 z c
by_number (pos k) c from each = ends_of_by 0 k c (each k (omega (arith, ints)))
by_number (negsuc k) c from each = absurd (omega (arith, ints))

module _ {S : Type 0} (at : S → Configuration) where
  -- from each of the states a run ends, or each step leads to where X holds or to another one whose numbers the state's exceed
  abbrev pub Descends : (S → Type 0) → Property → (j : ℕ) → (S → Numbers j) → Type 0
  Descends Within X j value =
      (s : S) → Within s → IsFinal (at s) ⊎ ((d : Configuration) → Step (at s) d
      → X d ⊎ ((t : S) × Within t × Exceeds j (value s) (value t) × Alike (at t) d))

  steps_in : (X : Property) → Respects X → (Within : S → Type 0) (value : S → ℤ) → ((s : S) → Within s → pos 0 ≤ℤ value s)
      → Descends Within X 0 value → (n : ℕ) (s : S) → Within s → value s <ℤ pos n → ComesTo n X (at s)
  steps_in X respects Within value natural falls zero s inside less = let from = natural s inside in absurd (omega (arith, ints))
  steps_in X respects Within value natural falls (suc n) s inside less =
      elim (falls s inside) [
        | inl final ↦ inl final
        | inr ahead ↦ inr (inr (λ d step. elim (ahead d step) [
          | inl there ↦ comes_now n X d there
          | inr on ↦ let fewer = on.2 in comes_respects n X respects (at on.0) d on.3
              (steps_in X respects Within value natural falls n on.0 on.1 (omega (arith, ints)))
        ]))
      ]

  descended : (j : ℕ) (X : Property) → Respects X → (Within : S → Type 0) (value : S → Numbers j)
      → ((s : S) → Within s → AreNatural j (value s)) → Descends Within X j value
      → (k : ℕ) (s : S) → Within s → head j (value s) <ℤ pos k → ComesBy j k X (at s)
  descended zero X respects Within value natural falls k s inside less = steps_in X respects Within value natural falls k s inside less
  descended (suc j) X respects Within value natural falls zero s inside less =
      let from = (natural s inside).0 in absurd (omega (arith, ints))
  descended (suc j) X respects Within value natural falls (suc k) s inside less =
      by_lt_z (value s).0 (pos k)
      (λ below. (0, by_now j 0 (ComesBy (suc j) k X) (at s) (descended (suc j) X respects Within value natural falls k s inside below)))
      (λ from.
      let bound = past (head j (value s).1) (head_natural j (value s).1 (natural s inside).1) in (
        bound.0,
        descended j (ComesBy (suc j) k X) (by_respects (suc j) k X respects) (λ t. Within t × ((value t).0 ≡ pos k)) (λ t. (value t).1)
            (λ t there. (natural t there.0).1)
            (λ t there. elim (falls t there.0) [
              | inl final ↦ inl final
              | inr ahead ↦ inr (λ d step. elim (ahead d step) [
                | inl met ↦ inl (by_now (suc j) k X d met)
                | inr on ↦ elim on.2 [
                  | inl lower ↦ let own = there.1 in inl (by_respects (suc j) k X respects (at on.0) d on.3
                      (descended (suc j) X respects Within value natural falls k on.0 on.1 (omega (arith, ints))))
                  | inr rest ↦ let same = rest.0 in let own = there.1 in
                      inr (on.0, (on.1, omega (arith, ints)), rest.1, on.3)
                ]
              ])
            ])
            bound.0 s (inside, omega (arith, ints)) bound.1,
      ))

  -- where the first number is 0 it stays so, and the others descend
  behind_nought : (j : ℕ) (Within : S → Type 0) (value : S → Numbers (suc j)) → ((s : S) → Within s → AreNatural (suc j) (value s))
      → Descends Within None (suc j) value → Descends (λ t. Within t × ((value t).0 ≡ pos 0)) None j (λ t. (value t).1)
  behind_nought j Within value natural falls t there =
      elim (falls t there.0) [
        | inl final ↦ inl final
        | inr ahead ↦ inr (λ d step. elim (ahead d step) [
          | inl met ↦ inl met
          | inr on ↦ elim on.2 [
            | inl lower ↦ let own = there.1 in let from = (natural on.0 on.1).0 in absurd (omega (arith, ints))
            | inr rest ↦ let same = rest.0 in let own = there.1 in inr (on.0, (on.1, omega (arith, ints)), rest.1, on.3)
          ]
        ])
      ]

  pub under : (j : ℕ) (Within : S → Type 0) (value : S → Numbers (suc j)) → ((s : S) → Within s → AreNatural (suc j) (value s))
      → Descends Within None (suc j) value → (s : S) → Within s → EndsUnder (list_of (suc j) (value s)) (at s)
  under zero Within value natural falls s inside =
      by_number (value s).0 (at s) (natural s inside).0
      (λ k less. descended 1 None none_respects Within value natural falls (suc k) s inside less)
  under (suc i) Within value natural falls s inside =
      by_list i (value s).0 (value s).1.0 (value s).1.1 (at s)
      (by_first i (value s).0 (EndsUnder (list_of (suc i) (value s).1)) (at s) (natural s inside).0
      (λ is. under i (λ t. Within t × ((value t).0 ≡ pos 0)) (λ t. (value t).1) (λ t there. (natural t there.0).1)
      (behind_nought (suc i) Within value natural falls) s (inside, is))
      (λ k less. descended (suc (suc i)) None none_respects Within value natural falls (suc k) s inside less))
