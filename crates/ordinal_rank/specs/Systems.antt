-- Ends of runs that are bounded one after the other, in any transition system.
use Rattle.std.specs.Prelude.{ℕ, zero, suc, ◌+◌, ℤ, pos, negsuc, ◌⊎◌, List, [], ◌∷◌, length}
use Rattle.step_meaning.specs.Systems.{System, EndsWithin}

-- within n steps every run from `c` ends or comes to a state with the property
abbrev pub ComesTo : (S : System) → ℕ → (S.State → Type 0) → S.State → Type 0
ComesTo S zero X c = S.IsFinal c ⊎ X c
ComesTo S (suc n) X c = S.IsFinal c ⊎ X c ⊎ ((d : S.State) → S.Step c d → ComesTo S n X d)

-- The same with n left of an order. Of order 0 these are steps. Of a greater order a new number of the order before is known each time that one of them
-- is used up; with none left the property holds.
abbrev pub ComesBy : (S : System) → ℕ → ℕ → (S.State → Type 0) → S.State → Type 0
ComesBy S zero n X = ComesTo S n X
ComesBy S (suc order) zero X = X
ComesBy S (suc order) (suc n) X = λ c. (m : ℕ) × ComesBy S order m (ComesBy S (suc order) n X) c

-- Every run from `c` ends, with k left of the order. Of order 0 it ends within k steps. Of a greater order so many times a new bound is known only when the
-- last one runs out: with none left some number of the order before bounds what leads to the end; with one more some number of that order bounds what leads to the end or to
-- where one fewer is left.
abbrev pub EndsAfter : (S : System) → ℕ → ℕ → S.State → Type 0
EndsAfter S zero k c = EndsWithin S k c
EndsAfter S (suc order) zero c = (m : ℕ) × EndsAfter S order m c
EndsAfter S (suc order) (suc k) c = (m : ℕ) × ComesBy S order m (EndsAfter S (suc order) k) c

-- the same for a whole number; of fewer than 0 nothing is said
abbrev pub EndsBy : (S : System) → ℕ → ℤ → S.State → Type 0
EndsBy S order (pos k) c = EndsAfter S order k c
EndsBy S order (negsuc k) c = ⊥

-- what a number says that others follow: 0 says what these do
abbrev pub EndsByFirst : (S : System) → ℕ → ℤ → (S.State → Type 0) → S.State → Type 0
EndsByFirst S order (pos zero) Lower c = Lower c
EndsByFirst S order (pos (suc k)) Lower c = EndsAfter S order (suc k) c
EndsByFirst S order (negsuc k) Lower c = ⊥

-- What the numbers of a rank say, the highest first: the first that isn't 0 says how many are left of its order, which is how many stand behind it; of two
-- numbers it is the first in any case.
abbrev pub EndsUnder : (S : System) → List ℤ → S.State → Type 0
EndsUnder S [] c = ⊥
EndsUnder S (n ∷ []) c = EndsBy S 0 n c
EndsUnder S (n ∷ m ∷ []) c = EndsBy S 1 n c
EndsUnder S (n ∷ m ∷ next ∷ rest) c = EndsByFirst S (2 + length rest) n (EndsUnder S (m ∷ next ∷ rest)) c
