-- How often advisers were asked, turn after turn.
use Rattle.std.proofs.Common.{ℕ, ◌+◌, ◌-◌, ◌^◌, ◌<◌, ◌≤◌, List, [], ◌∷◌, All, length, ap, arith}
use Rattle.std.proofs.lemmas.List.Elements.{All-cons, All-head, All-nil, All-tail}
use Rattle.advice.specs.Asking.{AreAskedOnce}
use Rattle.ctl_rounds.specs.Asked.{RoseBy}

abbrev first : List ℕ → ℕ
first (x ∷ xs) = x
first [] = 0

abbrev rest : List ℕ → List ℕ
rest (x ∷ xs) = xs
rest [] = []

module _ {A : Type 0} (asked : A → ℕ) where
  pub unasked : (list : List A) → RoseBy asked 0 list list
  unasked [] = tt
  unasked (adviser ∷ more) = (omega (arith), unasked more)

  pub asked_again : (times : ℕ) (old mid new : List A) → RoseBy asked times old mid → AreAskedOnce asked mid new → RoseBy asked (times + 1) old new
  asked_again times [] [] [] rose once = tt
  asked_again times [] [] (n ∷ ns) rose once = let none = ap length once in absurd (omega (arith, none))
  asked_again times [] (m ∷ ms) new rose once = absurd rose
  asked_again times (o ∷ os) [] new rose once = absurd rose
  asked_again times (o ∷ os) (m ∷ ms) [] rose once = let none = ap length once in absurd (omega (arith, none))
  asked_again times (o ∷ os) (m ∷ ms) (n ∷ ns) rose once =
      let own = rose.0 in
      let next = ap first once in
      (omega (arith, own, next), asked_again times os ms ns rose.1 (ap rest once))

  -- who was asked at most 2^32 times before can be asked still, after some turns
  pub can_be_asked : (times : ℕ) (old new : List A) → times ≤ 8 → RoseBy asked times old new → All (λ adviser. asked adviser ≤ 2 ^ 32) old
      → All (λ adviser. asked adviser < 2 ^ 64 - 1) new
  can_be_asked times [] [] few rose patient = All-nil (λ adviser. asked adviser < 2 ^ 64 - 1)
  can_be_asked times [] (n ∷ ns) few rose patient = absurd rose
  can_be_asked times (o ∷ os) [] few rose patient = absurd rose
  can_be_asked times (o ∷ os) (n ∷ ns) few rose patient =
      let own = rose.0 in
      let low = All-head (λ adviser. asked adviser ≤ 2 ^ 32) o os patient in
      All-cons (λ adviser. asked adviser < 2 ^ 64 - 1) n ns (omega (arith, own, low, few))
      (can_be_asked times os ns few rose.1 (All-tail (λ adviser. asked adviser ≤ 2 ^ 32) o os patient))
