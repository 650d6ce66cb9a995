-- The text of a summary, line by line.
use Rattle.std.proofs.Common.{◌≡◌, ◌∙◌, ℕ, List, [], ◌∷◌, ◌++◌, ap, append_assoc}

module _ (a m b n c k d l v : List ℕ) where
  abbrev line : List ℕ → List ℕ → List ℕ
  line what number = what ++ (number ++ 10 ∷ [])

  pub summed : (one two three four five : List ℕ) → one ≡ [] ++ line a m → two ≡ one ++ line b n → three ≡ two ++ line c k → four ≡ three ++ line d l
      → five ≡ four ++ v → five ≡ (a ++ m) ++ 10 ∷ ((b ++ n) ++ 10 ∷ ((c ++ k) ++ 10 ∷ ((d ++ l) ++ 10 ∷ v)))
  summed one two three four five first second third fourth fifth =
      fifth ∙ ap (λ t. t ++ v) (fourth ∙ ap (λ t. t ++ line d l) (third ∙ ap (λ t. t ++ line c k) (second ∙ ap (λ t. t ++ line b n) first)))
      ∙ simp append_assoc
