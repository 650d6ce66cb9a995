-- How a list of distinct parts goes on when a part is noted.
use Rattle.std.specs.Prelude.{◌≡◌, ◌⊎◌, ℕ, List, [], ◌∷◌, ◌++◌, Some, slice_get}
use Rattle.std.specs.Map.{keys_of}

-- The part stands at the place. The list is as it was, or the part, which wasn't there, stands behind it.
pub record IsNoted {X : Type 0} (old new : List X) (part : X) (place : ℕ) : Type 0 where
  pub at : slice_get new place ≡ Some part
  pub list : (new ≡ old) ⊎ (((i : ℕ) → slice_get old i ≡ Some part → ⊥) × (new ≡ old ++ part ∷ []))

-- the same for parts with a number beside each
pub record IsNotedWith {X : Type 0} (old new : List (X × ℕ)) (part : X) (number place : ℕ) : Type 0 where
  pub at : slice_get (keys_of new) place ≡ Some part
  pub list : (new ≡ old) ⊎ (((i : ℕ) → slice_get (keys_of old) i ≡ Some part → ⊥) × (new ≡ old ++ (part, number) ∷ []))
