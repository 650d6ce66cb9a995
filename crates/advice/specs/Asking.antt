-- What a turn of advice does to the advisers.
use Rattle.std.specs.Prelude.{◌≡◌, ℕ, ◌+◌, List, map}

-- each of them, in its place, was asked once
abbrev pub AreAskedOnce : {A : Type 0} → (A → ℕ) → List A → List A → Type 0
AreAskedOnce asked old new = map asked new ≡ map (λ adviser. asked adviser + 1) old
