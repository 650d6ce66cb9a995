-- Of what advisers are asked, and how often.
use Rattle.std.specs.Prelude.{◌≡◌, ℕ, ◌+◌, ◌≤◌, true, false, List, ⊤}
use Rattle.std.specs.List.{AllZip}
use Rattle.ctl_formula.specs.Formulas.{Ctl, always, both, either, exit, falsity, least, negation, never, next, not_exit, truth, until, weak}

-- they are asked where the whole formula is an `A[f U g]`
abbrev pub IsAdvised : Ctl → Type 0
IsAdvised truth = ⊥
IsAdvised falsity = ⊥
IsAdvised exit = ⊥
IsAdvised not_exit = ⊥
IsAdvised always = ⊥
IsAdvised never = ⊥
IsAdvised (least a) = ⊥
IsAdvised (negation f) = ⊥
IsAdvised (both f g) = ⊥
IsAdvised (either f g) = ⊥
IsAdvised (next all f) = ⊥
IsAdvised (until true keep goal) = ⊤
IsAdvised (until false keep goal) = ⊥
IsAdvised (weak all keep goal) = ⊥

-- each of them, in its place, was asked so many times
abbrev pub RoseBy : {A : Type 0} → (A → ℕ) → ℕ → List A → List A → Type 0
RoseBy asked times old new = AllZip (λ before after. asked after ≡ asked before + times) old new

-- each of them was asked equally often, at most eight times, and this is true of how often
abbrev pub AreAskedAlike : {A : Type 0} → (A → ℕ) → (old new : List A) → (ℕ → Type 0) → Type 0
AreAskedAlike asked old new Told = (times : ℕ) × (times ≤ 8) × RoseBy asked times old new × Told times
