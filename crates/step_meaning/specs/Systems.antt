-- Anything that steps and has a store, and how long its runs are.
use Rattle.std.specs.Prelude.{◌≡◌, ◌⊎◌, ℕ, zero, suc}
use Rattle.step_meaning.specs.Outcome.{Store}

-- a transition system: its states, which steps lead from one to another, which states are final, and the store of each
pub record System : Type 1 where
  pub State : Type 0
  pub Step : State → State → Type 0
  pub IsFinal : State → Type 0
  pub store : State → Store

-- the successor relation in which a final state has itself as its only successor
abbrev pub Next : (S : System) → S.State → S.State → Type 0
Next S c d = S.Step c d ⊎ (S.IsFinal c × (d ≡ c))

-- every run from `c` ends within `n` steps: `c` is final, or some step is left and every successor ends within one step less
abbrev pub EndsWithin : (S : System) → ℕ → S.State → Type 0
EndsWithin S zero c = S.IsFinal c
EndsWithin S (suc n) c = S.IsFinal c ⊎ ((d : S.State) → S.Step c d → EndsWithin S n d)

-- the longest run from `c` has exactly `n` steps
abbrev pub Longest : (S : System) → ℕ → S.State → Type 0
Longest S zero c = EndsWithin S zero c
Longest S (suc n) c = EndsWithin S (suc n) c × ¬ EndsWithin S n c
