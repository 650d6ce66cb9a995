-- Runs of a program from its inputs, and how long they are.
use Rattle.std.specs.Prelude.{◌≡◌, ℕ, zero, suc, ◌≤◌, ℤ, pos, negsuc, ◌⊎◌, [], ◌∷◌, length}
use Rattle.step_meaning.specs.Syntax.{Statements, assign, skip, return, break, continue, if_else, while_loop, do_while}
use Rattle.linear_cons.specs.Numbers.{number_at}
use Rattle.step_meaning.specs.Outcome.{Store}
use Rattle.step_meaning.specs.Step.{Configuration, Todo, one, turn, items_of, Step, IsFinal, front, programs}
use Rattle.step_meaning.specs.Systems as systems

-- an input of a program of `vars` variables: sixteen whole numbers, of which those past the variables are 0
pub record IsInput (vars : ℕ) (input : Store) : Type 0 where
  pub places : length input ≡ 16
  pub zeros : (x : ℕ) → vars ≤ x → number_at input x ≡ pos 0

-- where the runs of a program with this body begin
abbrev pub start : Statements → Store → Configuration
start body input = record { todo = items_of body; store = input }

-- the longest run from `c` has exactly `n` steps
abbrev pub Longest : ℕ → Configuration → Type 0
Longest n c = systems.Longest programs n c

-- steps lead from `c` to `d`
pub data Reaches : Configuration → Configuration → Type 0 where
  here : {c : Configuration} → Reaches c c
  by_step : {c d e : Configuration} → Step c d → Reaches d e → Reaches c e

-- What follows has no part in the headline.

-- every run from `c` ends within `n` steps
abbrev pub EndsWithin : ℕ → Configuration → Type 0
EndsWithin n c = systems.EndsWithin programs n c

-- steps lead to `c` from some input of a program of `vars` variables with this body
abbrev pub IsReachable : ℕ → Statements → Configuration → Type 0
IsReachable vars body c = (input : Store) × IsInput vars input × Reaches (start body input) c

-- the same for a whole number; no run ends within fewer than 0 steps
abbrev pub EndsWithinBound : ℤ → Configuration → Type 0
EndsWithinBound (pos n) c = EndsWithin n c
EndsWithinBound (negsuc n) c = ⊥

-- With `tests` tests of a loop left, the next step of this list may be taken, and of the number left behind it `Behind` is said: a test of a
-- loop needs one and leaves one less.
abbrev pub TestsAllow : Todo → ℕ → (ℕ → Type 0) → Type 0
TestsAllow (one (while_loop c body step) ∷ rest) zero Behind = ⊥
TestsAllow (one (while_loop c body step) ∷ rest) (suc tests) Behind = Behind tests
TestsAllow (one (assign x e) ∷ rest) tests Behind = Behind tests
TestsAllow (one skip ∷ rest) tests Behind = Behind tests
TestsAllow (one return ∷ rest) tests Behind = Behind tests
TestsAllow (one break ∷ rest) tests Behind = Behind tests
TestsAllow (one continue ∷ rest) tests Behind = Behind tests
TestsAllow (one (if_else c first second) ∷ rest) tests Behind = Behind tests
TestsAllow (one (do_while body c) ∷ rest) tests Behind = Behind tests
TestsAllow (turn c body step ∷ rest) tests Behind = Behind tests
TestsAllow [] tests Behind = Behind tests

-- every run from `c` ends within `n` steps, of which at most `tests` are tests of a loop
abbrev pub EndsInTests : ℕ → ℕ → Configuration → Type 0
EndsInTests tests zero c = IsFinal c
EndsInTests tests (suc n) c =
    IsFinal c ⊎ TestsAllow (front c.todo) tests (λ left. (d : Configuration) → Step c d → EndsInTests left n d)
