-- Which statements have counts, and how many steps they take at most.
use Rattle.std.proofs.Common.{◌≡◌, ℕ, ◌+◌, ◌<◌, ◌≤◌, ℤ, pos, inl, ⊎_elim, arith}
use Rattle.std.proofs.lemmas.Bool.{cases_lt}
use Rattle.std.proofs.lemmas.List.{get_or_past}
use Rattle.linear_cons.specs.declared.affine.Affine.{Affine}
use Rattle.linear_cons.specs.Functions.{coefficient}
use Rattle.linear_cons.proofs.Places.{length-at_places, number_at_places}
use Rattle.step_meaning.specs.declared.count.Count.{Count}
use Rattle.step_meaning.specs.Counts.{HasNoLoop, IsLoopFree, before, before_statement}
use Rattle.step_meaning.specs.Countdown.{AreCounting, IsCounting, IsSmall}
use Rattle.step_meaning.specs.Syntax.{Expression, Statement, Statements, assign, skip, return, break, continue, if_else, while_loop, do_while, empty, sequence, size_of, size_of_statement}
use Rattle.count_down.specs.Building.{AreMeasured, IsMeasured}
use Rattle.count_down.specs.Candidates.{nothing}

pub nothing_at : (place : ℕ) → coefficient nothing place ≡ pos 0
nothing_at place = ⊎_elim
    (λ (low : place < 16). number_at_places (λ i. pos 0) place low)
    (λ (past : 16 ≤ place). get_or_past nothing.coef place (pos 0) (let long = length-at_places (λ i. pos 0) in omega arith))
    (cases_lt place 16)

pub nothing_small : IsSmall nothing
nothing_small = record {
  coefficients = λ place low. rw (nothing_at place) (omega arith);
  constants = omega arith;
}

-- no assignment changes the function 0
mutual
  pub free_one : (s : Statement) → IsLoopFree s → IsMeasured nothing s
  free_one (assign x v) free = inl (nothing_at x)
  free_one skip free = tt
  free_one return free = tt
  free_one break free = tt
  free_one continue free = tt
  free_one (if_else test first second) free = (free_measured first free.0, free_measured second free.1)
  free_one (while_loop test body step) free = absurd free
  free_one (do_while body test) free = absurd free

  pub free_measured : (s : Statements) → HasNoLoop s → AreMeasured nothing s
  free_measured empty free = tt
  free_measured (sequence first more) free = (free_one first free.0, free_measured more free.1)

mutual
  counting_one : (e : Affine) (s : Statement) → IsCounting e s → IsMeasured e s
  counting_one e (assign x v) may = may
  counting_one e skip may = tt
  counting_one e return may = absurd may
  counting_one e break may = absurd may
  counting_one e continue may = absurd may
  counting_one e (if_else test first second) may = (counting_measured e first may.0, counting_measured e second may.1)
  counting_one e (while_loop test body step) may = absurd may
  counting_one e (do_while body test) may = absurd may

  pub counting_measured : (e : Affine) (s : Statements) → AreCounting e s → AreMeasured e s
  counting_measured e empty may = tt
  counting_measured e (sequence first more) may = (counting_one e first may.0, counting_measured e more may.1)

-- a path takes at most as many steps as there are statements
module _ (by : ℕ → Expression → ℤ) where
  mutual
    most_one : (s : Statement) (c : Count) → (before_statement by s c).most ≤ size_of_statement s + c.most
    most_one (assign x v) c = omega arith
    most_one skip c = omega arith
    most_one return c = omega arith
    most_one break c = omega arith
    most_one continue c = omega arith
    most_one (if_else test first second) c = let m = most_before first c in let n = most_before second c in omega arith
    most_one (while_loop test body step) c = omega arith
    most_one (do_while body test) c = omega arith

    pub most_before : (s : Statements) (c : Count) → (before by s c).most ≤ size_of s + c.most
    most_before empty c = omega arith
    most_before (sequence first more) c = let m = most_one first (before by more c) in let n = most_before more c in omega arith
