-- How large bodies are: what falls where a body is walked, and where the walk goes on in the body of a function before.
use Rattle.std.proofs.Common.{◌≢◌, ℕ, zero, suc, ◌+◌, ◌*◌, ◌<◌, ◌≤◌, inl, inr, sym, subst, arith}
use Rattle.std.proofs.lemmas.Bool.Decides.{eqb_tells}
use Rattle.call_meaning.specs.Units.{Command, Commands, assign, call, skip, return, break, continue, if_else, while_loop, do_while, empty, sequence, Table}

abbrev mutual
  pub size_of : Command → ℕ
  size_of (assign x e) = 1
  size_of (call target f arguments) = 1
  size_of skip = 1
  size_of (return value) = 1
  size_of break = 1
  size_of continue = 1
  size_of (if_else c first second) = 1 + size first + size second
  size_of (while_loop c body step) = 1 + size body + size step
  size_of (do_while body c) = 1 + size body

  pub size : Commands → ℕ
  size empty = 0
  size (sequence first more) = size_of first + size more

-- the bodies before a routine
abbrev pub weight : Table → ℕ → ℕ
weight table zero = 0
weight table (suc n) = weight table n + (3 * size (table n).body + 3)

pub weight_grows : (table : Table) (f k : ℕ) → f < k → weight table f + (3 * size (table f).body + 3) ≤ weight table k
weight_grows table f zero below = absurd (omega arith)
weight_grows table f (suc k) below = elim (eqb_tells f k) [
  | inl same ↦
      subst (λ j. weight table j + (3 * size (table j).body + 3) ≤ weight table k + (3 * size (table k).body + 3)) (sym same.1) (omega arith)
  | inr other ↦ (let apart : f ≢ k = other.1 in let less = weight_grows table f k (omega arith) in omega arith)
]
