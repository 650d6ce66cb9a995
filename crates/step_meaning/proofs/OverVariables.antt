-- What a number of a program is speaks of the program's variables alone.
use Rattle.std.proofs.Common.{◌≡◌, ℕ, ◌≤◌, pos, refl, arith}
use Rattle.linear_cons.specs.Functions.{IsOver}
use Rattle.linear_cons.proofs.Over.{over_places}
use Rattle.linear_cons.proofs.Places.{eqb_apart}
use Rattle.linear_cons.proofs.Ring.{zero_mul}
use Rattle.step_meaning.specs.declared.expression.Op2.TheVariants.{Add, Sub, Mul, Less, LessEqual, Greater, GreaterEqual, Equal, NotEqual, And, Or}
use Rattle.step_meaning.specs.AffineExpressions.{coefficient_in, constant_in}
use Rattle.step_meaning.specs.Countdown.{form_of}
use Rattle.step_meaning.specs.Syntax.{Expression, number, variable, free, range, divided, truth, negative, negation, pair}
use Rattle.step_meaning.specs.Valid.{IsNumber}

module _ (vars : ℕ) where
  number_spares : (v : Expression) → IsNumber vars v → (place : ℕ) → vars ≤ place → coefficient_in v place ≡ pos 0
  number_spares (number z) sorted place high = refl
  number_spares (variable x) sorted place high = rw (eqb_apart place x (omega arith)) refl
  number_spares free sorted place high = refl
  number_spares (range lo hi) sorted place high = refl
  number_spares (divided division e b) sorted place high = refl
  number_spares (truth b) sorted place high = refl
  number_spares (negative e) sorted place high = rw (number_spares e sorted place high) refl
  number_spares (negation c) sorted place high = refl
  number_spares (pair Add l r) sorted place high = rw (number_spares l sorted.0 place high, number_spares r sorted.1 place high) refl
  number_spares (pair Sub l r) sorted place high = rw (number_spares l sorted.0 place high, number_spares r sorted.1 place high) refl
  number_spares (pair Mul l r) sorted place high =
      rw (number_spares l sorted.0 place high, number_spares r sorted.1 place high, zero_mul (constant_in r), zero_mul (constant_in l)) refl
  number_spares (pair Less l r) sorted place high = absurd sorted
  number_spares (pair LessEqual l r) sorted place high = absurd sorted
  number_spares (pair Greater l r) sorted place high = absurd sorted
  number_spares (pair GreaterEqual l r) sorted place high = absurd sorted
  number_spares (pair Equal l r) sorted place high = absurd sorted
  number_spares (pair NotEqual l r) sorted place high = absurd sorted
  number_spares (pair And l r) sorted place high = absurd sorted
  number_spares (pair Or l r) sorted place high = absurd sorted

  pub over_form : (v : Expression) → IsNumber vars v → IsOver vars (form_of v)
  over_form v sorted = over_places vars (λ place. coefficient_in v place) (constant_in v) (λ place low high. number_spares v sorted place high)
