-- The definitions on small programs.
use Rattle.std.proofs.Common.{◌≡◌, ◌≢◌, ℕ, zero, suc, ◌+◌, ◌<◌, ◌≤◌, pos, true, false, IsTrue, None, Some, [], ◌∷◌, refl, lit<, lit≤, arith}
use Rattle.step_meaning.specs.declared.expression.Op2.TheVariants.{Greater, Sub}
use Rattle.step_meaning.specs.Syntax.{number, variable, pair}
use Rattle.step_meaning.specs.Syntax as syntax
use Rattle.call_meaning.specs.Units.{assign, call, return, while_loop, empty, sequence, Table}
use Rattle.call_inline.specs.Inlined.{inlined_body}
use Rattle.call_meaning.specs.Validity.{AreRoutines, Closes}
use Rattle.call_meaning.specs.Reads.{IsTidy, AreSet, among, given}

-- void down(int n) { while (n > 0) n = n - 1; } int main() { int x; down(x); }
abbrev down : Table
down zero = record {
  base = 1;
  vars = 1;
  params = 1;
  free = [];
  valued = false;
  body = sequence (while_loop (pair Greater (variable 0) (number (pos 0))) (sequence (assign 0 (pair Sub (variable 0) (number (pos 1)))) empty) empty) empty;
}
down (suc k) = record { base = 0; vars = 1; params = 0; free = []; valued = false; body = sequence (call None 0 (variable 0 ∷ [])) empty }

down_inlined : inlined_body down 1 ≡ syntax.sequence (syntax.assign 1 (variable 0))
    (syntax.sequence (syntax.while_loop (pair Greater (variable 1) (number (pos 0)))
    (syntax.sequence (syntax.assign 1 (pair Sub (variable 1) (number (pos 1)))) syntax.empty) syntax.empty) syntax.empty)
down_inlined = refl

down_functions : (k : ℕ) → k < 1 → Closes down k (down k).valued (down k).body
down_functions zero low = (((tt, tt), tt), refl)
down_functions (suc k) low = absurd (omega arith)

down_routines : AreRoutines down 1
down_routines = record { functions = down_functions; whole = ((lit< tt, tt), tt) }

down_set : (k : ℕ) → k < 1 → AreSet down (down k).vars (given (down k)) (down k).body
down_set zero low = (((refl, tt), ((lit< tt, (refl, tt)), tt), tt), tt)
down_set (suc k) low = absurd (omega arith)

down_room : (k : ℕ) → k ≤ 1 → (down k).base + (down k).vars ≤ 16
down_room zero low = lit≤ tt
down_room (suc k) low = lit≤ tt

down_params : (k : ℕ) → k < 1 → (down k).params ≤ (down k).vars
down_params zero low = lit≤ tt
down_params (suc k) low = absurd (omega arith)

down_free : (k : ℕ) → k < 1 → (y : ℕ) → IsTrue (among (down k).free y) → y < (down k).vars
down_free zero low y h = absurd (cc)
down_free (suc k) low y h = absurd (cc)

down_apart : (j k : ℕ) → j ≤ 1 → k ≤ 1 → j ≢ k → (x y : ℕ) → x < (down j).vars → y < (down k).vars → (down j).base + x ≢ (down k).base + y
down_apart zero zero a b c x y i l e = c refl
down_apart zero (suc k) a b c x y i l e = omega arith
down_apart (suc j) zero a b c x y i l e = omega arith
down_apart (suc j) (suc k) a b c x y i l e = c (omega arith)

down_tidy : IsTidy down 1
down_tidy = record {
  functions = down_set;
  whole = ((tt, (refl, tt), refl), tt);
  params = down_params;
  free = down_free;
  first = refl;
  room = down_room;
  apart = down_apart;
}

-- int one() { return 1; } int main() { int x; x = one(); }
abbrev give_one : Table
give_one zero = record { base = 1; vars = 0; params = 0; free = []; valued = true; body = sequence (return (Some (number (pos 1)))) empty }
give_one (suc k) = record { base = 0; vars = 1; params = 0; free = []; valued = false; body = sequence (call (Some 0) 0 []) empty }

one_inlined : inlined_body give_one 1 ≡ syntax.sequence (syntax.assign 0 (number (pos 1))) syntax.empty
one_inlined = refl

-- int count() { x = x - 1; return x; } with a variable x that nothing declares, as no text can: it reads what it never sets, so it isn't tidy
abbrev count : Table
count zero = record {
  base = 1;
  vars = 1;
  params = 0;
  free = [];
  valued = true;
  body = sequence (assign 0 (pair Sub (variable 0) (number (pos 1)))) (sequence (return (Some (variable 0))) empty);
}
count (suc k) = record { base = 0; vars = 1; params = 0; free = []; valued = false; body = sequence (call (Some 0) 0 []) empty }

untidy : ¬ IsTidy count 1
untidy tidy = let reads = (tidy.functions 0 (lit< tt)).0.1.0 in cc
