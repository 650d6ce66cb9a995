-- The count of a turn of a loop is made from its first statement forward.
use Rattle.std.proofs.Common.{◌≡◌, ℕ, ◌+◌, ◌^◌, ◌<◌, ◌≤◌, ℤ, pos, ◌+ℤ◌, unsigned_abs, ◌↔◌, length, ⊎_elim, Option, SomeIff, sym, ap, ◌∙◌, arith}
use Rattle.std.proofs.lemmas.Bool.{cases_lt}
use Rattle.std.proofs.lemmas.Int.{ints, int_max_is}
use Rattle.std.proofs.lemmas.List.{get_or_past}
use Rattle.linear_cons.specs.declared.affine.Affine.{Affine}
use Rattle.step_meaning.specs.declared.count.Count.{Count}
use Rattle.step_meaning.specs.Syntax.{Statement, Statements, assign, skip, return, break, continue, if_else, while_loop, do_while, empty, sequence}
use Rattle.step_meaning.specs.Counts.{before, before_statement, either_of, none, step_by}
use Rattle.linear_cons.specs.Functions.{coefficient}
use Rattle.step_meaning.specs.Countdown.{IsSmall, IsCounting, AreCounting, change_by}
use Rattle.step_meaning.specs.Turns.{AreCounted, IsCounted, TurnIsCounted, count_of, count_of_one, joined, turn_of}
use Rattle.step_meaning.proofs.FunctionLaws.{some_iff_same}

pub same_count : (c d : Count) → c.most ≡ d.most → c.change ≡ d.change → c ≡ d
same_count c d most change =
    ap {B = Count} (λ n. record { most = n; change = c.change }) most
    ∙ ap {B = Count} (λ z. record { most = d.most; change = z }) change

pub none_joined : (c : Count) → joined none c ≡ c
none_joined c = same_count (joined none c) c (omega arith) (omega (arith, ints))

pub joined_none : (c : Count) → joined c none ≡ c
joined_none c = same_count (joined c none) c (omega arith) (omega (arith, ints))

pub joined_joined : (a b c : Count) → joined a (joined b c) ≡ joined (joined a b) c
joined_joined a b c = same_count (joined a (joined b c)) (joined (joined a b) c) (omega arith) (omega (arith, ints))

either_joined : (a b c : Count) → either_of (joined a c) (joined b c) ≡ joined (either_of a b) c
either_joined a b c =
    same_count (either_of (joined a c) (joined b c)) (joined (either_of a b) c) (omega arith)
    (omega (arith, ints, int_max_is (a.change +ℤ c.change) (b.change +ℤ c.change), int_max_is a.change b.change))

step_joined : (z : ℤ) (c : Count) → step_by z c ≡ joined (step_by z none) c
step_joined z c = same_count (step_by z c) (joined (step_by z none) c) (omega arith) (omega (arith, ints))

-- what the count of a counting statement is joined to may be counted later
mutual
  pub one_forward : (e : Affine) (s : Statement) → IsCounting e s → (c : Count) → before_statement (change_by e) s c ≡ joined (count_of_one e s) c
  one_forward e (assign x v) may c = step_joined (change_by e x v) c
  one_forward e skip may c = step_joined (pos 0) c
  one_forward e return may c = absurd may
  one_forward e break may c = absurd may
  one_forward e continue may c = absurd may
  one_forward e (if_else test first second) may c =
      ap (λ d. either_of d (before (change_by e) second c)) (forward e first may.0 c)
      ∙ ap (either_of (joined (count_of e first) c)) (forward e second may.1 c)
      ∙ either_joined (count_of e first) (count_of e second) c
  one_forward e (while_loop test body step) may c = absurd may
  one_forward e (do_while body test) may c = absurd may

  pub forward : (e : Affine) (s : Statements) → AreCounting e s → (c : Count) → before (change_by e) s c ≡ joined (count_of e s) c
  forward e empty may c = sym (none_joined c)
  forward e (sequence first more) may c =
      one_forward e first may.0 (before (change_by e) more c)
      ∙ ap (joined (count_of_one e first)) (forward e more may.1 c)
      ∙ joined_joined (count_of_one e first) (count_of e more) c
      ∙ ap (λ d. joined d c) (sym (one_forward e first may.0 (count_of e more)))

-- the count of statements is that of the first, joined to that of the others
pub first_of : (e : Affine) (first : Statement) (more : Statements) → IsCounting e first → count_of e (sequence first more) ≡ joined (count_of_one e first) (count_of e more)
first_of e first more may = one_forward e first may (count_of e more)

-- ---- one statement more, where the count so far joined to that of what is left is that of all
module _ (e : Affine) (first : Statement) (more whole : Statements) (count : Count)
    (all : AreCounting e (sequence first more) ↔ AreCounting e whole)
    (is : AreCounting e (sequence first more) → count_of e whole ≡ joined count (count_of e (sequence first more))) where
  split : AreCounting e (sequence first more) → count_of e whole ≡ joined count (joined (count_of_one e first) (count_of e more))
  split may = is may ∙ ap (joined count) (first_of e first more may.0)

  pub one_not_counted : ¬ IsCounted e first → ¬ AreCounted e whole
  one_not_counted lacks counted =
      let may = all.1 counted.0 in
      let most : (count_of e whole).most ≡ count.most + ((count_of_one e first).most + (count_of e more).most) = ap (λ (c : Count). c.most) (split may) in
      let low = counted.1 in
      lacks (may.0, omega arith)

  pub too_many_steps : ¬ (count.most + (count_of_one e first).most < 2 ^ 64) → ¬ AreCounted e whole
  too_many_steps full counted =
      let may = all.1 counted.0 in
      let most : (count_of e whole).most ≡ count.most + ((count_of_one e first).most + (count_of e more).most) = ap (λ (c : Count). c.most) (split may) in
      let low = counted.1 in
      full (omega arith)

  pub one_more : IsCounting e first → (next : Count) → joined count (count_of_one e first) ≡ next → (AreCounting e more ↔ AreCounting e whole) × (AreCounting e more → count_of e whole ≡ joined next (count_of e more))
  one_more may next made = (
    (λ rest. all.0 (may, rest), λ h. (all.1 h).1),
    λ rest. split (may, rest) ∙ joined_joined count (count_of_one e first) (count_of e more) ∙ ap (λ c. joined c (count_of e more)) made,
  )

-- past the last place there is no coefficient
pub coefficient_small : (e : Affine) (place : ℕ) → length e.coef ≡ 16 → IsSmall e → unsigned_abs (coefficient e place) ≤ 2 ^ 31
coefficient_small e place long small = ⊎_elim
    (λ (low : place < 16). small.coefficients place low)
    (λ (past : 16 ≤ place). rw (get_or_past e.coef place (pos 0) (omega (arith, long))) (omega arith))
    (cases_lt place 16)

-- ---- a whole turn
module _ (e : Affine) (body step : Statements) where
  pub whole_joined : AreCounting e body → turn_of e body step ≡ joined (count_of e body) (count_of e step)
  whole_joined may = forward e body may (count_of e step)

  most_joined : AreCounting e body → (turn_of e body step).most ≡ (count_of e body).most + (count_of e step).most
  most_joined may = ap (λ (c : Count). c.most) (whole_joined may)

  pub body_counted : TurnIsCounted e body step → AreCounted e body
  body_counted counted = let most = most_joined counted.0 in let low = counted.2 in (counted.0, omega arith)

  pub step_counted : TurnIsCounted e body step → AreCounted e step
  step_counted counted = let most = most_joined counted.0 in let low = counted.2 in (counted.1, omega arith)

  pub both_counted : (o : Option Count) (c d : Count) → AreCounted e body → AreCounted e step → c ≡ count_of e body → d ≡ count_of e step → SomeIff o (c.most + d.most < 2 ^ 64) (joined c d) → SomeIff o (TurnIsCounted e body step) (turn_of e body step)
  both_counted o c d first second one two h =
      some_iff_same o (c.most + d.most < 2 ^ 64) (TurnIsCounted e body step) (joined c d) (turn_of e body step)
      (λ low. (first.0, second.0, let most = most_joined first.0 in let m = ap (λ (c : Count). c.most) one in let n = ap (λ (c : Count). c.most) two in omega arith))
      (λ counted. let low = counted.2 in let most = most_joined first.0 in let m = ap (λ (c : Count). c.most) one in let n = ap (λ (c : Count). c.most) two in omega arith)
      (ap (λ t. joined t d) one ∙ ap (joined (count_of e body)) two ∙ sym (whole_joined first.0)) h
