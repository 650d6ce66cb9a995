-- The definitions at work on small programs: what they say of a program that a reader can run by hand. The variable x is at place 0, and a
-- store has sixteen places.
use Rattle.std.proofs.Common.{◌≡◌, ℕ, zero, suc, ℤ, pos, negsuc, ◌≤ℤ◌, ◌<ℤ◌, ◌-ℤ◌, ◌*ℤ◌, Bool, true, false, inl, inr, IsTrue, [], ◌∷◌, ◌++◌, None, Some, slice_set, refl, sym, ◌∙◌, ap, subst, arith}
use Rattle.std.proofs.lemmas.Int.{ints}
use Rattle.step_meaning.specs.declared.expression.Op2.TheVariants.{Sub, Greater, And, Or}
use Rattle.step_meaning.specs.Syntax.{Expression, number, variable, divided, quotient, remainder, free, range, truth, negation, pair, Statement, Statements, assign, skip, return, break, continue, if_else, while_loop, do_while, empty, sequence}
use Rattle.step_meaning.specs.Outcome.{Store, May, MayTest, Truncates}
use Rattle.step_meaning.specs.Step.{Configuration, Todo, one, turn, items_of, Step, Next, IsFinal, behind_body, front}
use Rattle.step_meaning.specs.Run.{start, EndsWithin, EndsInTests, Longest}
use Rattle.step_meaning.proofs.Progress.{holds, fails}
use Rattle.step_meaning.proofs.Quotients.{left_between, only}

same : (d e : Configuration) → d.todo ≡ e.todo → d.store ≡ e.store → d ≡ e
same d e todo store =
    ap {B = Configuration} (λ t. record { todo = t; store = d.store }) todo
    ∙ ap {B = Configuration} (λ s. record { todo = e.todo; store = s }) store

-- where `e` is the only successor, the longest run takes one step more than from there
longest_by_step : (n : ℕ) (c e : Configuration) → ¬ IsFinal c → Step c e → ((d : Configuration) → Step c d → d ≡ e) → Longest n e
    → Longest (suc n) c
longest_by_step zero c e unfinished step only longest =
    (inr (λ d taken. subst (EndsWithin zero) (sym (only d taken)) longest), unfinished)
longest_by_step (suc n) c e unfinished step only longest = (
  inr (λ d taken. subst (EndsWithin (suc n)) (sym (only d taken)) longest.0),
  λ h. elim h [ inl final ↦ unfinished final | inr successors ↦ longest.1 (successors e step) ],
)

-- a configuration of a list and a store
abbrev at : Todo → Store → Configuration
at todo s = record { todo = todo; store = s }

-- the store in which x is this number and every other place is 0
abbrev store_of : ℤ → Store
store_of x =
    x ∷ pos 0 ∷ pos 0 ∷ pos 0 ∷ pos 0 ∷ pos 0 ∷ pos 0 ∷ pos 0 ∷ pos 0 ∷ pos 0 ∷ pos 0 ∷ pos 0 ∷ pos 0 ∷ pos 0 ∷ pos 0 ∷ pos 0 ∷ []

-- `x > 0` and `x = x - 1;`
abbrev positive : Expression
positive = pair Greater (variable 0) (number (pos 0))

abbrev down : Statement
down = assign 0 (pair Sub (variable 0) (number (pos 1)))

abbrev only_down : Statements
only_down = sequence down empty

when_positive : (z : ℤ) → pos 0 <ℤ z → MayTest positive (store_of z) true
when_positive z lt = inl (z, pos 0, refl, refl, holds lt)

positive_only : (z : ℤ) → pos 0 <ℤ z → ¬ MayTest positive (store_of z) false
positive_only z lt (inl m) =
    let below : pos 0 <ℤ m.0 = omega (arith, ints) in
    let at_zero : m.1 <ℤ m.0 = omega (arith, ints) in
    let clash : IsTrue false = m.4.1 at_zero in
    cc
positive_only z lt (inr m) = m.4

when_zero : MayTest positive (store_of (pos 0)) false
when_zero = inl (pos 0, pos 0, refl, refl, fails (λ lt. omega (arith, ints)))

zero_only : ¬ MayTest positive (store_of (pos 0)) true
zero_only (inl m) =
    let above : m.1 <ℤ m.0 = m.4.0 refl in
    omega (arith, ints)
zero_only (inr m) = m.4

one_positive : pos 0 <ℤ pos 1
one_positive = omega (arith, ints)

-- from x = 1, `x = x - 1;` gives 0
down_from_one : (rest : Todo) → Step (at (one down ∷ rest) (store_of (pos 1))) (at rest (store_of (pos 0)))
down_from_one rest = (refl, (pos 0, (pos 1, pos 1, refl, refl, refl), refl))

down_from_one_only : (rest : Todo) (d : Configuration) → Step (at (one down ∷ rest) (store_of (pos 1))) d → d ≡ at rest (store_of (pos 0))
down_from_one_only rest d step =
    let m = step.1.1 in
    let gives : step.1.0 ≡ pos 0 = m.4 ∙ ap (λ a. a -ℤ m.1) m.2 ∙ ap (λ b. pos 1 -ℤ b) m.3 in
    same d (at rest (store_of (pos 0))) step.0 (step.1.2 ∙ ap (λ v. slice_set (store_of (pos 1)) 0 v) gives)

-- `while (x > 0) body`, from x = 1 and from x = 0
module _ (body step : Statements) (rest : Todo) where
  abbrev loop : Statement
  loop = while_loop positive body step

  abbrev inside : Todo
  inside = items_of body ++ behind_body positive body step rest

  enters : Step (at (one loop ∷ rest) (store_of (pos 1))) (at inside (store_of (pos 1)))
  enters = (inl (when_positive (pos 1) one_positive, refl), refl)

  enters_only : (d : Configuration) → Step (at (one loop ∷ rest) (store_of (pos 1))) d → d ≡ at inside (store_of (pos 1))
  enters_only d (inl taken, store) = same d (at inside (store_of (pos 1))) taken.1 store
  enters_only d (inr taken, store) = absurd (positive_only (pos 1) one_positive taken.0)

  leaves : Step (at (one loop ∷ rest) (store_of (pos 0))) (at rest (store_of (pos 0)))
  leaves = (inr (when_zero, refl), refl)

  leaves_only : (d : Configuration) → Step (at (one loop ∷ rest) (store_of (pos 0))) d → d ≡ at rest (store_of (pos 0))
  leaves_only d (inl taken, store) = absurd (zero_only taken.0)
  leaves_only d (inr taken, store) = same d (at rest (store_of (pos 0))) taken.1 store

  leaving : Longest 0 (at rest (store_of (pos 0))) → Longest 1 (at (one loop ∷ rest) (store_of (pos 0)))
  leaving final = longest_by_step 0 (at (one loop ∷ rest) (store_of (pos 0))) (at rest (store_of (pos 0))) (λ e. cc) leaves leaves_only final

-- `x = 5;` ends within 1 step and not within 0
assignment_ends : (s : Store) → EndsWithin 1 (start (sequence (assign 0 (number (pos 5))) empty) s)
assignment_ends s = inr (λ d step. ap front step.0)

assignment_takes_a_step : (s : Store) → ¬ EndsWithin 0 (start (sequence (assign 0 (number (pos 5))) empty) s)
assignment_takes_a_step s e = cc

-- `return; x = 5;` ends with the `return`
return_ends : (s : Store) → EndsWithin 1 (start (sequence return (sequence (assign 0 (number (pos 5))) empty)) s)
return_ends s = inr (λ d step. ap front step.0)

-- from x = 1 the longest run of `while (x > 0) x = x - 1;` takes 3 steps
while_takes_three : Longest 3 (start (sequence (while_loop positive only_down empty) empty) (store_of (pos 1)))
while_takes_three =
    let loop = while_loop positive only_down empty in
    let marked : Todo = turn positive only_down empty ∷ [] in
    longest_by_step 2 (at (one loop ∷ []) (store_of (pos 1))) (at (one down ∷ marked) (store_of (pos 1))) (λ e. cc)
    (enters only_down empty []) (enters_only only_down empty [])
    (longest_by_step 1 (at (one down ∷ marked) (store_of (pos 1))) (at marked (store_of (pos 0))) (λ e. cc) (down_from_one _)
    (down_from_one_only _) (leaving only_down empty [] refl))

-- from x = 1 the longest run of `do x = x - 1; while (x > 0);` takes 2 steps, and so does that of `do do x = x - 1; while (x > 0); while (x > 0);`
-- with a third for the outer test
do_takes_two : Longest 2 (start (sequence (do_while only_down positive) empty) (store_of (pos 1)))
do_takes_two =
    let marked : Todo = turn positive only_down empty ∷ [] in
    longest_by_step 1 (at (one (do_while only_down positive) ∷ []) (store_of (pos 1))) (at marked (store_of (pos 0))) (λ e. cc)
    (down_from_one _) (down_from_one_only _) (leaving only_down empty [] refl)

nested_do_takes_three : Longest 3 (start (sequence (do_while (sequence (do_while only_down positive) empty) positive) empty) (store_of (pos 1)))
nested_do_takes_three =
    let inner = sequence (do_while only_down positive) empty in
    let outer : Todo = turn positive inner empty ∷ [] in
    let both : Todo = turn positive only_down empty ∷ outer in
    longest_by_step 2 (at (one (do_while inner positive) ∷ []) (store_of (pos 1))) (at both (store_of (pos 0))) (λ e. cc)
    (down_from_one _) (down_from_one_only _)
    (longest_by_step 1 (at both (store_of (pos 0))) (at outer (store_of (pos 0))) (λ e. cc)
    (leaves only_down empty outer) (leaves_only only_down empty outer) (leaving inner empty [] refl))

-- from x = 1 the longest run of `for (; x > 0; x = x - 1) ;` takes 4 steps: a test, the `;`, the step and a test
for_takes_four : Longest 4 (start (sequence (while_loop positive (sequence skip empty) only_down) empty) (store_of (pos 1)))
for_takes_four =
    let body = sequence skip empty in
    let loop = while_loop positive body only_down in
    let marked : Todo = turn positive body only_down ∷ [] in
    longest_by_step 3 (at (one loop ∷ []) (store_of (pos 1))) (at (one skip ∷ marked) (store_of (pos 1))) (λ e. cc)
    (enters body only_down []) (enters_only body only_down [])
    (longest_by_step 2 (at (one skip ∷ marked) (store_of (pos 1))) (at marked (store_of (pos 1))) (λ e. cc) (refl, refl)
    (λ d step. same d (at marked (store_of (pos 1))) step.0 step.1)
    (longest_by_step 1 (at marked (store_of (pos 1))) (at (one loop ∷ []) (store_of (pos 0))) (λ e. cc) (down_from_one _)
    (down_from_one_only _) (leaving body only_down [] refl)))

-- From x = 1 `for (; x > 0; x = x - 1) break;` takes 2 steps, since its step isn't done. With `continue` it takes 4: a test, the
-- `continue`, the step and a test.
for_broken : Longest 2 (start (sequence (while_loop positive (sequence break empty) only_down) empty) (store_of (pos 1)))
for_broken =
    let body = sequence break empty in
    let broken : Todo = one break ∷ turn positive body only_down ∷ [] in
    longest_by_step 1 (at (one (while_loop positive body only_down) ∷ []) (store_of (pos 1))) (at broken (store_of (pos 1))) (λ e. cc)
    (enters body only_down []) (enters_only body only_down [])
    (longest_by_step 0 (at broken (store_of (pos 1))) (at [] (store_of (pos 1))) (λ e. cc) (refl, refl)
    (λ d step. same d (at [] (store_of (pos 1))) step.0 step.1) refl)

for_continued : Longest 4 (start (sequence (while_loop positive (sequence continue empty) only_down) empty) (store_of (pos 1)))
for_continued =
    let body = sequence continue empty in
    let marked : Todo = turn positive body only_down ∷ [] in
    longest_by_step 3 (at (one (while_loop positive body only_down) ∷ []) (store_of (pos 1))) (at (one continue ∷ marked) (store_of (pos 1))) (λ e. cc)
    (enters body only_down []) (enters_only body only_down [])
    (longest_by_step 2 (at (one continue ∷ marked) (store_of (pos 1))) (at marked (store_of (pos 1))) (λ e. cc) (refl, refl)
    (λ d step. same d (at marked (store_of (pos 1))) step.0 step.1)
    (longest_by_step 1 (at marked (store_of (pos 1))) (at (one (while_loop positive body only_down) ∷ []) (store_of (pos 0))) (λ e. cc)
    (down_from_one _) (down_from_one_only _) (leaving body only_down [] refl)))

-- from x = 0 `do break; while (x > 0);` takes 1 step, and `do continue; while (x > 0);` a second one, the test
do_broken : Longest 1 (start (sequence (do_while (sequence break empty) positive) empty) (store_of (pos 0)))
do_broken =
    longest_by_step 0 (at (one (do_while (sequence break empty) positive) ∷ []) (store_of (pos 0))) (at [] (store_of (pos 0))) (λ e. cc)
    (refl, refl) (λ d step. same d (at [] (store_of (pos 0))) step.0 step.1) refl

do_continued : Longest 2 (start (sequence (do_while (sequence continue empty) positive) empty) (store_of (pos 0)))
do_continued =
    let body = sequence continue empty in
    let marked : Todo = turn positive body empty ∷ [] in
    longest_by_step 1 (at (one (do_while body positive) ∷ []) (store_of (pos 0))) (at marked (store_of (pos 0))) (λ e. cc)
    (refl, refl) (λ d step. same d (at marked (store_of (pos 0))) step.0 step.1) (leaving body empty [] refl)

-- from x = 1 `while (x > 0) { while (x > 0) break; x = x - 1; }` takes 5 steps: the `break` leaves the inner loop alone
inner_broken :
    Longest 5 (start (sequence (while_loop positive (sequence (while_loop positive (sequence break empty) empty) only_down) empty) empty) (store_of (pos 1)))
inner_broken =
    let inside : Statements = sequence break empty in
    let inner = while_loop positive inside empty in
    let body = sequence inner only_down in
    let outer : Todo = turn positive body empty ∷ [] in
    let last : Todo = one down ∷ outer in
    longest_by_step 4 (at (one (while_loop positive body empty) ∷ []) (store_of (pos 1))) (at (one inner ∷ last) (store_of (pos 1))) (λ e. cc)
    (enters body empty []) (enters_only body empty [])
    (longest_by_step 3 (at (one inner ∷ last) (store_of (pos 1))) (at (one break ∷ turn positive inside empty ∷ last) (store_of (pos 1))) (λ e. cc)
    (enters inside empty last) (enters_only inside empty last)
    (longest_by_step 2 (at (one break ∷ turn positive inside empty ∷ last) (store_of (pos 1))) (at last (store_of (pos 1))) (λ e. cc) (refl, refl)
    (λ d step. same d (at last (store_of (pos 1))) step.0 step.1)
    (longest_by_step 1 (at last (store_of (pos 1))) (at outer (store_of (pos 0))) (λ e. cc) (down_from_one _) (down_from_one_only _)
    (leaving body empty [] refl))))

-- `if (x > 0) ; else { ; ; }` from x = 1: the shorter side is taken
abbrev unequal_sides : Statements
unequal_sides = sequence (if_else positive (sequence skip empty) (sequence skip (sequence skip empty))) empty

if_takes_two : Longest 2 (start unequal_sides (store_of (pos 1)))
if_takes_two =
    longest_by_step 1 (start unequal_sides (store_of (pos 1))) (at (one skip ∷ []) (store_of (pos 1))) (λ e. cc)
    (inl (when_positive (pos 1) one_positive, refl), refl)
    (λ d step. elim step.0 [
      | inl taken ↦ same d (at (one skip ∷ []) (store_of (pos 1))) taken.1 step.1
      | inr taken ↦ absurd (positive_only (pos 1) one_positive taken.0)
    ])
    (longest_by_step 0 (at (one skip ∷ []) (store_of (pos 1))) (at [] (store_of (pos 1))) (λ e. cc) (refl, refl)
    (λ d step. same d (at [] (store_of (pos 1))) step.0 step.1) refl)

-- `while (x > 0) x = x - 1;` takes one loop test from x = 0 and two from x = 1, and no fewer
abbrev counting : Statements
counting = sequence (while_loop positive only_down empty) empty

leaves_in_one_test : EndsInTests 1 1 (start counting (store_of (pos 0)))
leaves_in_one_test = inr (λ d step. ap (λ c. front c.todo) (leaves_only only_down empty [] d step))

no_test_is_free : (n : ℕ) → ¬ EndsInTests 0 n (start counting (store_of (pos 0)))
no_test_is_free zero final = cc
no_test_is_free (suc n) (inl final) = cc
no_test_is_free (suc n) (inr tests) = tests

no_test_is_free_behind_the_body : (n : ℕ) → ¬ EndsInTests 0 n (at (turn positive only_down empty ∷ []) (store_of (pos 0)))
no_test_is_free_behind_the_body zero final = cc
no_test_is_free_behind_the_body (suc n) (inl final) = cc
no_test_is_free_behind_the_body (suc n) (inr tests) = tests

ends_in_two_tests : EndsInTests 2 3 (start counting (store_of (pos 1)))
ends_in_two_tests =
    inr (λ d enter. subst (EndsInTests 1 2) (sym (enters_only only_down empty [] d enter))
    (inr (λ e fall. subst (EndsInTests 1 1) (sym (down_from_one_only _ e fall)) leaves_in_one_test)))

two_tests_are_needed : (n : ℕ) → ¬ EndsInTests 1 n (start counting (store_of (pos 1)))
two_tests_are_needed zero final = cc
two_tests_are_needed (suc n) (inl final) = cc
two_tests_are_needed (suc n) (inr successors) =
    elim n as (λ m. EndsInTests 0 m (at (one down ∷ turn positive only_down empty ∷ []) (store_of (pos 1))) → ⊥) [
      | zero ↦ λ h. cc
      | suc m ↦ λ h. elim h [
        | inl final ↦ cc
        | inr left ↦ no_test_is_free_behind_the_body m (left _ (down_from_one _))
      ]
    ] (successors _ (enters only_down empty []))

-- a final configuration has itself as its only successor, and any other has those of its steps
end_stays : (s : Store) → Next (at [] s) (at [] s)
end_stays s = inr (refl, refl)

end_stays_only : (s : Store) (d : Configuration) → Next (at [] s) d → d ≡ at [] s
end_stays_only s d (inl step) = absurd step
end_stays_only s d (inr final) = final.1

next_is_a_step : (s : Store) (d : Configuration) → Next (at (one skip ∷ []) s) d → d ≡ at [] s
next_is_a_step s d (inl step) = same d (at [] s) step.0 step.1
next_is_a_step s d (inr final) = absurd (cc)

-- `[3, inf]` may be 7 and not 2; `? - ?` may be any number, also of one name's own value less itself only 0
range_has_seven : May (range (Some (pos 3)) None) (store_of (pos 0)) (pos 7)
range_has_seven = (omega (arith, ints), tt)

range_lacks_two : ¬ May (range (Some (pos 3)) None) (store_of (pos 0)) (pos 2)
range_lacks_two h = let low : pos 3 ≤ℤ pos 2 = h.0 in omega (arith, ints)

itself_less_itself : (s : Store) (v : ℤ) → May (pair Sub (variable 0) (variable 0)) s v → v ≡ pos 0
itself_less_itself s v m = m.4 ∙ ap (λ a. a -ℤ m.1) (m.2 ∙ sym m.3) ∙ (omega (arith, ints))

free_less_free : (s : Store) (v : ℤ) → May (pair Sub free free) s v
free_less_free s v = (v, pos 0, tt, tt, omega (arith, ints))

-- `? && ?` may be either, `! true` is false alone, `false || ?` may be true
free_and_free : (s : Store) (t : Bool) → MayTest (pair And free free) s t
free_and_free s true = inr (true, true, tt, tt, refl)
free_and_free s false = inr (false, true, tt, tt, refl)

not_true : (s : Store) → ¬ MayTest (negation (truth true)) s true
not_true s m = cc

false_or_free : (s : Store) → MayTest (pair Or (truth false) free) s true
false_or_free s = inr (false, true, refl, tt, refl)

-- `-7 / 2` is -3 and `-7 % 2` is -1, and `7 / -2` is -3 and `7 % -2` is 1; they are nothing else
two_in_minus_seven : Truncates (negsuc 6) (pos 2) (negsuc 2)
two_in_minus_seven = record { small = omega (arith, ints); sign = (λ high. absurd (omega (arith, ints)), λ low. omega (arith, ints)) }

minus_two_in_seven : Truncates (pos 7) (negsuc 1) (negsuc 2)
minus_two_in_seven = record { small = omega (arith, ints); sign = (λ high. omega (arith, ints), λ low. absurd (omega (arith, ints))) }

-- what a division of such a number makes is what its one quotient makes
module _ (number divisor known : ℤ) (is : Truncates number divisor known) where
  the_quotient : (v : ℤ) → May (divided quotient (variable 0) divisor) (store_of number) v → v ≡ known
  the_quotient v may = may.4 ∙ only number divisor may.1 known (subst (λ a. Truncates a divisor may.1) may.2 may.3) is

  the_remainder : (v : ℤ) → May (divided remainder (variable 0) divisor) (store_of number) v → v ≡ number -ℤ known *ℤ divisor
  the_remainder v may =
      may.4 ∙ ap (λ a. a -ℤ may.1 *ℤ divisor) may.2
      ∙ ap (λ q. number -ℤ q *ℤ divisor) (only number divisor may.1 known (subst (λ a. Truncates a divisor may.1) may.2 may.3) is)

half_of_minus_seven : May (divided quotient (variable 0) (pos 2)) (store_of (negsuc 6)) (negsuc 2)
half_of_minus_seven = (negsuc 6, negsuc 2, refl, two_in_minus_seven, refl)

only_half_of_minus_seven : (v : ℤ) → May (divided quotient (variable 0) (pos 2)) (store_of (negsuc 6)) v → v ≡ negsuc 2
only_half_of_minus_seven = the_quotient (negsuc 6) (pos 2) (negsuc 2) two_in_minus_seven

left_of_minus_seven : (v : ℤ) → May (divided remainder (variable 0) (pos 2)) (store_of (negsuc 6)) v → v ≡ negsuc 0
left_of_minus_seven = the_remainder (negsuc 6) (pos 2) (negsuc 2) two_in_minus_seven

seven_by_minus_two : (v : ℤ) → May (divided quotient (variable 0) (negsuc 1)) (store_of (pos 7)) v → v ≡ negsuc 2
seven_by_minus_two = the_quotient (pos 7) (negsuc 1) (negsuc 2) minus_two_in_seven

left_of_seven : (v : ℤ) → May (divided remainder (variable 0) (negsuc 1)) (store_of (pos 7)) v → v ≡ pos 1
left_of_seven = the_remainder (pos 7) (negsuc 1) (negsuc 2) minus_two_in_seven

-- `? % 4` is from -3 to 3, and nothing is divided by 0
left_of_any : (s : Store) (v : ℤ) → May (divided remainder free (pos 4)) s v → (negsuc 2 ≤ℤ v) × (v ≤ℤ pos 3)
left_of_any s v may = subst (λ r. (negsuc 2 ≤ℤ r) × (r ≤ℤ pos 3)) (sym may.4) (left_between may.0 (pos 4) may.1 may.3)

nothing_by_zero : (s : Store) (v : ℤ) → ¬ May (divided quotient (variable 0) (pos 0)) s v
nothing_by_zero s v may = let small = may.3.small in omega (arith, ints)
