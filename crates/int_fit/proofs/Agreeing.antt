-- Where an expression is small it has the same outcomes in whole numbers and in numbers of 32 bits, and so the same steps are taken.
use Rattle.std.proofs.Common.{◌≡◌, ℤ, pos, neg_ℤ, ◌-ℤ◌, ap, arith, ◌⊎◌, inl, inr, Bool, true, false, ◌↔◌, [], ◌∷◌, refl, sym, ◌∙◌, subst}
use Rattle.std.specs.Int.{w32}
use Rattle.std.proofs.lemmas.Int.{int_wrap_fits, int_wrap-sub_right, ints}
use Rattle.linear_cons.specs.Numbers.{number_at}
use Rattle.step_meaning.specs.declared.expression.Op2.{Op2}
use Rattle.step_meaning.specs.declared.expression.Op2.TheVariants.{Add, Sub, Mul, Less, LessEqual, Greater, GreaterEqual, Equal, NotEqual, And, Or}
use Rattle.step_meaning.specs.Syntax.{Expression, number, variable, free, range, divided, truth, negative, negation, pair, assign, skip, return, break, continue, if_else, while_loop, do_while}
use Rattle.step_meaning.specs.AffineExpressions.{OfOperands}
use Rattle.step_meaning.specs.Outcome.{Store, May, MayTest, Compares, Connects, made_by}
use Rattle.step_meaning.specs.Step.{Configuration, Step, StepsFrom, Todo, one, turn, front}
use Rattle.step_meaning.specs.Run.{Reaches, here, by_step}
use Rattle.int_fit.specs.Fitting.{Fits, FitsInt, FitsNow, IsLiteral, IsSmallAt, IsSmallNumber, IsSmallTest, OutcomesFit}
use Rattle.int_fit.specs.Wrapping.{MayInt, MayTestInt, StepInt, StepsIntFrom, ReachesInt, here as here_int, by_step as by_step_int, wrapped}

-- a number of 32 bits is kept whole
pub kept : (z : ℤ) → FitsInt z → wrapped z ≡ z
kept z h = int_wrap_fits w32 z h

-- ---- expressions

-- what is cut before a sign and behind it is what is cut behind it alone
cut_once : (z : ℤ) → wrapped (neg_ℤ (wrapped z)) ≡ wrapped (neg_ℤ z)
cut_once z = ap wrapped (from_nought (wrapped z)) ∙ int_wrap-sub_right w32 (pos 0) z ∙ sym (ap wrapped (from_nought z))
  where
    from_nought : (w : ℤ) → neg_ℤ w ≡ (pos 0) -ℤ w
    from_nought w = omega (arith, ints)

-- a literal below a sign, which is one number with it
literal_to : (e : Expression) (s : Store) → IsLiteral e → (v : ℤ) → May (negative e) s v → FitsInt v → MayInt (negative e) s v
literal_to e s (z, is) v may fits =
    let value : v ≡ neg_ℤ z = may.2 ∙ ap neg_ℤ (subst (λ x. May x s may.0) is may.1) in
    (wrapped z, subst (λ x. MayInt x s (wrapped z)) (sym is) refl, sym (kept v fits) ∙ ap wrapped value ∙ sym (cut_once z))

literal_back : (e : Expression) (s : Store) → IsLiteral e → OutcomesFit (negative e) s → (v : ℤ) → MayInt (negative e) s v → May (negative e) s v
literal_back e s (z, is) small v may =
    let inner : May e s z = subst (λ x. May x s z) (sym is) refl in
    let cut : may.0 ≡ wrapped z = subst (λ x. MayInt x s may.0) is may.1 in
    (z, inner, may.2 ∙ ap (λ w. wrapped (neg_ℤ w)) cut ∙ cut_once z ∙ kept (neg_ℤ z) (small (neg_ℤ z) (z, inner, refl)))

pub number_to : (e : Expression) (s : Store) → IsSmallNumber e s → (v : ℤ) → May e s v → MayInt e s v
number_to (number z) s small v may = may ∙ sym (kept z (small z refl))
number_to (variable x) s small v may = may ∙ sym (kept (number_at s x) (small (number_at s x) refl))
number_to free s small v may = (v, sym (kept v (small v tt)))
number_to (range lo hi) s small v may = (v, may.0, may.1, sym (kept v (small v may)))
number_to (divided division e b) s small v may = (
  may.0,
  may.1,
  number_to e s small.0 may.0 may.2,
  may.3,
  may.4 ∙ sym (kept (made_by division may.0 b may.1) (subst FitsInt may.4 (small.2 v may))),
)
number_to (truth b) s small v may = may
number_to (negative e) s (inl literal, small) v may = literal_to e s literal v may (small v may)
number_to (negative e) s (inr within, small) v may =
    (may.0, number_to e s within may.0 may.1, may.2 ∙ sym (kept (neg_ℤ may.0) (subst FitsInt may.2 (small v may))))
number_to (negation c) s small v may = may
number_to (pair op l r) s small v may =
    (may.0, may.1, v, number_to l s small.0 may.0 may.2, number_to r s small.1 may.1 may.3, may.4, sym (kept v (small.2 v may)))

pub number_back : (e : Expression) (s : Store) → IsSmallNumber e s → (v : ℤ) → MayInt e s v → May e s v
number_back (number z) s small v may = may ∙ kept z (small z refl)
number_back (variable x) s small v may = may ∙ kept (number_at s x) (small (number_at s x) refl)
number_back free s small v may = tt
number_back (range lo hi) s small v may =
    subst (May (range lo hi) s) (sym (may.3 ∙ kept may.0 (small may.0 (may.1, may.2)))) (may.1, may.2)
number_back (divided division e b) s small v may =
    let inner = number_back e s small.0 may.0 may.2 in
    let made = made_by division may.0 b may.1 in
    (may.0, may.1, inner, may.3, may.4 ∙ kept made (small.2 made (may.0, may.1, inner, may.3, refl)))
number_back (truth b) s small v may = may
number_back (negative e) s (inl literal, small) v may = literal_back e s literal small v may
number_back (negative e) s (inr within, small) v may =
    let inner = number_back e s within may.0 may.1 in
    (may.0, inner, may.2 ∙ kept (neg_ℤ may.0) (small (neg_ℤ may.0) (may.0, inner, refl)))
number_back (negation c) s small v may = may
number_back (pair op l r) s small v may =
    let left = number_back l s small.0 may.0 may.3 in
    let right = number_back r s small.1 may.1 may.4 in
    let made : May (pair op l r) s may.2 = (may.0, may.1, left, right, may.5) in
    subst (May (pair op l r) s) (sym (may.6 ∙ kept may.2 (small.2 may.2 made))) made

-- ---- tests

-- a comparison has numbers for operands, `&&` and `||` tests
compared : (op : Op2) (T N : Type 0) → OfOperands op T N → (a b : ℤ) (t : Bool) → Compares op a b t → N
compared Add T N h a b t is = h
compared Sub T N h a b t is = h
compared Mul T N h a b t is = h
compared Less T N h a b t is = h
compared LessEqual T N h a b t is = h
compared Greater T N h a b t is = h
compared GreaterEqual T N h a b t is = h
compared Equal T N h a b t is = h
compared NotEqual T N h a b t is = h
compared And T N h a b t is = absurd is
compared Or T N h a b t is = absurd is

connected : (op : Op2) (T N : Type 0) → OfOperands op T N → (a b t : Bool) → Connects op a b t → T
connected And T N h a b t is = h
connected Or T N h a b t is = h
connected Add T N h a b t is = absurd is
connected Sub T N h a b t is = absurd is
connected Mul T N h a b t is = absurd is
connected Less T N h a b t is = absurd is
connected LessEqual T N h a b t is = absurd is
connected Greater T N h a b t is = absurd is
connected GreaterEqual T N h a b t is = absurd is
connected Equal T N h a b t is = absurd is
connected NotEqual T N h a b t is = absurd is

module _ (op : Op2) (l r : Expression) (s : Store) (small : IsSmallTest (pair op l r) s) where
  abbrev Tests : Type 0
  Tests = IsSmallTest l s × IsSmallTest r s

  abbrev Numbers : Type 0
  Numbers = IsSmallNumber l s × IsSmallNumber r s

  numbers : (a b : ℤ) (t : Bool) → Compares op a b t → Numbers
  numbers a b t is = compared op Tests Numbers small a b t is

  tests : (a b t : Bool) → Connects op a b t → Tests
  tests a b t is = connected op Tests Numbers small a b t is

pub test_to : (c : Expression) (s : Store) → IsSmallTest c s → (t : Bool) → MayTest c s t → MayTestInt c s t
test_to (number z) s small t may = may
test_to (variable x) s small t may = may
test_to free s small t may = tt
test_to (range lo hi) s small t may = may
test_to (divided division e b) s small t may = may
test_to (truth b) s small t may = may
test_to (negative e) s small t may = may
test_to (negation c) s small t may = (may.0, test_to c s small may.0 may.1, may.2)
test_to (pair op l r) s small t (inl may) =
    let each = numbers op l r s small may.0 may.1 t may.4 in
    inl (may.0, may.1, number_to l s each.0 may.0 may.2, number_to r s each.1 may.1 may.3, may.4)
test_to (pair op l r) s small t (inr may) =
    let each = tests op l r s small may.0 may.1 t may.4 in
    inr (may.0, may.1, test_to l s each.0 may.0 may.2, test_to r s each.1 may.1 may.3, may.4)

pub test_back : (c : Expression) (s : Store) → IsSmallTest c s → (t : Bool) → MayTestInt c s t → MayTest c s t
test_back (number z) s small t may = may
test_back (variable x) s small t may = may
test_back free s small t may = tt
test_back (range lo hi) s small t may = may
test_back (divided division e b) s small t may = may
test_back (truth b) s small t may = may
test_back (negative e) s small t may = may
test_back (negation c) s small t may = (may.0, test_back c s small may.0 may.1, may.2)
test_back (pair op l r) s small t (inl may) =
    let each = numbers op l r s small may.0 may.1 t may.4 in
    inl (may.0, may.1, number_back l s each.0 may.0 may.2, number_back r s each.1 may.1 may.3, may.4)
test_back (pair op l r) s small t (inr may) =
    let each = tests op l r s small may.0 may.1 t may.4 in
    inr (may.0, may.1, test_back l s each.0 may.0 may.2, test_back r s each.1 may.1 may.3, may.4)

-- ---- steps

either_way : {A B C D E F : Type 0} → (A → C) → (B → D) → ((A × E) ⊎ (B × F)) → (C × E) ⊎ (D × F)
either_way f g (inl h) = inl (f h.0, h.1)
either_way f g (inr h) = inr (g h.0, h.1)

steps_to : (ahead : Todo) (s : Store) (d : Configuration) → IsSmallAt ahead s → StepsFrom ahead s d → StepsIntFrom ahead s d
steps_to [] s d small step = step
steps_to (one (assign x e) ∷ rest) s d small step = (step.0, (step.1.0, number_to e s small step.1.0 step.1.1, step.1.2))
steps_to (one skip ∷ rest) s d small step = step
steps_to (one return ∷ rest) s d small step = step
steps_to (one break ∷ rest) s d small step = step
steps_to (one continue ∷ rest) s d small step = step
steps_to (one (if_else c first second) ∷ rest) s d small step =
    (either_way (test_to c s small true) (test_to c s small false) step.0, step.1)
steps_to (one (while_loop c body last) ∷ rest) s d small step =
    (either_way (test_to c s small true) (test_to c s small false) step.0, step.1)
steps_to (one (do_while body c) ∷ rest) s d small step = step
steps_to (turn c body last ∷ rest) s d small step = step

steps_back : (ahead : Todo) (s : Store) (d : Configuration) → IsSmallAt ahead s → StepsIntFrom ahead s d → StepsFrom ahead s d
steps_back [] s d small step = step
steps_back (one (assign x e) ∷ rest) s d small step = (step.0, (step.1.0, number_back e s small step.1.0 step.1.1, step.1.2))
steps_back (one skip ∷ rest) s d small step = step
steps_back (one return ∷ rest) s d small step = step
steps_back (one break ∷ rest) s d small step = step
steps_back (one continue ∷ rest) s d small step = step
steps_back (one (if_else c first second) ∷ rest) s d small step =
    (either_way (test_back c s small true) (test_back c s small false) step.0, step.1)
steps_back (one (while_loop c body last) ∷ rest) s d small step =
    (either_way (test_back c s small true) (test_back c s small false) step.0, step.1)
steps_back (one (do_while body c) ∷ rest) s d small step = step
steps_back (turn c body last ∷ rest) s d small step = step

pub same_steps : (c : Configuration) → FitsNow c → (d : Configuration) → Step c d ↔ StepInt c d
same_steps c fits d = (steps_to (front c.todo) c.store d fits.next, steps_back (front c.todo) c.store d fits.next)

-- ---- runs

pub steps_agree : (c d : Configuration) → Fits c → Reaches c d → (e : Configuration) → Step d e ↔ StepInt d e
steps_agree c d fits reached e = same_steps d (fits d reached) e

-- what fits fits after a step
pub after : (c d : Configuration) → Fits c → Step c d → Fits d
after c d fits step = λ e reached. fits e (by_step step reached)

runs_to : {c d : Configuration} → Fits c → Reaches c d → ReachesInt c d
runs_to fits here = here_int
runs_to {c} fits (by_step {d = d} step rest) = by_step_int ((same_steps c (fits c here) d).0 step) (runs_to (after c d fits step) rest)

runs_back : {c d : Configuration} → Fits c → ReachesInt c d → Reaches c d
runs_back fits here_int = here
runs_back {c} fits (by_step_int {d = d} step rest) =
    let first = (same_steps c (fits c here) d).1 step in
    by_step first (runs_back (after c d fits first) rest)

pub runs_agree : (c d : Configuration) → Fits c → Reaches c d ↔ ReachesInt c d
runs_agree c d fits = (runs_to fits, runs_back fits)
