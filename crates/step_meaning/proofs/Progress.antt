-- Why no run of a valid program is stuck: each expression has an outcome, and each step keeps what is left to do valid.
use Rattle.std.proofs.Common.{◌≡◌, ℕ, ℤ, pos, ◌+ℤ◌, ◌-ℤ◌, ◌*ℤ◌, neg_ℤ, ◌≤ℤ◌, ◌<ℤ◌, ◌≢◌, slice_set, int_div, Bool, true, false, not, ◌&&◌, ◌||◌, ◌↔◌, ◌⊎◌, inl, inr, IsTrue, [], ◌∷◌, ◌++◌, Option, None, Some, refl, sym, subst, append-nil, arith}
use Rattle.std.specs.Int.Signed.{≤ℤ_refl}
use Rattle.std.specs.Bool.{⊤}
use Rattle.std.specs.Cmp.{int_ranks}
use Rattle.std.specs.Ordering.{MatchOrdering, int_cmp}
use Rattle.std.proofs.lemmas.Int.{ints}
use Rattle.std.specs.declared.cmp.Ordering.{Ordering}
use Rattle.std.specs.declared.cmp.Ordering.TheVariants.{Less as Below, Equal as Same, Greater as Above}
use Rattle.step_meaning.specs.declared.expression.Op2.{Op2}
use Rattle.step_meaning.specs.declared.expression.Op2.TheVariants.{Add, Sub, Mul, Less, LessEqual, Greater, GreaterEqual, Equal, NotEqual, And, Or}
use Rattle.step_meaning.specs.Syntax.{Expression, number, variable, free, range, divided, truth, negative, negation, pair, Statement, Statements, assign, skip, return, break, continue, if_else, while_loop, do_while, empty, sequence}
use Rattle.step_meaning.proofs.Quotients.{truncates}
use Rattle.linear_cons.specs.Bounds.{IsFrom, IsUpTo}
use Rattle.linear_cons.specs.Numbers.{number_at}
use Rattle.step_meaning.specs.Outcome.{Store, May, MayTest, Compares, Truncates, made_by}
use Rattle.step_meaning.specs.Step.{Configuration, Todo, one, turn, items_of, behind_mark, from_mark, Step, StepsFrom, IsFinal, behind_body, front, front_of_statement, front_of_list}
use Rattle.step_meaning.specs.Valid.{IsInOrder, IsNumber, IsTest, IsStatement, IsBody, AreStatements}

-- of two numbers the first is smaller, equal or greater
ranked : (o : Ordering) {A B C : Type 0} → MatchOrdering o A B C → A ⊎ (B ⊎ C)
ranked Below h = inl h
ranked Same h = inr (inl h)
ranked Above h = inr (inr h)

pub trichotomy : (a b : ℤ) → (a <ℤ b) ⊎ ((a ≡ b) ⊎ (b <ℤ a))
trichotomy a b = ranked (int_cmp a b) (int_ranks a b)

-- a fact that holds, or that doesn't, has a truth value
pub holds : {P : Type 0} → P → IsTrue true ↔ P
holds p = ((λ _. p), (λ _. refl))

pub fails : {P : Type 0} → ¬ P → IsTrue false ↔ P
fails n = ((λ e. absurd (cc)), (λ p. absurd (n p)))

-- each comparison of two numbers has a truth value
less_or_not : (a b : ℤ) → (t : Bool) × (IsTrue t ↔ (a <ℤ b))
less_or_not a b = elim (trichotomy a b) [
  | inl lt ↦ (true, holds lt)
  | inr (inl e) ↦ (false, fails (λ lt. omega (arith, ints)))
  | inr (inr gt) ↦ (false, fails (λ lt. omega (arith, ints)))
]

at_most_or_not : (a b : ℤ) → (t : Bool) × (IsTrue t ↔ (a ≤ℤ b))
at_most_or_not a b = elim (trichotomy a b) [
  | inl lt ↦ (true, holds (omega (arith, ints)))
  | inr (inl e) ↦ (true, holds (omega (arith, ints)))
  | inr (inr gt) ↦ (false, fails (λ le. omega (arith, ints)))
]

equal_or_not : (a b : ℤ) → (t : Bool) × (IsTrue t ↔ (a ≡ b))
equal_or_not a b = elim (trichotomy a b) [
  | inl lt ↦ (false, fails (λ e. omega (arith, ints)))
  | inr (inl e) ↦ (true, holds e)
  | inr (inr gt) ↦ (false, fails (λ e. omega (arith, ints)))
]

different_or_not : (a b : ℤ) → (t : Bool) × (IsTrue t ↔ (a ≢ b))
different_or_not a b = elim (trichotomy a b) [
  | inl lt ↦ (true, holds (λ e. omega (arith, ints)))
  | inr (inl e) ↦ (false, fails (λ ne. ne e))
  | inr (inr gt) ↦ (true, holds (λ e. omega (arith, ints)))
]

-- a range whose ends are in order has a number
range_has_number : (lo hi : Option ℤ) → IsInOrder lo hi → (v : ℤ) × (IsFrom lo v × IsUpTo hi v)
range_has_number (Some lo) (Some hi) h = (lo, (≤ℤ_refl lo, h))
range_has_number (Some lo) None h = (lo, (≤ℤ_refl lo, tt))
range_has_number None (Some hi) h = (hi, (tt, ≤ℤ_refl hi))
range_has_number None None h = (pos 0, (tt, tt))

-- each number has a quotient by each other than 0
quotient_is : (a b : ℤ) → (b ≢ pos 0) → (q : ℤ) × Truncates a b q
quotient_is a b some = (int_div a b, truncates a b some)

-- each number expression has an outcome
pub number_has_outcome : (vars : ℕ) (s : Store) (e : Expression) → IsNumber vars e → (v : ℤ) × May e s v
number_has_outcome vars s (number z) h = (z, refl)
number_has_outcome vars s (variable x) h = (number_at s x, refl)
number_has_outcome vars s free h = (pos 0, tt)
number_has_outcome vars s (range lo hi) h = range_has_number lo hi h
number_has_outcome vars s (divided division e b) h =
    let a = number_has_outcome vars s e h.0 in
    let q = quotient_is a.0 b h.1 in
    (made_by division a.0 b q.0, (a.0, q.0, a.1, q.1, refl))
number_has_outcome vars s (negative e) h =
    let a = number_has_outcome vars s e h in
    (neg_ℤ a.0, (a.0, a.1, refl))
number_has_outcome vars s (pair Add l r) h =
    let a = number_has_outcome vars s l h.0 in
    let b = number_has_outcome vars s r h.1 in
    (a.0 +ℤ b.0, (a.0, b.0, a.1, b.1, refl))
number_has_outcome vars s (pair Sub l r) h =
    let a = number_has_outcome vars s l h.0 in
    let b = number_has_outcome vars s r h.1 in
    (a.0 -ℤ b.0, (a.0, b.0, a.1, b.1, refl))
number_has_outcome vars s (pair Mul l r) h =
    let a = number_has_outcome vars s l h.0 in
    let b = number_has_outcome vars s r h.1 in
    (a.0 *ℤ b.0, (a.0, b.0, a.1, b.1, refl))
number_has_outcome vars s (pair _ l r) h = absurd h
number_has_outcome vars s _ h = absurd h

-- a comparison of two number expressions has an outcome, given the truth value for each two numbers
compared : (vars : ℕ) (s : Store) (op : Op2) (l r : Expression) → ((a b : ℤ) → (t : Bool) × Compares op a b t)
    → IsNumber vars l × IsNumber vars r → (t : Bool) × MayTest (pair op l r) s t
compared vars s op l r decide h =
    let a = number_has_outcome vars s l h.0 in
    let b = number_has_outcome vars s r h.1 in
    let t = decide a.0 b.0 in
    (t.0, inl (a.0, b.0, a.1, b.1, t.1))

-- each test has an outcome
pub test_has_outcome : (vars : ℕ) (s : Store) (c : Expression) → IsTest vars c → (t : Bool) × MayTest c s t
test_has_outcome vars s free h = (true, tt)
test_has_outcome vars s (truth b) h = (b, refl)
test_has_outcome vars s (negation c) h =
    let b = test_has_outcome vars s c h in
    (not b.0, (b.0, b.1, refl))
test_has_outcome vars s (pair Less l r) h = compared vars s Less l r less_or_not h
test_has_outcome vars s (pair LessEqual l r) h = compared vars s LessEqual l r at_most_or_not h
test_has_outcome vars s (pair Greater l r) h = compared vars s Greater l r (λ a b. less_or_not b a) h
test_has_outcome vars s (pair GreaterEqual l r) h = compared vars s GreaterEqual l r (λ a b. at_most_or_not b a) h
test_has_outcome vars s (pair Equal l r) h = compared vars s Equal l r equal_or_not h
test_has_outcome vars s (pair NotEqual l r) h = compared vars s NotEqual l r different_or_not h
test_has_outcome vars s (pair And l r) h =
    let a = test_has_outcome vars s l h.0 in
    let b = test_has_outcome vars s r h.1 in
    (a.0 && b.0, inr (a.0, b.0, a.1, b.1, refl))
test_has_outcome vars s (pair Or l r) h =
    let a = test_has_outcome vars s l h.0 in
    let b = test_has_outcome vars s r h.1 in
    (a.0 || b.0, inr (a.0, b.0, a.1, b.1, refl))
test_has_outcome vars s (pair _ l r) h = absurd h
test_has_outcome vars s _ h = absurd h

-- a body before a list
AreStatements-items_of : (vars : ℕ) (body : Statements) (rest : Todo) → IsBody vars body → AreStatements vars rest
    → AreStatements vars (items_of body ++ rest)
AreStatements-items_of vars empty rest h k = k
AreStatements-items_of vars (sequence first more) rest h k = (h.0, AreStatements-items_of vars more rest h.1 k)

mutual
  AreStatements-front_of_statement : (vars : ℕ) (first : Statement) (rest : Todo) → IsStatement vars first
      → AreStatements vars rest → AreStatements vars (front_of_statement first rest)
  AreStatements-front_of_statement vars (do_while body c) rest h k =
      AreStatements-front_of_list vars body (one (while_loop c body empty) ∷ rest) (turn c body empty ∷ rest) h.0 ((h.1, h.0, tt), k) ((h.1, h.0, tt), k)
  AreStatements-front_of_statement vars (assign x e) rest h k = (h, k)
  AreStatements-front_of_statement vars skip rest h k = (h, k)
  AreStatements-front_of_statement vars return rest h k = (h, k)
  AreStatements-front_of_statement vars break rest h k = (h, k)
  AreStatements-front_of_statement vars continue rest h k = (h, k)
  AreStatements-front_of_statement vars (if_else c y n) rest h k = (h, k)
  AreStatements-front_of_statement vars (while_loop c b s) rest h k = (h, k)

  AreStatements-front_of_list : (vars : ℕ) (body : Statements) (ahead rest : Todo) → IsBody vars body
      → AreStatements vars ahead → AreStatements vars rest → AreStatements vars (front_of_list body ahead rest)
  AreStatements-front_of_list vars empty ahead rest h j k = j
  AreStatements-front_of_list vars (sequence first more) ahead rest h j k =
      AreStatements-front_of_statement vars first (items_of more ++ rest) h.0 (AreStatements-items_of vars more rest h.1 k)

pub AreStatements-front : (vars : ℕ) (todo : Todo) → AreStatements vars todo → AreStatements vars (front todo)
AreStatements-front vars [] h = h
AreStatements-front vars (one first ∷ rest) h = AreStatements-front_of_statement vars first rest h.0 h.1
AreStatements-front vars (turn c body step ∷ rest) h =
    AreStatements-front_of_list vars step (one (while_loop c body step) ∷ rest) (one (while_loop c body step) ∷ rest) h.0.2 h h

-- what follows a mark, and the mark with it
AreStatements-behind : (vars : ℕ) (rest : Todo) → AreStatements vars rest → AreStatements vars (behind_mark rest)
AreStatements-behind vars [] h = tt
AreStatements-behind vars (one s ∷ rest) h = AreStatements-behind vars rest h.1
AreStatements-behind vars (turn c b s ∷ rest) h = h.1

AreStatements-from : (vars : ℕ) (rest : Todo) → AreStatements vars rest → AreStatements vars (from_mark rest)
AreStatements-from vars [] h = tt
AreStatements-from vars (one s ∷ rest) h = AreStatements-from vars rest h.1
AreStatements-from vars (turn c b s ∷ rest) h = h

-- what is left to do stays over `vars` variables
pub stays : (vars : ℕ) (ahead : Todo) (s : Store) (d : Configuration) → AreStatements vars ahead → StepsFrom ahead s d
    → AreStatements vars d.todo
stays vars [] s d h step = absurd step
stays vars (one (assign x e) ∷ rest) s d h step = subst (AreStatements vars) (sym step.0) h.1
stays vars (one skip ∷ rest) s d h step = subst (AreStatements vars) (sym step.0) h.1
stays vars (one return ∷ rest) s d h step = subst (AreStatements vars) (sym step.0) tt
stays vars (one break ∷ rest) s d h step = subst (AreStatements vars) (sym step.0) (AreStatements-behind vars rest h.1)
stays vars (one continue ∷ rest) s d h step = subst (AreStatements vars) (sym step.0) (AreStatements-from vars rest h.1)
stays vars (turn c b t ∷ rest) s d h step = absurd step
stays vars (one (if_else c y n) ∷ rest) s d h step = elim step.0 [
  | inl taken ↦ subst (AreStatements vars) (sym taken.1) (AreStatements-items_of vars y rest h.0.1 h.1)
  | inr taken ↦ subst (AreStatements vars) (sym taken.1) (AreStatements-items_of vars n rest h.0.2 h.1)
]
stays vars (one (while_loop c b t) ∷ rest) s d h step = elim step.0 [
  | inl taken ↦
      subst (AreStatements vars) (sym taken.1)
      (AreStatements-items_of vars b (behind_body c b t rest) h.0.1 h)
  | inr taken ↦ subst (AreStatements vars) (sym taken.1) h.1
]
stays vars (one (do_while b c) ∷ rest) s d h step = absurd step

-- no `do` stands first
abbrev IsReady : Todo → Type 0
IsReady (one (do_while body c) ∷ rest) = ⊥
IsReady (turn c body step ∷ rest) = ⊥
IsReady _ = ⊤

mutual
  IsReady-front_of_statement : (first : Statement) (rest : Todo) → IsReady (front_of_statement first rest)
  IsReady-front_of_statement (do_while body c) rest = IsReady-front_of_list body (one (while_loop c body empty) ∷ rest) (turn c body empty ∷ rest) tt
  IsReady-front_of_statement (assign x e) rest = tt
  IsReady-front_of_statement skip rest = tt
  IsReady-front_of_statement return rest = tt
  IsReady-front_of_statement break rest = tt
  IsReady-front_of_statement continue rest = tt
  IsReady-front_of_statement (if_else c y n) rest = tt
  IsReady-front_of_statement (while_loop c b s) rest = tt

  IsReady-front_of_list : (body : Statements) (ahead rest : Todo) → IsReady ahead → IsReady (front_of_list body ahead rest)
  IsReady-front_of_list empty ahead rest h = h
  IsReady-front_of_list (sequence first more) ahead rest h = IsReady-front_of_statement first (items_of more ++ rest)

IsReady-front : (todo : Todo) → IsReady (front todo)
IsReady-front [] = tt
IsReady-front (one first ∷ rest) = IsReady-front_of_statement first rest
IsReady-front (turn c body step ∷ rest) =
    IsReady-front_of_list step (one (while_loop c body step) ∷ rest) (one (while_loop c body step) ∷ rest) tt

-- a list that a front may be is empty or has a step
unstuck : (vars : ℕ) (ahead : Todo) (s : Store) → IsReady ahead → AreStatements vars ahead
    → (ahead ≡ []) ⊎ ((d : Configuration) × StepsFrom ahead s d)
unstuck vars [] s ready h = inl refl
unstuck vars (one (assign x e) ∷ rest) s ready h =
    let v = number_has_outcome vars s e h.0.1 in
    inr (record { todo = rest; store = slice_set s x v.0 }, (refl, (v.0, v.1, refl)))
unstuck vars (one skip ∷ rest) s ready h = inr (record { todo = rest; store = s }, (refl, refl))
unstuck vars (one return ∷ rest) s ready h = inr (record { todo = []; store = s }, (refl, refl))
unstuck vars (one break ∷ rest) s ready h = inr (record { todo = behind_mark rest; store = s }, (refl, refl))
unstuck vars (one continue ∷ rest) s ready h = inr (record { todo = from_mark rest; store = s }, (refl, refl))
unstuck vars (turn c b t ∷ rest) s ready h = absurd ready
unstuck vars (one (if_else c y n) ∷ rest) s ready h =
    let t = test_has_outcome vars s c h.0.0 in
    inr (elim t.0 as (λ b. MayTest c s b → (d : Configuration) × StepsFrom (one (if_else c y n) ∷ rest) s d) [
      | true ↦ λ m. (record { todo = items_of y ++ rest; store = s }, (inl (m, refl), refl))
      | false ↦ λ m. (record { todo = items_of n ++ rest; store = s }, (inr (m, refl), refl))
    ] t.1)
unstuck vars (one (while_loop c b p) ∷ rest) s ready h =
    let t = test_has_outcome vars s c h.0.0 in
    inr (elim t.0 as (λ u. MayTest c s u → (d : Configuration) × StepsFrom (one (while_loop c b p) ∷ rest) s d) [
      | true ↦ λ m. (record { todo = items_of b ++ behind_body c b p rest; store = s }, (inl (m, refl), refl))
      | false ↦ λ m. (record { todo = rest; store = s }, (inr (m, refl), refl))
    ] t.1)
unstuck vars (one (do_while b c) ∷ rest) s ready h = absurd ready

-- a configuration of valid statements isn't stuck
pub unstuck_at : (vars : ℕ) (c : Configuration) → AreStatements vars c.todo → IsFinal c ⊎ ((d : Configuration) × Step c d)
unstuck_at vars c h = unstuck vars (front c.todo) c.store (IsReady-front c.todo) (AreStatements-front vars c.todo h)

-- a step keeps the statements valid
pub step_stays : (vars : ℕ) (c d : Configuration) → AreStatements vars c.todo → Step c d → AreStatements vars d.todo
step_stays vars c d h step = stays vars (front c.todo) c.store d (AreStatements-front vars c.todo h) step

-- a valid body is a list of valid statements
pub body_is_valid : (vars : ℕ) (body : Statements) → IsBody vars body → AreStatements vars (items_of body)
body_is_valid vars body valid =
    let with_end : AreStatements vars (items_of body ++ []) = AreStatements-items_of vars body [] valid tt in
    subst (AreStatements vars) (append-nil (items_of body)) with_end
