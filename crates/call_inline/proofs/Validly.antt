-- The inlined program is a valid one.
use Rattle.std.proofs.Common.{◌≡◌, ℕ, zero, suc, ◌+◌, ◌<◌, ◌≤◌, nat_eq, Bool, true, false, ◌||◌, IsTrue, Option, None, Some, List, [], ◌∷◌, length, inl, inr, refl, ap, ◌∙◌, arith}
use Rattle.std.specs.Bool.{⊤}
use Rattle.std.proofs.lemmas.Bool.Decides.{eqb_tells}
use Rattle.step_meaning.specs.declared.expression.Op2.TheVariants.{Add, Sub, Mul, Less, LessEqual, Greater, GreaterEqual, Equal, NotEqual, And, Or}
use Rattle.step_meaning.specs.Syntax.{Expression, number, variable, free, range, truth, negative, negation, pair, divided, Statement, Statements}
use Rattle.step_meaning.specs.Syntax as syntax
use Rattle.step_meaning.specs.Valid.{IsNumber, IsTest, IsStatement, IsBody, IsInside, IsInsideStatement}
use Rattle.call_meaning.specs.Units.{Command, Commands, assign, call, skip, return, break, continue, if_else, while_loop, do_while, empty, sequence, Table}
use Rattle.call_inline.specs.Moved.{moved}
use Rattle.call_inline.specs.Inlined.{followed, Ending, ends, gives, drops, ending_of, ended, Callee, passed, freed, target_from, all_moved, inlined, all_inlined, put, callees, inlined_body}
use Rattle.call_meaning.specs.Sorts.{AllNumbers, ValueIsNumber, IsSorted, AreSorted}
use Rattle.call_meaning.specs.Reads.{TargetIsIn, among}
use Rattle.call_meaning.specs.Validity.{Stands, AllStand, IsClosing, Closes, AreRoutines}

module _ (base vars total : ℕ) (room : base + vars ≤ total) where
  mutual
    pub number_moved : (e : Expression) → IsNumber vars e → IsNumber total (moved base e)
    number_moved (number z) h = tt
    number_moved (variable x) h = omega arith
    number_moved free h = tt
    number_moved (range lo hi) h = h
    number_moved (divided division e b) h = (number_moved e h.0, h.1)
    number_moved (truth b) h = absurd h
    number_moved (negative e) h = number_moved e h
    number_moved (negation c) h = absurd h
    number_moved (pair Add l r) h = (number_moved l h.0, number_moved r h.1)
    number_moved (pair Sub l r) h = (number_moved l h.0, number_moved r h.1)
    number_moved (pair Mul l r) h = (number_moved l h.0, number_moved r h.1)
    number_moved (pair _ l r) h = absurd h

    pub test_moved : (c : Expression) → IsTest vars c → IsTest total (moved base c)
    test_moved (number z) h = absurd h
    test_moved (variable x) h = absurd h
    test_moved free h = tt
    test_moved (range lo hi) h = absurd h
    test_moved (divided division e b) h = absurd h
    test_moved (truth b) h = tt
    test_moved (negative e) h = absurd h
    test_moved (negation c) h = test_moved c h
    test_moved (pair And l r) h = (test_moved l h.0, test_moved r h.1)
    test_moved (pair Or l r) h = (test_moved l h.0, test_moved r h.1)
    test_moved (pair Less l r) h = (number_moved l h.0, number_moved r h.1)
    test_moved (pair LessEqual l r) h = (number_moved l h.0, number_moved r h.1)
    test_moved (pair Greater l r) h = (number_moved l h.0, number_moved r h.1)
    test_moved (pair GreaterEqual l r) h = (number_moved l h.0, number_moved r h.1)
    test_moved (pair Equal l r) h = (number_moved l h.0, number_moved r h.1)
    test_moved (pair NotEqual l r) h = (number_moved l h.0, number_moved r h.1)
    test_moved (pair Add l r) h = absurd h
    test_moved (pair Sub l r) h = absurd h
    test_moved (pair Mul l r) h = absurd h

  pub arguments_moved : (arguments : List Expression) → AllNumbers vars arguments → AllNumbers total (all_moved base arguments)
  arguments_moved [] h = tt
  arguments_moved (a ∷ more) h = (number_moved a h.0, arguments_moved more h.1)

body_followed : (total : ℕ) (a b : Statements) → IsBody total a → IsBody total b → IsBody total (followed a b)
body_followed total syntax.empty b h j = j
body_followed total (syntax.sequence first more) b h j = (h.0, body_followed total more b h.1 j)

-- what an ending gives a value to is a variable
abbrev pub EndingIsIn : ℕ → Ending → Type 0
EndingIsIn total ends = ⊤
EndingIsIn total (gives x) = x < total
EndingIsIn total drops = ⊤

pub moved_length : (base : ℕ) (arguments : List Expression) → length (all_moved base arguments) ≡ length arguments
moved_length base [] = refl
moved_length base (a ∷ more) = ap suc (moved_length base more)

-- calls become valid statements
abbrev pub AreValid : ℕ → (ℕ → Callee) → (ℕ → ℕ) → Type 0
AreValid total callee params = (f : ℕ) (target : Option ℕ) (arguments : List Expression) → TargetIsIn total target → AllNumbers total arguments
    → length arguments ≡ params f → IsBody total (callee f target arguments)

module _ (vars : ℕ) (params : ℕ → ℕ) where
  -- the targets of its calls are variables of the function, and they have as many arguments as the functions parameters
  abbrev mutual
    pub HasTargets : Command → Type 0
    HasTargets (assign x e) = ⊤
    HasTargets (call target f arguments) = TargetIsIn vars target × (length arguments ≡ params f)
    HasTargets skip = ⊤
    HasTargets (return value) = ⊤
    HasTargets break = ⊤
    HasTargets continue = ⊤
    HasTargets (if_else c first second) = HaveTargets first × HaveTargets second
    HasTargets (while_loop c body step) = HaveTargets body × HaveTargets step
    HasTargets (do_while body c) = HaveTargets body

    pub HaveTargets : Commands → Type 0
    HaveTargets empty = ⊤
    HaveTargets (sequence first more) = HasTargets first × HaveTargets more

module _ (total base vars : ℕ) (room : base + vars ≤ total) (callee : ℕ → Callee) (params : ℕ → ℕ) (callees_valid : AreValid total callee params)
    (ending : Ending) (in_range : EndingIsIn total ending) where
  ended_valid : (ending : Ending) (value : Option Expression) → EndingIsIn total ending → ValueIsNumber vars value → IsStatement total (ended ending base value)
  ended_valid ends value i h = tt
  ended_valid (gives x) (Some e) i h = (i, number_moved base vars total room e h)
  ended_valid (gives x) None i h = tt
  ended_valid drops value i h = tt

  target_valid : (target : Option ℕ) → TargetIsIn vars target → TargetIsIn total (target_from base target)
  target_valid (Some x) h = omega arith
  target_valid None h = tt

  mutual
    pub statement_valid : (s : Command) → IsSorted vars s → HasTargets vars params s → IsBody total (inlined callee base ending s)
    statement_valid (assign x e) h t = ((let low = h.0 in omega arith, number_moved base vars total room e h.1), tt)
    statement_valid (call target f arguments) h t =
        callees_valid f (target_from base target) (all_moved base arguments) (target_valid target t.0) (arguments_moved base vars total room arguments h)
        (moved_length base arguments ∙ t.1)
    statement_valid skip h t = (tt, tt)
    statement_valid (return value) h t = (ended_valid ending value in_range h, tt)
    statement_valid break h t = (tt, tt)
    statement_valid continue h t = (tt, tt)
    statement_valid (if_else c first second) h t = ((test_moved base vars total room c h.0, body_valid first h.1 t.0, body_valid second h.2 t.1), tt)
    statement_valid (while_loop c body step) h t = ((test_moved base vars total room c h.0, body_valid body h.1 t.0, body_valid step h.2 t.1), tt)
    statement_valid (do_while body c) h t = ((body_valid body h.0 t, test_moved base vars total room c h.1), tt)

    pub body_valid : (body : Commands) → AreSorted vars body → HaveTargets vars params body → IsBody total (all_inlined callee base ending body)
    body_valid empty h t = tt
    body_valid (sequence first more) h t =
        body_followed total (inlined callee base ending first) (all_inlined callee base ending more) (statement_valid first h.0 t.0) (body_valid more h.1 t.1)

-- a value that a call gives goes to a variable
ending_is_in : (total : ℕ) (target : Option ℕ) → TargetIsIn total target → EndingIsIn total (ending_of target)
ending_is_in total (Some x) h = h
ending_is_in total None h = tt

passed_valid : (total place : ℕ) (arguments : List Expression) → place + length arguments ≤ total → AllNumbers total arguments → IsBody total (passed place arguments)
passed_valid total place [] room h = tt
passed_valid total place (a ∷ more) room h = ((omega arith, h.0), passed_valid total (place + 1) more (omega arith) h.1)

freed_valid : (total base vars : ℕ) → base + vars ≤ total → (unset : List ℕ) → ((y : ℕ) → IsTrue (among unset y) → y < vars) → IsBody total (freed base unset)
freed_valid total base vars room [] bound = tt
freed_valid total base vars room (l ∷ more) bound = (
  (let low = bound l (elim (eqb_tells l l) [ inl same ↦ rw same.0 refl | inr other ↦ absurd (other.1 refl) ]) in omega arith, tt),
  freed_valid total base vars room more (λ y h. bound y (or_second (nat_eq y l) (among more y) h)),
)
  where
    or_second : (a b : Bool) → IsTrue b → IsTrue (a || b)
    or_second true b h = refl
    or_second false b h = h

-- jumps of what is put in place of calls stay inside their loops
mutual
  inside_more : (s : Statement) → IsInsideStatement false s → IsInsideStatement true s
  inside_more syntax.break h = refl
  inside_more syntax.continue h = refl
  inside_more (syntax.assign x e) h = tt
  inside_more syntax.skip h = tt
  inside_more syntax.return h = tt
  inside_more (syntax.if_else c a b) h = (all_inside_more a h.0, all_inside_more b h.1)
  inside_more (syntax.while_loop c a b) h = (h.0, all_inside_more b h.1)
  inside_more (syntax.do_while a c) h = h

  all_inside_more : (s : Statements) → IsInside false s → IsInside true s
  all_inside_more syntax.empty h = tt
  all_inside_more (syntax.sequence first more) h = (inside_more first h.0, all_inside_more more h.1)

inside_any : (within : Bool) (s : Statements) → IsInside false s → IsInside within s
inside_any true s h = all_inside_more s h
inside_any false s h = h

inside_followed : (within : Bool) (a b : Statements) → IsInside within a → IsInside within b → IsInside within (followed a b)
inside_followed within syntax.empty b h j = j
inside_followed within (syntax.sequence first more) b h j = (h.0, inside_followed within more b h.1 j)

ended_inside : (within : Bool) (ending : Ending) (base : ℕ) (value : Option Expression) → IsInsideStatement within (ended ending base value)
ended_inside within ends base value = tt
ended_inside within (gives x) base (Some e) = tt
ended_inside within (gives x) base None = tt
ended_inside within drops base value = tt

module _ (table : Table) (k : ℕ) (may : Bool) (callee : ℕ → Callee) (base : ℕ) (ending : Ending)
    (calls_inside : (f : ℕ) (target : Option ℕ) (arguments : List Expression) → IsInside false (callee f target arguments)) where
  mutual
    pub statement_inside : (within : Bool) (s : Command) → Stands table k may within s → IsInside within (inlined callee base ending s)
    statement_inside within (assign x e) h = (tt, tt)
    statement_inside within (call target f arguments) h = inside_any within (callee f (target_from base target) (all_moved base arguments)) (calls_inside f (target_from base target) (all_moved base arguments))
    statement_inside within skip h = (tt, tt)
    statement_inside within (return value) h = (ended_inside within ending base value, tt)
    statement_inside within break h = (h, tt)
    statement_inside within continue h = (h, tt)
    statement_inside within (if_else c first second) h = ((body_inside within first h.0, body_inside within second h.1), tt)
    statement_inside within (while_loop c body step) h = ((body_inside true body h.0, body_inside within step h.1), tt)
    statement_inside within (do_while body c) h = (body_inside true body h, tt)

    pub body_inside : (within : Bool) (body : Commands) → AllStand table k may within body → IsInside within (all_inlined callee base ending body)
    body_inside within empty h = tt
    body_inside within (sequence first more) h =
        inside_followed within (inlined callee base ending first) (all_inlined callee base ending more) (statement_inside within first h.0) (body_inside within more h.1)

-- what calls become of the functions of a table is valid, where each body is over its function's variables
module _ (table : Table) (main total : ℕ) (room : (k : ℕ) → k < main → (table k).base + (table k).vars ≤ total)
    (params : (k : ℕ) → k < main → (table k).params ≤ (table k).vars)
    (unset : (k : ℕ) → k < main → (y : ℕ) → IsTrue (among (table k).free y) → y < (table k).vars)
    (sorted : (k : ℕ) → k < main → AreSorted (table k).vars (table k).body)
    (targets : (k : ℕ) → k < main → HaveTargets (table k).vars (λ f. (table f).params) (table k).body) where
  pub callees_valid : (n : ℕ) → n ≤ main → AreValid total (callees table n) (λ f. (table f).params)
  callees_valid zero inside f target arguments t a many = tt
  callees_valid (suc n) inside f target arguments t a many = elim (eqb_tells f n) [
    | inl same ↦ rw same.0 (made (callees_valid n (omega arith)) (ap (λ k. (table k).params) same.1))
    | inr other ↦ rw other.0 (callees_valid n (omega arith) f target arguments t a many)
  ]
    where
      made : AreValid total (callees table n) (λ f. (table f).params) → (table f).params ≡ (table n).params
          → IsBody total (put (callees table n) (table n) target arguments)
      made before same =
          let low : n < main = omega arith in
          let fits = room n low in
          let few = params n low in
          let into = ending_is_in total target t in
          body_followed total (passed (table n).base arguments) _ (passed_valid total (table n).base arguments (omega arith) a)
          (body_followed total (freed (table n).base (table n).free) _ (freed_valid total (table n).base (table n).vars fits (table n).free (unset n low))
          (body_valid total (table n).base (table n).vars fits (callees table n) (λ f. (table f).params) before (ending_of target) into (table n).body (sorted n low) (targets n low)))

passed_inside : (place : ℕ) (arguments : List Expression) → IsInside false (passed place arguments)
passed_inside place [] = tt
passed_inside place (a ∷ more) = (tt, passed_inside (place + 1) more)

freed_inside : (base : ℕ) (unset : List ℕ) → IsInside false (freed base unset)
freed_inside base [] = tt
freed_inside base (l ∷ more) = (tt, freed_inside base more)

module _ (table : Table) (k : ℕ) (callee : ℕ → Callee) (base : ℕ) (ending : Ending)
    (calls_inside : (f : ℕ) (target : Option ℕ) (arguments : List Expression) → IsInside false (callee f target arguments)) where
  mutual
    closing_inside : (valued : Bool) (s : Command) → IsClosing table k valued s → IsInside false (inlined callee base ending s)
    closing_inside valued (return value) h = (ended_inside false ending base value, tt)
    closing_inside valued (if_else c first second) h = ((closes_inside valued first h.0, closes_inside valued second h.1), tt)
    closing_inside valued (assign x e) h = statement_inside table k false callee base ending calls_inside false (assign x e) h.0
    closing_inside valued (call t f a) h = statement_inside table k false callee base ending calls_inside false (call t f a) h.0
    closing_inside valued skip h = statement_inside table k false callee base ending calls_inside false skip h.0
    closing_inside valued break h = statement_inside table k false callee base ending calls_inside false break h.0
    closing_inside valued continue h = statement_inside table k false callee base ending calls_inside false continue h.0
    closing_inside valued (while_loop c a b) h = statement_inside table k false callee base ending calls_inside false (while_loop c a b) h.0
    closing_inside valued (do_while b c) h = statement_inside table k false callee base ending calls_inside false (do_while b c) h.0

    pub closes_inside : (valued : Bool) (body : Commands) → Closes table k valued body → IsInside false (all_inlined callee base ending body)
    closes_inside valued empty h = tt
    closes_inside valued (sequence first empty) h = inside_followed false (inlined callee base ending first) syntax.empty (closing_inside valued first h) tt
    closes_inside valued (sequence first (sequence next more)) h =
        inside_followed false (inlined callee base ending first) (all_inlined callee base ending (sequence next more))
        (statement_inside table k false callee base ending calls_inside false first h.0) (closes_inside valued (sequence next more) h.1)

-- what calls become of the functions of a table jumps only inside its own loops; so `main` with them does
module _ (table : Table) (main : ℕ) (routines : AreRoutines table main) where
  pub callees_inside : (n : ℕ) → n ≤ main → (f : ℕ) (target : Option ℕ) (arguments : List Expression) → IsInside false (callees table n f target arguments)
  callees_inside zero inside f target arguments = tt
  callees_inside (suc n) inside f target arguments = elim (eqb_tells f n) [
    | inl same ↦ rw same.0 (inside_followed false (passed (table n).base arguments) _ (passed_inside (table n).base arguments)
        (inside_followed false (freed (table n).base (table n).free) _ (freed_inside (table n).base (table n).free)
        (closes_inside table n (callees table n) (table n).base (ending_of target) (callees_inside n (omega arith)) (table n).valued (table n).body
        (routines.functions n (omega arith)))))
    | inr other ↦ rw other.0 (callees_inside n (omega arith) f target arguments)
  ]

  pub inlined_inside : IsInside false (inlined_body table main)
  inlined_inside = body_inside table main true (callees table main) (table main).base ends (callees_inside main (omega arith)) false (table main).body routines.whole
