-- What a valid unit gives for its bodies to be put in place.
use Rattle.std.proofs.Common.{◌≡◌, ℕ, ◌+◌, ◌<◌, ◌≤◌, nat_lt, Bool, true, false, Option, None, Some, List, [], ◌∷◌, length, refl, sym, subst, arith}
use Rattle.std.proofs.lemmas.Bool.{ltb-true, ltb-false}
use Rattle.step_meaning.specs.declared.expression.Op2.TheVariants.{Add, Sub, Mul, Less, LessEqual, Greater, GreaterEqual, Equal, NotEqual, And, Or}
use Rattle.step_meaning.specs.Naming.{NamesBelow}
use Rattle.step_meaning.specs.Syntax.{Expression, number, variable, free, range, truth, negative, negation, pair, divided}
use Rattle.step_meaning.specs.Valid.{IsNumber, IsTest}
use Rattle.call_meaning.specs.declared.statement.UnitBlock.{UnitBlock}
use Rattle.call_meaning.specs.declared.statement.Func.{Func}
use Rattle.call_meaning.specs.Reads.{Places, behind, IsSet, AreSet, given, all_of}
use Rattle.call_meaning.specs.Sorts.{AllNumbers, ValueIsNumber, IsSorted, AreSorted}
use Rattle.call_meaning.specs.Tables.{commands, table_of, main_routine, whole_names}
use Rattle.call_meaning.specs.Units.{Command, Commands, assign, call, skip, return, break, continue, if_else, while_loop, do_while, empty, sequence, Routine, Table}
use Rattle.call_meaning.specs.Valid.{IsUnit}
use Rattle.call_meaning.specs.Validity.{Stands, AllStand, IsClosing, Closes}
use Rattle.call_inline.specs.Laws.Standing.{GoesBelow, AllGoBelow}
use Rattle.call_inline.specs.Laws.Writing.{AllBelow, ValueBelow, CanStand, AllCanStand}
use Rattle.call_inline.proofs.Tabling.{found, past, fits, vars_of, whole_counted}

-- ── Calls go below ──

module _ (table : Table) (k : ℕ) (may : Bool) where
  mutual
    pub goes_below : (within : Bool) (s : Command) → Stands table k may within s → GoesBelow k s
    goes_below within (assign x e) h = tt
    goes_below within (call target f arguments) h = h.0
    goes_below within skip h = tt
    goes_below within (return value) h = tt
    goes_below within break h = tt
    goes_below within continue h = tt
    goes_below within (if_else c first second) h = (all_go_below within first h.0, all_go_below within second h.1)
    goes_below within (while_loop c body step) h = (all_go_below true body h.0, all_go_below within step h.1)
    goes_below within (do_while body c) h = all_go_below true body h

    pub all_go_below : (within : Bool) (body : Commands) → AllStand table k may within body → AllGoBelow k body
    all_go_below within empty h = tt
    all_go_below within (sequence first more) h = (goes_below within first h.0, all_go_below within more h.1)

module _ (table : Table) (k : ℕ) (valued : Bool) where
  mutual
    closing_below : (s : Command) → IsClosing table k valued s → GoesBelow k s
    closing_below (return value) h = tt
    closing_below (if_else c first second) h = (closes_below first h.0, closes_below second h.1)
    closing_below (assign x e) h = goes_below table k false false (assign x e) h.0
    closing_below (call t f a) h = goes_below table k false false (call t f a) h.0
    closing_below skip h = goes_below table k false false skip h.0
    closing_below break h = goes_below table k false false break h.0
    closing_below continue h = goes_below table k false false continue h.0
    closing_below (while_loop c a b) h = goes_below table k false false (while_loop c a b) h.0
    closing_below (do_while b c) h = goes_below table k false false (do_while b c) h.0

    pub closes_below : (body : Commands) → Closes table k valued body → AllGoBelow k body
    closes_below empty h = tt
    closes_below (sequence first empty) h = (closing_below first h, tt)
    closes_below (sequence first (sequence next more)) h = (goes_below table k false false first h.0, closes_below (sequence next more) h.1)

-- ── Names stand below ──

mutual
  pub number_below : (vars : ℕ) (e : Expression) → IsNumber vars e → NamesBelow vars e
  number_below vars (number z) h = tt
  number_below vars (variable x) h = h
  number_below vars free h = tt
  number_below vars (range lo hi) h = tt
  number_below vars (divided division e b) h = number_below vars e h.0
  number_below vars (truth b) h = tt
  number_below vars (negative e) h = number_below vars e h
  number_below vars (negation c) h = absurd h
  number_below vars (pair Add l r) h = (number_below vars l h.0, number_below vars r h.1)
  number_below vars (pair Sub l r) h = (number_below vars l h.0, number_below vars r h.1)
  number_below vars (pair Mul l r) h = (number_below vars l h.0, number_below vars r h.1)
  number_below vars (pair _ l r) h = absurd h

  pub test_below : (vars : ℕ) (c : Expression) → IsTest vars c → NamesBelow vars c
  test_below vars (number z) h = tt
  test_below vars (variable x) h = absurd h
  test_below vars free h = tt
  test_below vars (range lo hi) h = tt
  test_below vars (divided division e b) h = absurd h
  test_below vars (truth b) h = tt
  test_below vars (negative e) h = absurd h
  test_below vars (negation c) h = test_below vars c h
  test_below vars (pair And l r) h = (test_below vars l h.0, test_below vars r h.1)
  test_below vars (pair Or l r) h = (test_below vars l h.0, test_below vars r h.1)
  test_below vars (pair Less l r) h = (number_below vars l h.0, number_below vars r h.1)
  test_below vars (pair LessEqual l r) h = (number_below vars l h.0, number_below vars r h.1)
  test_below vars (pair Greater l r) h = (number_below vars l h.0, number_below vars r h.1)
  test_below vars (pair GreaterEqual l r) h = (number_below vars l h.0, number_below vars r h.1)
  test_below vars (pair Equal l r) h = (number_below vars l h.0, number_below vars r h.1)
  test_below vars (pair NotEqual l r) h = (number_below vars l h.0, number_below vars r h.1)
  test_below vars (pair _ l r) h = absurd h

pub numbers_below : (vars : ℕ) (arguments : List Expression) → AllNumbers vars arguments → AllBelow vars arguments
numbers_below vars [] h = tt
numbers_below vars (a ∷ more) h = (number_below vars a h.0, numbers_below vars more h.1)

value_below : (vars : ℕ) (value : Option Expression) → ValueIsNumber vars value → ValueBelow vars value
value_below vars (Some e) h = number_below vars e h
value_below vars None h = tt

-- ── Statements can stand ──

module _ (table : Table) (k : ℕ) where
  mutual
    pub can_stand : (shown : Places) (s : Command) → GoesBelow k s → IsSorted (table k).vars s → IsSet table (table k).vars shown s → CanStand table k s
    can_stand shown (assign x e) g h i = (i.0, number_below (table k).vars e h.1)
    can_stand shown (call target f arguments) g h i = (g, i.0, numbers_below (table k).vars arguments h, i.2)
    can_stand shown skip g h i = tt
    can_stand shown (return value) g h i = value_below (table k).vars value h
    can_stand shown break g h i = tt
    can_stand shown continue g h i = tt
    can_stand shown (if_else c first second) g h i =
        (test_below (table k).vars c h.0, all_can_stand shown first g.0 h.1 i.1, all_can_stand shown second g.1 h.2 i.2)
    can_stand shown (while_loop c body step) g h i =
        (test_below (table k).vars c h.0, all_can_stand shown body g.0 h.1 i.1, all_can_stand shown step g.1 h.2 i.2)
    can_stand shown (do_while body c) g h i = (all_can_stand shown body g h.0 i.1, test_below (table k).vars c h.1)

    pub all_can_stand : (shown : Places) (body : Commands) → AllGoBelow k body → AreSorted (table k).vars body → AreSet table (table k).vars shown body
        → AllCanStand table k body
    all_can_stand shown empty g h i = tt
    all_can_stand shown (sequence first more) g h i = (can_stand shown first g.0 h.0 i.0, all_can_stand (behind shown first) more g.1 h.1 i.1)

-- ── Of a unit ──

-- one of the functions, where there is one
some_func : (funcs : List Func) (k : ℕ) → k < length funcs → Func
some_func [] k low = absurd (omega arith)
some_func (f ∷ more) k low = f

module _ (func_names : List (List ℕ)) (funcs : List Func) (names : List (List ℕ)) (body : UnitBlock) (valid : IsUnit func_names funcs names body) where
  abbrev table : Table
  table = table_of funcs names body

  -- each routine has room for its variables
  pub inside_all : (k : ℕ) → k ≤ length funcs → (table k).base + (table k).vars ≤ length (whole_names func_names funcs names)
  inside_all k inside = split (nat_lt k (length funcs)) refl
    where
      all : length (whole_names func_names funcs names) ≡ length names + vars_of funcs
      all = whole_counted func_names funcs names valid.named

      split : (b : Bool) → nat_lt k (length funcs) ≡ b → (table k).base + (table k).vars ≤ length (whole_names func_names funcs names)
      split true is =
          let low = ltb-true k (length funcs) is in
          let fit = fits (length names) funcs (main_routine names body) k low in
          let whole = all in
          omega arith
      split false is =
          let high = ltb-false k (length funcs) is in
          let main = past (length names) funcs (main_routine names body) k high in
          let whole = all in
          subst (λ (r : Routine). r.base + r.vars ≤ length (whole_names func_names funcs names)) (sym main) (omega arith)

  pub room : (k : ℕ) → k ≤ length funcs → (table k).base + (table k).vars ≤ 15
  room k inside = let fit = inside_all k inside in let few = valid.few in omega arith

  -- calls in each body go below it
  pub func_below : (k : ℕ) → k < length funcs → AllGoBelow k (table k).body
  func_below k low = closes_below table k (table k).valued (table k).body (valid.routines.functions k low)

  pub main_below : AllGoBelow (length funcs) (commands body)
  main_below =
      let main = past (length names) funcs (main_routine names body) (length funcs) (omega arith) in
      subst (λ (r : Routine). AllGoBelow (length funcs) r.body) main (all_go_below table (length funcs) true false (table (length funcs)).body valid.routines.whole)

  -- bodies are sorted
  pub func_sorted : (k : ℕ) → k < length funcs → AreSorted (table k).vars (table k).body
  func_sorted k low =
      let d = some_func funcs k low in
      let made = found (length names) funcs (main_routine names body) k d low in
      subst (λ (r : Routine). AreSorted r.vars r.body) (sym made) (valid.sorted k d low)

  pub main_sorted : AreSorted (table (length funcs)).vars (table (length funcs)).body
  main_sorted =
      let main = past (length names) funcs (main_routine names body) (length funcs) (omega arith) in
      subst (λ (r : Routine). AreSorted r.vars r.body) (sym main) valid.main_sorted

  -- the statements of each body can stand
  pub func_stands : (k : ℕ) → k < length funcs → AllCanStand table k (table k).body
  func_stands k low = all_can_stand table k (given (table k)) (table k).body (func_below k low) (func_sorted k low) (valid.tidy.functions k low)

  pub main_stands : AllCanStand table (length funcs) (commands body)
  main_stands =
      let main = past (length names) funcs (main_routine names body) (length funcs) (omega arith) in
      let below = subst (λ (r : Routine). AllGoBelow (length funcs) r.body) (sym main) main_below in
      let stands = all_can_stand table (length funcs) (all_of (table (length funcs))) (table (length funcs)).body below main_sorted valid.tidy.whole in
      subst (λ (r : Routine). AllCanStand table (length funcs) r.body) main stands
