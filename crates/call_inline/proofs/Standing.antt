-- What frames keep along their runs.
use Rattle.std.proofs.Common.{◌≡◌, ℕ, ◌+◌, ◌<◌, ◌≤◌, Bool, true, false, IsTrue, Option, None, Some, List, [], ◌∷◌, ◌++◌, ◌⊎◌, inl, inr, refl, sym, subst, append-nil}
use Rattle.std.specs.Bool.{⊤, IsFalse}
use Rattle.step_meaning.specs.Syntax.{Expression}
use Rattle.call_meaning.specs.Units.{Command, Commands, assign, call, skip, return, break, continue, if_else, while_loop, do_while, empty, sequence, Table}
use Rattle.call_inline.specs.Inlined.{Ending, ends, gives, drops}
use Rattle.call_meaning.specs.Frames.{Task, command, mark, pass, choose, take, forget, tasks_of, passes, choices, entered, awaited, behind_mark, from_mark}
use Rattle.call_inline.proofs.OneStore.{Sharing}
use Rattle.call_meaning.specs.Validity.{Stands, AllStand, MayAsk, Gives, IsClosing, Closes, AreRoutines}
use Rattle.call_inline.proofs.Image.{ending_at, ending_in}

abbrev pub has_mark : List Task → Bool
has_mark [] = false
has_mark (mark c body step ∷ rest) = true
has_mark (command s ∷ rest) = has_mark rest
has_mark (pass x a ∷ rest) = has_mark rest
has_mark (choose l ∷ rest) = has_mark rest
has_mark (take x ∷ rest) = has_mark rest
has_mark (forget ∷ rest) = has_mark rest

abbrev pub is_main : Ending → Bool
is_main ends = true
is_main (gives x) = false
is_main drops = false

-- a `return` has a value where one is awaited
abbrev pub Fits : Ending → Option Expression → Type 0
Fits ends value = ⊥
Fits (gives x) (Some e) = ⊤
Fits (gives x) None = ⊥
Fits drops value = ⊤

-- what a function's ending asks of it
abbrev pub Asks : Ending → Bool → Type 0
Asks ends valued = ⊥
Asks (gives x) valued = IsTrue valued
Asks drops valued = ⊤

-- a frame whose value is awaited doesn't end without one
abbrev pub MayEnd : Ending → Type 0
MayEnd ends = ⊤
MayEnd (gives x) = ⊥
MayEnd drops = ⊤

module _ (table : Table) where
  -- the last statement of a frame, which may return
  abbrev pub IsLast : ℕ → Ending → Command → List Task → Type 0
  IsLast k ending (return value) [] = Fits ending value
  IsLast k ending (if_else c first second) [] = (valued : Bool) × Asks ending valued × Closes table k valued first × Closes table k valued second
  IsLast k ending s rest = ⊥

  abbrev pub TasksStand : ℕ → Ending → List Task → Type 0
  TasksStand k ending [] = MayEnd ending
  TasksStand k ending (command s ∷ rest) = IsLast k ending s rest ⊎ (Stands table k (is_main ending) (has_mark rest) s × TasksStand k ending rest)
  TasksStand k ending (mark c body step ∷ rest) =
      AllStand table k (is_main ending) true body × AllStand table k (is_main ending) (has_mark rest) step × TasksStand k ending rest
  TasksStand k ending (pass x a ∷ rest) = IsFalse (is_main ending) × TasksStand k ending rest
  TasksStand k ending (choose l ∷ rest) = IsFalse (is_main ending) × TasksStand k ending rest
  TasksStand k ending (take x ∷ rest) = ⊥
  TasksStand k ending (forget ∷ rest) = ⊥

  abbrev pub CallerStands : ℕ → Ending → List Task → Type 0
  CallerStands k ending (take x ∷ rest) = TasksStand k ending rest
  CallerStands k ending (forget ∷ rest) = TasksStand k ending rest
  CallerStands k ending _ = ⊥

  -- the frames of a program whose `main` has this number
  abbrev pub CallersStand : ℕ → List Sharing → Type 0
  CallersStand main [] = ⊤
  CallersStand main (caller ∷ below) =
      (caller.function ≤ main) × CallerStands caller.function (ending_in table below) caller.todo × CallersStand main below

  abbrev pub FramesStand : ℕ → List Sharing → Type 0
  FramesStand main [] = ⊥
  FramesStand main (first ∷ below) =
      (first.function ≤ main) × TasksStand first.function (ending_in table below) first.todo × CallersStand main below

  mark_behind : (body : Commands) (rest : List Task) → has_mark rest ≡ has_mark (tasks_of body ++ rest)
  mark_behind empty rest = refl
  mark_behind (sequence first more) rest = mark_behind more rest

  pub before_tasks : (k : ℕ) (ending : Ending) (body : Commands) (rest : List Task) → AllStand table k (is_main ending) (has_mark rest) body
      → TasksStand k ending rest → TasksStand k ending (tasks_of body ++ rest)
  before_tasks k ending empty rest h j = j
  before_tasks k ending (sequence first more) rest h j = inr (
    subst (λ within. Stands table k (is_main ending) within first) (mark_behind more rest) h.0,
    before_tasks k ending more rest h.1 j,
  )

  last_unmarked : (k : ℕ) (ending : Ending) (s : Command) (rest : List Task) → IsLast k ending s rest → has_mark rest ≡ false
  last_unmarked k ending (return value) [] last = refl
  last_unmarked k ending (return value) (t ∷ more) last = absurd last
  last_unmarked k ending (if_else c a b) [] last = refl
  last_unmarked k ending (if_else c a b) (t ∷ more) last = absurd last
  last_unmarked k ending (assign x e) rest last = absurd last
  last_unmarked k ending (call t f a) rest last = absurd last
  last_unmarked k ending skip rest last = absurd last
  last_unmarked k ending break rest last = absurd last
  last_unmarked k ending continue rest last = absurd last
  last_unmarked k ending (while_loop c a b) rest last = absurd last
  last_unmarked k ending (do_while b c) rest last = absurd last

  pub behind_stands : (k : ℕ) (ending : Ending) (rest : List Task) → IsTrue (has_mark rest) → TasksStand k ending rest → TasksStand k ending (behind_mark rest)
  behind_stands k ending [] marked h = absurd (cc)
  behind_stands k ending (command s ∷ rest) marked (inl last) = absurd (let unmarked = last_unmarked k ending s rest last in cc)
  behind_stands k ending (command s ∷ rest) marked (inr h) = behind_stands k ending rest marked h.1
  behind_stands k ending (mark c body step ∷ rest) marked h = h.2
  behind_stands k ending (pass x a ∷ rest) marked h = behind_stands k ending rest marked h.1
  behind_stands k ending (choose l ∷ rest) marked h = behind_stands k ending rest marked h.1
  behind_stands k ending (take x ∷ rest) marked h = absurd h
  behind_stands k ending (forget ∷ rest) marked h = absurd h

  pub from_stands : (k : ℕ) (ending : Ending) (rest : List Task) → IsTrue (has_mark rest) → TasksStand k ending rest → TasksStand k ending (from_mark rest)
  from_stands k ending [] marked h = absurd (cc)
  from_stands k ending (command s ∷ rest) marked (inl last) = absurd (let unmarked = last_unmarked k ending s rest last in cc)
  from_stands k ending (command s ∷ rest) marked (inr h) = from_stands k ending rest marked h.1
  from_stands k ending (mark c body step ∷ rest) marked h = h
  from_stands k ending (pass x a ∷ rest) marked h = from_stands k ending rest marked h.1
  from_stands k ending (choose l ∷ rest) marked h = from_stands k ending rest marked h.1
  from_stands k ending (take x ∷ rest) marked h = absurd h
  from_stands k ending (forget ∷ rest) marked h = absurd h

  fits_of : (ending : Ending) (valued : Bool) (value : Option Expression) → Asks ending valued → Gives valued value → Fits ending value
  fits_of ends valued value asks h = absurd asks
  fits_of (gives x) valued (Some e) asks h = tt
  fits_of (gives x) true None asks h = absurd (cc)
  fits_of (gives x) false None asks h = absurd (cc)
  fits_of drops valued value asks h = tt

  not_main : (ending : Ending) (valued : Bool) → Asks ending valued → is_main ending ≡ false
  not_main ends valued asks = absurd asks
  not_main (gives x) valued asks = refl
  not_main drops valued asks = refl

  no_mark : (body : Commands) → has_mark (tasks_of body) ≡ false
  no_mark empty = refl
  no_mark (sequence first more) = no_mark more

  may_end : (ending : Ending) (valued : Bool) → Asks ending valued → IsFalse valued → MayEnd ending
  may_end ends valued asks h = absurd asks
  may_end (gives x) valued asks h = absurd (cc)
  may_end drops valued asks h = tt

  -- a statement of a function that isn't its last one, before tasks without a mark; and one that is the last and doesn't return
  before_stands : (k : ℕ) (ending : Ending) (valued : Bool) (s : Command) (rest : List Task) → Asks ending valued → has_mark rest ≡ false
      → Stands table k false false s → Stands table k (is_main ending) (has_mark rest) s
  before_stands k ending valued s rest asks unmarked h =
      subst (λ main. Stands table k main (has_mark rest) s) (sym (not_main ending valued asks))
      (subst (λ within. Stands table k false within s) (sym unmarked) h)

  plain_last : (k : ℕ) (ending : Ending) (valued : Bool) (s : Command) → Asks ending valued → Stands table k false false s × IsFalse valued
      → TasksStand k ending (command s ∷ [])
  plain_last k ending valued s asks h = inr (before_stands k ending valued s [] asks refl h.0, may_end ending valued asks h.1)

  last_stands : (k : ℕ) (ending : Ending) (valued : Bool) (s : Command) → Asks ending valued → IsClosing table k valued s → TasksStand k ending (command s ∷ [])
  last_stands k ending valued (return value) asks h = inl (fits_of ending valued value asks h)
  last_stands k ending valued (if_else c a b) asks h = inl (valued, asks, h.0, h.1)
  last_stands k ending valued (assign x e) asks h = plain_last k ending valued (assign x e) asks h
  last_stands k ending valued (call t f a) asks h = plain_last k ending valued (call t f a) asks h
  last_stands k ending valued skip asks h = plain_last k ending valued skip asks h
  last_stands k ending valued break asks h = plain_last k ending valued break asks h
  last_stands k ending valued continue asks h = plain_last k ending valued continue asks h
  last_stands k ending valued (while_loop c a b) asks h = plain_last k ending valued (while_loop c a b) asks h
  last_stands k ending valued (do_while b c) asks h = plain_last k ending valued (do_while b c) asks h

  -- a function's body stands in its frame
  pub body_stands : (k : ℕ) (ending : Ending) (valued : Bool) (body : Commands) → Asks ending valued → Closes table k valued body
      → TasksStand k ending (tasks_of body)
  body_stands k ending valued empty asks h = may_end ending valued asks h
  body_stands k ending valued (sequence first empty) asks h = last_stands k ending valued first asks h
  body_stands k ending valued (sequence first (sequence next more)) asks h = inr (
    before_stands k ending valued first (tasks_of (sequence next more)) asks (no_mark (sequence next more)) h.0,
    body_stands k ending valued (sequence next more) asks h.1,
  )

  -- and so does what an `if` that is its last statement chooses
  pub chosen_stands : (k : ℕ) (ending : Ending) (valued : Bool) (body : Commands) → Asks ending valued → Closes table k valued body
      → TasksStand k ending (tasks_of body ++ [])
  chosen_stands k ending valued body asks h = subst (TasksStand k ending) (sym (append-nil (tasks_of body))) (body_stands k ending valued body asks h)

  pub choices_stand : (k : ℕ) (ending : Ending) (valued : Bool) (free : List ℕ) (rest : List Task) → Asks ending valued → TasksStand k ending rest
      → TasksStand k ending (choices free ++ rest)
  choices_stand k ending valued [] rest asks h = h
  choices_stand k ending valued (l ∷ more) rest asks h = (not_main ending valued asks, choices_stand k ending valued more rest asks h)

  pub passes_stand : (k : ℕ) (ending : Ending) (valued : Bool) (x : ℕ) (arguments : List Expression) (rest : List Task) → Asks ending valued
      → TasksStand k ending rest → TasksStand k ending (passes x arguments ++ rest)
  passes_stand k ending valued x [] rest asks h = h
  passes_stand k ending valued x (a ∷ more) rest asks h = (not_main ending valued asks, passes_stand k ending valued (x + 1) more rest asks h)

  pub asked : (base : ℕ) (target : Option ℕ) (rest : List Task) (valued : Bool) → MayAsk target valued → Asks (ending_at base (awaited target ∷ rest)) valued
  asked base (Some x) rest valued h = h
  asked base None rest valued h = tt

  pub caller_stands : (k : ℕ) (ending : Ending) (target : Option ℕ) (rest : List Task) → TasksStand k ending rest → CallerStands k ending (awaited target ∷ rest)
  caller_stands k ending (Some x) rest h = h
  caller_stands k ending None rest h = h

  module _ (main : ℕ) (routines : AreRoutines table main) where
    -- what is known of a function below one that is below `main`, or is it
    pub entered_stands : (f : ℕ) (ending : Ending) (arguments : List Expression) → f < main → Asks ending (table f).valued
        → TasksStand f ending (entered (table f) arguments)
    entered_stands f ending arguments below asks =
        passes_stand f ending (table f).valued 0 arguments (choices (table f).free ++ tasks_of (table f).body) asks
        (choices_stand f ending (table f).valued (table f).free (tasks_of (table f).body) asks
        (body_stands f ending (table f).valued (table f).body asks (routines.functions f below)))
