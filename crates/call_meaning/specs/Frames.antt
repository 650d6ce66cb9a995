-- Runs with a frame for each call, which has a store of its own: what the calls of a program mean.
use Rattle.std.specs.Prelude.{◌≡◌, ℕ, ◌+◌, ℤ, true, false, ◌⊎◌, Option, None, Some, List, [], ◌∷◌, ◌++◌, slice_set}
use Rattle.step_meaning.specs.Syntax.{Expression}
use Rattle.step_meaning.specs.Outcome.{Store, May, MayTest}
use Rattle.call_meaning.specs.Units.{Command, Commands, assign, call, skip, return, break, continue, if_else, while_loop, do_while, empty, sequence, Routine, Table}

-- What is still to do in a frame: a statement; the mark of a loop whose body is being done; to give a parameter an outcome of an argument, met in the
-- store of the caller; to give a variable any number; or, where a call stood, to take its value into a variable, or to forget it.
pub data Task : Type 0 where
  command : Command → Task
  mark : Expression → Commands → Commands → Task
  pass : ℕ → Expression → Task
  choose : ℕ → Task
  take : ℕ → Task
  forget : Task

abbrev pub tasks_of : Commands → List Task
tasks_of empty = []
tasks_of (sequence first more) = command first ∷ tasks_of more

-- what a new frame of a routine has to do: each parameter gets its argument, each variable declared without initialiser any number, and then comes the body
abbrev pub passes : ℕ → List Expression → List Task
passes x [] = []
passes x (argument ∷ more) = pass x argument ∷ passes (x + 1) more

abbrev pub choices : List ℕ → List Task
choices [] = []
choices (x ∷ more) = choose x ∷ choices more

abbrev pub entered : Routine → List Expression → List Task
entered routine arguments = passes 0 arguments ++ (choices routine.free ++ tasks_of routine.body)

-- what stands in the caller's list in the place of the call
abbrev pub awaited : Option ℕ → Task
awaited (Some x) = take x
awaited None = forget

-- what follows the first task
abbrev pub behind_first : List Task → List Task
behind_first [] = []
behind_first (first ∷ rest) = rest

-- what follows the first mark, which is that of the nearest loop, and that mark with what follows it
abbrev pub behind_mark : List Task → List Task
behind_mark [] = []
behind_mark (mark c body step ∷ rest) = rest
behind_mark (command s ∷ rest) = behind_mark rest
behind_mark (pass x argument ∷ rest) = behind_mark rest
behind_mark (choose x ∷ rest) = behind_mark rest
behind_mark (take x ∷ rest) = behind_mark rest
behind_mark (forget ∷ rest) = behind_mark rest

abbrev pub from_mark : List Task → List Task
from_mark [] = []
from_mark (mark c body step ∷ rest) = mark c body step ∷ rest
from_mark (command s ∷ rest) = from_mark rest
from_mark (pass x argument ∷ rest) = from_mark rest
from_mark (choose x ∷ rest) = from_mark rest
from_mark (take x ∷ rest) = from_mark rest
from_mark (forget ∷ rest) = from_mark rest

-- a frame: the number of its routine, what is still to do in it, and the store of its variables
pub record Frame : Type 0 where
  pub function : ℕ
  pub todo : List Task
  pub store : Store

abbrev pub frame : ℕ → List Task → Store → Frame
frame function todo store = record { function = function; todo = todo; store = store }

-- a framed configuration: its frames, from the newest to `main`'s
abbrev pub Stack : Type 0
Stack = List Frame

-- The frame of a call begins with the store `fresh`. Its first tasks give the parameters and the variables declared without initialiser their numbers; that no
-- other variable is read before it is set is a rule on units, so the runs don't depend on `fresh`.
module _ (table : Table) (fresh : Store) where
  -- ── What is replaced or removed without a step ──
  --
  -- A call that stands first in the newest frame is replaced by a new frame, a `do` and a mark by their first statements; and the frame of a function that
  -- has nothing left to do is removed, with what awaits it. No step is taken by this.

  abbrev pub replaced_command : ℕ → Command → List Task → Store → Stack → Option Stack
  replaced_command k (call target f arguments) rest s below =
      Some (frame f (entered (table f) arguments) fresh ∷ frame k (awaited target ∷ rest) s ∷ below)
  replaced_command k (do_while body c) rest s below = Some (frame k (tasks_of body ++ mark c body empty ∷ rest) s ∷ below)
  replaced_command k (assign x e) rest s below = None
  replaced_command k skip rest s below = None
  replaced_command k (return value) rest s below = None
  replaced_command k break rest s below = None
  replaced_command k continue rest s below = None
  replaced_command k (if_else c first second) rest s below = None
  replaced_command k (while_loop c body step) rest s below = None

  abbrev pub removed : Stack → Option Stack
  removed [] = None
  removed (caller ∷ below) = Some (frame caller.function (behind_first caller.todo) caller.store ∷ below)

  abbrev pub replaced_tasks : ℕ → List Task → Store → Stack → Option Stack
  replaced_tasks k [] s below = removed below
  replaced_tasks k (command first ∷ rest) s below = replaced_command k first rest s below
  replaced_tasks k (mark c body step ∷ rest) s below = Some (frame k (tasks_of step ++ command (while_loop c body step) ∷ rest) s ∷ below)
  replaced_tasks k (pass x argument ∷ rest) s below = None
  replaced_tasks k (choose x ∷ rest) s below = None
  replaced_tasks k (take x ∷ rest) s below = None
  replaced_tasks k (forget ∷ rest) s below = None

  -- what the frames become by one replacement or removal, where one is due
  abbrev pub replaced : Stack → Option Stack
  replaced [] = None
  replaced (first ∷ below) = replaced_tasks first.function first.todo first.store below

  -- replacements and removals lead from the first frames to the second, at which none is due
  pub data Settles : Stack → Stack → Type 0 where
    settled : {frames : Stack} → replaced frames ≡ None → Settles frames frames
    replacing : {frames more rest : Stack} → replaced frames ≡ Some more → Settles more rest → Settles frames rest

  -- ── Steps ──

  -- A function's `return`: its frame goes, and so does what awaits it in that of its caller. A value that is taken is met in the store of the function;
  -- one that is forgotten isn't met.
  abbrev pub ReturnsTo : Option Expression → Store → ℕ → List Task → Store → Stack → Stack → Type 0
  ReturnsTo (Some e) s to (take x ∷ rest) t below d = (v : ℤ) × May e s v × (d ≡ frame to rest (slice_set t x v) ∷ below)
  ReturnsTo None s to (take x ∷ rest) t below d = ⊥
  ReturnsTo value s to (forget ∷ rest) t below d = d ≡ frame to rest t ∷ below
  ReturnsTo value s to other t below d = ⊥

  -- a `return` in `main` ends all
  abbrev pub Returns : ℕ → Option Expression → Store → Stack → Stack → Type 0
  Returns k value s [] d = d ≡ frame k [] s ∷ []
  Returns k value s (caller ∷ below) d = ReturnsTo value s caller.function caller.todo caller.store below d

  -- a parameter gets some outcome of the argument in the caller's store
  abbrev pub Passes : ℕ → ℕ → Expression → List Task → Store → Stack → Stack → Type 0
  Passes k x argument rest s [] d = ⊥
  Passes k x argument rest s (caller ∷ below) d = (v : ℤ) × May argument caller.store v × (d ≡ frame k rest (slice_set s x v) ∷ caller ∷ below)

  abbrev pub CommandSteps : ℕ → Command → List Task → Store → Stack → Stack → Type 0
  CommandSteps k (assign x e) rest s below d = (v : ℤ) × May e s v × (d ≡ frame k rest (slice_set s x v) ∷ below)
  CommandSteps k skip rest s below d = d ≡ frame k rest s ∷ below
  CommandSteps k (return value) rest s below d = Returns k value s below d
  CommandSteps k break rest s below d = d ≡ frame k (behind_mark rest) s ∷ below
  CommandSteps k continue rest s below d = d ≡ frame k (from_mark rest) s ∷ below
  CommandSteps k (if_else c first second) rest s below d =
      (MayTest c s true × (d ≡ frame k (tasks_of first ++ rest) s ∷ below)) ⊎ (MayTest c s false × (d ≡ frame k (tasks_of second ++ rest) s ∷ below))
  CommandSteps k (while_loop c body step) rest s below d =
      (MayTest c s true × (d ≡ frame k (tasks_of body ++ mark c body step ∷ rest) s ∷ below)) ⊎ (MayTest c s false × (d ≡ frame k rest s ∷ below))
  CommandSteps k (call target f arguments) rest s below d = ⊥
  CommandSteps k (do_while body c) rest s below d = ⊥

  abbrev pub TasksStep : ℕ → List Task → Store → Stack → Stack → Type 0
  TasksStep k [] s below d = ⊥
  TasksStep k (command first ∷ rest) s below d = CommandSteps k first rest s below d
  TasksStep k (mark c body step ∷ rest) s below d = ⊥
  TasksStep k (pass x argument ∷ rest) s below d = Passes k x argument rest s below d
  TasksStep k (choose x ∷ rest) s below d = (v : ℤ) × (d ≡ frame k rest (slice_set s x v) ∷ below)
  TasksStep k (take x ∷ rest) s below d = ⊥
  TasksStep k (forget ∷ rest) s below d = ⊥

  -- what one step makes of frames that have settled
  abbrev pub StackSteps : Stack → Stack → Type 0
  StackSteps [] d = ⊥
  StackSteps (first ∷ below) d = TasksStep first.function first.todo first.store below d

  -- one step leads from `c` to `d`
  abbrev pub Step : Stack → Stack → Type 0
  Step c d = (frames : Stack) × Settles c frames × StackSteps frames d

  -- only `main`'s frame is left, and it has nothing left to do
  abbrev pub AreDone : Stack → Type 0
  AreDone [] = ⊥
  AreDone (first ∷ []) = first.todo ≡ []
  AreDone (first ∷ more) = ⊥

  abbrev pub IsFinal : Stack → Type 0
  IsFinal c = (frames : Stack) × Settles c frames × AreDone frames

-- the store of `main`'s variables, which is that of the last frame
abbrev pub whole_store : Stack → Store
whole_store [] = []
whole_store (first ∷ []) = first.store
whole_store (first ∷ second ∷ more) = whole_store (second ∷ more)

-- where the runs begin, where `main` has this number
abbrev pub start : Table → ℕ → Store → Stack
start table main input = frame main (tasks_of (table main).body) input ∷ []
