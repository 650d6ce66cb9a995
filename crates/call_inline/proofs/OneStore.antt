-- Runs of frames over one store, which are between those of frames with stores of their own and those of the program without calls.
--
-- The variables of all functions stand in one store: those of each function from its own place on, `main`'s first. No function calls itself, so at most
-- one frame of a function is there at a time.
use Rattle.std.specs.Prelude.{◌≡◌, ℕ, ◌+◌, ℤ, true, false, ◌⊎◌, Option, None, Some, List, [], ◌∷◌, ◌++◌, drop, slice_set}
use Rattle.step_meaning.specs.Syntax.{Expression}
use Rattle.step_meaning.specs.Outcome.{Store, May, MayTest}
use Rattle.call_meaning.specs.Frames.{Task, command, mark, pass, choose, take, forget, tasks_of, entered, awaited, behind_first, behind_mark, from_mark}
use Rattle.call_meaning.specs.Units.{Command, assign, call, skip, return, break, continue, if_else, while_loop, do_while, empty, Table}

-- a frame: the number of its function, and what is still to do in it
pub record Sharing : Type 0 where
  pub function : ℕ
  pub todo : List Task

abbrev pub sharing : ℕ → List Task → Sharing
sharing function todo = record { function = function; todo = todo }

-- a framed configuration: its frames, from the newest to `main`'s, and the store
pub record Shared : Type 0 where
  pub frames : List Sharing
  pub store : Store

-- the store of a function's own variables
abbrev pub own : Table → ℕ → Store → Store
own table k s = drop (table k).base s

-- a variable of a function gets the number
abbrev pub set : Table → ℕ → Store → ℕ → ℤ → Store
set table k s x v = slice_set s ((table k).base + x) v

-- ── What is replaced or removed without a step ──

-- what the frames become by one replacement, where one is due: a call, a `do` or a mark that stands first in the newest frame, or a frame of a function that
-- has nothing left to do
abbrev pub replaced_command : Table → ℕ → Command → List Task → List Sharing → Option (List Sharing)
replaced_command table k (call target f arguments) rest below =
    Some (sharing f (entered (table f) arguments) ∷ sharing k (awaited target ∷ rest) ∷ below)
replaced_command table k (do_while body c) rest below = Some (sharing k (tasks_of body ++ mark c body empty ∷ rest) ∷ below)
replaced_command table k (assign x e) rest below = None
replaced_command table k skip rest below = None
replaced_command table k (return value) rest below = None
replaced_command table k break rest below = None
replaced_command table k continue rest below = None
replaced_command table k (if_else c first second) rest below = None
replaced_command table k (while_loop c body step) rest below = None

abbrev pub removed : List Sharing → Option (List Sharing)
removed [] = None
removed (caller ∷ below) = Some (sharing caller.function (behind_first caller.todo) ∷ below)

abbrev pub replaced_tasks : Table → ℕ → List Task → List Sharing → Option (List Sharing)
replaced_tasks table k [] below = removed below
replaced_tasks table k (command s ∷ rest) below = replaced_command table k s rest below
replaced_tasks table k (mark c body step ∷ rest) below = Some (sharing k (tasks_of step ++ command (while_loop c body step) ∷ rest) ∷ below)
replaced_tasks table k (pass x a ∷ rest) below = None
replaced_tasks table k (choose l ∷ rest) below = None
replaced_tasks table k (take x ∷ rest) below = None
replaced_tasks table k (forget ∷ rest) below = None

abbrev pub replaced : Table → List Sharing → Option (List Sharing)
replaced table [] = None
replaced table (first ∷ below) = replaced_tasks table first.function first.todo below

-- the frames settle at these, of which nothing is replaced
pub data Settles (table : Table) : List Sharing → List Sharing → Type 0 where
  settled : {frames : List Sharing} → replaced table frames ≡ None → Settles table frames frames
  replacing : {frames more rest : List Sharing} → replaced table frames ≡ Some more → Settles table more rest → Settles table frames rest

-- ── Steps ──

-- the frame goes on with this, and the store stays
abbrev pub GoesOn : ℕ → List Task → List Sharing → Store → Shared → Type 0
GoesOn k todo below s d = (d.frames ≡ sharing k todo ∷ below) × (d.store ≡ s)

-- The frame goes on with this, and the variable at the place `x` of the function `to` gets some outcome of the expression in the store of the function `from`
abbrev pub Gives : Table → ℕ → ℕ → ℕ → Expression → List Sharing → Store → Shared → Type 0
Gives table to x from e frames s d = (d.frames ≡ frames) × ((v : ℤ) × May e (own table from s) v × (d.store ≡ set table to s x v))

-- a function's `return`: its frame goes, and what awaits its value
abbrev pub ReturnsTo : Table → ℕ → Option Expression → ℕ → List Task → List Sharing → Store → Shared → Type 0
ReturnsTo table k (Some e) to (take x ∷ rest) below s d = Gives table to x k e (sharing to rest ∷ below) s d
ReturnsTo table k None to (take x ∷ rest) below s d = ⊥
ReturnsTo table k value to (forget ∷ rest) below s d = GoesOn to rest below s d
ReturnsTo table k value to other below s d = ⊥

-- a `return` in `main`, whose frame is the last, ends all
abbrev pub Returns : Table → ℕ → Option Expression → List Sharing → Store → Shared → Type 0
Returns table k value [] s d = GoesOn k [] [] s d
Returns table k value (caller ∷ below) s d = ReturnsTo table k value caller.function caller.todo below s d

-- an argument is met in the store of the caller
abbrev pub Passes : Table → ℕ → ℕ → Expression → List Task → List Sharing → Store → Shared → Type 0
Passes table k x a rest [] s d = ⊥
Passes table k x a rest (caller ∷ below) s d = Gives table k x caller.function a (sharing k rest ∷ caller ∷ below) s d

abbrev pub CommandSteps : Table → ℕ → Command → List Task → List Sharing → Store → Shared → Type 0
CommandSteps table k (assign x e) rest below s d = Gives table k x k e (sharing k rest ∷ below) s d
CommandSteps table k skip rest below s d = GoesOn k rest below s d
CommandSteps table k (return value) rest below s d = Returns table k value below s d
CommandSteps table k break rest below s d = GoesOn k (behind_mark rest) below s d
CommandSteps table k continue rest below s d = GoesOn k (from_mark rest) below s d
CommandSteps table k (if_else c first second) rest below s d =
    (MayTest c (own table k s) true × GoesOn k (tasks_of first ++ rest) below s d)
    ⊎ (MayTest c (own table k s) false × GoesOn k (tasks_of second ++ rest) below s d)
CommandSteps table k (while_loop c body step) rest below s d =
    (MayTest c (own table k s) true × GoesOn k (tasks_of body ++ mark c body step ∷ rest) below s d)
    ⊎ (MayTest c (own table k s) false × GoesOn k rest below s d)
CommandSteps table k (call target f arguments) rest below s d = ⊥
CommandSteps table k (do_while body c) rest below s d = ⊥

abbrev pub TasksStep : Table → ℕ → List Task → List Sharing → Store → Shared → Type 0
TasksStep table k [] below s d = ⊥
TasksStep table k (command first ∷ rest) below s d = CommandSteps table k first rest below s d
TasksStep table k (mark c body step ∷ rest) below s d = ⊥
TasksStep table k (pass x a ∷ rest) below s d = Passes table k x a rest below s d
TasksStep table k (choose l ∷ rest) below s d =
    (d.frames ≡ sharing k rest ∷ below) × ((v : ℤ) × (d.store ≡ set table k s l v))
TasksStep table k (take x ∷ rest) below s d = ⊥
TasksStep table k (forget ∷ rest) below s d = ⊥

-- what one step makes of frames that have settled
abbrev pub FramesStep : Table → List Sharing → Store → Shared → Type 0
FramesStep table [] s d = ⊥
FramesStep table (first ∷ below) s d = TasksStep table first.function first.todo below s d

-- one step leads from `c` to `d`
abbrev pub Step : Table → Shared → Shared → Type 0
Step table c d = (frames : List Sharing) × Settles table c.frames frames × FramesStep table frames c.store d

-- only `main`'s frame is left, and it has nothing left to do
abbrev pub AreDone : List Sharing → Type 0
AreDone [] = ⊥
AreDone (first ∷ []) = first.todo ≡ []
AreDone (first ∷ more) = ⊥

abbrev pub IsFinal : Table → Shared → Type 0
IsFinal table c = (frames : List Sharing) × Settles table c.frames frames × AreDone frames

-- where the runs begin, where `main` has this number
abbrev pub start : Table → ℕ → Store → Shared
start table main input = record { frames = sharing main (tasks_of (table main).body) ∷ []; store = input }
