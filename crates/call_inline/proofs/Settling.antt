-- Frames that stand settle: each call goes to a function before its own.
use Rattle.std.proofs.Common.{ℕ, zero, suc, ◌<◌, ◌≤◌, Bool, true, List, [], ◌∷◌, ◌++◌, inl, inr, refl, arith}
use Rattle.step_meaning.specs.Syntax.{Expression}
use Rattle.call_meaning.specs.Units.{Command, Commands, assign, call, skip, return, break, continue, if_else, while_loop, do_while, empty, sequence, Table}
use Rattle.call_inline.specs.Inlined.{Ending, drops}
use Rattle.call_meaning.specs.Frames.{Task, command, mark, pass, choose, take, forget, tasks_of, entered, awaited, behind_first}
use Rattle.call_inline.proofs.OneStore.{Sharing, sharing, Settles, settled, replacing}
use Rattle.call_meaning.specs.Validity.{AreRoutines, Stands, AllStand}
use Rattle.call_inline.proofs.Image.{ending_in}
use Rattle.call_inline.proofs.Standing.{has_mark, is_main, IsLast, TasksStand, CallerStands, CallersStand, FramesStand, entered_stands}

module _ (table : Table) where
  abbrev pub Settling : List Sharing → Type 0
  Settling frames = (after : List Sharing) × Settles table frames after

  -- a frame that a call of the function begins settles, where it does so once it has nothing left to do
  abbrev Enters : ℕ → Type 0
  Enters f = (arguments : List Expression) (below : List Sharing) → Settling (sharing f [] ∷ below) → Settling (sharing f (entered (table f) arguments) ∷ below)

  module _ (k : ℕ) (enters : (f : ℕ) → f < k → Enters f) where
    mutual
      body_settles : (body : Commands) (main within : Bool) (rest : List Task) (below : List Sharing) → AllStand table k main within body
          → Settling (sharing k rest ∷ below) → Settling (sharing k (tasks_of body ++ rest) ∷ below)
      body_settles empty main within rest below h s = s
      body_settles (sequence first more) main within rest below h s =
          command_settles first main within (tasks_of more ++ rest) below h.0 (body_settles more main within rest below h.1 s)

      command_settles : (first : Command) (main within : Bool) (rest : List Task) (below : List Sharing) → Stands table k main within first
          → Settling (sharing k rest ∷ below) → Settling (sharing k (command first ∷ rest) ∷ below)
      command_settles (assign x e) main within rest below h s = (sharing k (command (assign x e) ∷ rest) ∷ below, settled refl)
      command_settles skip main within rest below h s = (sharing k (command skip ∷ rest) ∷ below, settled refl)
      command_settles (return value) main within rest below h s = (sharing k (command (return value) ∷ rest) ∷ below, settled refl)
      command_settles break main within rest below h s = (sharing k (command break ∷ rest) ∷ below, settled refl)
      command_settles continue main within rest below h s = (sharing k (command continue ∷ rest) ∷ below, settled refl)
      command_settles (if_else c first second) main within rest below h s = (sharing k (command (if_else c first second) ∷ rest) ∷ below, settled refl)
      command_settles (while_loop c body step) main within rest below h s = (sharing k (command (while_loop c body step) ∷ rest) ∷ below, settled refl)
      command_settles (call target f arguments) main within rest below h s =
          let inner = enters f h.0 arguments (sharing k (awaited target ∷ rest) ∷ below) (s.0, replacing refl s.1) in
          (inner.0, replacing refl inner.1)
      command_settles (do_while body c) main within rest below h s =
          let marked : Settling (sharing k (mark c body empty ∷ rest) ∷ below) =
          (sharing k (command (while_loop c body empty) ∷ rest) ∷ below, replacing refl (settled refl)) in
          let inner = body_settles body main true (mark c body empty ∷ rest) below h marked in
          (inner.0, replacing refl inner.1)

    last_settles : (ending : Ending) (first : Command) (rest : List Task) (below : List Sharing) → IsLast table k ending first rest
        → Settling (sharing k (command first ∷ rest) ∷ below)
    last_settles ending (return value) rest below h = (sharing k (command (return value) ∷ rest) ∷ below, settled refl)
    last_settles ending (assign x e) rest below h = absurd h
    last_settles ending skip rest below h = absurd h
    last_settles ending break rest below h = absurd h
    last_settles ending continue rest below h = absurd h
    last_settles ending (if_else c first second) rest below h = (sharing k (command (if_else c first second) ∷ rest) ∷ below, settled refl)
    last_settles ending (while_loop c body step) rest below h = absurd h
    last_settles ending (call target f arguments) rest below h = absurd h
    last_settles ending (do_while body c) rest below h = absurd h

    pub tasks_settle : (ending : Ending) (todo : List Task) (below : List Sharing) → TasksStand table k ending todo → Settling (sharing k [] ∷ below)
        → Settling (sharing k todo ∷ below)
    tasks_settle ending [] below h s = s
    tasks_settle ending (command first ∷ rest) below (inl last) s = last_settles ending first rest below last
    tasks_settle ending (command first ∷ rest) below (inr h) s =
        command_settles first (is_main ending) (has_mark rest) rest below h.0 (tasks_settle ending rest below h.1 s)
    tasks_settle ending (mark c body step ∷ rest) below h s =
        let inner = body_settles step (is_main ending) (has_mark rest) (command (while_loop c body step) ∷ rest) below h.1
        (sharing k (command (while_loop c body step) ∷ rest) ∷ below, settled refl) in
        (inner.0, replacing refl inner.1)
    tasks_settle ending (pass x a ∷ rest) below h s = (sharing k (pass x a ∷ rest) ∷ below, settled refl)
    tasks_settle ending (choose l ∷ rest) below h s = (sharing k (choose l ∷ rest) ∷ below, settled refl)
    tasks_settle ending (take x ∷ rest) below h s = absurd h
    tasks_settle ending (forget ∷ rest) below h s = absurd h

  module _ (main : ℕ) (routines : AreRoutines table main) where
    enters_below : (n f : ℕ) → f < n → f < main → Enters f
    enters_below zero f below inside = absurd (omega arith)
    enters_below (suc n) f below inside = λ arguments frames s.
        tasks_settle f (λ g lower. enters_below n g (omega arith) (omega arith)) drops (entered (table f) arguments) frames
        (entered_stands table main routines f drops arguments inside tt) s

    abbrev enter : (k : ℕ) → k ≤ main → (f : ℕ) → f < k → Enters f
    enter k inside f lower = enters_below (suc f) f (omega arith) (omega arith)

    waiting : (j : ℕ) (ending : Ending) (todo : List Task) → CallerStands table j ending todo → TasksStand table j ending (behind_first todo)
    waiting j ending (take x ∷ rest) h = h
    waiting j ending (forget ∷ rest) h = h
    waiting j ending [] h = absurd h
    waiting j ending (command s ∷ rest) h = absurd h
    waiting j ending (mark c body step ∷ rest) h = absurd h
    waiting j ending (pass x a ∷ rest) h = absurd h
    waiting j ending (choose l ∷ rest) h = absurd h

    emptied_settles : (below : List Sharing) (k : ℕ) → CallersStand table main below → Settling (sharing k [] ∷ below)
    emptied_settles [] k h = (sharing k [] ∷ [], settled refl)
    emptied_settles (caller ∷ below) k h =
        let inner = tasks_settle caller.function (enter caller.function h.0) (ending_in table below) (behind_first caller.todo) below
        (waiting caller.function (ending_in table below) caller.todo h.1) (emptied_settles below caller.function h.2) in
        (inner.0, replacing refl inner.1)

    pub frames_settle : (frames : List Sharing) → FramesStand table main frames → Settling frames
    frames_settle [] h = absurd h
    frames_settle (first ∷ below) h =
        tasks_settle first.function (enter first.function h.0) (ending_in table below) first.todo below h.1 (emptied_settles below first.function h.2)
