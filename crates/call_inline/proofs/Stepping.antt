-- Frames that have settled and the program without calls step alike.
use Rattle.std.proofs.Common.{◌≡◌, ◌≢◌, ℕ, true, false, IsTrue, Option, None, Some, List, [], ◌∷◌, ◌++◌, inl, inr, refl, sym, ap, ◌∙◌, subst, append_assoc}
use Rattle.step_meaning.specs.Syntax.{Expression, Statements}
use Rattle.step_meaning.specs.Syntax as syntax
use Rattle.step_meaning.specs.Outcome.{Store}
use Rattle.step_meaning.specs.Step.{Configuration, Todo, items_of, front, StepsFrom}
use Rattle.step_meaning.specs.Step as plain
use Rattle.call_meaning.specs.Units.{Command, Commands, assign, call, skip, return, break, continue, if_else, while_loop, do_while, Table}
use Rattle.call_inline.specs.Inlined.{Ending, ends, gives, drops, inlined, all_inlined, callees}
use Rattle.call_meaning.specs.Frames.{Task, command, mark, pass, choose, take, forget, tasks_of, behind_mark, from_mark}
use Rattle.call_inline.proofs.OneStore.{Sharing, sharing, Shared, set, replaced, CommandSteps, TasksStep, FramesStep, Returns, AreDone}
use Rattle.call_inline.proofs.Reading.{own_number, whole_number, own_test, whole_test}
use Rattle.call_inline.proofs.Image.{ending_in, caller_base, image_tasks, image_body, image}
use Rattle.call_inline.proofs.Standing.{has_mark, FramesStand, before_tasks, chosen_stands, behind_stands, from_stands}

behind_more : (s : Statements) (left : Todo) → plain.behind_mark (items_of s ++ left) ≡ plain.behind_mark left
behind_more syntax.empty left = refl
behind_more (syntax.sequence first more) left = behind_more more left

from_more : (s : Statements) (left : Todo) → plain.from_mark (items_of s ++ left) ≡ plain.from_mark left
from_more syntax.empty left = refl
from_more (syntax.sequence first more) left = from_more more left

module _ (table : Table) (main : ℕ) where
  -- the frames stand, and what the program without calls has to do has their front; and the stores are the same
  pub record InStep (c : Shared) (d : Configuration) : Type 0 where
    pub stand : FramesStand table main c.frames
    pub ahead : front d.todo ≡ front (image table c.frames)
    pub store : d.store ≡ c.store

  arrive : (c : Shared) (d : Configuration) (frames : List Sharing) → c.frames ≡ frames → d.store ≡ c.store → d.todo ≡ image table frames
      → FramesStand table main frames → InStep c d
  arrive c d frames same store todo h = record {
    stand = subst (FramesStand table main) (sym same) h;
    ahead = ap front todo ∙ ap (λ fs. front (image table fs)) (sym same);
    store = store;
  }

  module _ (k : ℕ) (below : List Sharing) where
    abbrev base : ℕ
    base = (table k).base

    abbrev tasks : List Task → Todo
    tasks todo = image_tasks table (callees table k) base (ending_in table below) (caller_base table below) todo

    abbrev body_of : Commands → Statements
    body_of body = all_inlined (callees table k) base (ending_in table below) body

    -- what is done behind a mark
    behind_image : (rest : List Task) (left : Todo) → IsTrue (has_mark rest) → plain.behind_mark (tasks rest ++ left) ≡ tasks (behind_mark rest) ++ left
    behind_image [] left h = absurd (cc)
    behind_image (command s ∷ rest) left h =
        ap plain.behind_mark (append_assoc (items_of (inlined (callees table k) base (ending_in table below) s)) (tasks rest) left)
        ∙ behind_more (inlined (callees table k) base (ending_in table below) s) (tasks rest ++ left) ∙ behind_image rest left h
    behind_image (mark c body step ∷ rest) left h = refl
    behind_image (pass x a ∷ rest) left h = behind_image rest left h
    behind_image (choose l ∷ rest) left h = behind_image rest left h
    behind_image (take x ∷ rest) left h = behind_image rest left h
    behind_image (forget ∷ rest) left h = behind_image rest left h

    from_image : (rest : List Task) (left : Todo) → IsTrue (has_mark rest) → plain.from_mark (tasks rest ++ left) ≡ tasks (from_mark rest) ++ left
    from_image [] left h = absurd (cc)
    from_image (command s ∷ rest) left h =
        ap plain.from_mark (append_assoc (items_of (inlined (callees table k) base (ending_in table below) s)) (tasks rest) left)
        ∙ from_more (inlined (callees table k) base (ending_in table below) s) (tasks rest ++ left) ∙ from_image rest left h
    from_image (mark c body step ∷ rest) left h = refl
    from_image (pass x a ∷ rest) left h = from_image rest left h
    from_image (choose l ∷ rest) left h = from_image rest left h
    from_image (take x ∷ rest) left h = from_image rest left h
    from_image (forget ∷ rest) left h = from_image rest left h

    -- a body before the rest of a frame
    before_image : (body : Commands) (rest : List Task) → items_of (body_of body) ++ (tasks rest ++ image table below)
        ≡ tasks (tasks_of body ++ rest) ++ image table below
    before_image body rest =
        sym (append_assoc (items_of (body_of body)) (tasks rest) (image table below))
        ∙ ap (λ xs. xs ++ image table below) (sym (image_body table (callees table k) base (ending_in table below) (caller_base table below) body rest))

  -- a step of frames is one of the program without calls
  abbrev Follows : Todo → Store → Shared → Type 0
  Follows ahead s c = (d : Configuration) × StepsFrom ahead s d × InStep c d

  returns_on : (k : ℕ) (value : Option Expression) (rest : List Task) (j : ℕ) (todo : List Task) (below : List Sharing) (s : Store) (c : Shared)
      → FramesStand table main (sharing k (command (return value) ∷ rest) ∷ sharing j todo ∷ below)
      → Returns table k value (sharing j todo ∷ below) s c
      → Follows (front (image table (sharing k (command (return value) ∷ rest) ∷ sharing j todo ∷ below))) s c
  returns_on k (Some e) [] j (take x ∷ more) below s c (inside, inl last, callers) step =
      let d : Configuration = record { todo = image table (sharing j more ∷ below); store = set table j s x step.1.0 } in (
        d,
        (refl, (step.1.0, whole_number (table k).base s e step.1.0 step.1.1, refl)),
        arrive c d (sharing j more ∷ below) step.0 (sym step.1.2) refl callers,
      )
  returns_on k None [] j (take x ∷ more) below s c (inside, inl last, callers) step = absurd last
  returns_on k value [] j (forget ∷ more) below s c (inside, inl last, callers) step =
      let d : Configuration = record { todo = image table (sharing j more ∷ below); store = s } in
      (d, (refl, refl), arrive c d (sharing j more ∷ below) step.0 (sym step.1) refl callers)
  returns_on k value (t ∷ rest) j todo below s c (inside, inl last, callers) step = absurd last
  returns_on k value rest j (take x ∷ more) below s c (inside, inr h, callers) step = absurd (let no = h.0 in cc)
  returns_on k value rest j (forget ∷ more) below s c (inside, inr h, callers) step = absurd (let no = h.0 in cc)
  returns_on k value rest j [] below s c (inside, h, callers) step = absurd callers.1
  returns_on k value rest j (command t ∷ more) below s c (inside, h, callers) step = absurd callers.1
  returns_on k value rest j (mark t body last ∷ more) below s c (inside, h, callers) step = absurd callers.1
  returns_on k value rest j (pass x a ∷ more) below s c (inside, h, callers) step = absurd callers.1
  returns_on k value rest j (choose l ∷ more) below s c (inside, h, callers) step = absurd callers.1

  last_returns : (k : ℕ) (value : Option Expression) (rest : List Task) (s : Store) (c : Shared)
      → FramesStand table main (sharing k (command (return value) ∷ rest) ∷ []) → Returns table k value [] s c
      → Follows (front (image table (sharing k (command (return value) ∷ rest) ∷ []))) s c
  last_returns k value [] s c (inside, inl last, callers) step = absurd last
  last_returns k value (t ∷ rest) s c (inside, inl last, callers) step = absurd last
  last_returns k value rest s c (inside, inr h, callers) step =
      let d : Configuration = record { todo = []; store = s } in
      (d, (refl, refl), arrive c d (sharing k [] ∷ []) step.0 (sym step.1) refl (inside, tt, tt))

  command_on : (k : ℕ) (s : Command) (rest : List Task) (below : List Sharing) (t : Store) (c : Shared)
      → FramesStand table main (sharing k (command s ∷ rest) ∷ below) → CommandSteps table k s rest below t c
      → Follows (front (image table (sharing k (command s ∷ rest) ∷ below))) t c
  command_on k (return value) rest [] t c h step = last_returns k value rest t c h step
  command_on k (return value) rest (caller ∷ below) t c h step = returns_on k value rest caller.function caller.todo below t c h step
  command_on k (call target f arguments) rest below t c h step = absurd step
  command_on k (do_while body e) rest below t c h step = absurd step
  command_on k (assign x e) rest below t c (inside, inl last, callers) step = absurd last
  command_on k (assign x e) rest below t c (inside, inr h, callers) step =
      let d : Configuration = record { todo = image table (sharing k rest ∷ below); store = set table k t x step.1.0 } in (
        d,
        (refl, (step.1.0, whole_number (table k).base t e step.1.0 step.1.1, refl)),
        arrive c d (sharing k rest ∷ below) step.0 (sym step.1.2) refl (inside, h.1, callers),
      )
  command_on k skip rest below t c (inside, inl last, callers) step = absurd last
  command_on k skip rest below t c (inside, inr h, callers) step =
      let d : Configuration = record { todo = image table (sharing k rest ∷ below); store = t } in
      (d, (refl, refl), arrive c d (sharing k rest ∷ below) step.0 (sym step.1) refl (inside, h.1, callers))
  command_on k break rest below t c (inside, inl last, callers) step = absurd last
  command_on k break rest below t c (inside, inr h, callers) step =
      let d : Configuration = record { todo = plain.behind_mark (tasks k below rest ++ image table below); store = t } in (
        d,
        (refl, refl),
        arrive c d (sharing k (behind_mark rest) ∷ below) step.0 (sym step.1) (behind_image k below rest (image table below) h.0)
            (inside, behind_stands table k (ending_in table below) rest h.0 h.1, callers),
      )
  command_on k continue rest below t c (inside, inl last, callers) step = absurd last
  command_on k continue rest below t c (inside, inr h, callers) step =
      let d : Configuration = record { todo = plain.from_mark (tasks k below rest ++ image table below); store = t } in (
        d,
        (refl, refl),
        arrive c d (sharing k (from_mark rest) ∷ below) step.0 (sym step.1) (from_image k below rest (image table below) h.0)
            (inside, from_stands table k (ending_in table below) rest h.0 h.1, callers),
      )
  command_on k (if_else e first second) (other ∷ rest) below t c (inside, inl last, callers) step = absurd last
  command_on k (if_else e first second) [] below t c (inside, inl last, callers) (inl step) =
      let d : Configuration = record { todo = items_of (body_of k below first) ++ image table below; store = t } in (
        d,
        (inl (whole_test (table k).base t e true step.0, refl), refl),
        arrive c d (sharing k (tasks_of first ++ []) ∷ below) step.1.0 (sym step.1.1) (before_image k below first [])
            (inside, chosen_stands table k (ending_in table below) last.0 first last.1 last.2, callers),
      )
  command_on k (if_else e first second) [] below t c (inside, inl last, callers) (inr step) =
      let d : Configuration = record { todo = items_of (body_of k below second) ++ image table below; store = t } in (
        d,
        (inr (whole_test (table k).base t e false step.0, refl), refl),
        arrive c d (sharing k (tasks_of second ++ []) ∷ below) step.1.0 (sym step.1.1) (before_image k below second [])
            (inside, chosen_stands table k (ending_in table below) last.0 second last.1 last.3, callers),
      )
  command_on k (if_else e first second) rest below t c (inside, inr h, callers) (inl step) =
      let d : Configuration = record { todo = items_of (body_of k below first) ++ (tasks k below rest ++ image table below); store = t } in (
        d,
        (inl (whole_test (table k).base t e true step.0, refl), refl),
        arrive c d (sharing k (tasks_of first ++ rest) ∷ below) step.1.0 (sym step.1.1) (before_image k below first rest)
            (inside, before_tasks table k (ending_in table below) first rest h.0.0 h.1, callers),
      )
  command_on k (if_else e first second) rest below t c (inside, inr h, callers) (inr step) =
      let d : Configuration = record { todo = items_of (body_of k below second) ++ (tasks k below rest ++ image table below); store = t } in (
        d,
        (inr (whole_test (table k).base t e false step.0, refl), refl),
        arrive c d (sharing k (tasks_of second ++ rest) ∷ below) step.1.0 (sym step.1.1) (before_image k below second rest)
            (inside, before_tasks table k (ending_in table below) second rest h.0.1 h.1, callers),
      )
  command_on k (while_loop e body last) rest below t c (inside, inl end, callers) step = absurd end
  command_on k (while_loop e body last) rest below t c (inside, inr h, callers) (inl step) =
      let d : Configuration = record {
        todo = items_of (body_of k below body) ++ (tasks k below (mark e body last ∷ rest) ++ image table below);
        store = t;
      } in (
        d,
        (inl (whole_test (table k).base t e true step.0, refl), refl),
        arrive c d (sharing k (tasks_of body ++ mark e body last ∷ rest) ∷ below) step.1.0 (sym step.1.1) (before_image k below body (mark e body last ∷ rest))
            (inside, before_tasks table k (ending_in table below) body (mark e body last ∷ rest) h.0.0 (h.0.0, h.0.1, h.1), callers),
      )
  command_on k (while_loop e body last) rest below t c (inside, inr h, callers) (inr step) =
      let d : Configuration = record { todo = image table (sharing k rest ∷ below); store = t } in (
        d,
        (inr (whole_test (table k).base t e false step.0, refl), refl),
        arrive c d (sharing k rest ∷ below) step.1.0 (sym step.1.1) refl (inside, h.1, callers),
      )

  tasks_on : (k : ℕ) (todo : List Task) (below : List Sharing) (t : Store) (c : Shared)
      → FramesStand table main (sharing k todo ∷ below) → TasksStep table k todo below t c
      → Follows (front (image table (sharing k todo ∷ below))) t c
  tasks_on k [] below t c h step = absurd step
  tasks_on k (command s ∷ rest) below t c h step = command_on k s rest below t c h step
  tasks_on k (mark e body last ∷ rest) below t c h step = absurd step
  tasks_on k (pass x a ∷ rest) [] t c h step = absurd step
  tasks_on k (pass x a ∷ rest) (caller ∷ below) t c h step =
      let d : Configuration = record { todo = image table (sharing k rest ∷ caller ∷ below); store = set table k t x step.1.0 } in (
        d,
        (refl, (step.1.0, whole_number (table caller.function).base t a step.1.0 step.1.1, refl)),
        arrive c d (sharing k rest ∷ caller ∷ below) step.0 (sym step.1.2) refl (h.0, h.1.1, h.2),
      )
  tasks_on k (choose l ∷ rest) below t c h step =
      let d : Configuration = record { todo = image table (sharing k rest ∷ below); store = set table k t l step.1.0 } in
      (d, (refl, (step.1.0, tt, refl)), arrive c d (sharing k rest ∷ below) step.0 (sym step.1.1) refl (h.0, h.1.1, h.2))
  tasks_on k (take x ∷ rest) below t c h step = absurd step
  tasks_on k (forget ∷ rest) below t c h step = absurd step

  pub frames_on : (frames : List Sharing) (t : Store) (c : Shared) → FramesStand table main frames → FramesStep table frames t c
      → Follows (front (image table frames)) t c
  frames_on [] t c h step = absurd step
  frames_on (first ∷ below) t c h step = tasks_on first.function first.todo below t c h step

  -- ── And back ──

  abbrev pub Leads : List Sharing → Store → Configuration → Type 0
  Leads frames s d = (c : Shared) × FramesStep table frames s c × InStep c d

  abbrev at : List Sharing → Store → Shared
  at frames store = record { frames = frames; store = store }

  returns_back : (k : ℕ) (value : Option Expression) (rest : List Task) (j : ℕ) (todo : List Task) (below : List Sharing) (s : Store) (d : Configuration)
      → FramesStand table main (sharing k (command (return value) ∷ rest) ∷ sharing j todo ∷ below)
      → StepsFrom (front (image table (sharing k (command (return value) ∷ rest) ∷ sharing j todo ∷ below))) s d
      → Leads (sharing k (command (return value) ∷ rest) ∷ sharing j todo ∷ below) s d
  returns_back k (Some e) [] j (take x ∷ more) below s d (inside, inl last, callers) step =
      let c : Shared = at (sharing j more ∷ below) (set table j s x step.1.0) in (
        c,
        (refl, (step.1.0, own_number (table k).base s e step.1.0 step.1.1, refl)),
        arrive c d (sharing j more ∷ below) refl step.1.2 step.0 callers,
      )
  returns_back k None [] j (take x ∷ more) below s d (inside, inl last, callers) step = absurd last
  returns_back k (Some e) [] j (forget ∷ more) below s d (inside, inl last, callers) step =
      let c : Shared = at (sharing j more ∷ below) s in
      (c, (refl, refl), arrive c d (sharing j more ∷ below) refl step.1 step.0 callers)
  returns_back k None [] j (forget ∷ more) below s d (inside, inl last, callers) step =
      let c : Shared = at (sharing j more ∷ below) s in
      (c, (refl, refl), arrive c d (sharing j more ∷ below) refl step.1 step.0 callers)
  returns_back k value (t ∷ rest) j todo below s d (inside, inl last, callers) step = absurd last
  returns_back k value rest j (take x ∷ more) below s d (inside, inr h, callers) step = absurd (let no = h.0 in cc)
  returns_back k value rest j (forget ∷ more) below s d (inside, inr h, callers) step = absurd (let no = h.0 in cc)
  returns_back k value rest j [] below s d (inside, h, callers) step = absurd callers.1
  returns_back k value rest j (command t ∷ more) below s d (inside, h, callers) step = absurd callers.1
  returns_back k value rest j (mark t body last ∷ more) below s d (inside, h, callers) step = absurd callers.1
  returns_back k value rest j (pass x a ∷ more) below s d (inside, h, callers) step = absurd callers.1
  returns_back k value rest j (choose l ∷ more) below s d (inside, h, callers) step = absurd callers.1

  last_back : (k : ℕ) (value : Option Expression) (rest : List Task) (s : Store) (d : Configuration)
      → FramesStand table main (sharing k (command (return value) ∷ rest) ∷ []) → StepsFrom (front (image table (sharing k (command (return value) ∷ rest) ∷ []))) s d
      → Leads (sharing k (command (return value) ∷ rest) ∷ []) s d
  last_back k value [] s d (inside, inl last, callers) step = absurd last
  last_back k value (t ∷ rest) s d (inside, inl last, callers) step = absurd last
  last_back k value rest s d (inside, inr h, callers) step =
      let c : Shared = at (sharing k [] ∷ []) s in
      (c, (refl, refl), arrive c d (sharing k [] ∷ []) refl step.1 step.0 (inside, tt, tt))

  command_back : (k : ℕ) (s : Command) (rest : List Task) (below : List Sharing) (t : Store) (d : Configuration)
      → FramesStand table main (sharing k (command s ∷ rest) ∷ below) → replaced table (sharing k (command s ∷ rest) ∷ below) ≡ None
      → StepsFrom (front (image table (sharing k (command s ∷ rest) ∷ below))) t d → Leads (sharing k (command s ∷ rest) ∷ below) t d
  command_back k (return value) rest [] t d h none step = last_back k value rest t d h step
  command_back k (return value) rest (caller ∷ below) t d h none step = returns_back k value rest caller.function caller.todo below t d h step
  command_back k (call target f arguments) rest below t d h none step = absurd (cc)
  command_back k (do_while body e) rest below t d h none step = absurd (cc)
  command_back k (assign x e) rest below t d (inside, inl last, callers) none step = absurd last
  command_back k (assign x e) rest below t d (inside, inr h, callers) none step =
      let c : Shared = at (sharing k rest ∷ below) (set table k t x step.1.0) in (
        c,
        (refl, (step.1.0, own_number (table k).base t e step.1.0 step.1.1, refl)),
        arrive c d (sharing k rest ∷ below) refl step.1.2 step.0 (inside, h.1, callers),
      )
  command_back k skip rest below t d (inside, inl last, callers) none step = absurd last
  command_back k skip rest below t d (inside, inr h, callers) none step =
      let c : Shared = at (sharing k rest ∷ below) t in
      (c, (refl, refl), arrive c d (sharing k rest ∷ below) refl step.1 step.0 (inside, h.1, callers))
  command_back k break rest below t d (inside, inl last, callers) none step = absurd last
  command_back k break rest below t d (inside, inr h, callers) none step =
      let c : Shared = at (sharing k (behind_mark rest) ∷ below) t in (
        c,
        (refl, refl),
        arrive c d (sharing k (behind_mark rest) ∷ below) refl step.1 (step.0 ∙ behind_image k below rest (image table below) h.0)
            (inside, behind_stands table k (ending_in table below) rest h.0 h.1, callers),
      )
  command_back k continue rest below t d (inside, inl last, callers) none step = absurd last
  command_back k continue rest below t d (inside, inr h, callers) none step =
      let c : Shared = at (sharing k (from_mark rest) ∷ below) t in (
        c,
        (refl, refl),
        arrive c d (sharing k (from_mark rest) ∷ below) refl step.1 (step.0 ∙ from_image k below rest (image table below) h.0)
            (inside, from_stands table k (ending_in table below) rest h.0 h.1, callers),
      )
  command_back k (if_else e first second) (other ∷ rest) below t d (inside, inl last, callers) none step = absurd last
  command_back k (if_else e first second) [] below t d (inside, inl last, callers) none (inl step, same) =
      let c : Shared = at (sharing k (tasks_of first ++ []) ∷ below) t in (
        c,
        inl (own_test (table k).base t e true step.0, (refl, refl)),
        arrive c d (sharing k (tasks_of first ++ []) ∷ below) refl same (step.1 ∙ before_image k below first [])
            (inside, chosen_stands table k (ending_in table below) last.0 first last.1 last.2, callers),
      )
  command_back k (if_else e first second) [] below t d (inside, inl last, callers) none (inr step, same) =
      let c : Shared = at (sharing k (tasks_of second ++ []) ∷ below) t in (
        c,
        inr (own_test (table k).base t e false step.0, (refl, refl)),
        arrive c d (sharing k (tasks_of second ++ []) ∷ below) refl same (step.1 ∙ before_image k below second [])
            (inside, chosen_stands table k (ending_in table below) last.0 second last.1 last.3, callers),
      )
  command_back k (if_else e first second) rest below t d (inside, inr h, callers) none (inl step, same) =
      let c : Shared = at (sharing k (tasks_of first ++ rest) ∷ below) t in (
        c,
        inl (own_test (table k).base t e true step.0, (refl, refl)),
        arrive c d (sharing k (tasks_of first ++ rest) ∷ below) refl same (step.1 ∙ before_image k below first rest)
            (inside, before_tasks table k (ending_in table below) first rest h.0.0 h.1, callers),
      )
  command_back k (if_else e first second) rest below t d (inside, inr h, callers) none (inr step, same) =
      let c : Shared = at (sharing k (tasks_of second ++ rest) ∷ below) t in (
        c,
        inr (own_test (table k).base t e false step.0, (refl, refl)),
        arrive c d (sharing k (tasks_of second ++ rest) ∷ below) refl same (step.1 ∙ before_image k below second rest)
            (inside, before_tasks table k (ending_in table below) second rest h.0.1 h.1, callers),
      )
  command_back k (while_loop e body last) rest below t d (inside, inl end, callers) none step = absurd end
  command_back k (while_loop e body last) rest below t d (inside, inr h, callers) none (inl step, same) =
      let c : Shared = at (sharing k (tasks_of body ++ mark e body last ∷ rest) ∷ below) t in (
        c,
        inl (own_test (table k).base t e true step.0, (refl, refl)),
        arrive c d (sharing k (tasks_of body ++ mark e body last ∷ rest) ∷ below) refl same (step.1 ∙ before_image k below body (mark e body last ∷ rest))
            (inside, before_tasks table k (ending_in table below) body (mark e body last ∷ rest) h.0.0 (h.0.0, h.0.1, h.1), callers),
      )
  command_back k (while_loop e body last) rest below t d (inside, inr h, callers) none (inr step, same) =
      let c : Shared = at (sharing k rest ∷ below) t in (
        c,
        inr (own_test (table k).base t e false step.0, (refl, refl)),
        arrive c d (sharing k rest ∷ below) refl same step.1 (inside, h.1, callers),
      )

  tasks_back : (k : ℕ) (todo : List Task) (below : List Sharing) (t : Store) (d : Configuration)
      → FramesStand table main (sharing k todo ∷ below) → replaced table (sharing k todo ∷ below) ≡ None
      → StepsFrom (front (image table (sharing k todo ∷ below))) t d → Leads (sharing k todo ∷ below) t d
  tasks_back k [] [] t d h none step = absurd step
  tasks_back k [] (caller ∷ below) t d h none step = absurd (cc)
  tasks_back k (command s ∷ rest) below t d h none step = command_back k s rest below t d h none step
  tasks_back k (mark e body last ∷ rest) below t d h none step = absurd (cc)
  tasks_back k (pass x a ∷ rest) [] t d h none step = absurd (let no = h.1.0 in cc)
  tasks_back k (pass x a ∷ rest) (caller ∷ below) t d h none step =
      let c : Shared = at (sharing k rest ∷ caller ∷ below) (set table k t x step.1.0) in (
        c,
        (refl, (step.1.0, own_number (table caller.function).base t a step.1.0 step.1.1, refl)),
        arrive c d (sharing k rest ∷ caller ∷ below) refl step.1.2 step.0 (h.0, h.1.1, h.2),
      )
  tasks_back k (choose l ∷ rest) below t d h none step =
      let c : Shared = at (sharing k rest ∷ below) (set table k t l step.1.0) in
      (c, (refl, (step.1.0, refl)), arrive c d (sharing k rest ∷ below) refl step.1.2 step.0 (h.0, h.1.1, h.2))
  tasks_back k (take x ∷ rest) below t d h none step = absurd h.1
  tasks_back k (forget ∷ rest) below t d h none step = absurd h.1

  pub frames_back : (frames : List Sharing) (t : Store) (d : Configuration) → FramesStand table main frames → replaced table frames ≡ None
      → StepsFrom (front (image table frames)) t d → Leads frames t d
  frames_back [] t d h none step = absurd h
  frames_back (first ∷ below) t d h none step = tasks_back first.function first.todo below t d h none step

  -- ── The end ──

  pub done_ends : (frames : List Sharing) → AreDone frames → front (image table frames) ≡ []
  done_ends [] h = absurd h
  done_ends (first ∷ []) h = ap (λ todo. front (image table (sharing first.function todo ∷ []))) h
  done_ends (first ∷ second ∷ more) h = absurd h

  command_not_done : (k : ℕ) (s : Command) (rest : List Task) (below : List Sharing) → replaced table (sharing k (command s ∷ rest) ∷ below) ≡ None
      → front (image table (sharing k (command s ∷ rest) ∷ below)) ≢ []
  command_not_done k (call target f arguments) rest below none e = absurd (cc)
  command_not_done k (do_while body c) rest below none e = absurd (cc)
  command_not_done k (return value) rest [] none e = absurd (cc)
  command_not_done k (return value) rest (caller ∷ below) none e = returned (ending_in table (caller ∷ below)) value (image table (caller ∷ below)) e
    where
      returned : (ending : Ending) (value : Option Expression) (left : Todo)
          → front ((items_of (inlined (callees table k) (table k).base ending (return value)) ++ image_tasks table (callees table k) (table k).base ending (caller_base table (caller ∷ below)) rest) ++ left) ≢ []
      returned ends value left e = absurd (cc)
      returned (gives x) (Some v) left e = absurd (cc)
      returned (gives x) None left e = absurd (cc)
      returned drops value left e = absurd (cc)
  command_not_done k (assign x v) rest below none e = absurd (cc)
  command_not_done k skip rest below none e = absurd (cc)
  command_not_done k break rest below none e = absurd (cc)
  command_not_done k continue rest below none e = absurd (cc)
  command_not_done k (if_else c first second) rest below none e = absurd (cc)
  command_not_done k (while_loop c body step) rest below none e = absurd (cc)

  tasks_end : (k : ℕ) (todo : List Task) (below : List Sharing) → FramesStand table main (sharing k todo ∷ below)
      → replaced table (sharing k todo ∷ below) ≡ None → front (image table (sharing k todo ∷ below)) ≡ [] → AreDone (sharing k todo ∷ below)
  tasks_end k [] [] h none e = refl
  tasks_end k [] (caller ∷ below) h none e = absurd (cc)
  tasks_end k (command s ∷ rest) below h none e = absurd (command_not_done k s rest below none e)
  tasks_end k (mark c body step ∷ rest) below h none e = absurd (cc)
  tasks_end k (pass x a ∷ rest) below h none e = absurd (cc)
  tasks_end k (choose l ∷ rest) below h none e = absurd (cc)
  tasks_end k (take x ∷ rest) below h none e = absurd h.1
  tasks_end k (forget ∷ rest) below h none e = absurd h.1

  pub ends_done : (frames : List Sharing) → FramesStand table main frames → replaced table frames ≡ None → front (image table frames) ≡ [] → AreDone frames
  ends_done [] h none e = absurd h
  ends_done (first ∷ below) h none e = tasks_end first.function first.todo below h none e
