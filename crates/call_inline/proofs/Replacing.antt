-- What is replaced or removed without a step has the same front in the program without calls.
use Rattle.std.proofs.Common.{◌≡◌, ℕ, ◌+◌, ◌<◌, Option, None, Some, List, [], ◌∷◌, ◌++◌, inl, inr, refl, sym, ap, ◌∙◌, subst, append_assoc, append-nil, arith}
use Rattle.step_meaning.specs.Syntax.{Expression, Statements}
use Rattle.step_meaning.specs.Syntax as syntax
use Rattle.step_meaning.specs.Step.{Todo, one, turn, items_of, front}
use Rattle.call_meaning.specs.Units.{Command, assign, call, skip, return, break, continue, if_else, while_loop, do_while, empty, Table}
use Rattle.call_inline.specs.Moved.{moved}
use Rattle.call_inline.specs.Inlined.{followed, Ending, ending_of, Callee, passed, freed, all_moved, all_inlined, put, callees}
use Rattle.call_meaning.specs.Frames.{Task, command, mark, pass, choose, take, forget, tasks_of, choices, entered, awaited, behind_first}
use Rattle.call_inline.proofs.OneStore.{Sharing, sharing, replaced, replaced_tasks, replaced_command, Settles, settled, replacing}
use Rattle.call_meaning.specs.Validity.{AreRoutines}
use Rattle.call_inline.proofs.Image.{items_followed, callee_known, ending_at, ending_in, caller_base, image_tasks, image_body, image_choices, image_passes, image, front_list}
use Rattle.call_inline.proofs.Standing.{FramesStand, before_tasks, entered_stands, asked, caller_stands}

pub injected : {A : Type 0} {a b : A} → Some a ≡ Some b → a ≡ b
injected {A} {a} e = ap (λ o. elim o as (λ _. A) [ Some x ↦ x | None ↦ a ]) e

items_joined : (a b : Statements) → items_of (followed a b) ≡ items_of a ++ items_of b
items_joined a b = sym (append-nil (items_of (followed a b))) ∙ items_followed a b [] ∙ ap (λ xs. items_of a ++ xs) (append-nil (items_of b))

module _ (table : Table) (main : ℕ) (routines : AreRoutines table main) where
  -- the frame of a call has to do what the call becomes
  entered_image : (f : ℕ) (callee : ℕ → Callee) (target : Option ℕ) (caller : ℕ) (arguments : List Expression)
      → image_tasks table callee (table f).base (ending_of target) caller (entered (table f) arguments)
      ≡ items_of (put callee (table f) target (all_moved caller arguments))
  entered_image f callee target caller arguments =
      let base : ℕ = (table f).base in
      let ending : Ending = ending_of target in
      let body : Statements = all_inlined callee base ending (table f).body in
      let freeing : Statements = freed base (table f).free in
      let bodies = sym (append-nil (image_tasks table callee base ending caller (tasks_of (table f).body))) in
      let first = image_passes table callee base ending caller 0 base arguments (choices (table f).free ++ tasks_of (table f).body) (omega arith) in
      let second = image_choices table callee base ending caller (table f).free (tasks_of (table f).body) in
      let third = ap (image_tasks table callee base ending caller) (sym (append-nil (tasks_of (table f).body)))
      ∙ image_body table callee base ending caller (table f).body [] ∙ append-nil (items_of body) in
      first
      ∙ ap (λ xs. items_of (passed base (all_moved caller arguments)) ++ xs) (second ∙ ap (λ xs. items_of freeing ++ xs) third ∙ sym (items_joined freeing body))
      ∙ sym (items_joined (passed base (all_moved caller arguments)) (followed freeing body))

  call_image : (k f : ℕ) (target : Option ℕ) (arguments : List Expression) (rest : List Task) (below : List Sharing) → f < k
      → image table (sharing k (command (call target f arguments) ∷ rest) ∷ below)
      ≡ image table (sharing f (entered (table f) arguments) ∷ sharing k (awaited target ∷ rest) ∷ below)
  call_image k f (Some x) arguments rest below lower =
      let base : ℕ = (table k).base in
      let ahead : Todo = image_tasks table (callees table k) base (ending_in table below) (caller_base table below) rest in
      let made = ap (λ (callee : Callee). items_of (callee (Some (base + x)) (all_moved base arguments))) (callee_known table k f lower)
      ∙ sym (entered_image f (callees table f) (Some (base + x)) base arguments) in
      append_assoc (items_of (callees table k f (Some (base + x)) (all_moved base arguments))) ahead (image table below)
      ∙ ap (λ xs. xs ++ (ahead ++ image table below)) made
  call_image k f None arguments rest below lower =
      let base : ℕ = (table k).base in
      let ahead : Todo = image_tasks table (callees table k) base (ending_in table below) (caller_base table below) rest in
      let made = ap (λ (callee : Callee). items_of (callee None (all_moved base arguments))) (callee_known table k f lower)
      ∙ sym (entered_image f (callees table f) None base arguments) in
      append_assoc (items_of (callees table k f None (all_moved base arguments))) ahead (image table below)
      ∙ ap (λ xs. xs ++ (ahead ++ image table below)) made

  -- the frames still stand, and their fronts are the same
  abbrev pub Keeps : List Sharing → List Sharing → Type 0
  Keeps frames after = FramesStand table main after × (front (image table frames) ≡ front (image table after))

  command_keeps : (k : ℕ) (s : Command) (rest : List Task) (below after : List Sharing) → FramesStand table main (sharing k (command s ∷ rest) ∷ below)
      → replaced_command table k s rest below ≡ Some after → Keeps (sharing k (command s ∷ rest) ∷ below) after
  command_keeps k (call target f arguments) rest below after (inside, inl last, callers) e = absurd last
  command_keeps k (call target f arguments) rest below after (inside, inr h, callers) e =
      let lower : f < k = h.0.0 in
      subst (Keeps (sharing k (command (call target f arguments) ∷ rest) ∷ below)) (injected e) (
        (
          omega arith,
          entered_stands table main routines f (ending_at (table k).base (awaited target ∷ rest)) arguments (omega arith)
              (asked table (table k).base target rest (table f).valued h.0.1),
          (inside, caller_stands table k (ending_in table below) target rest h.1, callers),
        ),
        ap front (call_image k f target arguments rest below lower),
      )
  command_keeps k (do_while body c) rest below after (inside, inl last, callers) e = absurd last
  command_keeps k (do_while body c) rest below after (inside, inr h, callers) e =
      let base : ℕ = (table k).base in
      let ending : Ending = ending_in table below in
      let caller : ℕ = caller_base table below in
      let body' : Statements = all_inlined (callees table k) base ending body in
      let ahead : Todo = image_tasks table (callees table k) base ending caller rest in
      let behind : Todo = turn (moved base c) body' syntax.empty ∷ (ahead ++ image table below) in
      let again : Todo = one (syntax.while_loop (moved base c) body' syntax.empty) ∷ (ahead ++ image table below) in
      let same = ap (λ xs. xs ++ image table below) (image_body table (callees table k) base ending caller body (mark c body empty ∷ rest))
      ∙ append_assoc (items_of body') (turn (moved base c) body' syntax.empty ∷ ahead) (image table below) in
      subst (Keeps (sharing k (command (do_while body c) ∷ rest) ∷ below)) (injected e) (
        (inside, before_tasks table k ending body (mark c body empty ∷ rest) h.0 (h.0, tt, h.1), callers),
        front_list body' again behind refl ∙ ap front (sym same),
      )
  command_keeps k (assign x e) rest below after h none = absurd (cc)
  command_keeps k skip rest below after h none = absurd (cc)
  command_keeps k (return value) rest below after h none = absurd (cc)
  command_keeps k break rest below after h none = absurd (cc)
  command_keeps k continue rest below after h none = absurd (cc)
  command_keeps k (if_else c first second) rest below after h none = absurd (cc)
  command_keeps k (while_loop c body step) rest below after h none = absurd (cc)

  removed_keeps : (k j : ℕ) (todo : List Task) (below after : List Sharing) → FramesStand table main (sharing k [] ∷ sharing j todo ∷ below)
      → Some (sharing j (behind_first todo) ∷ below) ≡ Some after → Keeps (sharing k [] ∷ sharing j todo ∷ below) after
  removed_keeps k j [] below after h e = absurd h.2.1
  removed_keeps k j (take x ∷ rest) below after h e = absurd h.1
  removed_keeps k j (forget ∷ rest) below after h e =
      subst (Keeps (sharing k [] ∷ sharing j (forget ∷ rest) ∷ below)) (injected e) ((h.2.0, h.2.1, h.2.2), refl)
  removed_keeps k j (command s ∷ rest) below after h e = absurd h.2.1
  removed_keeps k j (mark c body step ∷ rest) below after h e = absurd h.2.1
  removed_keeps k j (pass x a ∷ rest) below after h e = absurd h.2.1
  removed_keeps k j (choose l ∷ rest) below after h e = absurd h.2.1

  tasks_keep : (k : ℕ) (todo : List Task) (below after : List Sharing) → FramesStand table main (sharing k todo ∷ below)
      → replaced_tasks table k todo below ≡ Some after → Keeps (sharing k todo ∷ below) after
  tasks_keep k [] [] after h none = absurd (cc)
  tasks_keep k [] (caller ∷ below) after h e = removed_keeps k caller.function caller.todo below after h e
  tasks_keep k (command s ∷ rest) below after h e = command_keeps k s rest below after h e
  tasks_keep k (mark c body step ∷ rest) below after h e =
      let base : ℕ = (table k).base in
      let ending : Ending = ending_in table below in
      let caller : ℕ = caller_base table below in
      let body' : Statements = all_inlined (callees table k) base ending body in
      let step' : Statements = all_inlined (callees table k) base ending step in
      let ahead : Todo = image_tasks table (callees table k) base ending caller rest in
      let loop : Todo = one (syntax.while_loop (moved base c) body' step') ∷ (ahead ++ image table below) in
      let same = ap (λ xs. xs ++ image table below) (image_body table (callees table k) base ending caller step (command (while_loop c body step) ∷ rest))
      ∙ append_assoc (items_of step') (one (syntax.while_loop (moved base c) body' step') ∷ ahead) (image table below) in
      subst (Keeps (sharing k (mark c body step ∷ rest) ∷ below)) (injected e) (
        (h.0, before_tasks table k ending step (command (while_loop c body step) ∷ rest) h.1.1 (inr ((h.1.0, h.1.1), h.1.2)), h.2),
        front_list step' loop loop refl ∙ ap front (sym same),
      )
  tasks_keep k (pass x a ∷ rest) below after h none = absurd (cc)
  tasks_keep k (choose l ∷ rest) below after h none = absurd (cc)
  tasks_keep k (take x ∷ rest) below after h none = absurd (cc)
  tasks_keep k (forget ∷ rest) below after h none = absurd (cc)

  pub replaced_keeps : (frames after : List Sharing) → FramesStand table main frames → replaced table frames ≡ Some after → Keeps frames after
  replaced_keeps [] after h e = absurd h
  replaced_keeps (first ∷ below) after h e = tasks_keep first.function first.todo below after h e

  pub settled_keeps : (frames after : List Sharing) → FramesStand table main frames → Settles table frames after
      → Keeps frames after × (replaced table after ≡ None)
  settled_keeps frames after h (settled none) = ((h, refl), none)
  settled_keeps frames after h (replacing {more = more} e rest) =
      let one_step = replaced_keeps frames more h e in
      let behind = settled_keeps more after one_step.0 rest in
      ((behind.0.0, one_step.1 ∙ behind.0.1), behind.1)
