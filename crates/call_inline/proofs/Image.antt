-- What frames have still to do, as the program without calls has it.
use Rattle.std.proofs.Common.{◌≡◌, ℕ, zero, suc, ◌+◌, ◌<◌, ◌≢◌, List, [], ◌∷◌, ◌++◌, inl, inr, refl, sym, ap, ◌∙◌, append_assoc, arith}
use Rattle.std.proofs.lemmas.Bool.Decides.{eqb_tells}
use Rattle.step_meaning.specs.Syntax.{Expression, Statements}
use Rattle.step_meaning.specs.Syntax as syntax
use Rattle.step_meaning.specs.Step.{Todo, one, turn, items_of, front, front_of_list}
use Rattle.call_meaning.specs.Units.{Commands, empty, sequence, Table}
use Rattle.call_inline.specs.Moved.{moved}
use Rattle.call_inline.specs.Inlined.{followed, Ending, ends, gives, drops, Callee, passed, freed, all_moved, inlined, all_inlined, put, callees}
use Rattle.call_meaning.specs.Frames.{Task, command, mark, pass, choose, take, forget, tasks_of, passes, choices}
use Rattle.call_inline.proofs.OneStore.{Sharing}

pub items_followed : (a b : Statements) (rest : Todo) → items_of (followed a b) ++ rest ≡ items_of a ++ (items_of b ++ rest)
items_followed syntax.empty b rest = refl
items_followed (syntax.sequence first more) b rest = ap (λ xs. one first ∷ xs) (items_followed more b rest)

-- what a call of a function below `n` becomes
pub callee_known : (table : Table) (n f : ℕ) → f < n → callees table n f ≡ put (callees table f) (table f)
callee_known table zero f below = absurd (omega arith)
callee_known table (suc n) f below = elim (eqb_tells f n) [
  | inl same ↦ rw same.0 (ap (λ k. put (callees table k) (table k)) (sym same.1))
  | inr other ↦ rw other.0 (let apart : f ≢ n = other.1 in callee_known table n f (omega arith))
]

abbrev pub ending_at : ℕ → List Task → Ending
ending_at base (take x ∷ rest) = gives (base + x)
ending_at base _ = drops

module _ (table : Table) where
  -- what a `return` of a frame does, by the frames below it, and where the variables of its caller stand
  abbrev pub ending_in : List Sharing → Ending
  ending_in [] = ends
  ending_in (caller ∷ below) = ending_at (table caller.function).base caller.todo

  abbrev pub caller_base : List Sharing → ℕ
  caller_base [] = 0
  caller_base (caller ∷ below) = (table caller.function).base

  module _ (callee : ℕ → Callee) (base : ℕ) (ending : Ending) (caller : ℕ) where
    abbrev pub image_tasks : List Task → Todo
    image_tasks [] = []
    image_tasks (command s ∷ rest) = items_of (inlined callee base ending s) ++ image_tasks rest
    image_tasks (mark c body step ∷ rest) =
        turn (moved base c) (all_inlined callee base ending body) (all_inlined callee base ending step) ∷ image_tasks rest
    image_tasks (pass x a ∷ rest) = one (syntax.assign (base + x) (moved caller a)) ∷ image_tasks rest
    image_tasks (choose l ∷ rest) = one (syntax.assign (base + l) syntax.free) ∷ image_tasks rest
    image_tasks (take x ∷ rest) = image_tasks rest
    image_tasks (forget ∷ rest) = image_tasks rest

    pub image_body : (body : Commands) (rest : List Task)
        → image_tasks (tasks_of body ++ rest) ≡ items_of (all_inlined callee base ending body) ++ image_tasks rest
    image_body empty rest = refl
    image_body (sequence first more) rest =
        ap (λ xs. items_of (inlined callee base ending first) ++ xs) (image_body more rest)
        ∙ sym (items_followed (inlined callee base ending first) (all_inlined callee base ending more) (image_tasks rest))

    pub image_choices : (free : List ℕ) (rest : List Task) → image_tasks (choices free ++ rest) ≡ items_of (freed base free) ++ image_tasks rest
    image_choices [] rest = refl
    image_choices (l ∷ more) rest = ap (λ xs. one (syntax.assign (base + l) syntax.free) ∷ xs) (image_choices more rest)

    pub image_passes : (x place : ℕ) (arguments : List Expression) (rest : List Task) → place ≡ base + x
        → image_tasks (passes x arguments ++ rest) ≡ items_of (passed place (all_moved caller arguments)) ++ image_tasks rest
    image_passes x place [] rest same = refl
    image_passes x place (a ∷ more) rest same =
        ap (λ at. one (syntax.assign at (moved caller a)) ∷ image_tasks (passes (x + 1) more ++ rest)) (sym same)
        ∙ ap (λ xs. one (syntax.assign place (moved caller a)) ∷ xs) (image_passes (x + 1) (place + 1) more rest (omega arith))

    -- what an expanded list has, with what stands behind it
    pub image_append : (some rest : List Task) → image_tasks (some ++ rest) ≡ image_tasks some ++ image_tasks rest
    image_append [] rest = refl
    image_append (command s ∷ more) rest =
        ap (λ xs. items_of (inlined callee base ending s) ++ xs) (image_append more rest)
        ∙ sym (append_assoc (items_of (inlined callee base ending s)) (image_tasks more) (image_tasks rest))
    image_append (mark c body step ∷ more) rest = ap (λ xs. turn (moved base c) (all_inlined callee base ending body) (all_inlined callee base ending step) ∷ xs) (image_append more rest)
    image_append (pass x a ∷ more) rest = ap (λ xs. one (syntax.assign (base + x) (moved caller a)) ∷ xs) (image_append more rest)
    image_append (choose l ∷ more) rest = ap (λ xs. one (syntax.assign (base + l) syntax.free) ∷ xs) (image_append more rest)
    image_append (take x ∷ more) rest = image_append more rest
    image_append (forget ∷ more) rest = image_append more rest

  abbrev pub image_frame : Sharing → List Sharing → Todo
  image_frame first below =
      image_tasks (callees table first.function) (table first.function).base (ending_in below) (caller_base below) first.todo

  abbrev pub image : List Sharing → Todo
  image [] = []
  image (first ∷ below) = image_frame first below ++ image below

-- the front of a list of statements before a rest
pub front_list : (s : Statements) (ahead behind_it : Todo) → front behind_it ≡ ahead → front_of_list s ahead behind_it ≡ front (items_of s ++ behind_it)
front_list syntax.empty ahead behind_it same = sym same
front_list (syntax.sequence first more) ahead behind_it same = refl
