-- Steps keep the marks of the jumps that are still to do.
use Rattle.std.proofs.Common.{◌≡◌, false, inl, inr, [], ◌∷◌, ◌++◌, refl, sym, subst}
use Rattle.std.proofs.lemmas.List.{append-nil}
use Rattle.step_meaning.specs.Syntax.{Statement, Statements, assign, skip, return, break, continue, if_else, while_loop, do_while, empty, sequence}
use Rattle.step_meaning.specs.Outcome.{Store}
use Rattle.step_meaning.specs.Step.{Configuration, Todo, one, turn, items_of, behind_mark, from_mark, behind_body, Step, StepsFrom, front, front_of_statement, front_of_list}
use Rattle.step_meaning.specs.Valid.{IsInside, IsInsideStatement}
use Rattle.step_meaning.specs.Inside.{AreInside, has_mark}

-- statements before a list hold no mark
mark_behind : (body : Statements) (rest : Todo) → has_mark rest ≡ has_mark (items_of body ++ rest)
mark_behind empty rest = refl
mark_behind (sequence first more) rest = mark_behind more rest

before_list : (body : Statements) (rest : Todo) → IsInside (has_mark rest) body → AreInside rest → AreInside (items_of body ++ rest)
before_list empty rest h k = k
before_list (sequence first more) rest h k = (
  subst (λ within. IsInsideStatement within first) (mark_behind more rest) h.0,
  before_list more rest h.1 k,
)

mutual
  front_inside : (first : Statement) (rest : Todo) → IsInsideStatement (has_mark rest) first → AreInside rest
      → AreInside (front_of_statement first rest)
  front_inside (do_while body c) rest h k =
      list_inside body (one (while_loop c body empty) ∷ rest) (turn c body empty ∷ rest) h ((h, tt), k) (h, tt, k)
  front_inside (assign x e) rest h k = (h, k)
  front_inside skip rest h k = (h, k)
  front_inside return rest h k = (h, k)
  front_inside break rest h k = (h, k)
  front_inside continue rest h k = (h, k)
  front_inside (if_else c y n) rest h k = (h, k)
  front_inside (while_loop c b s) rest h k = (h, k)

  list_inside : (body : Statements) (ahead rest : Todo) → IsInside (has_mark rest) body → AreInside ahead → AreInside rest
      → AreInside (front_of_list body ahead rest)
  list_inside empty ahead rest h j k = j
  list_inside (sequence first more) ahead rest h j k =
      front_inside first (items_of more ++ rest) (subst (λ within. IsInsideStatement within first) (mark_behind more rest) h.0)
      (before_list more rest h.1 k)

front_keeps : (todo : Todo) → AreInside todo → AreInside (front todo)
front_keeps [] h = h
front_keeps (one first ∷ rest) h = front_inside first rest h.0 h.1
front_keeps (turn c body step ∷ rest) h =
    let again : Todo = one (while_loop c body step) ∷ rest in
    let inside : AreInside again = ((h.0, h.1), h.2) in
    list_inside step again again h.1 inside inside

behind_inside : (rest : Todo) → AreInside rest → AreInside (behind_mark rest)
behind_inside [] h = tt
behind_inside (one s ∷ rest) h = behind_inside rest h.1
behind_inside (turn c b s ∷ rest) h = h.2

from_inside : (rest : Todo) → AreInside rest → AreInside (from_mark rest)
from_inside [] h = tt
from_inside (one s ∷ rest) h = from_inside rest h.1
from_inside (turn c b s ∷ rest) h = h

keeps : (ahead : Todo) (s : Store) (d : Configuration) → AreInside ahead → StepsFrom ahead s d → AreInside d.todo
keeps [] s d h step = absurd step
keeps (one (assign x e) ∷ rest) s d h step = subst AreInside (sym step.0) h.1
keeps (one skip ∷ rest) s d h step = subst AreInside (sym step.0) h.1
keeps (one return ∷ rest) s d h step = subst AreInside (sym step.0) tt
keeps (one break ∷ rest) s d h step = subst AreInside (sym step.0) (behind_inside rest h.1)
keeps (one continue ∷ rest) s d h step = subst AreInside (sym step.0) (from_inside rest h.1)
keeps (one (if_else c y n) ∷ rest) s d h step = elim step.0 [
  | inl taken ↦ subst AreInside (sym taken.1) (before_list y rest h.0.0 h.1)
  | inr taken ↦ subst AreInside (sym taken.1) (before_list n rest h.0.1 h.1)
]
keeps (one (while_loop c b t) ∷ rest) s d h step = elim step.0 [
  | inl taken ↦ subst AreInside (sym taken.1) (before_list b (behind_body c b t rest) h.0.0 (h.0.0, h.0.1, h.1))
  | inr taken ↦ subst AreInside (sym taken.1) h.1
]
keeps (one (do_while b c) ∷ rest) s d h step = absurd step
keeps (turn c b t ∷ rest) s d h step = absurd step

pub step_keeps_jumps : (c d : Configuration) → AreInside c.todo → Step c d → AreInside d.todo
step_keeps_jumps c d h step = keeps (front c.todo) c.store d (front_keeps c.todo h) step

pub body_is_inside : (body : Statements) → IsInside false body → AreInside (items_of body)
body_is_inside body inside = subst AreInside (append-nil (items_of body)) (before_list body [] inside tt)
