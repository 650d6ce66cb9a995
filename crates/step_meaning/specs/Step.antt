-- Configurations and their steps: the small-step meaning of while programs.
use Rattle.std.specs.Prelude.{◌≡◌, ℤ, true, false, ◌⊎◌, List, [], ◌∷◌, ◌++◌, slice_set}
use Rattle.step_meaning.specs.Syntax.{Expression, Statement, Statements, assign, skip, return, break, continue, if_else, while_loop, do_while, empty, sequence}
use Rattle.step_meaning.specs.Outcome.{Store, May, MayTest}
use Rattle.step_meaning.specs.Systems as systems
use Rattle.step_meaning.specs.Systems.{System}

-- An item of what is still to do: a statement, or the mark of a loop whose body is being done. A mark has what the loop is: its test, its
-- body and its step.
pub data Item : Type 0 where
  one : Statement → Item
  turn : Expression → Statements → Statements → Item

-- what is still to do, first to last
abbrev pub Todo : Type 0
Todo = List Item

-- statements that are still to do, without a mark
abbrev pub items_of : Statements → Todo
items_of empty = []
items_of (sequence first more) = one first ∷ items_of more

-- what follows the first mark, which is that of the nearest loop; nothing where there is none
abbrev pub behind_mark : Todo → Todo
behind_mark [] = []
behind_mark (one s ∷ rest) = behind_mark rest
behind_mark (turn test body step ∷ rest) = rest

-- the first mark, and what follows it
abbrev pub from_mark : Todo → Todo
from_mark [] = []
from_mark (one s ∷ rest) = from_mark rest
from_mark (turn test body step ∷ rest) = turn test body step ∷ rest

-- a configuration: what is still to do, and a store
pub record Configuration : Type 0 where
  pub todo : Todo
  pub store : Store

-- what is still to do behind the body of a loop: its mark, then the rest
abbrev pub behind_body : Expression → Statements → Statements → Todo → Todo
behind_body test body step rest = turn test body step ∷ rest

-- The front of a list: a first `do B while (c);` is replaced by `B` followed by the mark of `while (c) B`, and a first mark by the step of
-- its loop followed by the loop itself, until the first item is neither. No step is taken by this. Of statements before a rest whose own
-- front is `ahead` it is that front where there are none.
abbrev mutual
  pub front_of_statement : Statement → Todo → Todo
  front_of_statement (do_while body test) rest =
      front_of_list body (one (while_loop test body empty) ∷ rest) (behind_body test body empty rest)
  front_of_statement (assign x e) rest = one (assign x e) ∷ rest
  front_of_statement skip rest = one skip ∷ rest
  front_of_statement return rest = one return ∷ rest
  front_of_statement break rest = one break ∷ rest
  front_of_statement continue rest = one continue ∷ rest
  front_of_statement (if_else test first second) rest = one (if_else test first second) ∷ rest
  front_of_statement (while_loop test body step) rest = one (while_loop test body step) ∷ rest

  pub front_of_list : Statements → Todo → Todo → Todo
  front_of_list empty ahead rest = ahead
  front_of_list (sequence first more) ahead rest = front_of_statement first (items_of more ++ rest)

abbrev pub front : Todo → Todo
front [] = []
front (one first ∷ rest) = front_of_statement first rest
front (turn test body step ∷ rest) =
    let again = one (while_loop test body step) ∷ rest in front_of_list step again again

-- what one step makes of a list that is its own front
abbrev pub StepsFrom : Todo → Store → Configuration → Type 0
StepsFrom [] s d = ⊥
StepsFrom (one (assign x e) ∷ rest) s d = (d.todo ≡ rest) × ((v : ℤ) × May e s v × (d.store ≡ slice_set s x v))
StepsFrom (one skip ∷ rest) s d = (d.todo ≡ rest) × (d.store ≡ s)
StepsFrom (one return ∷ rest) s d = (d.todo ≡ []) × (d.store ≡ s)
StepsFrom (one break ∷ rest) s d = (d.todo ≡ behind_mark rest) × (d.store ≡ s)
StepsFrom (one continue ∷ rest) s d = (d.todo ≡ from_mark rest) × (d.store ≡ s)
StepsFrom (one (if_else c first second) ∷ rest) s d =
    ((MayTest c s true × (d.todo ≡ items_of first ++ rest))
    ⊎ (MayTest c s false × (d.todo ≡ items_of second ++ rest)))
    × (d.store ≡ s)
StepsFrom (one (while_loop c body step) ∷ rest) s d =
    ((MayTest c s true × (d.todo ≡ items_of body ++ behind_body c body step rest))
    ⊎ (MayTest c s false × (d.todo ≡ rest)))
    × (d.store ≡ s)
StepsFrom (one (do_while body c) ∷ rest) s d = ⊥
StepsFrom (turn c body step ∷ rest) s d = ⊥

-- one step leads from `c` to `d`
abbrev pub Step : Configuration → Configuration → Type 0
Step c d = StepsFrom (front c.todo) c.store d

-- nothing is left to do
abbrev pub IsFinal : Configuration → Type 0
IsFinal c = front c.todo ≡ []

-- programs as transition systems
abbrev pub programs : System
programs = record { State = Configuration; Step = Step; IsFinal = IsFinal; store = λ c. c.store }

-- What follows has no part in the headline.

-- the successor relation in which a final configuration has itself as its only successor, so that each has one
abbrev pub Next : Configuration → Configuration → Type 0
Next c d = systems.Next programs c d
