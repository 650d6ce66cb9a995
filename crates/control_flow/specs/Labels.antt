-- The labels of a program. Label 0 is the end; each statement has one of the labels from 1 on, in the order of the tree: a statement
-- stands before its parts, the first part of an `if` before the second, a body before its step. Only the label of a `do` loop, which is
-- that of its test, stands behind its body.
use Rattle.std.specs.Prelude.{ℕ, ◌+◌, Bool, true, false, List, [], ◌∷◌, ◌++◌, slice_index_or}
use Rattle.step_meaning.specs.Syntax.{Expression, Statement, Statements, assign, skip, return, break, continue, if_else, while_loop, do_while, empty, sequence, size_of, size_of_statement}
use Rattle.step_meaning.specs.Step.{Todo, one, items_of, behind_body}

-- What is done at a label, and which labels follow: nothing at the end; an assignment; a step that changes no store; a test, of a loop
-- or not, with the labels for its outcomes true and false.
pub data Action : Type 0 where
  ends : Action
  assigns : ℕ → Expression → ℕ → Action
  passes : ℕ → Action
  tests : Bool → Expression → ℕ → ℕ → Action

-- a label: what is still to be done there, and what is done first; the first statement is no `do`
pub record Label : Type 0 where
  pub todo : Todo
  pub action : Action

-- where a `break` and a `continue` lead: the label behind the nearest loop, and that of its mark, where its step is entered
pub record Jumps : Type 0 where
  pub out : ℕ
  pub mark : ℕ

-- the label of what is done first, of a statement whose labels begin at n, and of a list of them which the label `after` follows
abbrev mutual
  pub first_label : ℕ → Statement → ℕ
  first_label n (assign x e) = n
  first_label n skip = n
  first_label n return = n
  first_label n break = n
  first_label n continue = n
  first_label n (if_else c yes_part no_part) = n
  first_label n (while_loop c body step) = n
  first_label n (do_while body c) = entry_label n (n + size_of body) body

  pub entry_label : ℕ → ℕ → Statements → ℕ
  entry_label n after empty = after
  entry_label n after (sequence first more) = first_label n first

-- where jumps lead from what is in no loop, and from the body of a loop that the label `after` follows and whose mark has the label `mark`
abbrev pub stray : Jumps
stray = record { out = 0; mark = 0 }

abbrev pub inside : ℕ → ℕ → Jumps
inside after mark = record { out = after; mark = mark }

-- the labels, from n on, of a statement and of a list of them, which the label `after` with the items `rest` follows, and from which jumps lead
-- to these labels
abbrev mutual
  pub labels_of_statement : ℕ → ℕ → Jumps → Todo → Statement → List Label
  labels_of_statement n after jumps rest (assign x e) = record { todo = one (assign x e) ∷ rest; action = assigns x e after } ∷ []
  labels_of_statement n after jumps rest skip = record { todo = one skip ∷ rest; action = passes after } ∷ []
  labels_of_statement n after jumps rest return = record { todo = one return ∷ rest; action = passes 0 } ∷ []
  labels_of_statement n after jumps rest break = record { todo = one break ∷ rest; action = passes jumps.out } ∷ []
  labels_of_statement n after jumps rest continue = record { todo = one continue ∷ rest; action = passes jumps.mark } ∷ []
  labels_of_statement n after jumps rest (if_else c yes_part no_part) =
      record {
        todo = one (if_else c yes_part no_part) ∷ rest;
        action = tests false c (entry_label (n + 1) after yes_part) (entry_label (n + 1 + size_of yes_part) after no_part);
      }
      ∷ (labels_of (n + 1) after jumps rest yes_part ++ labels_of (n + 1 + size_of yes_part) after jumps rest no_part)
  labels_of_statement n after jumps rest (while_loop c body step) =
      let turn : ℕ = entry_label (n + 1 + size_of body) n step in
      record {
        todo = one (while_loop c body step) ∷ rest;
        action = tests true c (entry_label (n + 1) turn body) after;
      }
      ∷ (labels_of (n + 1) turn (inside after turn) (behind_body c body step rest) body
      ++ labels_of (n + 1 + size_of body) n jumps (one (while_loop c body step) ∷ rest) step)
  labels_of_statement n after jumps rest (do_while body c) =
      labels_of n (n + size_of body) (inside after (n + size_of body)) (behind_body c body empty rest) body
      ++ (record { todo = one (while_loop c body empty) ∷ rest; action = tests true c (entry_label n (n + size_of body) body) after } ∷ [])

  pub labels_of : ℕ → ℕ → Jumps → Todo → Statements → List Label
  labels_of n after jumps rest empty = []
  labels_of n after jumps rest (sequence first more) =
      labels_of_statement n (entry_label (n + size_of_statement first) after more) jumps (items_of more ++ rest) first
      ++ labels_of (n + size_of_statement first) after jumps rest more

-- the label 0
abbrev pub end : Label
end = record { todo = []; action = ends }

-- all labels of a program with this body, and the one that is entered
abbrev pub all_labels : Statements → List Label
all_labels body = end ∷ labels_of 1 0 stray [] body

abbrev pub entry_of : Statements → ℕ
entry_of body = entry_label 1 0 body

-- the label of this number, what is still to be done there, and what is done there
abbrev pub label_at : Statements → ℕ → Label
label_at body l = slice_index_or (all_labels body) l end

abbrev pub rest : Statements → ℕ → Todo
rest body l = (label_at body l).todo

abbrev pub action_at : Statements → ℕ → Action
action_at body l = (label_at body l).action
