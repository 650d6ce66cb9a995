-- The bodies of loops, by their labels.
use Rattle.std.specs.Prelude.{ℕ, ◌+◌, ◌==◌, if◌then◌else◌, Option, None, Some}
use Rattle.step_meaning.specs.Syntax.{Statement, Statements, assign, skip, return, break, continue, if_else, while_loop, do_while, empty, sequence, size_of, size_of_statement}

-- the labels from the first up to before the second
abbrev pub Span : Type 0
Span = ℕ × ℕ

abbrev pub either_span : Option Span → Option Span → Option Span
either_span (Some span) other = Some span
either_span None other = other

-- The labels of the body and the step of the loop whose test has this label: they follow one another. The loop stands in a statement, or
-- among statements, whose labels begin at n.
abbrev mutual
  pub body_in_statement : ℕ → Statement → ℕ → Option Span
  body_in_statement n (assign x e) head = None
  body_in_statement n skip head = None
  body_in_statement n return head = None
  body_in_statement n break head = None
  body_in_statement n continue head = None
  body_in_statement n (if_else c first second) head =
      either_span (body_in (n + 1) first head) (body_in (n + 1 + size_of first) second head)
  body_in_statement n (while_loop c body step) head =
      if head == n then Some (n + 1, n + 1 + size_of body + size_of step)
      else either_span (body_in (n + 1) body head) (body_in (n + 1 + size_of body) step head)
  body_in_statement n (do_while body c) head =
      if head == n + size_of body then Some (n, n + size_of body) else body_in n body head

  pub body_in : ℕ → Statements → ℕ → Option Span
  body_in n empty head = None
  body_in n (sequence first more) head =
      either_span (body_in_statement n first head) (body_in (n + size_of_statement first) more head)

-- the same for a program with this body
abbrev pub body_of : Statements → ℕ → Option Span
body_of body head = body_in 1 body head
