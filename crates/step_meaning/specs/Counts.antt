-- Paths through statements without loops: the most steps that one takes to what follows them, and the greatest sum of changes along one.
use Rattle.std.specs.Prelude.{ℕ, ◌+◌, max, ℤ, pos, ◌+ℤ◌, ⊤}
use Rattle.std.specs.Int.{int_max}
use Rattle.step_meaning.specs.declared.count.Count.{Count}
use Rattle.step_meaning.specs.Syntax.{Expression, Statement, Statements, assign, skip, return, break, continue, if_else, while_loop, do_while, empty, sequence}

-- no loop stands among the statements, inner ones included
abbrev mutual
  pub IsLoopFree : Statement → Type 0
  IsLoopFree (assign x v) = ⊤
  IsLoopFree skip = ⊤
  IsLoopFree return = ⊤
  IsLoopFree break = ⊤
  IsLoopFree continue = ⊤
  IsLoopFree (if_else test first second) = HasNoLoop first × HasNoLoop second
  IsLoopFree (while_loop test body step) = ⊥
  IsLoopFree (do_while body test) = ⊥

  pub HasNoLoop : Statements → Type 0
  HasNoLoop empty = ⊤
  HasNoLoop (sequence first more) = IsLoopFree first × HasNoLoop more

-- no step and no change
abbrev pub none : Count
none = record { most = 0; change = pos 0 }

-- a step that makes the change, and then what the count says
abbrev pub step_by : ℤ → Count → Count
step_by z c = record { most = 1 + c.most; change = z +ℤ c.change }

-- a step to one of two places
abbrev pub either_of : Count → Count → Count
either_of c d = record { most = 1 + max c.most d.most; change = int_max c.change d.change }

-- From before a statement, and from before statements, to what follows them, from where `c` counts on; `by` is the change that an
-- assignment makes. A `return` leaves out what follows, and so do a `break` and a `continue` in no loop. Loops aren't counted.
module _ (by : ℕ → Expression → ℤ) where
  abbrev mutual
    pub before_statement : Statement → Count → Count
    before_statement (assign x v) c = step_by (by x v) c
    before_statement skip c = step_by (pos 0) c
    before_statement return c = step_by (pos 0) none
    before_statement break c = step_by (pos 0) none
    before_statement continue c = step_by (pos 0) none
    before_statement (if_else test first second) c = either_of (before first c) (before second c)
    before_statement (while_loop test body step) c = c
    before_statement (do_while body test) c = c

    pub before : Statements → Count → Count
    before empty c = c
    before (sequence first more) c = before_statement first (before more c)
