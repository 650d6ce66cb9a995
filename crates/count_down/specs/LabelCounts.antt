-- The counts at the labels of statements without loops, in the order of the labels.
use Rattle.std.specs.Prelude.{ℕ, ℤ, List, [], ◌∷◌, ◌++◌}
use Rattle.step_meaning.specs.declared.count.Count.{Count}
use Rattle.step_meaning.specs.Counts.{before, before_statement}
use Rattle.step_meaning.specs.Syntax.{Expression, Statement, Statements, assign, skip, return, break, continue, if_else, while_loop, do_while, empty, sequence}

-- of a statement, and of statements, which `c` follows; `by` is the change that an assignment makes. A statement stands before its parts,
-- the first part of an `if` before the second. Loops aren't counted.
module _ (by : ℕ → Expression → ℤ) where
  abbrev mutual
    pub counts_of_statement : Statement → Count → List Count
    counts_of_statement (assign x v) c = before_statement by (assign x v) c ∷ []
    counts_of_statement skip c = before_statement by skip c ∷ []
    counts_of_statement return c = before_statement by return c ∷ []
    counts_of_statement break c = before_statement by break c ∷ []
    counts_of_statement continue c = before_statement by continue c ∷ []
    counts_of_statement (if_else test first second) c = before_statement by (if_else test first second) c ∷ (counts_of first c ++ counts_of second c)
    counts_of_statement (while_loop test body step) c = []
    counts_of_statement (do_while body test) c = []

    pub counts_of : Statements → Count → List Count
    counts_of empty c = []
    counts_of (sequence first more) c = counts_of_statement first (before by more c) ++ counts_of more c
