-- What is known while a candidate is built.
use Rattle.std.specs.Prelude.{ℕ, ◌+◌, ◌^◌, ◌≤◌, ◌<◌, List, map, ⊤}
use Rattle.linear_cons.specs.declared.affine.Affine.{Affine}
use Rattle.linear_cons.specs.declared.row.Row.{Row}
use Rattle.linear_cons.specs.Functions.{SubstitutionFits, substituted}
use Rattle.linear_cons.specs.Sizes.{SizesAtMost}
use Rattle.decision_tree.specs.Plans.{Plan, plan_of}
use Rattle.decision_tree.specs.declared.affine_rank.AffineRank.{AffineRank}
use Rattle.decision_tree.specs.declared.tree.Tree.{Tree}
use Rattle.step_meaning.specs.declared.count.Count.{Count}
use Rattle.step_meaning.specs.declared.countdown.Countdown.{Countdown}
use Rattle.step_meaning.specs.declared.countdown.Countdown.TheVariants.{Straight, Loop}
use Rattle.step_meaning.specs.Syntax.{Expression, Statement, Statements, assign, skip, return, break, continue, if_else, while_loop, do_while, empty, sequence}
use Rattle.step_meaning.specs.AffineExpressions.{ExpressionFits, IsAffine}
use Rattle.step_meaning.specs.Countdown.{CountsFrom, form_of}
use Rattle.step_meaning.specs.Turns.{IsModerate, MayAssign}
use Rattle.step_meaning.specs.Valid.{IsBody}
use Rattle.count_down.specs.Candidates.{behind, carried, counting, last_of_loop, last_steps, steps_before, turn_of_loop, turn_steps}
use Rattle.count_down.specs.Trees.{count_tree}
use Rattle.count_down.specs.declared.loop_trees.Lead.{Lead}
use Rattle.count_down.specs.declared.loop_trees.Lengths.{Lengths}

-- the statements have no loop, and the change that each assignment makes to the function is known
abbrev mutual
  pub IsMeasured : Affine → Statement → Type 0
  IsMeasured e (assign x v) = MayAssign e x v
  IsMeasured e skip = ⊤
  IsMeasured e return = ⊤
  IsMeasured e break = ⊤
  IsMeasured e continue = ⊤
  IsMeasured e (if_else test first second) = AreMeasured e first × AreMeasured e second
  IsMeasured e (while_loop test body step) = ⊥
  IsMeasured e (do_while body test) = ⊥

  pub AreMeasured : Affine → Statements → Type 0
  AreMeasured e empty = ⊤
  AreMeasured e (sequence first more) = IsMeasured e first × AreMeasured e more

-- a count of at most n steps
pub record IsFew (n : ℕ) (c : Count) : Type 0 where
  pub most : c.most ≤ n
  pub moderate : IsModerate c

-- each number is at most 2^91 in size
abbrev pub IsModest : Affine → Type 0
IsModest e = SizesAtMost (2 ^ 91) e

-- the row's loop counts down behind such assignments, to at most 15 variables
pub record IsLed (row : Row) (body : Statements) : Type 0 where
  pub vars : ℕ
  pub few : vars ≤ 15
  pub sorted : IsBody vars body
  pub product : ℕ
  pub some : 0 < product
  pub small : product ≤ 2 ^ 60
  pub counts : CountsFrom row product body

-- the plans of a list of trees
abbrev pub plans : List (Tree AffineRank) → List (Plan AffineRank)
plans trees = map plan_of trees

-- the steps of a loop, and what stands before statements that lead to it
abbrev pub lengths_of : Affine → Statements → Statements → Statements → Lengths
lengths_of e body step more = record { turn = turn_steps e body step; last = last_steps more }

abbrev pub lead_of : Affine → Statements → Lead
lead_of e s = record { function = carried e s; steps = steps_before s; lengths = record { turn = turn_of_loop e s; last = last_of_loop s } }

-- what stands before an assignment in front
abbrev pub lead_before : Lead → ℕ → Expression → Lead
lead_before behind x v = record { function = substituted behind.function x (form_of v); steps = 1 + behind.steps; lengths = behind.lengths }

-- the tree at the label of the first of these statements
abbrev pub tree_of : Lead → Plan AffineRank
tree_of lead = count_tree lead.lengths.turn lead.lengths.last lead.function lead.steps

-- each is at most 1,024
pub record AreShort (lengths : Lengths) : Type 0 where
  pub turn : lengths.turn ≤ 1024
  pub last : lengths.last ≤ 1024

-- an affine value whose numbers fit may be put in for a variable of a store
pub record IsCarried (e : Affine) (x : ℕ) (v : Expression) : Type 0 where
  pub place : x < 16
  pub affine : IsAffine v
  pub fits : ExpressionFits v
  pub put_in : SubstitutionFits e x (form_of v)

-- the trees at the labels but label 0
abbrev pub trees_by : Countdown → Statements → List (Plan AffineRank)
trees_by Straight body = behind body
trees_by (Loop row) body = counting row.affine body
