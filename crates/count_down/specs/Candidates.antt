-- Candidates: for each label of a countdown program a tree that promises the end, in the order of the labels.
use Rattle.std.specs.Prelude.{◌≡◌, ℕ, ◌+◌, pos, List, [], ◌∷◌, ◌++◌, map}
use Rattle.linear_cons.specs.declared.affine.Affine.{Affine}
use Rattle.linear_cons.specs.Functions.{constant_of, substituted}
use Rattle.decision_tree.specs.Plans.{Plan}
use Rattle.decision_tree.specs.declared.affine_rank.AffineRank.{AffineRank}
use Rattle.step_meaning.specs.declared.count.Count.{Count}
use Rattle.step_meaning.specs.declared.countdown.Countdown.{Countdown}
use Rattle.step_meaning.specs.declared.countdown.Countdown.TheVariants.{Straight, Loop}
use Rattle.step_meaning.specs.Counts.{before, none}
use Rattle.step_meaning.specs.Countdown.{IsCountdownBy, change_by, form_of}
use Rattle.step_meaning.specs.Syntax.{Statements, assign, skip, return, break, continue, if_else, while_loop, do_while, empty, sequence}
use Rattle.count_down.specs.LabelCounts.{counts_of}
use Rattle.count_down.specs.Trees.{count_tree, ended, shifted, within}

-- ---- behind the loop, or without loops

-- the function 0, which no assignment changes: only the steps count
abbrev pub nothing : Affine
nothing = constant_of (pos 0)

-- at the labels of statements behind which the program ends: the most steps of a path to the end
abbrev pub most_within : Count → Plan AffineRank
most_within c = within (constant_of (pos c.most))

abbrev pub behind : Statements → List (Plan AffineRank)
behind s = map most_within (counts_of (change_by nothing) s none)

-- ---- a loop that counts the function e down

-- 1 more than the most steps of a turn; the most steps behind the loop
abbrev pub turn_steps : Affine → Statements → Statements → ℕ
turn_steps e body step = 1 + (before (change_by e) body (before (change_by e) step none)).most

abbrev pub last_steps : Statements → ℕ
last_steps more = (before (change_by nothing) more none).most

-- at a label inside: the function will change by at most c.change up to the next test, which is at most c.most steps away
abbrev pub inside : ℕ → ℕ → Affine → Count → Plan AffineRank
inside m s e c = count_tree m s (shifted e c.change) c.most

-- at the labels of body and step
abbrev pub turn_counts : Affine → Statements → Statements → List Count
turn_counts e body step = counts_of (change_by e) body (before (change_by e) step none) ++ counts_of (change_by e) step none

abbrev pub inner : ℕ → ℕ → Affine → Statements → Statements → List (Plan AffineRank)
inner m s e body step = map (inside m s e) (turn_counts e body step)

-- at the labels of the loop and of the statements behind it
abbrev pub looping : Affine → Statements → Statements → Statements → List (Plan AffineRank)
looping e body step more =
    count_tree (turn_steps e body step) (last_steps more) e 0
    ∷ (inner (turn_steps e body step) (last_steps more) e body step ++ behind more)

-- ---- assignments, and then the loop

-- the loop's 1 more than the most steps of a turn, and the most steps behind it
abbrev pub turn_of_loop : Affine → Statements → ℕ
turn_of_loop e (sequence (assign x v) more) = turn_of_loop e more
turn_of_loop e (sequence (while_loop test body step) more) = turn_steps e body step
turn_of_loop e (sequence skip more) = 0
turn_of_loop e (sequence return more) = 0
turn_of_loop e (sequence break more) = 0
turn_of_loop e (sequence continue more) = 0
turn_of_loop e (sequence (if_else test first second) more) = 0
turn_of_loop e (sequence (do_while body test) more) = 0
turn_of_loop e empty = 0

abbrev pub last_of_loop : Statements → ℕ
last_of_loop (sequence (assign x v) more) = last_of_loop more
last_of_loop (sequence (while_loop test body step) more) = last_steps more
last_of_loop (sequence skip more) = 0
last_of_loop (sequence return more) = 0
last_of_loop (sequence break more) = 0
last_of_loop (sequence continue more) = 0
last_of_loop (sequence (if_else test first second) more) = 0
last_of_loop (sequence (do_while body test) more) = 0
last_of_loop empty = 0

-- how many assignments stand before the loop
abbrev pub steps_before : Statements → ℕ
steps_before (sequence (assign x v) more) = 1 + steps_before more
steps_before (sequence (while_loop test body step) more) = 0
steps_before (sequence skip more) = 0
steps_before (sequence return more) = 0
steps_before (sequence break more) = 0
steps_before (sequence continue more) = 0
steps_before (sequence (if_else test first second) more) = 0
steps_before (sequence (do_while body test) more) = 0
steps_before empty = 0

-- the function that has before the assignments the value that e has behind them
abbrev pub carried : Affine → Statements → Affine
carried e (sequence (assign x v) more) = substituted (carried e more) x (form_of v)
carried e (sequence (while_loop test body step) more) = e
carried e (sequence skip more) = e
carried e (sequence return more) = e
carried e (sequence break more) = e
carried e (sequence continue more) = e
carried e (sequence (if_else test first second) more) = e
carried e (sequence (do_while body test) more) = e
carried e empty = e

-- at the labels of the assignments, the loop and the statements behind it
abbrev pub counting : Affine → Statements → List (Plan AffineRank)
counting e (sequence (assign x v) more) =
    count_tree (turn_of_loop e more) (last_of_loop more) (carried e (sequence (assign x v) more)) (1 + steps_before more) ∷ counting e more
counting e (sequence (while_loop test body step) more) = looping e body step more
counting e (sequence skip more) = []
counting e (sequence return more) = []
counting e (sequence break more) = []
counting e (sequence continue more) = []
counting e (sequence (if_else test first second) more) = []
counting e (sequence (do_while body test) more) = []
counting e empty = []

-- ---- candidates, label 0 first

abbrev pub candidate_with : Affine → Statements → List (Plan AffineRank)
candidate_with e body = ended ∷ counting e body

abbrev pub candidate_without : Statements → List (Plan AffineRank)
candidate_without body = ended ∷ behind body

abbrev pub candidate_by : Countdown → Statements → List (Plan AffineRank)
candidate_by Straight body = candidate_without body
candidate_by (Loop row) body = candidate_with row.affine body

-- the trees are those of the body for a reason why it is a countdown program's: it has no loop, or its loop counts the function of a row
-- down
abbrev pub IsCandidate : List (Plan AffineRank) → Statements → Type 0
IsCandidate trees body = (countdown : Countdown) × IsCountdownBy countdown body × (trees ≡ candidate_by countdown body)
