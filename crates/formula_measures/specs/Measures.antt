-- How many nodes the trees of a formula's parts may have in a program without loops, and how large the numbers in their rows may be: by the
-- program and the formula alone.
use Rattle.std.specs.Prelude.{ℕ, zero, suc, ◌+◌, ◌*◌, ◌^◌, ◌≤◌, max, length}
use Rattle.step_meaning.specs.Syntax.{Statements}
use Rattle.control_flow.specs.Growth.{factor_at, greatest_of_tests, greatest_number, product_below}
use Rattle.control_flow.specs.Labels.{action_at, all_labels}
use Rattle.control_flow.specs.Measures.{greatest_below, size_before}
use Rattle.ctl_formula.specs.Formulas.{Ctl, truth, falsity, exit, not_exit, always, never, least, negation, both, either, next, until, weak}

-- An until or weak until, by the sizes of what is to be kept and of the goal: at the end both; elsewhere also what stands before a step, where
-- `depth` bounds the steps to the end.
abbrev pub until_size : Statements → (ℕ → ℕ) → (ℕ → ℕ) → ℕ → ℕ → ℕ
until_size body keep goal depth zero = 4 * (keep 0 * goal 0)
until_size body keep goal zero (suc l) = 0
until_size body keep goal (suc depth) (suc l) =
    16 * (keep (suc l) * goal (suc l) * size_before (until_size body keep goal depth) (action_at body (suc l)))

-- a next: at the end the part, elsewhere what stands before a step
abbrev pub next_size : Statements → (ℕ → ℕ) → ℕ → ℕ
next_size body part zero = part 0
next_size body part (suc l) = size_before part (action_at body (suc l))

-- the part's size at a label: 5 for an atom, 1 for the truth, falsity, the end and its negation
abbrev pub part_size : Statements → Ctl → ℕ → ℕ
part_size body truth label = 1
part_size body falsity label = 1
part_size body exit label = 1
part_size body not_exit label = 1
part_size body always label = 5
part_size body never label = 5
part_size body (least a) label = 5
part_size body (negation f) label = 0
part_size body (both f g) label = 4 * (part_size body f label * part_size body g label)
part_size body (either f g) label = 4 * (part_size body f label * part_size body g label)
part_size body (next all f) label = next_size body (part_size body f) label
part_size body (until all f g) label = until_size body (part_size body f) (part_size body g) (length (all_labels body)) label
part_size body (weak all f g) label = until_size body (part_size body f) (part_size body g) (length (all_labels body)) label

-- the greatest size of the formula at a label, and the greatest of a part of it
abbrev pub greatest_own : Statements → Ctl → ℕ
greatest_own body f = greatest_below (part_size body f) (length (all_labels body))

abbrev pub greatest_part : Statements → Ctl → ℕ
greatest_part body (negation f) = max (greatest_own body (negation f)) (greatest_part body f)
greatest_part body (both f g) = max (greatest_own body (both f g)) (max (greatest_part body f) (greatest_part body g))
greatest_part body (either f g) = max (greatest_own body (either f g)) (max (greatest_part body f) (greatest_part body g))
greatest_part body (next all f) = max (greatest_own body (next all f)) (greatest_part body f)
greatest_part body (until all f g) = max (greatest_own body (until all f g)) (max (greatest_part body f) (greatest_part body g))
greatest_part body (weak all f g) = max (greatest_own body (weak all f g)) (max (greatest_part body f) (greatest_part body g))
greatest_part body truth = greatest_own body truth
greatest_part body falsity = greatest_own body falsity
greatest_part body exit = greatest_own body exit
greatest_part body not_exit = greatest_own body not_exit
greatest_part body always = greatest_own body always
greatest_part body never = greatest_own body never
greatest_part body (least a) = greatest_own body (least a)

-- that of the formula is at most the number at each label, and so is that of each part
abbrev pub IsSizeWithin : ℕ → Statements → Ctl → Type 0
IsSizeWithin most body f = greatest_own body f ≤ most

abbrev pub AreSizesWithin : ℕ → Statements → Ctl → Type 0
AreSizesWithin most body (negation f) = IsSizeWithin most body (negation f) × AreSizesWithin most body f
AreSizesWithin most body (both f g) = IsSizeWithin most body (both f g) × AreSizesWithin most body f × AreSizesWithin most body g
AreSizesWithin most body (either f g) = IsSizeWithin most body (either f g) × AreSizesWithin most body f × AreSizesWithin most body g
AreSizesWithin most body (next all f) = IsSizeWithin most body (next all f) × AreSizesWithin most body f
AreSizesWithin most body (until all f g) = IsSizeWithin most body (until all f g) × AreSizesWithin most body f × AreSizesWithin most body g
AreSizesWithin most body (weak all f g) = IsSizeWithin most body (weak all f g) × AreSizesWithin most body f × AreSizesWithin most body g
AreSizesWithin most body truth = IsSizeWithin most body truth
AreSizesWithin most body falsity = IsSizeWithin most body falsity
AreSizesWithin most body exit = IsSizeWithin most body exit
AreSizesWithin most body not_exit = IsSizeWithin most body not_exit
AreSizesWithin most body always = IsSizeWithin most body always
AreSizesWithin most body never = IsSizeWithin most body never
AreSizesWithin most body (least a) = IsSizeWithin most body (least a)

-- the greatest size of a number in an atom
abbrev pub atom_size : Ctl → ℕ
atom_size (least a) = greatest_number a
atom_size (negation f) = atom_size f
atom_size (both f g) = max (atom_size f) (atom_size g)
atom_size (either f g) = max (atom_size f) (atom_size g)
atom_size (next all f) = atom_size f
atom_size (until all f g) = max (atom_size f) (atom_size g)
atom_size (weak all f g) = max (atom_size f) (atom_size g)
atom_size truth = 0
atom_size falsity = 0
atom_size exit = 0
atom_size not_exit = 0
atom_size always = 0
atom_size never = 0

-- the growth of a formula: 1 more than the greatest number in a row of a test or an atom, times the factor of each label once
abbrev pub ctl_growth : Statements → Ctl → ℕ
ctl_growth body f = (1 + max (greatest_of_tests body) (atom_size f)) * product_below (factor_at body) (length (all_labels body))

-- no size of a part is above 4,096, and the growth isn't above 2^100
pub record IsWithinMeasures (body : Statements) (f : Ctl) : Type 0 where
  pub sizes : AreSizesWithin 4096 body f
  pub growth : ctl_growth body f ≤ 2 ^ 100
