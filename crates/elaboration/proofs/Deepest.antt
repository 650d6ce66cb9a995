-- The greatest level of a list is none below that around it.
use Rattle.std.proofs.Common.{◌≡◌, ℕ, ◌+◌, ◌≤◌, nat_lt, Bool, true, false, ◌&&◌, if◌then◌else◌, max, List, [], ◌∷◌, Option, None, Some, arith}
use Rattle.concrete_syntax.specs.Trees.{Expression, Statement, Tail, ended, further, Value, evaluates, answers, Part, Items, none, declaration, statement}
use Rattle.elaboration.specs.Guards.{may_guard}
use Rattle.elaboration.specs.Levels.{tail_levels, all_levels, initialiser_levels, parts_levels, rest_level, items_levels}

pub tail_above : (level : ℕ) (more : Tail) → level ≤ tail_levels level more
tail_above level ended = omega arith
tail_above level (further link more) = let rest = tail_above level more in omega (arith, rest)

pub all_above : (level : ℕ) (arguments : List Expression) → level ≤ all_levels level arguments
all_above level [] = omega arith
all_above level (e ∷ more) = let rest = all_above level more in omega (arith, rest)

pub initialiser_above : (level : ℕ) (value : Option Value) → level ≤ initialiser_levels level value
initialiser_above level (Some (evaluates e)) = let rest = tail_above level e.tail in omega (arith, rest)
initialiser_above level (Some (answers c)) = all_above level c.arguments
initialiser_above level None = omega arith

pub parts_above : (level : ℕ) (parts : List Part) → level ≤ parts_levels level parts
parts_above level [] = omega arith
parts_above level (part ∷ more) = let rest = parts_above level more in omega (arith, rest)

pub rest_above : (level : ℕ) (s : Statement) → level ≤ rest_level level s
rest_above level s = by_guard (may_guard s && nat_lt level 64)
  where
    by_guard : (guarded : Bool) → level ≤ (if guarded then level + 1 else level)
    by_guard true = omega arith
    by_guard false = omega arith

pub items_above : (level : ℕ) (all : Items) → level ≤ items_levels level all
items_above level none = omega arith
items_above level (declaration d more) = let rest = items_above level more in omega (arith, rest)
items_above level (statement s more) =
    let deep = rest_above level s in
    let rest = items_above (rest_level level s) more in
    omega (arith, deep, rest)

-- the greatest so far and of what is left is that of all
pub from_first : (level all : ℕ) → level ≤ all → max level all ≡ all
from_first level all above = omega (arith, above)

pub one_on : (most one rest left all : ℕ) → left ≡ max one rest → max most left ≡ all → max (max most one) rest ≡ all
one_on most one rest left all is so_far = omega (arith, is, so_far)

pub none_on : (level most rest left all : ℕ) → left ≡ max level rest → level ≤ rest → max most left ≡ all → max most rest ≡ all
none_on level most rest left all is above so_far = omega (arith, is, above, so_far)

pub at_last : (level most left all : ℕ) → left ≡ level → level ≤ most → max most left ≡ all → most ≡ all
at_last level most left all is above so_far = omega (arith, is, above, so_far)
