-- An expression of a function over the variables of the whole program.
use Rattle.std.specs.Prelude.{ℕ, ◌+◌}
use Rattle.step_meaning.specs.Syntax.{Expression, number, variable, free, range, truth, negative, negation, pair, divided}

-- the same expression where the variables stand from the place `base` on
abbrev pub moved : ℕ → Expression → Expression
moved base (number z) = number z
moved base (variable x) = variable (base + x)
moved base free = free
moved base (range lo hi) = range lo hi
moved base (truth b) = truth b
moved base (negative e) = negative (moved base e)
moved base (negation c) = negation (moved base c)
moved base (pair op l r) = pair op (moved base l) (moved base r)
moved base (divided division e by) = divided division (moved base e) by
