-- What the check needs to know of a formula.
use Rattle.std.specs.Prelude.{ℕ, zero, suc, Bool, true, false, not, Option, None, Some}
use Rattle.linear_cons.specs.declared.affine.Affine.{Affine}
use Rattle.ctl_formula.specs.Formulas.{Ctl, truth, falsity, exit, not_exit, always, never, least, negation, both, either, next, until, weak}
use Rattle.leaf_search.specs.declared.part.Part.{Part}
use Rattle.leaf_search.specs.declared.part.Part.TheVariants.{True, Never, Exit, NotExit, Least, Both, Either, Next, Until, Weak}

abbrev pub is_exit : Ctl → Bool
is_exit exit = true
is_exit _ = false

-- the operator of a formula in normal form, or the atom that it is; a negation stands in none
abbrev pub part_of : Ctl → Part
part_of truth = True
part_of falsity = Never
part_of exit = Exit
part_of not_exit = NotExit
part_of always = True
part_of never = Never
part_of (least a) = Least a
part_of (negation f) = Never
part_of (both f g) = Both
part_of (either f g) = Either
part_of (next all f) = Next all
part_of (until all f g) = Until all (is_exit g)
part_of (weak all f g) = Weak all

-- some successor is spoken of
abbrev pub is_existential : Part → Bool
is_existential (Next all) = not all
is_existential (Until all ends) = not all
is_existential (Weak all) = not all
is_existential _ = false

-- a leaf may say that the end is there
abbrev pub may_end : Part → Bool
may_end Exit = true
may_end (Until all ends) = ends
may_end _ = false

-- the atom holds at each store of the label
abbrev pub holds_at : Part → ℕ → Bool
holds_at True label = true
holds_at NotExit zero = false
holds_at NotExit (suc label) = true
holds_at _ label = false

-- the number of the operand that holds where a leaf of the label says that the goal is met now
abbrev pub met_now : Part → ℕ → Option ℕ
met_now (Until all ends) label = Some 1
met_now (Weak all) label = Some 1
met_now (Next all) zero = Some 0
met_now _ label = None

-- a leaf has a bound, which is a natural
abbrev pub has_bound : Part → Bool
has_bound (Until all ends) = true
has_bound _ = false

-- something is to be kept before a step
abbrev pub keeps : Part → Bool
keeps (Until all ends) = true
keeps (Weak all) = true
keeps _ = false

abbrev pub is_both : Part → Bool
is_both Both = true
is_both _ = false

abbrev pub is_either : Part → Bool
is_either Either = true
is_either _ = false

-- the function whose value is to be at least 0
abbrev pub function : Part → Option Affine
function (Least a) = Some a
function _ = None
