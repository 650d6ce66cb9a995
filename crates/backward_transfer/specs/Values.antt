-- Which values are tried for a place to which some number of a range is assigned: the known ends, and the values at which rows of the tree
-- behind are 0.
use Rattle.std.specs.Prelude.{◌≡◌, ℕ, ℤ, pos, negsuc, ◌&&◌, nat_lt, not, Bool, List, [], ◌∷◌, ◌++◌, length, Option, None, Some, ⊤, if◌then◌else◌}
use Rattle.std.specs.List.{list_any}
use Rattle.std.specs.Ordering.{int_eq}
use Rattle.linear_cons.specs.declared.affine.Affine.{Affine}
use Rattle.linear_cons.specs.contracts.affine.AffinePartialEq.TheImpl as affine_eq
use Rattle.linear_cons.specs.Functions.{NumbersFit, coefficient, constant_of, difference_of, multiple_of, sum_of, variable_at}
use Rattle.decision_tree.specs.Plans.{Plan, branch}

-- what `==` answers for functions
abbrev pub same_function : Affine → Affine → Bool
same_function = (affine_eq.ghosts).eq

-- one value more, unless it is there or there are eight
abbrev pub with_one : List Affine → Affine → List Affine
with_one values a = if nat_lt (length values) 8 && not (list_any (λ b. same_function b a) values) then values ++ a ∷ [] else values

-- the end of the range, where it is known
abbrev pub with_end : List Affine → Option ℤ → List Affine
with_end values None = values
with_end values (Some n) = with_one values (constant_of n)

-- the value of the place at which the function is 0, where its coefficient there is 1 or -1
abbrev pub with_root : ℕ → Affine → List Affine → List Affine
with_root place a values =
    if int_eq (coefficient a place) (pos 1) then with_one values (multiple_of (difference_of a (variable_at place)) (negsuc 0))
    else (if int_eq (coefficient a place) (negsuc 0) then with_one values (sum_of a (variable_at place)) else values)

-- those of the rows of the tree: a row's own, then those of its yes side
abbrev pub with_roots : {R : Type 0} → ℕ → Plan R → List Affine → List Affine
with_roots place (branch row this that) values = with_roots place that (with_roots place this (with_root place row.affine values))
with_roots place end values = values

-- the values that are tried: the lower end, the upper one, then the others
abbrev pub tried_values : {R : Type 0} → Option ℤ → Option ℤ → ℕ → Plan R → List Affine
tried_values lo hi place plan = with_roots place plan (with_end (with_end [] lo) hi)

-- the numbers of each value that is formed of a row fit
abbrev pub RootFits : ℕ → Affine → Type 0
RootFits place a =
    (coefficient a place ≡ pos 1
    → NumbersFit (difference_of a (variable_at place)) × NumbersFit (multiple_of (difference_of a (variable_at place)) (negsuc 0)))
    × (coefficient a place ≡ negsuc 0 → NumbersFit (sum_of a (variable_at place)))

abbrev pub RootsFit : {R : Type 0} → ℕ → Plan R → Type 0
RootsFit place (branch row this that) = RootFits place row.affine × RootsFit place this × RootsFit place that
RootsFit place end = ⊤
