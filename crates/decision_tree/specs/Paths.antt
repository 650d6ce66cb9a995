-- Leaves by number, and the functions that are at least 0 at exactly the stores that stand there.
use Rattle.std.specs.Prelude.{ℕ, ◌+◌, ◌-◌, ℤ, pos, ◌≤ℤ◌, int_le, nat_lt, List, [], ◌∷◌, All, if◌then◌else◌}
use Rattle.linear_cons.specs.Functions.{NumbersFit, complement_of, value_at}
use Rattle.linear_cons.specs.declared.affine.Affine.{Affine}
use Rattle.decision_tree.specs.Plans.{Plan, leaves_of, branch}

-- the leaf with the number: leaves are numbered from 0, yes sides first
abbrev pub leaf_numbered : {R : Type 0} → Plan R → ℕ → Plan R
leaf_numbered (branch row this that) number = if nat_lt number (leaves_of this) then leaf_numbered this number
    else leaf_numbered that (number - leaves_of this)
leaf_numbered end number = end

-- the number of the leaf at which the store stands
abbrev pub number_met : {R : Type 0} → Plan R → List ℤ → ℕ
number_met (branch row this that) store = if int_le (pos 0) (value_at row.affine store) then number_met this store
    else leaves_of this + number_met that store
number_met end store = 0

-- on the way to the leaf: the row's own function on a yes side, its complement on a no side
abbrev pub path_of : {R : Type 0} → Plan R → ℕ → List Affine
path_of (branch row this that) number = if nat_lt number (leaves_of this) then row.affine ∷ path_of this number
    else complement_of row.affine ∷ path_of that (number - leaves_of this)
path_of end number = []

-- the complements on that way
abbrev pub complements_on : {R : Type 0} → Plan R → ℕ → List Affine
complements_on (branch row this that) number = if nat_lt number (leaves_of this) then complements_on this number
    else complement_of row.affine ∷ complements_on that (number - leaves_of this)
complements_on end number = []

-- no number of a complement on the way is outside 128 bits
abbrev pub PathFits : {R : Type 0} → Plan R → ℕ → Type 0
PathFits plan number = All (λ a. NumbersFit a) (complements_on plan number)

-- the store meets the functions of a path
abbrev pub MeetsPath : List ℤ → List Affine → Type 0
MeetsPath store path = All (λ a. pos 0 ≤ℤ value_at a store) path

-- the tree with another in place of the leaf with the number
abbrev pub with_leaf : {R : Type 0} → Plan R → ℕ → Plan R → Plan R
with_leaf (branch row this that) number other =
    if nat_lt number (leaves_of this) then branch row (with_leaf this number other) that
    else branch row this (with_leaf that (number - leaves_of this) other)
with_leaf end number other = other
