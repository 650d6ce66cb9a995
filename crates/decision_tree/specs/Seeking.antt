-- How a leaf is looked for: by the sides that lead to it.
use Rattle.std.specs.Prelude.{◌≡◌, ℕ, ◌+◌, ◌-◌, ◌<◌, Bool, true, false, nat_lt, List, [], ◌∷◌, ◌++◌, reverse, All, if◌then◌else◌}
use Rattle.linear_cons.specs.Functions.{NumbersFit, complement_of}
use Rattle.linear_cons.specs.declared.affine.Affine.{Affine}
use Rattle.decision_tree.specs.Paths.{with_leaf}
use Rattle.decision_tree.specs.Plans.{Plan, branch, leaves_of}
use Rattle.decision_tree.specs.declared.path.Side.{Side}
use Rattle.decision_tree.specs.declared.path.Side.TheVariants.{Yes, No}

-- the sides from the root to the leaf with the number
abbrev pub sides_to : {R : Type 0} → Plan R → ℕ → List Side
sides_to (branch row this that) number = if nat_lt number (leaves_of this) then Yes ∷ sides_to this number
    else No ∷ sides_to that (number - leaves_of this)
sides_to end number = []

-- found: that many leaves come before one of the tree's, and its sides are appended, the last first; not found: the tree's leaves are
-- passed
abbrev pub IsSought : {R : Type 0} → Plan R → ℕ → ℕ → List Side → List Side → Bool → Type 0
IsSought plan left after old new true = (left < leaves_of plan) × (new ≡ old ++ reverse (sides_to plan left))
IsSought plan left after old new false = (left ≡ leaves_of plan + after) × (new ≡ old)

-- the functions on the way along the sides
abbrev pub path_along : {R : Type 0} → Plan R → List Side → List Affine
path_along (branch row this that) (Yes ∷ rest) = row.affine ∷ path_along this rest
path_along (branch row this that) (No ∷ rest) = complement_of row.affine ∷ path_along that rest
path_along _ _ = []

-- the complements on that way
abbrev pub complements_along : {R : Type 0} → Plan R → List Side → List Affine
complements_along (branch row this that) (Yes ∷ rest) = complements_along this rest
complements_along (branch row this that) (No ∷ rest) = complement_of row.affine ∷ complements_along that rest
complements_along _ _ = []

abbrev pub AlongFits : {R : Type 0} → Plan R → List Side → Type 0
AlongFits plan sides = All (λ a. NumbersFit a) (complements_along plan sides)

-- found: that many leaves come before one of the tree's, and the other stands in its place; not found: the tree's leaves are passed
abbrev pub IsReplaced : {R : Type 0} → Plan R → ℕ → ℕ → Plan R → Plan R → Bool → Type 0
IsReplaced old left after other new true = (left < leaves_of old) × (new ≡ with_leaf old left other)
IsReplaced old left after other new false = (left ≡ leaves_of old + after) × (new ≡ old)
