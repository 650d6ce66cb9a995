-- The least of offsets, list after list.
use Rattle.std.proofs.Common.{◌≡◌, ℕ, List, [], ◌∷◌, ◌++◌, Option, Some, refl}
use Rattle.control_flow.specs.Faults.{least_from, lesser}

pub least_from_both : (least : Option ℕ) (xs ys : List ℕ) → least_from least (xs ++ ys) ≡ least_from (least_from least xs) ys
least_from_both least [] ys = refl
least_from_both least (at ∷ xs) ys = least_from_both (Some (lesser least at)) xs ys
