-- Lists that are read past their ends.
use Rattle.std.proofs.Common.{◌≡◌, ℕ, zero, suc, List, [], ◌∷◌, ◌++◌, slice_index_or, refl}

-- what is read past the end of a list is read there too where it was added
pub read_past : {A : Type 0} (list : List A) (place : ℕ) (past : A) → slice_index_or (list ++ past ∷ []) place past ≡ slice_index_or list place past
read_past [] zero past = refl
read_past [] (suc place) past = refl
read_past (first ∷ rest) zero past = refl
read_past (first ∷ rest) (suc place) past = read_past rest place past
