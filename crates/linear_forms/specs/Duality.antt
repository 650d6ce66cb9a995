-- Lists of conjunctions of which one holds exactly where the other fails, row against row.
use Rattle.std.specs.Prelude.{◌≡◌, ◌⊎◌, Bool, IsTrue, List, [], ◌∷◌, ⊤}
use Rattle.linear_cons.specs.declared.row.Row.{Row}
use Rattle.linear_cons.specs.Functions.{complement_of}

-- some of the list, or each of it, is such
abbrev pub SomeOf : {A : Type 0} → (A → Type 0) → List A → Type 0
SomeOf P [] = ⊥
SomeOf P (x ∷ xs) = P x ⊎ SomeOf P xs

abbrev pub EachOf : {A : Type 0} → (A → Type 0) → List A → Type 0
EachOf P [] = ⊤
EachOf P (x ∷ xs) = P x × EachOf P xs

-- the other row is met exactly where the row isn't
abbrev pub IsComplement : Row → Row → Type 0
IsComplement row other = other.affine ≡ complement_of row.affine

-- the complement of some row of the one conjunction is a row of the other
abbrev pub Excludes : List Row → List Row → Type 0
Excludes rows others = SomeOf (λ row. SomeOf (IsComplement row) others) rows

-- a row of the conjunction is refuted; each row of the other is the complement of a refuted one
abbrev pub IsRefuted : (Row → Bool) → List Row → Type 0
IsRefuted refuted rows = SomeOf (λ row. IsTrue (refuted row)) rows

abbrev pub HoldsWhole : (Row → Bool) → List Row → Type 0
HoldsWhole refuted others = EachOf (λ other. (row : Row) × IsTrue (refuted row) × IsComplement row other) others

-- each conjunction of the one list excludes each of the other; and whatever rows are refuted, where each conjunction of the one has such
-- a row, some conjunction of the other holds whole
pub record AreDual (xs ys : List (List Row)) : Type 0 where
  pub exclude : EachOf (λ rows. EachOf (Excludes rows) ys) xs
  pub hold : (refuted : Row → Bool) → EachOf (IsRefuted refuted) xs → SomeOf (HoldsWhole refuted) ys
