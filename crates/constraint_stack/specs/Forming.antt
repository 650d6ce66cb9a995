-- Affine functions by the calls that form them, so that it can be said which of these calls left 128 bits.
use Rattle.std.specs.Prelude.{ℕ}
use Rattle.linear_cons.specs.declared.affine.Affine.{Affine}
use Rattle.linear_cons.specs.Functions.{NumbersFit, SubstitutionFits, difference_of, substituted, sum_of}

-- a function that stands somewhere, as a row or as the complement of a row on a path; one with another put in for a variable; a sum; a
-- difference
pub data Formed : Type 0 where
  given : Affine → Formed
  put : Affine → ℕ → Affine → Formed
  plus : Formed → Formed → Formed
  minus : Formed → Formed → Formed

-- the exact function
abbrev pub exact : Formed → Affine
exact (given a) = a
exact (put a place by) = substituted a place by
exact (plus a b) = sum_of (exact a) (exact b)
exact (minus a b) = difference_of (exact a) (exact b)

-- no call on the way has a number outside 128 bits
abbrev pub FormsWhole : Formed → Type 0
FormsWhole (given a) = NumbersFit a
FormsWhole (put a place by) = NumbersFit a × SubstitutionFits a place by
FormsWhole (plus a b) = FormsWhole a × FormsWhole b × NumbersFit (sum_of (exact a) (exact b))
FormsWhole (minus a b) = FormsWhole a × FormsWhole b × NumbersFit (difference_of (exact a) (exact b))
