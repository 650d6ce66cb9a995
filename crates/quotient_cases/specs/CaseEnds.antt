-- Functions that a value is at least, or at most: none is known where a number of it doesn't fit 128 bits.
use Rattle.std.specs.Prelude.{ℤ, Option, None, Some}
use Rattle.linear_cons.specs.declared.affine.Affine.{Affine}
use Rattle.linear_cons.specs.Functions.{constant_of, difference_of, multiple_of, sum_of}
use Rattle.linear_forms.specs.Spreading.{fitting}

-- the function times a factor
abbrev pub scaled : ℤ → Option Affine → Option Affine
scaled factor None = None
scaled factor (Some a) = fitting (multiple_of a factor)

-- the sum of two functions, and their difference
abbrev pub added : Option Affine → Option Affine → Option Affine
added None b = None
added (Some a) None = None
added (Some a) (Some b) = fitting (sum_of a b)

abbrev pub lessened : Option Affine → Option Affine → Option Affine
lessened None b = None
lessened (Some a) None = None
lessened (Some a) (Some b) = fitting (difference_of a b)

-- the function plus a number that is known
abbrev pub raised : Option ℤ → Option Affine → Option Affine
raised None a = None
raised (Some z) None = None
raised (Some z) (Some a) = fitting (sum_of a (constant_of z))
