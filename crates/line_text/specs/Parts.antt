-- What is left to write of an affine function, where some of its terms stand already or none does.
use Rattle.std.specs.Prelude.{ℕ, Bool, true, false, ℤ, List}
use Rattle.line_text.specs.AffineText.{Term, front_sign, joining_sign, later_text, sum_text}

-- the sign before a term
abbrev pub sign_text : Bool → ℤ → List ℕ
sign_text false number = front_sign number
sign_text true number = joining_sign number

-- the terms that are left
abbrev pub rest_text : Bool → List Term → List ℕ
rest_text false terms = sum_text terms
rest_text true terms = later_text terms
