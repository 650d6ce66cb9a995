-- The text of an affine function: its terms in the order of the names, and then the constant.
use Rattle.std.specs.Prelude.{ℕ, zero, ◌==◌, ℤ, pos, negsuc, unsigned_abs, List, [], ◌∷◌, ◌++◌, Option, None, Some, codes, if◌then◌else◌}
use Rattle.linear_cons.specs.declared.affine.Affine.{Affine}
use Rattle.line_text.specs.Numeral.{numeral}

-- a term: a number times the variable of a name, or the number alone
pub record Term : Type 0 where
  pub number : ℤ
  pub name : Option (List ℕ)

-- a number that is 0 makes no term
abbrev pub term_of : ℤ → Option (List ℕ) → List Term
term_of (pos zero) name = []
term_of number name = record { number = number; name = name } ∷ []

-- the terms with a variable, by the names and by the coefficients at their places
abbrev pub variable_terms : List (List ℕ) → List ℤ → List Term
variable_terms [] numbers = []
variable_terms (name ∷ names) [] = []
variable_terms (name ∷ names) (number ∷ numbers) = term_of number (Some name) ++ variable_terms names numbers

-- all terms of the function, the constant last
abbrev pub terms_of : List (List ℕ) → Affine → List Term
terms_of names affine = variable_terms names affine.coef ++ term_of affine.constant None

-- a term without its sign: `x` where the size of its number is 1, else `3*x`; `3` where no variable stands
abbrev pub product_text : ℕ → Option (List ℕ) → List ℕ
product_text size None = numeral size
product_text size (Some name) = if size == 1 then name else numeral size ++ (codes "*" ++ name)

abbrev pub unsigned_text : Term → List ℕ
unsigned_text term = product_text (unsigned_abs term.number) term.name

-- at the front only a negative number shows its sign
abbrev pub front_sign : ℤ → List ℕ
front_sign (pos n) = []
front_sign (negsuc n) = codes "-"

-- a later term is joined by its sign between blanks
abbrev pub joining_sign : ℤ → List ℕ
joining_sign (pos n) = codes " + "
joining_sign (negsuc n) = codes " - "

-- the terms behind the first
abbrev pub later_text : List Term → List ℕ
later_text [] = []
later_text (term ∷ more) = joining_sign term.number ++ (unsigned_text term ++ later_text more)

-- a sum of terms; the sum of none is `0`
abbrev pub sum_text : List Term → List ℕ
sum_text [] = codes "0"
sum_text (term ∷ more) = front_sign term.number ++ (unsigned_text term ++ later_text more)

-- The text of an affine function. So its constant stands where it isn't 0, and also where there is no other term.
abbrev pub affine_text : List (List ℕ) → Affine → List ℕ
affine_text names affine = sum_text (terms_of names affine)

-- a whole number alone: its numeral, behind `-` where it is negative
abbrev pub number_text : ℤ → List ℕ
number_text number = front_sign number ++ numeral (unsigned_abs number)
