-- The signed places that a function adds up.
use Rattle.std.specs.Prelude.{◌≡◌, ◌≢◌, ℕ, ◌/◌, ◌<◌, ◌≤◌, ℤ, pos, ◌+ℤ◌, ◌*ℤ◌, List, unsigned_abs}
use Rattle.linear_cons.specs.declared.affine.Affine.{Affine}
use Rattle.linear_cons.specs.Functions.{Mentions, coefficient}
use Rattle.linear_cons.specs.LinearForm.{products_below}
use Rattle.linear_cons.specs.Numbers.{number_at}
use Rattle.octagon_dom.specs.declared.terms.Terms.{Terms}
use Rattle.octagon_dom.specs.declared.terms.Terms.TheVariants.{Nothing, One, Two, Other}
use Rattle.octagon_dom.specs.Cells.{signed}

-- at most two variables occur, each with the coefficient 1 or -1
pub record IsOctagonal (a : Affine) : Type 0 where
  pub first : ℕ
  pub second : ℕ
  pub units : (i : ℕ) → i < 16 → unsigned_abs (coefficient a i) ≤ 1
  pub alone : (i : ℕ) → i < 16 → i ≢ first → i ≢ second → coefficient a i ≡ pos 0

-- the factor times the number at the place is the signed place
pub record IsUnitTerm (factor : ℤ) (place term : ℕ) : Type 0 where
  pub here : term / 2 ≡ place
  pub value : (store : List ℤ) → factor *ℤ number_at store place ≡ signed store term

-- the function's products at the places below n sum to a signed place of a place below n
pub record IsOneTerm (n : ℕ) (a : Affine) (term : ℕ) : Type 0 where
  pub inside : term / 2 < n
  pub mentioned : Mentions (term / 2) a
  pub sum : (store : List ℤ) → products_below n a.coef store ≡ signed store term

-- they sum to two signed places
pub record AreTwoTerms (n : ℕ) (a : Affine) (first second : ℕ) : Type 0 where
  pub ordered : first / 2 < second / 2
  pub inside : second / 2 < n
  pub mentions_first : Mentions (first / 2) a
  pub mentions_second : Mentions (second / 2) a
  pub sum : (store : List ℤ) → products_below n a.coef store ≡ signed store first +ℤ signed store second

-- the terms of the function at the places below n
abbrev pub AreTermsBelow : ℕ → Affine → Terms → Type 0
AreTermsBelow n a Nothing = (i : ℕ) → i < n → coefficient a i ≡ pos 0
AreTermsBelow n a (One term) = IsOneTerm n a term
AreTermsBelow n a (Two first second) = AreTwoTerms n a first second
AreTermsBelow n a Other = IsOctagonal a → ⊥
