-- Points, the bounds that rows set on a place there, and the value that the place gets.
use Rattle.std.specs.Prelude.{◌≡◌, ◌⊎◌, ℕ, ◌<◌, ◌≤◌, ℤ, pos, ◌*ℤ◌, ◌<ℤ◌, ◌≤ℤ◌, List, slice_set, All, Contains}
use Rattle.linear_cons.specs.declared.affine.Affine.{Affine}
use Rattle.linear_cons.specs.declared.row.Row.{Row}
use Rattle.linear_cons.specs.Functions.{NumbersFit, coefficient, form_at, multiple_of}
use Rattle.linear_cons.specs.LinearForm.{products_below}
use Rattle.linear_cons.specs.Numbers.{Fits128, number_at}
use Rattle.linear_solve.specs.Elimination.{opposite}
use Rattle.linear_solve.specs.declared.point.Bound.{Bound}
use Rattle.linear_solve.specs.declared.point.Point.{Point}
use Rattle.linear_solve.specs.declared.point.Side.{Side}
use Rattle.linear_solve.specs.declared.point.Side.TheVariants.{Below, Above}

-- each product, each sum of products up to a place, the constant's product and the whole form fit 128 bits
pub record FormFits (a : Affine) (num : List ℤ) (den : ℤ) : Type 0 where
  pub products : (i : ℕ) → i < 16 → Fits128 (coefficient a i *ℤ number_at num i)
  pub sums : (n : ℕ) → n ≤ 16 → Fits128 (products_below n a.coef num)
  pub constants : Fits128 (a.constant *ℤ den)
  pub whole : Fits128 (form_at a num den)

-- the size of a coefficient that bounds from the side; not above 0 where it does not
abbrev pub slope_of : Side → ℤ → ℤ
slope_of Below c = c
slope_of Above c = opposite c

-- the numerator of the place on a bound from the side, over the slope and the denominator
abbrev pub numerator_of : Side → ℤ → ℤ
numerator_of Below form = opposite form
numerator_of Above form = form

-- the slope at the place of the row
abbrev pub slope_at : Side → Row → ℕ → ℤ
slope_at side row place = slope_of side (coefficient row.affine place)

-- the bound is that of a row of the list
pub record IsBound (rows : List Row) (place : ℕ) (side : Side) (num : List ℤ) (den : ℤ) (bound : Bound) : Type 0 where
  pub row : Row
  pub row_in : Contains rows row
  pub form : bound.form ≡ form_at row.affine num den
  pub slope : bound.slope ≡ slope_at side row place
  pub positive : pos 0 <ℤ bound.slope

-- no row of the list has a tighter bound: its quotient of form and slope is not less
abbrev pub IsLeast : List Row → ℕ → Side → List ℤ → ℤ → Bound → Type 0
IsLeast rows place side num den bound = All (λ row. pos 0 <ℤ slope_at side row place
    → (bound.form *ℤ slope_at side row place) ≤ℤ (form_at row.affine num den *ℤ bound.slope)) rows

-- the tightest bound that the rows set on the place from the side
pub record IsTightest (rows : List Row) (place : ℕ) (side : Side) (num : List ℤ) (den : ℤ) (bound : Bound) : Type 0 where
  pub bounds : IsBound rows place side num den bound
  pub least : IsLeast rows place side num den bound

-- no row bounds the place from the side
abbrev pub IsFree : List Row → ℕ → Side → Type 0
IsFree rows place side = All (λ row. pos 0 <ℤ slope_at side row place → ⊥) rows

-- no number of the search for the tightest bound is outside 128 bits
pub record BoundsFit (rows : List Row) (place : ℕ) (num : List ℤ) (den : ℤ) : Type 0 where
  pub slopes : (row : Row) (side : Side) → Contains rows row → Fits128 (slope_at side row place)
  pub forms : (row : Row) → Contains rows row → FormFits row.affine num den
  pub crosses : (row other : Row) (side : Side) → Contains rows row → Contains rows other
      → Fits128 (form_at row.affine num den *ℤ slope_at side other place)

-- the numbers of the point as those of a function
abbrev pub numbers_of : List ℤ → ℤ → Affine
numbers_of num den = record { coef = num; constant = den }

-- the point on the bound at the place
abbrev pub moved : List ℤ → ℤ → ℕ → Side → Bound → Point
moved num den place side bound = record {
  num = slice_set (multiple_of (numbers_of num den) bound.slope).coef place (numerator_of side bound.form);
  den = den *ℤ bound.slope;
}

-- no number of the move is outside 128 bits
pub record MoveFits (num : List ℤ) (den : ℤ) (bound : Bound) : Type 0 where
  pub numbers : NumbersFit (multiple_of (numbers_of num den) bound.slope)
  pub numerator : Fits128 (opposite bound.form)

-- the numerators with 0 at the place
abbrev pub cleared : List ℤ → ℕ → List ℤ
cleared num place = slice_set num place (pos 0)

-- the place is on its tightest bound from a side, or no row has it and it is 0
abbrev pub IsPutBack : List Row → ℕ → List ℤ → ℤ → Point → Type 0
IsPutBack rows place num den point =
    ((side : Side) × ((bound : Bound) × (IsTightest rows place side (cleared num place) den bound
    × (point ≡ moved (cleared num place) den place side bound))))
    ⊎ (IsFree rows place Below × IsFree rows place Above × (point ≡ record { num = cleared num place; den = den }))

-- no number on the way is outside 128 bits
pub record PutBackFits (rows : List Row) (place : ℕ) (num : List ℤ) (den : ℤ) : Type 0 where
  pub bounds : BoundsFit rows place (cleared num place) den
  pub moves : (side : Side) (bound : Bound) → IsBound rows place side (cleared num place) den bound → MoveFits (cleared num place) den bound

-- the products that compare two bounds fit 128 bits
pub record CrossesFit (old next : Bound) : Type 0 where
  pub new_form : Fits128 (next.form *ℤ old.slope)
  pub old_form : Fits128 (old.form *ℤ next.slope)

-- of two bounds the tighter: the one with the lesser quotient of form and slope, the older where both are the same
abbrev pub IsTighterOf : Bound → Bound → Bound → Type 0
IsTighterOf old next bound =
    ((bound ≡ next) × ((next.form *ℤ old.slope) <ℤ (old.form *ℤ next.slope)))
    ⊎ ((bound ≡ old) × ((old.form *ℤ next.slope) ≤ℤ (next.form *ℤ old.slope)))
