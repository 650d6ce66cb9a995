-- What may be asked of each row of a formula.
use Rattle.std.specs.Prelude.{ℕ}
use Rattle.linear_cons.specs.declared.affine.Affine.{Affine}
use Rattle.linear_cons.specs.Functions.{IsOver, NumbersFit, complement_of}
use Rattle.ctl_formula.specs.Formulas.{Ctl}
use Rattle.ctl_formula.specs.Rows.{EachRow}

-- the complement of each row fits 128 bits
abbrev pub HasComplement : Affine → Type 0
HasComplement a = NumbersFit (complement_of a)

-- What follows has no part in the headline.

abbrev pub ComplementsFit : Ctl → Type 0
ComplementsFit f = EachRow HasComplement f

-- the rows speak of no variable past the first ones
abbrev pub RowsAreOver : ℕ → Ctl → Type 0
RowsAreOver vars f = EachRow (λ a. IsOver vars a) f
