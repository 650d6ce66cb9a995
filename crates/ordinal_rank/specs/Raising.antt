-- What functions in order become where they are extrapolated along a row, from those on the row's other side.
use Rattle.std.specs.Prelude.{ℕ, zero, suc, Bool, true, false}
use Rattle.linear_cons.specs.contracts.affine.AffinePartialEq.TheImpl as affine_eq
use Rattle.linear_cons.specs.declared.affine.Affine.{Affine}
use Rattle.linear_cons.specs.declared.row.Row.{Row}
use Rattle.tree_widening.specs.Along.{AlongFits, along}
use Rattle.ordinal_rank.specs.Parts.{Parts}

-- what `==` answers for functions
abbrev pub same_function : Affine → Affine → Bool
same_function = (affine_eq.ghosts).eq

-- the one or the other, by whether something holds, and what is asked then
abbrev pub first_or : {A : Type 0} → Bool → A → A → A
first_or true this other = this
first_or false this other = other

abbrev pub FirstOr : Bool → Type 0 → Type 0 → Type 0
FirstOr true This Other = This
FirstOr false This Other = Other

-- where the first functions are equal one of the next is extrapolated, else the first
abbrev pub raised : (j : ℕ) → Row → Parts j → Parts j → Parts j
raised zero row below rank = along row below rank
raised (suc j) row below rank =
    first_or (same_function rank.0 below.0) (rank.0, raised j row below.1 rank.1) (along row below.0 rank.0, rank.1)

abbrev pub RaisedFits : (j : ℕ) → Row → Parts j → Parts j → Type 0
RaisedFits zero row below rank = AlongFits row below rank
RaisedFits (suc j) row below rank =
    FirstOr (same_function rank.0 below.0) (RaisedFits j row below.1 rank.1) (AlongFits row below.0 rank.0)
