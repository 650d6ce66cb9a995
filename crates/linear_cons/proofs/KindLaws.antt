-- The row kind of a function whose coefficients have no common divisor but 1.
use Rattle.std.proofs.Common.{◌≡◌, length, arith, sym, lit<}
use Rattle.std.proofs.lemmas.Int.{ints}
use Rattle.linear_cons.specs.Divisor.{IsPrimitive}
use Rattle.linear_cons.specs.Functions.{IsQuotient, coefficient}
use Rattle.linear_cons.specs.Rows.{row_kind_of}
use Rattle.linear_cons.specs.declared.affine.Affine.{Affine}
use Rattle.linear_cons.specs.declared.row.Row.{Row}
use Rattle.linear_cons.specs.declared.row.RowKind.TheVariants.{Row as Kept}
use Rattle.linear_cons.proofs.Ring.{one_mul}
pub use Rattle.linear_cons.proofs.RowKinds.{row_kind_is, row_kind_unique}

-- a function whose coefficients have no common divisor but 1 is its own quotient
pub primitive_quotient : (a : Affine) → length a.coef ≡ 16 → IsQuotient a a
primitive_quotient a long = record {
  divisor = 1;
  positive = lit< tt;
  places = long;
  coefficients = λ i h. sym (one_mul (coefficient a i));
  at_most = rw one_mul (omega (arith, ints));
  below_next = rw one_mul (omega (arith, ints));
}

-- and is the function of its row
pub primitive_kind : (a : Affine) (primitive : IsPrimitive a.coef) → length a.coef ≡ 16 → row_kind_of a ≡ Kept (record { affine = a; primitive = primitive })
primitive_kind a primitive long =
    let row : Row = record { affine = a; primitive = primitive } in
    sym (row_kind_unique a (Kept row) (primitive_quotient a long))
