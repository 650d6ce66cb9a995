-- What is over the variables of `main` is over those of the whole program.
use Rattle.std.proofs.Common.{ℕ, ◌≤◌, arith}
use Rattle.step_meaning.specs.Outcome.{Store}
use Rattle.step_meaning.specs.Run.{IsInput}
use Rattle.linear_cons.specs.declared.affine.Affine.{Affine}
use Rattle.linear_cons.specs.Functions.{IsOver}
use Rattle.ctl_formula.specs.Formulas.{Ctl, truth, falsity, exit, not_exit, always, never, least, negation, both, either, next, until, weak}
use Rattle.normal_form.specs.Rows.{RowsAreOver}

pub wider_input : {few many : ℕ} {input : Store} → few ≤ many → IsInput few input → IsInput many input
wider_input more is = record { places = is.places; zeros = λ x past. is.zeros x (omega (arith, more, past)) }

wider_row : {few many : ℕ} (a : Affine) → few ≤ many → IsOver few a → IsOver many a
wider_row a more is = record { places = is.places; past = λ place past. is.past place (omega (arith, more, past)) }

pub wider_rows : {few many : ℕ} (f : Ctl) → few ≤ many → RowsAreOver few f → RowsAreOver many f
wider_rows truth more is = tt
wider_rows falsity more is = tt
wider_rows exit more is = tt
wider_rows not_exit more is = tt
wider_rows always more is = tt
wider_rows never more is = tt
wider_rows (least a) more is = wider_row a more is
wider_rows (negation f) more is = wider_rows f more is
wider_rows (both f g) more is = (wider_rows f more is.0, wider_rows g more is.1)
wider_rows (either f g) more is = (wider_rows f more is.0, wider_rows g more is.1)
wider_rows (next all f) more is = wider_rows f more is
wider_rows (until all f g) more is = (wider_rows f more is.0, wider_rows g more is.1)
wider_rows (weak all f g) more is = (wider_rows f more is.0, wider_rows g more is.1)
