-- A normal form, and that of a negation, speaks of the variables of its formula alone.
use Rattle.std.proofs.Common.{ℕ}
use Rattle.linear_cons.proofs.Over.{over_complement}
use Rattle.ctl_formula.specs.Formulas.{Ctl, truth, falsity, exit, not_exit, always, never, least, negation, both, either, next, until, weak, normal, opposite}
use Rattle.normal_form.specs.Rows.{RowsAreOver}

mutual
  pub normal_over : (vars : ℕ) (f : Ctl) → RowsAreOver vars f → RowsAreOver vars (normal f)
  normal_over vars truth h = tt
  normal_over vars falsity h = tt
  normal_over vars exit h = tt
  normal_over vars not_exit h = tt
  normal_over vars always h = tt
  normal_over vars never h = tt
  normal_over vars (least a) h = h
  normal_over vars (negation f) h = opposite_over vars f h
  normal_over vars (both f g) h = (normal_over vars f h.0, normal_over vars g h.1)
  normal_over vars (either f g) h = (normal_over vars f h.0, normal_over vars g h.1)
  normal_over vars (next all f) h = normal_over vars f h
  normal_over vars (until all f g) h = (normal_over vars f h.0, normal_over vars g h.1)
  normal_over vars (weak all f g) h = (normal_over vars f h.0, normal_over vars g h.1)

  opposite_over : (vars : ℕ) (f : Ctl) → RowsAreOver vars f → RowsAreOver vars (opposite f)
  opposite_over vars truth h = tt
  opposite_over vars falsity h = tt
  opposite_over vars exit h = tt
  opposite_over vars not_exit h = tt
  opposite_over vars always h = tt
  opposite_over vars never h = tt
  opposite_over vars (least a) h = over_complement vars a h
  opposite_over vars (negation f) h = normal_over vars f h
  opposite_over vars (both f g) h = (opposite_over vars f h.0, opposite_over vars g h.1)
  opposite_over vars (either f g) h = (opposite_over vars f h.0, opposite_over vars g h.1)
  opposite_over vars (next all f) h = opposite_over vars f h
  opposite_over vars (until all f g) h = (opposite_over vars g h.1, (opposite_over vars f h.0, opposite_over vars g h.1))
  opposite_over vars (weak all f g) h = (opposite_over vars g h.1, (opposite_over vars f h.0, opposite_over vars g h.1))
