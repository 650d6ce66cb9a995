-- Formulas as all definitions see them, and their normal form.
use Rattle.std.specs.Prelude.{Bool, true, not}
use Rattle.linear_cons.specs.declared.affine.Affine.{Affine}
use Rattle.linear_cons.specs.Functions.{complement_of}

-- A formula without its pointers. `least a` says that the value of `a` is at least 0; `next true` is `AX` and `next false` is `EX`, and so
-- with until and weak until, whose first part is to be kept and whose second is the goal.
pub data Ctl : Type 0 where
  truth : Ctl
  falsity : Ctl
  exit : Ctl
  not_exit : Ctl
  always : Ctl
  never : Ctl
  least : Affine → Ctl
  negation : Ctl → Ctl
  both : Ctl → Ctl → Ctl
  either : Ctl → Ctl → Ctl
  next : Bool → Ctl → Ctl
  until : Bool → Ctl → Ctl → Ctl
  weak : Bool → Ctl → Ctl → Ctl

-- `AF exit`: on every run the end is reached
abbrev pub af_exit : Ctl
af_exit = until true truth exit

-- the normal form of a formula, and that of its negation: negation goes inward to the atoms, an until is refuted by a weak until of the
-- other kind, and a weak until by an until
abbrev mutual
  pub normal : Ctl → Ctl
  normal truth = truth
  normal falsity = falsity
  normal exit = exit
  normal not_exit = not_exit
  normal always = always
  normal never = never
  normal (least a) = least a
  normal (negation f) = opposite f
  normal (both f g) = both (normal f) (normal g)
  normal (either f g) = either (normal f) (normal g)
  normal (next all f) = next all (normal f)
  normal (until all f g) = until all (normal f) (normal g)
  normal (weak all f g) = weak all (normal f) (normal g)

  pub opposite : Ctl → Ctl
  opposite truth = falsity
  opposite falsity = truth
  opposite exit = not_exit
  opposite not_exit = exit
  opposite always = never
  opposite never = always
  opposite (least a) = least (complement_of a)
  opposite (negation f) = normal f
  opposite (both f g) = either (opposite f) (opposite g)
  opposite (either f g) = both (opposite f) (opposite g)
  opposite (next all f) = next (not all) (opposite f)
  opposite (until all f g) = weak (not all) (opposite g) (both (opposite f) (opposite g))
  opposite (weak all f g) = until (not all) (opposite g) (both (opposite f) (opposite g))
