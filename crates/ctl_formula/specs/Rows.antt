-- What is asked of each row of a formula.
use Rattle.std.specs.Prelude.{⊤}
use Rattle.linear_cons.specs.declared.affine.Affine.{Affine}
use Rattle.ctl_formula.specs.Formulas.{Ctl, truth, falsity, exit, not_exit, always, never, least, negation, both, either, next, until, weak}

-- the function of each row that the formula asks about has the property
abbrev pub EachRow : (Affine → Type 0) → Ctl → Type 0
EachRow P truth = ⊤
EachRow P falsity = ⊤
EachRow P exit = ⊤
EachRow P not_exit = ⊤
EachRow P always = ⊤
EachRow P never = ⊤
EachRow P (least a) = P a
EachRow P (negation f) = EachRow P f
EachRow P (both f g) = EachRow P f × EachRow P g
EachRow P (either f g) = EachRow P f × EachRow P g
EachRow P (next all f) = EachRow P f
EachRow P (until all f g) = EachRow P f × EachRow P g
EachRow P (weak all f g) = EachRow P f × EachRow P g
