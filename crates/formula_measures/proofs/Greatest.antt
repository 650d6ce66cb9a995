-- The sizes of all parts are within a number exactly where the greatest is.
use Rattle.std.proofs.Common.{ℕ, ◌≤◌, arith}
use Rattle.step_meaning.specs.Syntax.{Statements}
use Rattle.ctl_formula.specs.Formulas.{Ctl, truth, falsity, exit, not_exit, always, never, least, negation, both, either, next, until, weak}
use Rattle.formula_measures.specs.Measures.{AreSizesWithin, greatest_part}

module _ (most : ℕ) (body : Statements) where
  pub parts_within : (f : Ctl) → greatest_part body f ≤ most → AreSizesWithin most body f
  parts_within truth less = less
  parts_within falsity less = less
  parts_within exit less = less
  parts_within not_exit less = less
  parts_within always less = less
  parts_within never less = less
  parts_within (least a) less = less
  parts_within (negation f) less = (omega (arith, less), parts_within f (omega (arith, less)))
  parts_within (both f g) less = (omega (arith, less), parts_within f (omega (arith, less)), parts_within g (omega (arith, less)))
  parts_within (either f g) less = (omega (arith, less), parts_within f (omega (arith, less)), parts_within g (omega (arith, less)))
  parts_within (next all f) less = (omega (arith, less), parts_within f (omega (arith, less)))
  parts_within (until all f g) less = (omega (arith, less), parts_within f (omega (arith, less)), parts_within g (omega (arith, less)))
  parts_within (weak all f g) less = (omega (arith, less), parts_within f (omega (arith, less)), parts_within g (omega (arith, less)))

  pub within_parts : (f : Ctl) → AreSizesWithin most body f → greatest_part body f ≤ most
  within_parts truth own = own
  within_parts falsity own = own
  within_parts exit own = own
  within_parts not_exit own = own
  within_parts always own = own
  within_parts never own = own
  within_parts (least a) own = own
  within_parts (negation f) own = let whole = own.0 in let part = within_parts f own.1 in omega (arith, whole, part)
  within_parts (both f g) own = let whole = own.0 in let first = within_parts f own.1 in let second = within_parts g own.2 in omega (arith, whole, first, second)
  within_parts (either f g) own = let whole = own.0 in let first = within_parts f own.1 in let second = within_parts g own.2 in omega (arith, whole, first, second)
  within_parts (next all f) own = let whole = own.0 in let part = within_parts f own.1 in omega (arith, whole, part)
  within_parts (until all f g) own = let whole = own.0 in let first = within_parts f own.1 in let second = within_parts g own.2 in omega (arith, whole, first, second)
  within_parts (weak all f g) own = let whole = own.0 in let first = within_parts f own.1 in let second = within_parts g own.2 in omega (arith, whole, first, second)
