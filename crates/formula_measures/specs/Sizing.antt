-- What is known of a part's sizes while they are reckoned.
use Rattle.std.specs.Prelude.{◌≡◌, length}
use Rattle.step_meaning.specs.Counts.{HasNoLoop}
use Rattle.step_meaning.specs.Syntax.{Statements}
use Rattle.control_flow.specs.Actions.{AtAll}
use Rattle.control_flow.specs.Labels.{all_labels}
use Rattle.control_flow.specs.Sizing.{HoldsAt, held}
use Rattle.ctl_formula.specs.Formulas.{Ctl}
use Rattle.formula_measures.specs.Measures.{greatest_part, part_size}
use Rattle.formula_measures.specs.declared.sizes.Sizes.{Sizes}

-- of a program without loops: the part's size at each label, and the greatest of it and its own parts, as far as the type holds them
pub record AreSizesOf (body : Statements) (f : Ctl) (sizes : Sizes) : Type 0 where
  pub count : length sizes.at.items ≡ length (all_labels body)
  pub each : HasNoLoop body → AtAll body (HoldsAt (part_size body f) sizes.at.items)
  pub greatest : HasNoLoop body → sizes.greatest ≡ held (greatest_part body f)
