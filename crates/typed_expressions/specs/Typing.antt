-- What the trees of the elaborator are.
use Rattle.step_meaning.specs.Syntax.{expression}
use Rattle.typed_expressions.specs.declared.typed.Typed.{Typed}
use Rattle.typed_expressions.specs.declared.grouping.Grouping.{Grouping, Pair', Divided'}
use Rattle.typed_expressions.specs.declared.grouping.Grouping.TheVariants.{Operand}
use Rattle.typed_expressions.specs.declared.grouping.Joint.{Joint}
use Rattle.typed_expressions.specs.declared.grouping.Joint.TheVariants.{Operator, Divisor}
use Rattle.typed_expressions.specs.Expressions.{Typed as TypedTree}
use Rattle.typed_expressions.specs.Grouping.{Grouped, leaf, node, divided, Joint as JointTree, operator, divisor}

abbrev pub typed_of : Typed → TypedTree
typed_of t = record { first = t.first; sort = t.sort; meaning = expression t.expr }

abbrev pub grouping_of : Grouping → Grouped TypedTree
grouping_of (Operand t) = leaf (typed_of t)
grouping_of (Pair' op p l q r) = node op (grouping_of l) (grouping_of r)
grouping_of (Divided' sign p l by) = divided sign (grouping_of l) by

abbrev pub joint_of : Joint → JointTree TypedTree
joint_of (Operator op operand) = operator op (typed_of operand)
joint_of (Divisor sign by) = divisor sign by
