-- The reason and the cause that a leaf holds in two words each.
use Rattle.decision_tree.specs.declared.held_reason.ShortCause.{ShortCause}
use Rattle.decision_tree.specs.declared.held_reason.ShortCause.TheVariants.{Rows as FewRows, Nodes as FewNodes, Given as WasGiven, Long}
use Rattle.decision_tree.specs.declared.held_reason.ShortWhy.{ShortWhy}
use Rattle.decision_tree.specs.declared.held_reason.ShortWhy.TheVariants.{End as HasEnded, Atom as IsAtom, Both as OfBoth, Left as OfLeft, Right as OfRight, Now as HoldsNow, Dead as IsDead, All as EveryState, Yes as IfYes, No as IfNo, Value as PutIn}
use Rattle.decision_tree.specs.declared.reason.Cause.{Cause}
use Rattle.decision_tree.specs.declared.reason.Cause.TheVariants.{Rows, Nodes, Given}
use Rattle.decision_tree.specs.declared.reason.Pick.TheVariants.{All, Yes, No, Value}
use Rattle.decision_tree.specs.declared.reason.Why.{Why}
use Rattle.decision_tree.specs.declared.reason.Why.TheVariants.{End, Atom, Both, Left, Right, Now, Dead, Step}

abbrev pub why_of : ShortWhy → Why
why_of HasEnded = End
why_of IsAtom = Atom
why_of OfBoth = Both
why_of OfLeft = Left
why_of OfRight = Right
why_of HoldsNow = Now
why_of IsDead = Dead
why_of EveryState = Step All
why_of IfYes = Step Yes
why_of IfNo = Step No
why_of (PutIn value) = Step (Value value)

abbrev pub cause_of : ShortCause → Cause
cause_of (FewRows count) = Rows count
cause_of (FewNodes count) = Nodes count
cause_of WasGiven = Given
cause_of (Long cause) = cause
