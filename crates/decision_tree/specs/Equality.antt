-- What `==` answers, as tests: on rows, reasons and causes the derived ones, on trees one that looks at their plans.
use Rattle.std.specs.Prelude.{◌&&◌, Bool, true, false}
use Rattle.linear_cons.specs.declared.row.Row.{Row}
use Rattle.linear_cons.specs.contracts.row.RowPartialEq.TheImpl as row_eq
use Rattle.decision_tree.specs.declared.reason.Cause.{Cause}
use Rattle.decision_tree.specs.declared.reason.Pick.{Pick}
use Rattle.decision_tree.specs.declared.reason.Why.{Why}
use Rattle.decision_tree.specs.contracts.reason.CausePartialEq.TheImpl as cause_eq
use Rattle.decision_tree.specs.contracts.reason.PickPartialEq.TheImpl as pick_eq
use Rattle.decision_tree.specs.contracts.reason.WhyPartialEq.TheImpl as why_eq
use Rattle.decision_tree.specs.Plans.{Plan, bottom, leaf, branch, top}

abbrev pub same_row : Row → Row → Bool
same_row = (row_eq.ghosts).eq

abbrev pub same_pick : Pick → Pick → Bool
same_pick = (pick_eq.ghosts).eq

abbrev pub same_reason : Why → Why → Bool
same_reason = (why_eq.ghosts).eq

abbrev pub same_cause : Cause → Cause → Bool
same_cause = (cause_eq.ghosts).eq

-- the same shape, with equal rows, reasons, causes and ranks
abbrev pub same_plan : {R : Type 0} → (R → R → Bool) → Plan R → Plan R → Bool
same_plan same bottom bottom = true
same_plan same (top cause) (top other) = same_cause cause other
same_plan same (leaf why rank) (leaf other second) = same_reason why other && same rank second
same_plan same (branch row this that) (branch other first second) =
    same_row row other && (same_plan same this first && same_plan same that second)
same_plan same _ _ = false
