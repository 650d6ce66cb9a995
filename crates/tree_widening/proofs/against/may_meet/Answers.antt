use Rattle.std.proofs.Common.{◌≡◌, false, Some, sym, subst}
use Rattle.linear_cons.specs.Settling.{settles}
use Rattle.tree_widening.specs.Judging.{IsKindDecided}
use Rattle.tree_widening.proofs.Judging.{row_decided, row_opposed}
use Rattle.tree_widening.proofs.against.may_meet.Goals as goal

pub returns-in-Some-false-clause-decided : goal.returns-in-Some-false-clause-decided
returns-in-Some-false-clause-decided c =
    let settle : settles c.args.walk.now.trail c.in-Row.row ≡ Some false =
    subst (λ t. settles c.args.walk.now.trail c.in-Row.row ≡ Some t) c.in-Some-false.field-0-test (sym c.in-Some-false.ensures) in
    subst (λ kind. IsKindDecided c.args.walk.now.trail kind false) (sym c.in-Row.is) (row_opposed c.args.walk.now.trail c.in-Row.row settle)

pub returns-in_ok-met-in-Row-clause-decided : goal.returns-in_ok-met-in-Row-clause-decided
returns-in_ok-met-in-Row-clause-decided c =
    let decided = rw c.in_ok-down_by-in-Row.ensures.down at c.in_ok-met-in-Row.ensures.decided in
    subst (λ kind. IsKindDecided c.args.walk.now.trail kind c.in_ok-met-in-Row.met) (sym c.in-Row.is)
    (row_decided c.args.walk.now.trail c.in-Row.row c.in_ok-met-in-Row.met decided)
