use Rattle.std.proofs.Common.{inl, inr, subst, false, IsTrue}
use Rattle.step_meaning.specs.Syntax.{statements}
use Rattle.step_meaning.specs.Countdown.{CountsDown}
use Rattle.linear_cons.specs.declared.row.RowKind.TheVariants.{Always, Never}
use Rattle.linear_cons.specs.Rows.{IsRowOf}
use Rattle.step_meaning.proofs.Finding.{kept, same_affine}
use Rattle.step_meaning.proofs.countdown.falling_row.Goals as goal

pub returns-else-counts_down : goal.returns-else-counts_down
returns-else-counts_down c = λ row both.
    let same = same_affine c.args.function.now row c.in-Row.row both.0 c.in-Row.ensures.normal in
    let holds : IsTrue false = c.if-counts_down.ensures.1 (subst (CountsDown (statements c.args.body.now) (statements c.args.step.now)) same both.1) in
    cc

pub returns-in-Always : goal.returns-in-Always
returns-in-Always c = λ row both.
    elim c.in-Always.is [
      | inl always ↦ kept c.args.function.now Always row (subst (IsRowOf c.args.function.now) always c.of.ensures.normal) both.0
      | inr never ↦ kept c.args.function.now Never row (subst (IsRowOf c.args.function.now) never c.of.ensures.normal) both.0
    ]
