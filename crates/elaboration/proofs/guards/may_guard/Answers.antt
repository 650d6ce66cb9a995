use Rattle.std.proofs.Common.{◌≡◌, ◌&&◌, sym, ap, ◌∙◌}
use Rattle.concrete_syntax.specs.Mirror.{expression as expression_of, statement as statement_of, statement_kind, otherwise as otherwise_of}
use Rattle.concrete_syntax.specs.Trees as tree
use Rattle.elaboration.specs.Guards.{returns}
use Rattle.elaboration.proofs.Guarding.{and_none}
use Rattle.elaboration.proofs.guards.may_guard.Goals as goal

pub returns-then-is_alone : goal.returns-then-is_alone
returns-then-is_alone c =
    let is : statement_kind c.args.tree.now.kind
    ≡ tree.conditional (expression_of c.in-Conditional.test) (statement_of c.deref.result.now) (otherwise_of c.in-Conditional.other) =
    rw (c.deref.ensures) (ap statement_kind c.in-Conditional.is)
    in
    rw is (c.returns.ensures ∙ ap (λ alone. alone && returns (statement_of c.deref.result.now)) (sym c.if-is_alone.true ∙ c.is_alone.ensures))

pub returns-else-is_alone : goal.returns-else-is_alone
returns-else-is_alone c =
    rw (ap statement_kind c.in-Conditional.is) (c.if-is_alone.false ∙ sym (and_none _ _ (sym c.is_alone.ensures ∙ c.if-is_alone.false)))
