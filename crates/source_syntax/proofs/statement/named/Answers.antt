use Rattle.source_syntax.specs.declared.opening.StatementOpening.TheVariants as StatementOpening
use Rattle.source_syntax.proofs.Steps.{over, fails, goes, passed_on, name_reads, name_refused}
use Rattle.source_syntax.proofs.Statements.{statements}
use Rattle.source_syntax.proofs.Loops.{told_reads}
use Rattle.source_syntax.proofs.statement.named.Goals as goal

pub returns-in_err-bytes-clause-refused : goal.returns-in_err-bytes-clause-refused
returns-in_err-bytes-clause-refused c =
    passed_on _ _ _ _ c.from_residual.ensures c.in_err-bytes.ensures.missed
    (λ fault missed count behind. fails (goes (statements _ _ behind) count _ StatementOpening.Name c.requires.opens) (name_refused _ _ fault missed))

pub returns-in_err-kind-clause-refused : goal.returns-in_err-kind-clause-refused
returns-in_err-kind-clause-refused c =
    passed_on _ _ _ _ c.from_residual-in_err-kind.ensures c.in_err-kind.ensures.refused
    (λ fault refused count behind. fails (goes (statements _ _ behind) count _ StatementOpening.Name c.requires.opens)
    (fails (name_reads c.in_ok-bytes.ensures.read) (rw c.if-functions.true (refused _ _))))

pub returns-then-functions-clause-read : goal.returns-then-functions-clause-read
returns-then-functions-clause-read c =
    let r = c.in_ok-kind.ensures.read in
    rw c.if-functions.true (told_reads r.made (λ count behind.
    (_, over (goes (statements _ _ behind) count _ StatementOpening.Name c.requires.opens) (over (name_reads c.in_ok-bytes.ensures.read) (r.reads _ _).1))))

pub returns-in_err-acting-clause-refused : goal.returns-in_err-acting-clause-refused
returns-in_err-acting-clause-refused c =
    passed_on _ _ _ _ c.from_residual-in_err-acting.ensures c.in_err-acting.ensures.refused
    (λ fault refused count behind. fails (goes (statements _ _ behind) count _ StatementOpening.Name c.requires.opens)
    (fails (name_reads c.in_ok-bytes.ensures.read) (rw c.if-functions.false (refused _ _))))

pub returns-clause-read : goal.returns-clause-read
returns-clause-read c =
    let r = c.in_ok-acting.ensures.read in
    rw c.if-functions.false (told_reads r.made (λ count behind.
    (_, over (goes (statements _ _ behind) count _ StatementOpening.Name c.requires.opens) (over (name_reads c.in_ok-bytes.ensures.read) (r.reads _ _).1))))
