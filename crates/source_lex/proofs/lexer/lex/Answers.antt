use Rattle.std.proofs.Common.{is_ok, sym, ap, ◌∙◌, arith}
use Rattle.std.proofs.lemmas.Result.{err_from_is_err_and}
use Rattle.std.proofs.ResultArms.{chosen}
use Rattle.source_lex.proofs.Reached.{reached_gap, reached_token, reached_end, reached_fault}
use Rattle.source_lex.proofs.SpanLemmas.{tokens_within}
use Rattle.source_lex.proofs.Moves.{moves-gap, moves-token}
use Rattle.source_lex.proofs.lexer.lex.Goals as goal

pub returns-in_err-end-clause-fault : goal.returns-in_err-end-clause-fault
returns-in_err-end-clause-fault c =
    let p = err_from_is_err_and c.from_residual.result c.from_residual.ensures.1 in
    rw (p.1, p.2) (reached_fault _ _ _ _ c.loop-at.invariant c.in_err-end.ensures)

pub loop-at-preserved-in-Gap : goal.loop-at-preserved-in-Gap
loop-at-preserved-in-Gap c =
    let g = rw c.in-Gap.is at c.in_ok-end.ensures in
    reached_gap _ _ _ _ (moves-gap _ _ _ g).within c.loop-at.invariant g

pub loop-at-smaller : goal.loop-at-smaller
loop-at-smaller c =
    let t = rw c.in-Token.is at c.in_ok-end.ensures in
    omega (arith, moves-token _ _ _ _ t)

pub loop-at-preserved : goal.loop-at-preserved
loop-at-preserved c =
    let t = rw c.in-Token.is at c.in_ok-end.ensures in
    let pushed = chosen _ _ _ _ c.push.ensures.items (sym c.map_err.ensures.variant ∙ ap is_ok c.in_ok-map_err-in-Token.was) in
    rw pushed (reached_token _ _ _ _ _ (moves-token _ _ _ _ t).within c.loop-at.invariant t)

pub returns-clause-tokens : goal.returns-clause-tokens
returns-clause-tokens c = reached_end _ _ _ (omega arith) c.loop-at.invariant

pub returns-clause-spans : goal.returns-clause-spans
returns-clause-spans c = tokens_within _ 0 _ (reached_end _ _ _ (omega arith) c.loop-at.invariant)
