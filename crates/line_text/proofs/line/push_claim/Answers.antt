use Rattle.std.proofs.lemmas.Grind.{common_steps}
use Rattle.std.proofs.Common.{arith}
use Rattle.std.proofs.Common.{All, sym, subst}
use Rattle.line_text.specs.Names.{IsOver}
use Rattle.line_text.proofs.Ranks.{shown_over}
use Rattle.line_text.proofs.line.push_claim.Goals as goal

pub returns-in_err-push_number-in-Exactly-clause-kept : goal.returns-in_err-push_number-in-Exactly-clause-kept
returns-in_err-push_number-in-Exactly-clause-kept c = grind (arith, common_steps)

pub returns-in_err-push_affine-in-Within-clause-kept : goal.returns-in_err-push_affine-in-Within-clause-kept
returns-in_err-push_affine-in-Within-clause-kept c = grind (arith, common_steps)

pub returns-in_ok-push_number-in-Exactly-clause-text : goal.returns-in_ok-push_number-in-Exactly-clause-text
returns-in_ok-push_number-in-Exactly-clause-text c = grind (arith, common_steps)

pub returns-in_ok-push_number-in-Exactly-clause-kept : goal.returns-in_ok-push_number-in-Exactly-clause-kept
returns-in_ok-push_number-in-Exactly-clause-kept c = grind (arith, common_steps)

pub returns-in_ok-push_affine-in-Within-clause-text : goal.returns-in_ok-push_affine-in-Within-clause-text
returns-in_ok-push_affine-in-Within-clause-text c = grind (arith, common_steps)

pub returns-in_ok-push_affine-in-Within-clause-kept : goal.returns-in_ok-push_affine-in-Within-clause-kept
returns-in_ok-push_affine-in-Within-clause-kept c = grind (arith, common_steps)

pub push_rank-requires : goal.push_rank-requires
push_rank-requires c =
    let over = rw c.in-Ranked.is at c.requires in
    subst (λ functions. All (IsOver c.args.names.now) functions) (sym c.shown.ensures) (shown_over c.args.names.now c.in-Ranked.functions over.1)
