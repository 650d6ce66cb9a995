use Rattle.std.proofs.Common.{rules, refl}
use Rattle.line_text.specs.LineText.{claim_text}
use Rattle.function_top.proofs.Over.{told_over}
use Rattle.function_top.proofs.one_input.answer_at.Goals as goal

pub push_claim-requires : goal.push_claim-requires
push_claim-requires c =
    told_over c.args.names.now c.requires.few c.args.found.now c.args.input.now c.told-claim.result.1 c.told-claim.result.0 c.requires.printable c.told-claim.ensures

pub returns-clause-told : goal.returns-clause-told
returns-clause-told c =
    let claim = c.told-claim.result.0 in
    let over = told_over c.args.names.now c.requires.few c.args.found.now c.args.input.now c.told-claim.result.1 claim c.requires.printable c.told-claim.ensures in
    (claim, c.told-claim.ensures, (claim_text c.args.names.now claim, record { claim_over = over; text = refl }, search rules))
