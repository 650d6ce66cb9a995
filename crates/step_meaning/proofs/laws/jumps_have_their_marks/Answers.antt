use Rattle.step_meaning.proofs.JumpsOnTheWay.{body_is_inside, step_keeps_jumps}
use Rattle.step_meaning.proofs.laws.jumps_have_their_marks.Goals as goal

pub returns-clause-begin : goal.returns-clause-begin
returns-clause-begin c = let program = c.args.program.now in λ input. body_is_inside _ program.valid.inside

pub returns-clause-stay : goal.returns-clause-stay
returns-clause-stay c = step_keeps_jumps
