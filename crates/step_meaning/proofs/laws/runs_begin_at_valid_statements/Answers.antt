use Rattle.step_meaning.proofs.Progress.{body_is_valid}
use Rattle.step_meaning.proofs.laws.runs_begin_at_valid_statements.Goals as goal

pub returns : goal.returns
returns c = let program = c.args.program.now in λ input. body_is_valid _ _ program.valid.well_sorted
