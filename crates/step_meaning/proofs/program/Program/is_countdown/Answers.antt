use Rattle.step_meaning.specs.Syntax.{statements}
use Rattle.step_meaning.proofs.Finding.{countdown_found}
use Rattle.step_meaning.proofs.program.Program.is_countdown.Goals as goal

pub returns : goal.returns
returns c = rw c.is_some.ensures (countdown_found c.countdown.result (statements c.args.self.now.body) c.countdown.ensures.some c.countdown.ensures.none)
