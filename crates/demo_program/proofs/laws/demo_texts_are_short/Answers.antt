use Rattle.demo_program.proofs.Lengths.{demo_short}
use Rattle.demo_program.proofs.laws.demo_texts_are_short.Goals as goal

pub returns : goal.returns
returns c = demo_short
