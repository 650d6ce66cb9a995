use Rattle.demo_program.proofs.Deriving.{demo_derives}
use Rattle.demo_program.proofs.laws.demo_texts_are_programs.Goals as goal

pub returns : goal.returns
returns c = demo_derives
