use Rattle.demo_program.proofs.Labelled.{demo_labels}
use Rattle.demo_program.proofs.laws.demo_programs_have_few_labels.Goals as goal

pub returns : goal.returns
returns c = demo_labels
