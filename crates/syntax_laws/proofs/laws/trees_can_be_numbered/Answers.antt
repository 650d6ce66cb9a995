use Rattle.syntax_laws.proofs.Numbering.{trees_can_be_numbered}
use Rattle.syntax_laws.proofs.laws.trees_can_be_numbered.Goals as goal

pub returns : goal.returns
returns c = trees_can_be_numbered
