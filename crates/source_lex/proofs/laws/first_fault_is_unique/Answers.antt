use Rattle.source_lex.proofs.Readings.{fault_unique}
use Rattle.source_lex.proofs.laws.first_fault_is_unique.Goals as goal

pub returns : goal.returns
returns c = λ text fault other h k. fault_unique text 0 fault other h k
