use Rattle.derivation.proofs.Texts.{one_fault}
use Rattle.derivation.specs.Word.{word}
use Rattle.source_syntax.specs.Texts.{programs}
use Rattle.source_syntax.proofs.laws.first_faults_agree.Goals as goal

pub returns : goal.returns
returns c = λ functions. one_fault word (programs functions)
