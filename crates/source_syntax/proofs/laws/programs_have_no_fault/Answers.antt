use Rattle.derivation.proofs.Texts.{no_fault}
use Rattle.derivation.specs.Word.{word}
use Rattle.source_syntax.specs.Texts.{programs}
use Rattle.source_syntax.proofs.laws.programs_have_no_fault.Goals as goal

pub returns : goal.returns
returns c = λ functions. no_fault word (programs functions)
