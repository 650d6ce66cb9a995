use Rattle.derivation.proofs.Texts.{one_tree}
use Rattle.derivation.specs.Word.{word}
use Rattle.source_syntax.specs.Texts.{programs}
use Rattle.source_syntax.proofs.OneTree.{one_program}
use Rattle.source_syntax.proofs.laws.trees_are_unique.Goals as goal

pub returns : goal.returns
returns c = λ functions. one_tree word (programs functions) (one_program functions)
