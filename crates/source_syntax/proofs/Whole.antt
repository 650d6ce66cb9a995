-- A whole text is a program, and nothing behind it.
use Rattle.std.proofs.Common.{Bool, [], ◌∷◌, refl}
use Rattle.derivation.proofs.Whole.{Whole}
use Rattle.source_syntax.specs.Pending.{a_program}
use Rattle.source_syntax.specs.Texts.{programs}
use Rattle.source_syntax.proofs.Completions.{lawful}

pub a_text : (functions : Bool) → Whole lawful (programs functions) (a_program functions ∷ []) [] tt (λ f. (f, tt)) (λ trees. trees.0)
a_text functions = record { empty = λ f. refl; spells = λ f. refl; told = λ g. refl }
