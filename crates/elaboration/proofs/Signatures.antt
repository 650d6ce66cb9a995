-- The functions so far with one more.
use Rattle.std.proofs.Common.{◌≡◌, ℕ, false, List, [], ◌∷◌, ◌++◌, ap, if◌then◌else◌}
use Rattle.typed_expressions.specs.Scopes.{is_among}
use Rattle.elaboration.specs.declared.functions.Signature.{Signature}
use Rattle.elaboration.specs.Functions.{Functions, with_function}

abbrev pub functions_of : List (List ℕ) → List Signature → Functions
functions_of names signatures = record { names = names; signatures = signatures }

-- a new function goes last
abbrev pub pushed : Functions → List ℕ → Signature → Functions
pushed functions x s = record { names = functions.names ++ x ∷ []; signatures = functions.signatures ++ s ∷ [] }

pub with_new : (functions : Functions) (x : List ℕ) (s : Signature) → is_among functions.names x ≡ false → with_function functions x s ≡ pushed functions x s
with_new functions x s none = ap (λ known. if known then functions else pushed functions x s) none
