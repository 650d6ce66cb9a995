-- The functions that may be called.
use Rattle.std.specs.Prelude.{if◌then◌else◌, List, [], ◌∷◌, ◌++◌, Option, None, slice_get}
use Rattle.elaboration.specs.declared.functions.Signature.{Signature}
use Rattle.typed_expressions.specs.Scopes.{Name, is_among, place_of}

-- their names, in the order of the text, and of each how many parameters it has and whether it gives a value
pub record Functions : Type 0 where
  pub names : List Name
  pub signatures : List Signature

abbrev pub no_functions : Functions
no_functions = record { names = []; signatures = [] }

-- what is known of the function of this name, if there is one
abbrev pub signature_of : Functions → Name → Option Signature
signature_of functions x = if is_among functions.names x then slice_get functions.signatures (place_of functions.names x) else None

-- one more, where there is none of its name yet
abbrev pub with_function : Functions → Name → Signature → Functions
with_function functions x signature =
    if is_among functions.names x then functions
    else record { names = functions.names ++ x ∷ []; signatures = functions.signatures ++ signature ∷ [] }
