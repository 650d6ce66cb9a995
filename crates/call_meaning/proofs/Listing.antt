-- A list of statements and the `Commands` that it is.
use Rattle.std.proofs.Common.{◌≡◌, List, [], ◌∷◌, ◌++◌, refl, sym, ap, ◌∙◌}
use Rattle.call_meaning.specs.Units.{Command, Commands, of_list, empty, sequence}

abbrev pub list_of : Commands → List Command
list_of empty = []
list_of (sequence first more) = first ∷ list_of more

pub of_list-list_of : (body : Commands) → of_list (list_of body) ≡ body
of_list-list_of empty = refl
of_list-list_of (sequence first more) = ap (sequence first) (of_list-list_of more)

-- with nothing left, the statements made are all
pub all_made : (all left : List Command) (made : Commands) → left ≡ [] → all ≡ left ++ list_of made → made ≡ of_list all
all_made all left made none e =
    sym (of_list-list_of made) ∙ ap of_list (sym (e ∙ ap (λ xs. xs ++ list_of made) none))
