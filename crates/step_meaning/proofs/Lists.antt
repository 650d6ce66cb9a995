-- A list of statements and the `Statements` that it is.
use Rattle.std.proofs.Common.{◌≡◌, List, [], ◌∷◌, ◌++◌, refl, sym, ap, ◌∙◌}
use Rattle.step_meaning.specs.Syntax.{Statement, Statements, list_of, of_list, empty, sequence}

pub of_list-list_of : (s : Statements) → of_list (list_of s) ≡ s
of_list-list_of empty = refl
of_list-list_of (sequence first more) = ap (sequence first) (of_list-list_of more)

pub list_of-of_list : (xs : List Statement) → list_of (of_list xs) ≡ xs
list_of-of_list [] = refl
list_of-of_list (x ∷ xs) = ap (λ rest. x ∷ rest) (list_of-of_list xs)

-- with nothing left, the statements made are all
pub all_made : (all left : List Statement) (made : Statements) → left ≡ [] → all ≡ left ++ list_of made → made ≡ of_list all
all_made all left made none e =
    sym (of_list-list_of made) ∙ ap of_list (sym (e ∙ ap (λ xs. xs ++ list_of made) none))
