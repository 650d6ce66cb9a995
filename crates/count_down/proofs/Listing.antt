-- Lists of trees.
use Rattle.std.proofs.Common.{◌≡◌, List, [], ◌∷◌, ◌++◌, map, reverse, refl, sym, ap, ◌∙◌}
use Rattle.std.proofs.lemmas.List.{append_assoc, map-append, reverse-append}

pub map_reverse : {A B : Type 0} (f : A → B) (xs : List A) → map f (reverse xs) ≡ reverse (map f xs)
map_reverse f [] = refl
map_reverse f (x ∷ xs) =
    ap (map f) (reverse-append (x ∷ []) xs)
    ∙ map-append f (reverse xs) (x ∷ [])
    ∙ ap (λ t. t ++ f x ∷ []) (map_reverse f xs)
    ∙ sym (reverse-append (f x ∷ []) (map f xs))

-- what stands behind two lists that were added last first
pub added_last : {A : Type 0} (old first second : List A) (x : A) → old ++ reverse second ++ reverse first ++ x ∷ [] ≡ old ++ reverse (x ∷ (first ++ second))
added_last old first second x =
    append_assoc (old ++ reverse second) (reverse first) (x ∷ [])
    ∙ append_assoc old (reverse second) (reverse first ++ x ∷ [])
    ∙ ap (λ t. old ++ t) (sym (append_assoc (reverse second) (reverse first) (x ∷ [])))
    ∙ ap (λ t. old ++ (t ++ x ∷ [])) (sym (reverse-append first second))
    ∙ ap (λ t. old ++ t) (sym (reverse-append (x ∷ []) (first ++ second)))
