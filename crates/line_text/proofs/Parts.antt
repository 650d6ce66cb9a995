-- The text of a function while it is written, term by term.
use Rattle.std.proofs.Common.{◌≡◌, ℕ, suc, ◌+◌, ◌<◌, ◌≤◌, Bool, ℤ, pos, List, [], ◌∷◌, ◌++◌, length, get_or, drop, Some, slice_get, sym, ap, ◌∙◌, refl, append_assoc, add-one, drop-cons}
use Rattle.std.proofs.lemmas.List.{drop_all}
use Rattle.std.proofs.lemmas.Option.{get_or_from_slice_get, slice_get_within}
use Rattle.linear_cons.specs.Numbers.{number_at}
use Rattle.line_text.specs.AffineText.{Term, term_of, variable_terms}
use Rattle.line_text.specs.Parts.{rest_text}

-- the terms from a place on are those of the place and those from the next
variable_terms_at :
    (names : List (List ℕ)) (numbers : List ℤ) (i : ℕ) (name : List ℕ) → slice_get names i ≡ Some name → i < length numbers
    → variable_terms (drop i names) (drop i numbers) ≡ term_of (number_at numbers i) (Some name) ++ variable_terms (drop (i + 1) names)
    (drop (i + 1) numbers)
variable_terms_at names numbers i name is low =
    let there : get_or names i [] ≡ name = get_or_from_slice_get names i name [] is in
    let inside = slice_get_within names i name is in
    let front : drop i names ≡ name ∷ drop (suc i) names = drop-cons names i [] inside ∙ ap (λ t. t ∷ drop (suc i) names) there in
    let front' = drop-cons numbers i (pos 0) low in
    rw (front, front', add-one) refl

-- one place more is written
pub one_more :
    (names : List (List ℕ)) (numbers : List ℤ) (i : ℕ) (name : List ℕ) (number : ℤ) (begun stands : Bool) (constant : List Term)
    (now then whole : List ℕ)
    → slice_get names i ≡ Some name → i < length numbers → number ≡ number_at numbers i
    → ((more : List Term) → now ++ rest_text stands more ≡ then ++ rest_text begun (term_of number (Some name) ++ more))
    → then ++ rest_text begun (variable_terms (drop i names) (drop i numbers) ++ constant) ≡ whole
    → now ++ rest_text stands (variable_terms (drop (i + 1) names) (drop (i + 1) numbers) ++ constant) ≡ whole
one_more names numbers i name number begun stands constant now then whole is low same step before =
    let more = variable_terms (drop (i + 1) names) (drop (i + 1) numbers) in
    let split : variable_terms (drop i names) (drop i numbers) ++ constant ≡ term_of number (Some name) ++ (more ++ constant) = ap
    (λ t. t ++ constant) (variable_terms_at names numbers i name is low)
    ∙ (append_assoc (term_of (number_at numbers i) (Some name)) more constant
    ∙ ap (λ z. term_of z (Some name) ++ (more ++ constant)) (sym same)) in
    step (more ++ constant) ∙ (ap (λ t. then ++ rest_text begun t) (sym split) ∙ before)

-- past the names no term with a variable is left
pub none_left :
    (names : List (List ℕ)) (numbers : List ℤ) (i : ℕ) (begun : Bool) (constant : List Term) (now whole : List ℕ) → length names ≤ i
    → now ++ rest_text begun (variable_terms (drop i names) (drop i numbers) ++ constant) ≡ whole → now ++ rest_text begun constant ≡ whole
none_left names numbers i begun constant now whole past before =
    ap (λ t. now ++ rest_text begun (variable_terms t (drop i numbers) ++ constant)) (sym (drop_all i names past)) ∙ before
