-- The texts of rows, as they are joined one after the other.
use Rattle.std.proofs.Common.{◌≡◌, ℕ, ◌+◌, ◌<◌, List, [], ◌∷◌, ◌++◌, length, take, get_or, refl, sym, ap, ◌∙◌, codes}
use Rattle.std.specs.Global.{Vec}
use Rattle.std.proofs.lemmas.List.{append-nil, append_assoc, map-append, take_more}
use Rattle.line_text.specs.Buffer.{bytes_in}
use Rattle.line_text.specs.LineText.{more_joined}

-- the texts of one vector more
pub bytes_more : (vectors : List (Vec ℕ)) (i : ℕ) (vector : Vec ℕ) → i < length vectors → vector ≡ get_or vectors i vector →
    bytes_in (take (i + 1) vectors) ≡ bytes_in (take i vectors) ++ vector.items ∷ []
bytes_more vectors i vector low is = ap (λ t. bytes_in t) (take_more vectors i vector low ∙ ap (λ v. take i vectors ++ v ∷ []) (sym is)) ∙ map-append (λ (v : Vec ℕ). v.items) (take i vectors) (vector ∷ [])

more_append : (xs ys : List (List ℕ)) → more_joined (xs ++ ys) ≡ more_joined xs ++ more_joined ys
more_append [] ys = refl
more_append (x ∷ xs) ys = ap (λ t. codes " and " ++ (x ++ t)) (more_append xs ys) ∙ ap (λ t. codes " and " ++ t) (sym (append_assoc x (more_joined xs) (more_joined ys)))

pub rows_more : (rows : List (Vec ℕ)) (i : ℕ) (row : Vec ℕ) (old text next : List ℕ) → i < length rows → row ≡ get_or rows i row →
    text ≡ old ++ more_joined (bytes_in (take i rows)) → next ≡ (text ++ codes " and ") ++ row.items →
    next ≡ old ++ more_joined (bytes_in (take (i + 1) rows))
rows_more rows i row old text next low is so_far step =
    let more : more_joined (bytes_in (take (i + 1) rows)) ≡ more_joined (bytes_in (take i rows)) ++ (codes " and " ++ (row.items ++ [])) = ap (λ t. more_joined t) (bytes_more rows i row low is) ∙ more_append (bytes_in (take i rows)) (row.items ∷ []) in
    step ∙ append_assoc text (codes " and ") row.items ∙ ap (λ t. t ++ (codes " and " ++ row.items)) so_far ∙ append_assoc old (more_joined (bytes_in (take i rows))) (codes " and " ++ row.items)
    ∙ ap (λ t. old ++ (more_joined (bytes_in (take i rows)) ++ (codes " and " ++ t))) (sym (append-nil row.items)) ∙ ap (λ t. old ++ t) (sym more)
