-- The pairs of two lists of conjunctions, made from the first on.
use Rattle.std.proofs.Common.{◌≡◌, ℕ, ◌+◌, ◌<◌, List, [], ◌∷◌, ◌++◌, length, get_or, take, map, sym, ap, ◌∙◌, append_assoc, append-nil}
use Rattle.std.proofs.lemmas.List.{take_more}
use Rattle.linear_cons.specs.declared.row.Row.{Row}
use Rattle.linear_forms.specs.Spreading.{pairs}

pairs_more : (xs ys : List (List Row)) (x : List Row) → pairs (xs ++ x ∷ []) ys ≡ pairs xs ys ++ map (λ other. x ++ other) ys
pairs_more [] ys x = append-nil (map (λ other. x ++ other) ys)
pairs_more (rows ∷ xs) ys x =
    ap (λ t. map (λ other. rows ++ other) ys ++ t) (pairs_more xs ys x)
    ∙ sym (append_assoc (map (λ other. rows ++ other) ys) (pairs xs ys) (map (λ other. x ++ other) ys))

pub pairs_step : (first second : List (List Row)) (i : ℕ) (x : List Row) (start before after : List (List Row)) → i < length first → x ≡ get_or first i x → before ≡ start ++ pairs (take i first) second → after ≡ before ++ map (λ other. x ++ other) second → after ≡ start ++ pairs (take (i + 1) first) second
pairs_step first second i x start before after low is so_far added =
    let each : List (List Row) = map (λ other. x ++ other) second in
    let more : take (i + 1) first ≡ take i first ++ x ∷ [] = take_more first i x low ∙ ap (λ t. take i first ++ t ∷ []) (sym is) in
    added
    ∙ ap (λ t. t ++ each) so_far
    ∙ append_assoc start (pairs (take i first) second) each
    ∙ ap (λ t. start ++ t) (sym (pairs_more (take i first) second x) ∙ ap (λ t. pairs t second) (sym more))
