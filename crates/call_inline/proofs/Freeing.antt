-- The places at which a list says true, entry after entry.
use Rattle.std.proofs.Common.{◌≡◌, ℕ, ◌+◌, ◌<◌, ◌≤◌, Bool, true, false, List, [], ◌∷◌, ◌++◌, length, get_or, take, ap, ◌∙◌, add-one, arith}
use Rattle.std.proofs.Math.Seq.{take-suc}
use Rattle.std.proofs.lemmas.List.{length-take-le, append-nil}
use Rattle.call_meaning.specs.Tables.{places_from}

places_both : (n : ℕ) (xs ys : List Bool) → places_from n (xs ++ ys) ≡ places_from n xs ++ places_from (n + length xs) ys
places_both n [] ys = let same : n ≡ n + 0 = omega arith in ap (λ k. places_from k ys) same
places_both n (true ∷ xs) ys =
    let same : n + 1 + length xs ≡ n + length (true ∷ xs) = omega arith in
    ap (λ l. n ∷ l) (places_both (n + 1) xs ys ∙ ap (λ k. places_from (n + 1) xs ++ places_from k ys) same)
places_both n (false ∷ xs) ys =
    let same : n + 1 + length xs ≡ n + length (false ∷ xs) = omega arith in
    places_both (n + 1) xs ys ∙ ap (λ k. places_from (n + 1) xs ++ places_from k ys) same

take_more : (l : List Bool) (i : ℕ) (b : Bool) → i < length l → get_or l i false ≡ b → take (i + 1) l ≡ take i l ++ b ∷ []
take_more l i b low is = ap (λ k. take k l) (add-one i) ∙ take-suc l i false low ∙ ap (λ x. take i l ++ x ∷ []) is

-- one entry more says true, or it doesn't
pub place_more : (l : List Bool) (i : ℕ) → i < length l → get_or l i false ≡ true → places_from 0 (take (i + 1) l) ≡ places_from 0 (take i l) ++ i ∷ []
place_more l i low is =
    let within : i ≤ length l = omega arith in
    let count = length-take-le i l within in
    ap (places_from 0) (take_more l i true low is) ∙ places_both 0 (take i l) (true ∷ [])
    ∙ (let same : 0 + length (take i l) ≡ i = omega arith in ap (λ k. places_from 0 (take i l) ++ k ∷ []) same)

pub place_same : (l : List Bool) (i : ℕ) → i < length l → get_or l i false ≡ false → places_from 0 (take (i + 1) l) ≡ places_from 0 (take i l)
place_same l i low is =
    ap (places_from 0) (take_more l i false low is) ∙ places_both 0 (take i l) (false ∷ []) ∙ append-nil (places_from 0 (take i l))
