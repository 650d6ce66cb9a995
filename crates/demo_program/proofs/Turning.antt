-- The text of a turn, addition by addition.
use Rattle.std.proofs.Common.{◌≡◌, ◌≢◌, ◌∙◌, ℕ, zero, suc, ◌+◌, ◌-◌, ◌++◌, List, codes, refl, sym, ap, ap₂, arith}
use Rattle.std.proofs.lemmas.List.{append_assoc}
use Rattle.line_text.specs.Numeral.{numeral}
use Rattle.demo_program.specs.Demo.{turn_text}

turn_more : (left first : ℕ) → left ≢ 0 → turn_text left first ≡ codes "a = a + " ++ (numeral first ++ (codes "; " ++ turn_text (left - 1) (first + 1)))
turn_more zero first some = absurd (some refl)
turn_more (suc left) first some =
    let fewer : suc left - 1 ≡ left = omega arith in
    let next : first + 1 ≡ suc first = omega arith in
    ap₂ (λ n m. codes "a = a + " ++ (numeral first ++ (codes "; " ++ turn_text n m))) (sym fewer) (sym next)

-- a text to which an addition was added, piece by piece, and then the rest of the turn
pub turn_pushed : (old one two three now : List ℕ) (left first : ℕ) → left ≢ 0 → one ≡ old ++ codes "a = a + " → two ≡ one ++ numeral first
    → three ≡ two ++ codes "; " → now ≡ three ++ turn_text (left - 1) (first + 1) → now ≡ old ++ turn_text left first
turn_pushed old one two three now left first some a b c d =
    let rest = turn_text (left - 1) (first + 1) in
    d ∙ ap (λ t. t ++ rest) c ∙ append_assoc two (codes "; ") rest ∙ ap (λ t. t ++ (codes "; " ++ rest)) b
    ∙ append_assoc one (numeral first) (codes "; " ++ rest) ∙ ap (λ t. t ++ (numeral first ++ (codes "; " ++ rest))) a
    ∙ append_assoc old (codes "a = a + ") (numeral first ++ (codes "; " ++ rest)) ∙ ap (λ t. old ++ t) (sym (turn_more left first some))
