-- The texts of demo programs are short.
use Rattle.std.proofs.Common.{◌≡◌, ◌∙◌, ℕ, zero, suc, ◌+◌, ◌*◌, ◌≤◌, ◌++◌, length, codes, refl, ap, arith}
use Rattle.std.proofs.lemmas.List.{length-append}
use Rattle.line_text.specs.Numeral.{numeral}
use Rattle.number_parse.proofs.Digits.{few_digits}
use Rattle.demo_program.specs.Demo.{demo_text, turn_text}

-- the end of a text, an addition, and the begin
end_length : length (codes "x = x - 1; } }") ≡ 14
end_length = refl

front_length : length (codes "a = a + ") ≡ 8
front_length = refl

sign_length : length (codes "; ") ≡ 2
sign_length = refl

begin_length : length (codes "int main() { int a, x; while (x > 0) { ") ≡ 39
begin_length = refl

turn_short : (left first : ℕ) → left + first ≤ 2000 → length (turn_text left first) ≤ 14 + 29 * left
turn_short zero first few = let end = end_length in omega (arith, end)
turn_short (suc left) first few =
    let rest = turn_text left (suc first) in
    let all : length (turn_text (suc left) first) ≡ length (codes "a = a + ") + (length (numeral first) + (length (codes "; ") + length rest)) =
    length-append (codes "a = a + ") (numeral first ++ (codes "; " ++ rest))
    ∙ ap (λ n. length (codes "a = a + ") + n) (length-append (numeral first) (codes "; " ++ rest))
    ∙ ap (λ n. length (codes "a = a + ") + (length (numeral first) + n)) (length-append (codes "; ") rest) in
    let front = front_length in
    let sign = sign_length in
    let digits = few_digits first (omega (arith, few)) in
    let more = turn_short left (suc first) (omega (arith, few)) in
    omega (arith, all, front, sign, digits, more)

pub demo_short : (n : ℕ) → n ≤ 1000 → length (demo_text n) ≤ 65536
demo_short n few =
    let all = length-append (codes "int main() { int a, x; while (x > 0) { ") (turn_text n 1) in
    let begin = begin_length in
    let rest = turn_short n 1 (omega (arith, few)) in
    omega (arith, all, begin, rest)
