-- Numerals as lexemes.
use Rattle.std.proofs.Common.{◌≡◌, ◌≢◌, ◌∙◌, ℕ, ◌+◌, ◌*◌, ◌-◌, ◌%◌, ◌<◌, ◌≤◌, Bool, List, [], ◌∷◌, ◌++◌, length, fold, IsTrue, refl, sym, arith}
use Rattle.std.specs.Prelude.{slice_index}
use Rattle.std.proofs.lemmas.Bool.Decides.{nat_tests}
use Rattle.std.proofs.lemmas.List.{get_or_append_left, length-append}
use Rattle.source_lex.specs.Bytes.{is_digit}
use Rattle.source_lex.specs.Words.{decimal_value}
use Rattle.demo_program.proofs.Spelled.{AllPass}
use Rattle.line_text.specs.Numeral.{numeral}
use Rattle.line_text.proofs.Numerals.{numeral_by_steps}

fold_push : (f : ℕ → ℕ → ℕ) (start : ℕ) (xs : List ℕ) (x : ℕ) → fold f start (xs ++ x ∷ []) ≡ f (fold f start xs) x
fold_push f start [] x = refl
fold_push f start (y ∷ xs) x = fold_push f (f start y) xs x

value_push : (ds : List ℕ) (b : ℕ) → decimal_value (ds ++ b ∷ []) ≡ 10 * decimal_value ds + (b - 48)
unfolding decimal_value
value_push ds b = fold_push (λ value digit. 10 * value + (digit - 48)) 0 ds b

nothing : decimal_value [] ≡ 0
unfolding decimal_value
nothing = refl

pub value_is : (n : ℕ) → decimal_value (numeral n) ≡ n
value_is = numeral_by_steps (λ n ds. decimal_value ds ≡ n)
    (λ n small. value_push [] (48 + n) ∙ (let none : decimal_value [] ≡ 0 = nothing in omega arith))
    (λ n ds large is. value_push ds (48 + n % 10) ∙ (omega arith))

digit_is : (n : ℕ) → n < 10 → IsTrue (is_digit (48 + n))
unfolding is_digit
digit_is n low = grind (arith, nat_tests)

pass_push : (test : ℕ → Bool) (ds : List ℕ) (b : ℕ) → AllPass test ds → IsTrue (test b) → AllPass test (ds ++ b ∷ [])
pass_push test [] b all is = (is, tt)
pass_push test (d ∷ ds) b all is = (all.0, pass_push test ds b all.1 is)

pub digits_pass : (n : ℕ) → AllPass is_digit (numeral n)
digits_pass = numeral_by_steps (λ n ds. AllPass is_digit ds)
    (λ n small. (digit_is n small, tt))
    (λ n ds large is. pass_push is_digit ds (48 + n % 10) is (digit_is (n % 10) (omega arith)))

pub some_digit : (n : ℕ) → 0 < length (numeral n)
some_digit = numeral_by_steps (λ n ds. 0 < length ds) (λ n small. omega arith)
    (λ n ds large is. let l = length-append ds ((48 + n % 10) ∷ []) in omega arith)

pub no_zero : (n : ℕ) → 1 ≤ n → slice_index (numeral n) 0 ≢ 48
no_zero n = (numeral_by_steps (λ n ds. (0 < length ds) × (1 ≤ n → slice_index ds 0 ≢ 48))
    (λ n small. (omega arith, λ some. omega arith))
    (λ n ds large is. (
      let l = length-append ds ((48 + n % 10) ∷ []) in omega arith,
      λ some e. is.1 (omega arith) (sym (get_or_append_left ds ((48 + n % 10) ∷ []) 0 0 is.0) ∙ e),
    )) n).1
