-- Names and numerals as words: no byte of them ends a word, a name begins above the digits, a numeral with one, and numerals are read back.
use Rattle.std.proofs.Common.{◌≡◌, ℕ, suc, ◌+◌, ◌%◌, ◌<◌, false, ◌||◌, ◌==◌, List, [], ◌∷◌, ◌++◌, length, get_or, IsTrue, All, sym, ap, ◌∙◌, arith}
use Rattle.std.proofs.lemmas.Bool.Decides.{nat_tests}
use Rattle.std.proofs.lemmas.Int.Digits.{digits_value_push, digits_push}
use Rattle.std.specs.Char.{digit_value, is_ascii_digit}
use Rattle.std.specs.Str.Parse.{AllDigits, IsNumeral, digits_value}
use Rattle.line_text.specs.Names.{IsName, begins_name}
use Rattle.line_text.specs.Numeral.{numeral}
use Rattle.line_text.proofs.Cuts.{is_stop, IsWord}
use Rattle.line_text.proofs.Numerals.{numeral_by_steps}

-- the text begins with a byte above the digits, or with a digit
abbrev pub BeginsAbove : List ℕ → Type 0
BeginsAbove [] = ⊥
BeginsAbove (byte ∷ bytes) = 58 < byte

abbrev pub BeginsDigit : List ℕ → Type 0
BeginsDigit [] = ⊥
BeginsDigit (byte ∷ bytes) = byte < 58

name_byte : (byte : ℕ) → IsTrue (begins_name byte || is_ascii_digit byte || byte == 46) → is_stop byte ≡ false
name_byte byte h = grind (arith, nat_tests)

letter_above : (byte : ℕ) → IsTrue (begins_name byte) → 58 < byte
letter_above byte h = grind (arith, nat_tests)

digit_byte : (d : ℕ) → d < 10 → is_stop (48 + d) ≡ false
digit_byte d low = grind (arith, nat_tests)

digit_read : (d : ℕ) → d < 10 → digit_value (48 + d) ≡ d
digit_read d low = grind (arith, nat_tests)

word_of : (bytes : List ℕ) → All (λ byte. IsTrue (begins_name byte || is_ascii_digit byte || byte == 46)) bytes → IsWord bytes
word_of [] all = tt
word_of (byte ∷ bytes) all = (name_byte byte (all 0 0 (omega arith)), word_of bytes (λ k d low. all (suc k) d (omega arith)))

pub name_is_word : (name : List ℕ) → IsName name → IsWord name
name_is_word name is = word_of name is.each

name_above : (name : List ℕ) → 0 < length name → IsTrue (begins_name (get_or name 0 0)) → BeginsAbove name
name_above [] some begins = absurd (omega arith)
name_above (byte ∷ bytes) some begins = letter_above byte begins

pub name_begins : (name : List ℕ) → IsName name → BeginsAbove name
name_begins name is = name_above name is.nonempty is.begins

-- a digit more keeps a word of digits
word_push : (bytes : List ℕ) (byte : ℕ) → IsWord bytes → is_stop byte ≡ false → IsWord (bytes ++ byte ∷ [])
word_push [] byte is last = (last, tt)
word_push (first ∷ bytes) byte is last = (is.0, word_push bytes byte is.1 last)

digit_push : (bytes : List ℕ) (byte : ℕ) → BeginsDigit bytes → BeginsDigit (bytes ++ byte ∷ [])
digit_push [] byte is = absurd is
digit_push (first ∷ bytes) byte is = is

pub numeral_is_word : (n : ℕ) → IsWord (numeral n)
numeral_is_word = numeral_by_steps (λ n ds. IsWord ds)
    (λ n small. (digit_byte n small, tt))
    (λ n ds large is. word_push ds (48 + n % 10) is (digit_byte (n % 10) (omega arith)))

pub numeral_begins : (n : ℕ) → BeginsDigit (numeral n)
numeral_begins = numeral_by_steps (λ n ds. BeginsDigit ds)
    (λ n small. omega arith)
    (λ n ds large is. digit_push ds (48 + n % 10) is)

-- reading the digits back gives the number
pub numeral_value : (n : ℕ) → digits_value 10 (numeral n) ≡ n
numeral_value = numeral_by_steps (λ n ds. digits_value 10 ds ≡ n)
    (λ n small. digits_value_push 10 [] (48 + n) ∙ (let d : digit_value (48 + n) ≡ n = digit_read n small in omega arith))
    (λ n ds large is. digits_value_push 10 ds (48 + n % 10) ∙ (let d : digit_value (48 + n % 10) ≡ n % 10 = digit_read (n % 10)
    (omega arith) in omega arith))

pub numeral_injective : (m n : ℕ) → numeral m ≡ numeral n → m ≡ n
numeral_injective m n e = sym (numeral_value m) ∙ (ap (digits_value 10) e ∙ numeral_value n)

pub numeral_is_numeral : (n : ℕ) → IsNumeral 10 (numeral n)
numeral_is_numeral n = (
  some (numeral n) (numeral_begins n),
  numeral_by_steps (λ m ds. AllDigits 10 ds)
      (λ m small. digits_push 10 [] (48 + m) tt (let d : digit_value (48 + m) ≡ m = digit_read m small in omega arith))
      (λ m ds large is. digits_push 10 ds (48 + m % 10) is (let d : digit_value (48 + m % 10) ≡ m % 10 = digit_read (m % 10)
      (omega arith) in omega arith)) n,
)
  where
    some : (bytes : List ℕ) → BeginsDigit bytes → 0 < length bytes
    some [] begins = absurd begins
    some (byte ∷ bytes) begins = omega arith
