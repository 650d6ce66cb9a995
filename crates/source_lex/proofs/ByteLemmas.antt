-- What the tests of bytes tell.
use Rattle.std.proofs.Common.{◌≡◌, ℕ, ◌<◌, ◌≤◌, Bool, true, false, List, [], ◌∷◌, length, slice_index, refl, subst, ⊎_elim, arith}
use Rattle.std.proofs.lemmas.Bool.{cases_lt, false≢true, or_cases, and_parts}
use Rattle.std.proofs.lemmas.Bool.Decides.{nat_tests, Decides-eqb, Decides-ltb}
use Rattle.std.proofs.lemmas.List.{get_or_past}
use Rattle.std.specs.List.{list_all}
use Rattle.std.specs.Prelude.{codes, ◌==◌, ◌&&◌, nat_lt, not}
use Rattle.source_lex.specs.Bytes.{is_blank, is_letter, is_digit, is_name_byte}
use Rattle.source_lex.specs.Signs.{is_one_of, is_single_sign, is_double_sign}

-- a digit is a byte from `0` to `9`
pub at_least_48 : (byte : ℕ) → is_digit byte ≡ true → 48 ≤ byte
unfolding is_digit
at_least_48 byte h = grind (arith, nat_tests)

-- a byte other than 0 is within the text
pub within_when : (text : List ℕ) (i byte : ℕ) → slice_index text i ≡ byte → 0 < byte → i < length text
within_when text i byte is positive =
    ⊎_elim (λ inside. inside) (λ past. absurd (omega (arith, is, get_or_past text i 0 past))) (cases_lt i (length text))

-- a name goes on with what it begins with
pub name_byte-from_letter : (byte : ℕ) → is_letter byte ≡ true → is_name_byte byte ≡ true
unfolding is_name_byte
name_byte-from_letter byte h = rw h

-- a name goes on with digits
pub name_byte-from_digit : (byte : ℕ) → is_digit byte ≡ true → is_name_byte byte ≡ true
unfolding is_name_byte
name_byte-from_digit byte h = grind (arith, nat_tests)

-- a letter is no blank
pub blank-letter : (byte : ℕ) → is_letter byte ≡ true → is_blank byte ≡ false
unfolding is_letter is_blank
blank-letter byte h = grind (arith, nat_tests)

-- a digit is no blank
pub blank-digit : (byte : ℕ) → is_digit byte ≡ true → is_blank byte ≡ false
unfolding is_digit is_blank
blank-digit byte h = grind (arith, nat_tests)

-- a digit is no letter
pub letter-digit : (byte : ℕ) → is_digit byte ≡ true → is_letter byte ≡ false
unfolding is_digit is_letter
letter-digit byte h = grind (arith, nat_tests)

-- no blank, letter or digit
unfoldable pub is_plain : ℕ → Bool
is_plain byte = not (is_blank byte) && (not (is_letter byte) && not (is_digit byte))

not_true : (b : Bool) → not b ≡ true → b ≡ false
not_true true h = absurd (false≢true h)
not_true false h = refl

-- what holds of each of some bytes holds of one of them
pub one_of_all : (test : ℕ → Bool) (bytes : List ℕ) (byte : ℕ) → is_one_of bytes byte ≡ true → list_all test bytes ≡ true → test byte ≡ true
one_of_all test [] byte among each = absurd (false≢true among)
one_of_all test (x ∷ xs) byte among each =
    let parts = and_parts (test x) (list_all test xs) each in
    ⊎_elim
    (λ this. subst (λ b. test b ≡ true) ((Decides-eqb x byte).0 this) parts.0)
    (λ later. one_of_all test xs byte later parts.1)
    (or_cases (x == byte) (is_one_of xs byte) among)

-- a byte that is a sign is plain
pub plain-single : (byte : ℕ) → is_single_sign byte ≡ true → is_plain byte ≡ true
unfolding is_single_sign is_plain is_blank is_letter is_digit
plain-single byte h = one_of_all is_plain (codes "<>=+-*/%!(){}[];,?") byte h refl

-- what holds of each byte that begins a sign of two
begins-double : (test : ℕ → Bool) (byte next : ℕ) → list_all test (codes "+-&|") ≡ true → list_all test (codes "+-*=!<>") ≡ true → is_double_sign byte next ≡ true → test byte ≡ true
unfolding is_double_sign
begins-double test byte next of_doubled of_equals h =
    ⊎_elim
    (λ doubled. one_of_all test (codes "+-&|") byte (and_parts (next == byte) (is_one_of (codes "+-&|") byte) doubled).1 of_doubled)
    (λ equals. one_of_all test (codes "+-*=!<>") byte (and_parts (next == 61) (is_one_of (codes "+-*=!<>") byte) equals).1 of_equals)
    (or_cases (next == byte && is_one_of (codes "+-&|") byte) (next == 61 && is_one_of (codes "+-*=!<>") byte) h)

-- it is plain
pub plain-double : (byte next : ℕ) → is_double_sign byte next ≡ true → is_plain byte ≡ true
unfolding is_plain is_blank is_letter is_digit
plain-double byte next h = begins-double is_plain byte next refl refl h

-- it is no `/`
pub no_slash-double : (byte next : ℕ) → is_double_sign byte next ≡ true → (byte == 47) ≡ false
no_slash-double byte next h = not_true (byte == 47) (begins-double (λ b. not (b == 47)) byte next refl refl h)

-- a sign of two bytes has no byte 0 behind its first
pub next-double : (byte next : ℕ) → is_double_sign byte next ≡ true → 0 < next
unfolding is_double_sign
next-double byte next h =
    ⊎_elim
    (λ doubled.
    let parts = and_parts (next == byte) (is_one_of (codes "+-&|") byte) doubled in
    let positive : 0 < byte = (Decides-ltb 0 byte).0 (one_of_all (nat_lt 0) (codes "+-&|") byte parts.1 refl) in
    omega (arith, (Decides-eqb next byte).0 parts.0))
    (λ equals. omega (arith, (Decides-eqb next 61).0 (and_parts (next == 61) (is_one_of (codes "+-*=!<>") byte) equals).0))
    (or_cases (next == byte && is_one_of (codes "+-&|") byte) (next == 61 && is_one_of (codes "+-*=!<>") byte) h)

-- what a plain byte isn't
pub record PlainParts (byte : ℕ) : Type 0 where
  pub no_blank : is_blank byte ≡ false
  pub no_letter : is_letter byte ≡ false
  pub no_digit : is_digit byte ≡ false

pub plain_parts : (byte : ℕ) → is_plain byte ≡ true → PlainParts byte
unfolding is_plain
plain_parts byte h =
    let p = and_parts (not (is_blank byte)) (not (is_letter byte) && not (is_digit byte)) h in
    let q = and_parts (not (is_letter byte)) (not (is_digit byte)) p.1 in
    record { no_blank = not_true _ p.0; no_letter = not_true _ q.0; no_digit = not_true _ q.1 }

-- a test that can't be true is false
pub false_when : (b : Bool) → (b ≡ true → ⊥) → b ≡ false
false_when true h = absurd (h refl)
false_when false h = refl

-- a test of two bytes at once is false, where they aren't these
pub not_both : (byte next x y : ℕ) → ((byte ≡ x) × (next ≡ y) → ⊥) → (byte == x && next == y) ≡ false
not_both byte next x y h =
    false_when (byte == x && next == y)
    (λ both. let parts = and_parts (byte == x) (next == y) both in h ((Decides-eqb byte x).0 parts.0, (Decides-eqb next y).0 parts.1))
