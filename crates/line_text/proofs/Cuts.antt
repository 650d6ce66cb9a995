-- Where a word ends: two texts that begin with words, each followed by a byte that no word has, have the same word.
use Rattle.std.proofs.Common.{◌≡◌, ℕ, Bool, true, false, ◌||◌, ltb, eqb, List, [], ◌∷◌, ◌++◌, refl, arith}
use Rattle.std.specs.Prelude.{⊤}
use Rattle.std.proofs.lemmas.Bool.Decides.{nat_tests}

-- a byte that no word has: one below the dot (newline, blank, `*`, `+`, `-`), or a colon
abbrev pub is_stop : ℕ → Bool
is_stop byte = ltb byte 46 || eqb byte 58

-- no byte of the word is one of those
abbrev pub IsWord : List ℕ → Type 0
IsWord [] = ⊤
IsWord (byte ∷ bytes) = (is_stop byte ≡ false) × IsWord bytes

-- the text begins with one of those, and it begins with a byte of a word
abbrev pub BeginsStopped : List ℕ → Type 0
BeginsStopped [] = ⊥
BeginsStopped (byte ∷ bytes) = is_stop byte ≡ true

abbrev pub BeginsWord : List ℕ → Type 0
BeginsWord [] = ⊥
BeginsWord (byte ∷ bytes) = is_stop byte ≡ false

pub word_cut : (xs ys x y : List ℕ) → IsWord xs → IsWord ys → BeginsStopped x → BeginsStopped y → xs ++ x ≡ ys ++ y → (xs ≡ ys) × (x ≡ y)
word_cut [] [] x y p q s t e = (refl, e)
word_cut [] (b ∷ ys) [] y p q s t e = absurd s
word_cut [] (b ∷ ys) (c ∷ x) y p q s t e = absurd (let k : true ≡ false = cc (s, q.0) in cc)
word_cut (b ∷ xs) [] x [] p q s t e = absurd t
word_cut (b ∷ xs) [] x (c ∷ y) p q s t e = absurd (let k : true ≡ false = cc (t, p.0) in cc)
word_cut (b ∷ xs) (c ∷ ys) x y p q s t e =
    let more = word_cut xs ys x y p.1 q.1 s t cc in
    (let head : b ≡ c = cc in cc (head, more.0), more.1)

-- texts with different first bytes differ
pub heads_differ : (b c : ℕ) (x y : List ℕ) → eqb b c ≡ false → b ∷ x ≡ c ∷ y → ⊥
heads_differ b c x y apart e = let same : b ≡ c = cc in grind (arith, nat_tests)
