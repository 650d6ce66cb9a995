-- A term is read back from its text, where a blank, a colon or `)` follows.
use Rattle.std.proofs.Common.{◌≡◌, ◌≢◌, ℕ, Bool, true, false, ◌||◌, eqb, ◌⊎◌, inl, inr, ⊎_elim, ℤ, pos, negsuc, List, [], ◌∷◌, ◌++◌, Option, None, Some, sym, refl, ap, ◌∙◌, arith, append_assoc, unsigned_abs}
use Rattle.std.specs.Prelude.{⊤}
use Rattle.std.proofs.lemmas.Bool.Decides.{eqb_tells, nat_tests}
use Rattle.line_text.specs.AffineText.{front_sign, joining_sign, product_text}
use Rattle.line_text.specs.Numeral.{numeral}
use Rattle.line_text.proofs.Cuts.{is_stop, word_cut, BeginsStopped, BeginsWord, IsWord}
use Rattle.line_text.proofs.Words.{BeginsAbove, BeginsDigit, numeral_begins, numeral_injective, numeral_is_word}

-- a blank, a colon or `)`, which is all that may follow a term
abbrev pub is_end : ℕ → Bool
is_end byte = eqb byte 32 || eqb byte 58 || eqb byte 41

abbrev pub BeginsEnded : List ℕ → Type 0
BeginsEnded [] = ⊥
BeginsEnded (byte ∷ bytes) = is_end byte ≡ true

-- a name that a term may have
abbrev pub IsNamed : Option (List ℕ) → Type 0
IsNamed None = ⊤
IsNamed (Some name) = IsWord name × BeginsAbove name

end_stops : (byte : ℕ) → is_end byte ≡ true → is_stop byte ≡ true
end_stops byte h = grind (arith, nat_tests)

stopped : (x : List ℕ) → BeginsEnded x → BeginsStopped x
stopped [] h = absurd h
stopped (byte ∷ x) h = end_stops byte h

-- what begins with a digit doesn't begin above the digits
heads_apart : (xs ys x y : List ℕ) → BeginsDigit xs → BeginsAbove ys → xs ++ x ≡ ys ++ y → ⊥
heads_apart [] ys x y p q e = p
heads_apart (b ∷ xs) [] x y p q e = q
heads_apart (b ∷ xs) (c ∷ ys) x y p q e = let same : b ≡ c = cc in omega arith

-- `*` ends no term
star_apart : (x y : List ℕ) → BeginsEnded x → x ≡ 42 ∷ y → ⊥
star_apart [] y p e = p
star_apart (b ∷ x) y p e =
    let same : b ≡ 42 = cc in let k : is_end 42 ≡ true = ap is_end (sym same) ∙ p in let l : true ≡ false = sym k in cc

pub product_cases :
    (m : ℕ) (name : List ℕ) → ((m ≡ 1) × (product_text m (Some name) ≡ name)) ⊎ (product_text m (Some name) ≡ numeral m ++ 42 ∷ name)
product_cases m name = ⊎_elim
    (λ (same : (eqb m 1 ≡ true) × (m ≡ 1)). inl (same.1, rw same.0 refl))
    (λ (apart : (eqb m 1 ≡ false) × (m ≢ 1)). inr (rw apart.0 refl))
    (eqb_tells m 1)

-- a number alone isn't a product with a variable
alone_apart : (m n : ℕ) (name x y : List ℕ) → BeginsAbove name → BeginsEnded x → numeral m ++ x ≡ product_text n (Some name) ++ y → ⊥
alone_apart m n name x y above ended e = ⊎_elim
    (λ (one : (n ≡ 1) × (product_text n (Some name) ≡ name)). heads_apart (numeral m) name x y (numeral_begins m) above
    (e ∙ ap (λ t. t ++ y) one.1))
    (λ (many : product_text n (Some name) ≡ numeral n ++ 42 ∷ name).
    let whole : numeral m ++ x ≡ numeral n ++ (42 ∷ (name ++ y)) = e ∙ (ap (λ t. t ++ y) many ∙ append_assoc (numeral n) (42 ∷ name) y) in
    star_apart x (name ++ y) ended (word_cut (numeral m) (numeral n) x (42 ∷ (name ++ y)) (numeral_is_word m) (numeral_is_word n)
    (stopped x ended) refl whole).1)
    (product_cases n name)

-- two products with a variable
products_cut :
    (m n : ℕ) (name other x y p q : List ℕ) → IsNamed (Some name) → IsNamed (Some other) → BeginsEnded x → BeginsEnded y
    → ((m ≡ 1) × (p ≡ name)) ⊎ (p ≡ numeral m ++ 42 ∷ name) → ((n ≡ 1) × (q ≡ other)) ⊎ (q ≡ numeral n ++ 42 ∷ other) → p ++ x ≡ q ++ y
    → (m ≡ n) × (name ≡ other) × (x ≡ y)
products_cut m n name other x y p q is is' ended ended' (inl one) (inl one') e =
    let cut = word_cut name other x y is.0 is'.0 (stopped x ended) (stopped y ended')
    (ap (λ t. t ++ x) (sym one.1) ∙ (e ∙ ap (λ t. t ++ y) one'.1)) in
    (one.0 ∙ sym one'.0, cut.0, cut.1)
products_cut m n name other x y p q is is' ended ended' (inl one) (inr many) e =
    absurd (heads_apart (numeral n) name (42 ∷ (other ++ y)) x (numeral_begins n) is.1
    (sym (append_assoc (numeral n) (42 ∷ other) y) ∙ (ap (λ t. t ++ y) (sym many) ∙ (sym e ∙ ap (λ t. t ++ x) one.1))))
products_cut m n name other x y p q is is' ended ended' (inr many) (inl one) e =
    absurd (heads_apart (numeral m) other (42 ∷ (name ++ x)) y (numeral_begins m) is'.1
    (sym (append_assoc (numeral m) (42 ∷ name) x) ∙ (ap (λ t. t ++ x) (sym many) ∙ (e ∙ ap (λ t. t ++ y) one.1))))
products_cut m n name other x y p q is is' ended ended' (inr many) (inr many') e =
    let whole : numeral m ++ (42 ∷ (name ++ x)) ≡ numeral n ++ (42 ∷ (other ++ y)) = sym (append_assoc (numeral m) (42 ∷ name) x)
    ∙ (ap (λ t. t ++ x) (sym many) ∙ (e ∙ (ap (λ t. t ++ y) many' ∙ append_assoc (numeral n) (42 ∷ other) y))) in
    let cut = word_cut (numeral m) (numeral n) (42 ∷ (name ++ x)) (42 ∷ (other ++ y)) (numeral_is_word m) (numeral_is_word n) refl refl
    whole in
    let rest : name ++ x ≡ other ++ y = let f = cut.1 in cc in
    let cut' = word_cut name other x y is.0 is'.0 (stopped x ended) (stopped y ended') rest in
    (numeral_injective m n cut.0, cut'.0, cut'.1)

pub product_cut :
    (m n : ℕ) (p q : Option (List ℕ)) (x y : List ℕ) → IsNamed p → IsNamed q → BeginsEnded x → BeginsEnded y
    → product_text m p ++ x ≡ product_text n q ++ y → (m ≡ n) × (p ≡ q) × (x ≡ y)
product_cut m n None None x y is is' ended ended' e =
    let cut = word_cut (numeral m) (numeral n) x y (numeral_is_word m) (numeral_is_word n) (stopped x ended) (stopped y ended') e in
    (numeral_injective m n cut.0, refl, cut.1)
product_cut m n None (Some name) x y is is' ended ended' e = absurd (alone_apart m n name x y is'.1 ended e)
product_cut m n (Some name) None x y is is' ended ended' e = absurd (alone_apart n m name y x is.1 ended' (sym e))
product_cut m n (Some name) (Some other) x y is is' ended ended' e =
    let cut = products_cut m n name other x y _ _ is is' ended ended' (product_cases m name) (product_cases n other) e in
    (cut.0, ap (λ (t : List ℕ). Some t) cut.1, cut.2)

-- a term without its sign begins with a byte of a word
word_first : (xs x : List ℕ) → IsWord xs → BeginsDigit xs ⊎ BeginsAbove xs → BeginsWord (xs ++ x)
word_first [] x is (inl h) = absurd h
word_first [] x is (inr h) = absurd h
word_first (b ∷ xs) x is h = is.0

pub product_first : (m : ℕ) (p : Option (List ℕ)) (x : List ℕ) → IsNamed p → BeginsWord (product_text m p ++ x)
product_first m None x is = word_first (numeral m) x (numeral_is_word m) (inl (numeral_begins m))
product_first m (Some name) x is = ⊎_elim
    (λ (one : (m ≡ 1) × (product_text m (Some name) ≡ name)). rw one.1 (word_first name x is.0 (inr is.1)))
    (λ (many : product_text m (Some name) ≡ numeral m ++ 42 ∷ name). rw (many, append_assoc)
    (word_first (numeral m) (42 ∷ (name ++ x)) (numeral_is_word m) (inl (numeral_begins m))))
    (product_cases m name)

-- both are negative, or neither is
abbrev pub SameSign : ℤ → ℤ → Type 0
SameSign (pos m) (pos n) = ⊤
SameSign (pos m) (negsuc n) = ⊥
SameSign (negsuc m) (pos n) = ⊥
SameSign (negsuc m) (negsuc n) = ⊤

pub number_back : (y z : ℤ) → SameSign y z → unsigned_abs y ≡ unsigned_abs z → y ≡ z
number_back (pos m) (pos n) same e = ap pos e
number_back (pos m) (negsuc n) same e = absurd same
number_back (negsuc m) (pos n) same e = absurd same
number_back (negsuc m) (negsuc n) same e = ap negsuc (omega arith)

no_minus : (x y : List ℕ) → BeginsWord x → x ≡ 45 ∷ y → ⊥
no_minus [] y p e = p
no_minus (b ∷ x) y p e = let same : b ≡ 45 = cc in let k : is_stop 45 ≡ false = ap is_stop (sym same) ∙ p in let l : true ≡ false = k in cc

pub front_cut : (y z : ℤ) (a b : List ℕ) → BeginsWord a → BeginsWord b → front_sign y ++ a ≡ front_sign z ++ b → SameSign y z × (a ≡ b)
front_cut (pos m) (pos n) a b p q e = (tt, e)
front_cut (pos m) (negsuc n) a b p q e = absurd (no_minus a b p e)
front_cut (negsuc m) (pos n) a b p q e = absurd (no_minus b a q (sym e))
front_cut (negsuc m) (negsuc n) a b p q e = (tt, cc)

signs_apart : (c d : ℕ) (x y : List ℕ) → c ≡ 43 → d ≡ 45 → 32 ∷ c ∷ x ≡ 32 ∷ d ∷ y → ⊥
signs_apart c d x y p q e = let same : c ≡ d = cc in omega arith

pub joining_cut : (y z : ℤ) (a b : List ℕ) → joining_sign y ++ a ≡ joining_sign z ++ b → SameSign y z × (a ≡ b)
joining_cut (pos m) (pos n) a b e = (tt, cc)
joining_cut (pos m) (negsuc n) a b e = absurd (signs_apart 43 45 (32 ∷ a) (32 ∷ b) refl refl e)
joining_cut (negsuc m) (pos n) a b e = absurd (signs_apart 43 45 (32 ∷ b) (32 ∷ a) refl refl (sym e))
joining_cut (negsuc m) (negsuc n) a b e = (tt, cc)
