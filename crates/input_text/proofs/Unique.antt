-- A text is of at most one input.
use Rattle.std.proofs.Common.{◌≡◌, ◌≢◌, inl, inr, ◌∙◌, ℕ, suc, ◌<◌, ◌||◌, ◌==◌, ℤ, pos, neg_ℤ, List, [], ◌∷◌, ◌++◌, length, All, Any, IsTrue, refl, sym, ap, subst, arith}
use Rattle.std.specs.Char.{is_ascii_digit}
use Rattle.std.specs.Prelude.{⊤}
use Rattle.std.proofs.lemmas.Bool.{cases_lt}
use Rattle.std.proofs.lemmas.Bool.Decides.{nat_tests}
use Rattle.std.proofs.lemmas.List.{ext_get_or}
use Rattle.linear_cons.specs.Numbers.{number_at}
use Rattle.step_meaning.specs.Outcome.{Store}
use Rattle.step_meaning.specs.Run.{IsInput}
use Rattle.line_text.specs.Names.{AreNames, IsName, begins_name}
use Rattle.line_text.specs.Numeral.{numeral}
use Rattle.line_text.proofs.Words.{numeral_injective}
use Rattle.number_parse.specs.Signed.{IsNumberText}
use Rattle.number_parse.proofs.Hyphens.{no_hyphen}
use Rattle.input_text.specs.Input.{IsInputText, IsPairAt, IsPairOf, IsPairText, name_at}
use Rattle.input_text.specs.Pieces.{pieces}

-- a text says at most one number
one_number : (text : List ℕ) (a b : ℤ) → IsNumberText text a → IsNumberText text b → a ≡ b
one_number text a b (inl (m, is, value)) (inl (n, also, other)) = value ∙ ap pos (numeral_injective m n (sym is ∙ also)) ∙ sym other
one_number text a b (inl (m, is, value)) (inr (n, also, other)) = absurd (no_hyphen m (numeral n) (sym also ∙ is))
one_number text a b (inr (m, is, value)) (inl (n, also, other)) = absurd (no_hyphen n (numeral m) (sym is ∙ also))
one_number text a b (inr (m, is, value)) (inr (n, also, other)) =
    let both : 45 ∷ numeral m ≡ 45 ∷ numeral n = sym is ∙ also in
    let same : numeral m ≡ numeral n = cc in
    value ∙ ap (λ k. neg_ℤ (pos k)) (numeral_injective m n same) ∙ sym other

-- no byte is `=`
abbrev LacksSign : List ℕ → Type 0
LacksSign [] = ⊤
LacksSign (byte ∷ more) = (byte ≢ 61) × LacksSign more

not_sign : (byte : ℕ) → IsTrue (begins_name byte || is_ascii_digit byte || byte == 46) → byte ≢ 61
not_sign byte is = grind (arith, nat_tests)

lacks_sign : (bytes : List ℕ) → All (λ byte. IsTrue (begins_name byte || is_ascii_digit byte || byte == 46)) bytes → LacksSign bytes
lacks_sign [] all = tt
lacks_sign (byte ∷ bytes) all = (not_sign byte (all 0 0 (omega arith)), lacks_sign bytes (λ k d low. all (suc k) d (omega arith)))

-- what stands before the first `=` is the name, and what stands behind it is behind the name
parted : (x y a b : List ℕ) → LacksSign x → LacksSign y → x ++ 61 ∷ a ≡ y ++ 61 ∷ b → (x ≡ y) × (a ≡ b)
parted [] [] a b none other is = (refl, cc)
parted [] (c ∷ y) a b none other is = absurd (other.0 (let first : c ≡ 61 = cc in first))
parted (c ∷ x) [] a b none other is = absurd (none.0 (let first : c ≡ 61 = cc in first))
parted (c ∷ x) (d ∷ y) a b none other is =
    let first : c ≡ d = cc in
    let rest : x ++ 61 ∷ a ≡ y ++ 61 ∷ b = cc in
    let both = parted x y a b none.1 other.1 rest in (cc (first, both.0), both.1)

-- a pair is of one name and one number
one_pair : (x y piece : List ℕ) (a b : ℤ) → LacksSign x → LacksSign y → IsPairText x a piece → IsPairText y b piece → (x ≡ y) × (a ≡ b)
one_pair x y piece a b none other first second =
    let both = parted x y first.digits second.digits none other (sym first.text_is ∙ second.text_is) in
    (both.0, one_number second.digits a b (subst (λ t. IsNumberText t a) both.1 first.says) second.says)

module _ (names : List (List ℕ)) (are : AreNames names) where
  free : (place : ℕ) → place < length names → LacksSign (name_at names place)
  free place low = let is : IsName (name_at names place) = are.each place [] low in lacks_sign (name_at names place) is.each

  -- equal names have one place
  one_place : (i j : ℕ) → i < length names → j < length names → name_at names i ≡ name_at names j → i ≡ j
  one_place i j low few same = elim (cases_lt i j) [
    | inl less ↦ absurd (are.distinct i j [] less few same)
    | inr more ↦ elim (cases_lt j i) [
      | inl less ↦ absurd (are.distinct j i [] less low (sym same))
      | inr fewer ↦ omega (arith, more, fewer)
    ]
  ]

  at_place : (text : List ℕ) (input other : Store) → All (λ piece. IsPairOf names input piece) (pieces 44 text) → (place : ℕ) → place < length names
      → Any (λ piece. IsPairAt names other place piece) (pieces 44 text) → number_at other place ≡ number_at input place
  at_place text input other each place low (k, piece, within, is, pair) =
      let own : IsPairOf names input piece = subst (λ p. IsPairOf names input p) is (each k piece within) in
      let both = one_pair (name_at names place) (name_at names own.0) piece (number_at other place) (number_at input own.0) (free place low)
      (free own.0 own.1) pair own.2 in
      let same : place ≡ own.0 = one_place place own.0 low own.1 both.0 in
      both.1 ∙ ap (number_at input) (sym same)

  -- an input whose numbers the text gives is the input whose text it is
  pub same_input : (text : List ℕ) (input other : Store) → IsInputText names text input → IsInput (length names) other
      → ((place : ℕ) → place < length names → Any (λ piece. IsPairAt names other place piece) (pieces 44 text)) → other ≡ input
  same_input text input other is own some =
      ext_get_or (pos 0) other input (own.places ∙ sym is.input_is.places) each
    where
      each : (i : ℕ) → i < length other → number_at other i ≡ number_at input i
      each i low = elim (cases_lt i (length names)) [
        | inl less ↦ at_place text input other is.each i less (some i less)
        | inr more ↦ own.zeros i more ∙ sym (is.input_is.zeros i more)
      ]
