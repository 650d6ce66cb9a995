-- No byte of a line is the newline byte, none of its condition and none of its claim the colon, and how a line opens.
use Rattle.std.proofs.Common.{◌≡◌, ◌≢◌, ℕ, zero, suc, ◌<◌, Bool, true, false, not, ◌||◌, eqb, inl, inr, ⊎_elim, ℤ, pos, negsuc, List, [], ◌∷◌, ◌++◌, length, get_or, Option, None, Some, All, refl, arith, unsigned_abs, codes}
use Rattle.std.specs.Prelude.{⊤}
use Rattle.std.specs.Ordering.{int_eq}
use Rattle.std.proofs.lemmas.Bool.Decides.{nat_tests}
use Rattle.std.proofs.lemmas.List.Elements.{Contains-append_left, Contains-append_right}
use Rattle.linear_cons.specs.declared.affine.Affine.{Affine}
use Rattle.line_text.specs.declared.claim.Claim.{Claim}
use Rattle.line_text.specs.declared.claim.Claim.TheVariants.{Exactly, Within, Holds, Ranked, Fits, Unknown}
use Rattle.line_text.specs.AffineText.{Term, affine_text, front_sign, joining_sign, later_text, number_text, product_text, sum_text, terms_of}
use Rattle.line_text.specs.LineText.{claim_text, condition_text, is_one, more_joined, power_text, rank_text, row_text, row_texts, shown, steps_word}
use Rattle.line_text.specs.Names.{AreNames}
use Rattle.line_text.specs.Numeral.{numeral}
use Rattle.line_text.specs.Spells.{OpensAsLine, Spells}
use Rattle.line_text.proofs.Cuts.{is_stop, IsWord}
use Rattle.line_text.proofs.Products.{IsNamed, product_cases}
use Rattle.line_text.proofs.Sums.{AllProper}
use Rattle.line_text.proofs.Terms.{AreDistinct, distinct_names, terms_proper}
use Rattle.line_text.proofs.Words.{numeral_is_word}

-- neither the newline byte nor the colon, code 58
abbrev pub is_plain : ℕ → Bool
is_plain byte = not (eqb byte 10 || eqb byte 58)

-- no byte is one of them
abbrev pub IsClean : List ℕ → Type 0
IsClean [] = ⊤
IsClean (byte ∷ bytes) = (is_plain byte ≡ true) × IsClean bytes

clean_append : (xs ys : List ℕ) → IsClean xs → IsClean ys → IsClean (xs ++ ys)
clean_append [] ys p q = q
clean_append (b ∷ xs) ys p q = (p.0, clean_append xs ys p.1 q)

byte_clean : (byte : ℕ) → is_stop byte ≡ false → is_plain byte ≡ true
byte_clean byte h = grind (arith, nat_tests)

word_clean : (xs : List ℕ) → IsWord xs → IsClean xs
word_clean [] is = tt
word_clean (b ∷ xs) is = (byte_clean b is.0, word_clean xs is.1)

numeral_clean : (n : ℕ) → IsClean (numeral n)
numeral_clean n = word_clean (numeral n) (numeral_is_word n)

product_clean : (m : ℕ) (p : Option (List ℕ)) → IsNamed p → IsClean (product_text m p)
product_clean m None is = numeral_clean m
product_clean m (Some name) is = ⊎_elim
    (λ (one : (m ≡ 1) × (product_text m (Some name) ≡ name)). rw one.1 (word_clean name is.0))
    (λ (many : product_text m (Some name) ≡ numeral m ++ 42 ∷ name). rw many
    (clean_append (numeral m) (42 ∷ name) (numeral_clean m) (refl, word_clean name is.0)))
    (product_cases m name)

front_clean : (z : ℤ) → IsClean (front_sign z)
front_clean (pos n) = tt
front_clean (negsuc n) = (refl, tt)

joining_clean : (z : ℤ) → IsClean (joining_sign z)
joining_clean (pos n) = (refl, (refl, (refl, tt)))
joining_clean (negsuc n) = (refl, (refl, (refl, tt)))

later_clean : (terms : List Term) → AllProper terms → IsClean (later_text terms)
later_clean [] are = tt
later_clean (term ∷ more) are =
    clean_append (joining_sign term.number) _ (joining_clean term.number)
    (clean_append (product_text (unsigned_abs term.number) term.name) _ (product_clean _ term.name are.0.named) (later_clean more are.1))

sum_clean : (terms : List Term) → AllProper terms → IsClean (sum_text terms)
sum_clean [] are = (refl, tt)
sum_clean (term ∷ more) are =
    clean_append (front_sign term.number) _ (front_clean term.number) (clean_append (product_text (unsigned_abs term.number) term.name) _
    (product_clean _ term.name are.0.named) (later_clean more are.1))

affine_clean : (names : List (List ℕ)) (affine : Affine) → AreDistinct names → IsClean (affine_text names affine)
affine_clean names affine are = sum_clean (terms_of names affine) (terms_proper names affine.coef affine.constant are)

row_end_clean : IsClean (codes " >= 0")
row_end_clean = (refl, (refl, (refl, (refl, (refl, tt)))))

more_rows_clean : (names : List (List ℕ)) (rows : List Affine) → AreDistinct names → IsClean (more_joined (row_texts names rows))
more_rows_clean names [] are = tt
more_rows_clean names (row ∷ more) are =
    clean_append (codes " and ") _ (refl, (refl, (refl, (refl, (refl, tt)))))
    (clean_append _ (more_joined (row_texts names more)) (clean_append (affine_text names row) (codes " >= 0") (affine_clean names row are)
    row_end_clean) (more_rows_clean names more are))

condition_clean : (names : List (List ℕ)) (rows : List Affine) → AreDistinct names → IsClean (condition_text names rows)
condition_clean names [] are = (refl, (refl, (refl, (refl, (refl, (refl, tt))))))
condition_clean names (row ∷ more) are =
    clean_append _ (more_joined (row_texts names more)) (clean_append (affine_text names row) (codes " >= 0") (affine_clean names row are)
    row_end_clean) (more_rows_clean names more are)

steps_clean : (one : Bool) → IsClean (steps_word one)
steps_clean true = (refl, (refl, (refl, (refl, (refl, tt)))))
steps_clean false = (refl, (refl, (refl, (refl, (refl, (refl, tt))))))

power_clean : (n : ℕ) → IsClean (power_text n)
power_clean zero = tt
power_clean (suc zero) = (refl, (refl, (refl, tt)))
power_clean (suc (suc n)) =
    clean_append (codes "w^") _ (refl, (refl, tt)) (clean_append (numeral (suc (suc n))) (codes "*(") (numeral_clean (suc (suc n))) (refl, (refl, tt)))

rank_clean : (names : List (List ℕ)) (functions : List Affine) → AreDistinct names → IsClean (rank_text names functions)
rank_clean names [] are = tt
rank_clean names (low ∷ []) are = affine_clean names low are
rank_clean names (high ∷ next ∷ rest) are =
    clean_append (power_text (suc (length rest))) _ (power_clean (suc (length rest)))
    (clean_append (affine_text names high) _ (affine_clean names high are)
    (clean_append (codes ") + ") _ (refl, (refl, (refl, (refl, tt)))) (rank_clean names (next ∷ rest) are)))

pub claim_clean : (names : List (List ℕ)) (claim : Claim) → AreDistinct names → IsClean (claim_text names claim)
claim_clean names (Exactly number) are =
    clean_append (codes "exactly ") _ (refl, (refl, (refl, (refl, (refl, (refl, (refl, (refl, tt))))))))
    (clean_append (number_text number) _ (clean_append (front_sign number) _ (front_clean number) (numeral_clean (unsigned_abs number)))
    (steps_clean (int_eq number (pos 1))))
claim_clean names (Within bound) are =
    clean_append (codes "within ") _ (refl, (refl, (refl, (refl, (refl, (refl, (refl, tt)))))))
    (clean_append (affine_text names bound) _ (affine_clean names bound are) (steps_clean (is_one bound)))
claim_clean names Holds are = (refl, (refl, (refl, (refl, (refl, tt)))))
claim_clean names (Ranked functions) are =
    clean_append (codes "ends, rank ") _
    (refl, (refl, (refl, (refl, (refl, (refl, (refl, (refl, (refl, (refl, (refl, tt)))))))))))
    (rank_clean names (shown functions) are)
claim_clean names Fits are = (refl, (refl, (refl, (refl, tt))))
claim_clean names Unknown are = (refl, (refl, (refl, (refl, (refl, (refl, (refl, tt)))))))

-- ---- a line has the colon behind its condition, but no newline byte

abbrev IsOneLine : List ℕ → Type 0
IsOneLine [] = ⊤
IsOneLine (byte ∷ bytes) = (eqb byte 10 ≡ false) × IsOneLine bytes

no_newline : (byte : ℕ) → is_plain byte ≡ true → eqb byte 10 ≡ false
no_newline byte plain = grind (arith, nat_tests)

own_line : (xs : List ℕ) → IsClean xs → IsOneLine xs
own_line [] is = tt
own_line (b ∷ xs) is = (no_newline b is.0, own_line xs is.1)

line_behind : (xs ys : List ℕ) → IsClean xs → IsOneLine ys → IsOneLine (xs ++ ys)
line_behind [] ys is more = more
line_behind (b ∷ xs) ys is more = (no_newline b is.0, line_behind xs ys is.1 more)

each_clean : (xs : List ℕ) → IsOneLine xs → (k d : ℕ) → k < length xs → get_or xs k d ≢ 10
each_clean [] is k d low = absurd (omega arith)
each_clean (b ∷ xs) is zero d low = λ e. let t = is.0 in grind (arith, nat_tests)
each_clean (b ∷ xs) is (suc k) d low = each_clean xs is.1 k d (omega arith)

pub line_clean :
    (names : List (List ℕ)) (line : List ℕ) (condition : List Affine) (claim : Claim) → AreNames names → Spells names line condition claim
    → All (λ byte. byte ≢ 10) line
line_clean names line condition claim are spells =
    let distinct = distinct_names names are in
    rw spells.text (each_clean _ (line_behind (condition_text names condition) (codes ": " ++ claim_text names claim)
    (condition_clean names condition distinct) (refl, (refl, own_line (claim_text names claim) (claim_clean names claim distinct)))))

-- ---- a line opens as its condition does

pub line_opens :
    (names : List (List ℕ)) (line : List ℕ) (condition : List Affine) (claim : Claim) → Spells names line condition claim → OpensAsLine line
line_opens names line [] claim spells = inl (claim_text names claim, spells.text)
line_opens names line (row ∷ more) claim spells =
    inr (rw spells.text (Contains-append_left (condition_text names (row ∷ more)) (codes ": " ++ claim_text names claim) 62
    (Contains-append_left (row_text names row) (more_joined (row_texts names more)) 62
    (Contains-append_right (affine_text names row) (codes " >= 0") 62 (1, omega arith, refl)))))
