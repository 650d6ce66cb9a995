-- A claim alone says what a line without a condition says, and has no colon.
use Rattle.std.proofs.Common.{◌≡◌, ◌≢◌, ◌∙◌, ℕ, zero, suc, ◌<◌, true, false, List, [], ◌∷◌, ◌++◌, length, get_or, All, codes, sym, ap, subst, arith}
use Rattle.std.proofs.lemmas.Bool.Decides.{nat_tests}
use Rattle.std.proofs.lemmas.List.Elements.{All-nil}
use Rattle.linear_cons.specs.declared.affine.Affine.{Affine}
use Rattle.line_text.specs.declared.claim.Claim.{Claim}
use Rattle.line_text.specs.LineText.{claim_text, condition_text}
use Rattle.line_text.specs.Names.{AreNames, IsOver}
use Rattle.line_text.specs.Spells.{Spells}
use Rattle.line_text.proofs.LineForms.{IsClean, claim_clean, is_plain, line_clean}
use Rattle.line_text.proofs.Lines.{line_cut}
use Rattle.line_text.proofs.Terms.{distinct_names}
use Rattle.claim_line.specs.Tells.{Tells}

-- ---- behind `always: ` it is a line of no condition

prefixed : (names : List (List ℕ)) (line : List ℕ) (claim : Claim) → Tells names line claim → Spells names (codes "always: " ++ line) [] claim
prefixed names line claim tells = record {
  condition_over = All-nil (IsOver names);
  claim_over = tells.claim_over;
  text = ap (λ t. codes "always: " ++ t) tells.text;
}

pub one_claim : (names : List (List ℕ)) (line : List ℕ) (claim other : Claim) → AreNames names → Tells names line claim → Tells names line other → claim ≡ other
one_claim names line claim other are first second =
    (line_cut names (codes "always: " ++ line) [] [] claim other are (prefixed names line claim first) (prefixed names line other second)).1

pub no_newline : (names : List (List ℕ)) (line : List ℕ) (claim : Claim) → AreNames names → Tells names line claim → All (λ byte. byte ≢ 10) line
no_newline names line claim are tells =
    let all = line_clean names (codes "always: " ++ line) [] claim are (prefixed names line claim tells) in
    λ k d low. all (suc (suc (suc (suc (suc (suc (suc (suc k)))))))) d (omega arith)

-- ---- no byte of it is a colon

no_colon_behind : (front rest : List ℕ) → IsClean (front ++ 58 ∷ rest) → ⊥
no_colon_behind [] rest is = let clash : false ≡ true = is.0 in cc
no_colon_behind (b ∷ front) rest is = no_colon_behind front rest is.1

apart : (byte : ℕ) → is_plain byte ≡ true → byte ≢ 58
apart byte plain e = let t = plain in grind (arith, nat_tests)

each_apart : (xs : List ℕ) → IsClean xs → (k d : ℕ) → k < length xs → get_or xs k d ≢ 58
each_apart [] is k d low = absurd (omega arith)
each_apart (b ∷ xs) is zero d low = apart b is.0
each_apart (b ∷ xs) is (suc k) d low = each_apart xs is.1 k d (omega arith)

pub no_colon : (names : List (List ℕ)) (line : List ℕ) (claim : Claim) → AreNames names → Tells names line claim → All (λ byte. byte ≢ 58) line
no_colon names line claim are tells = rw tells.text (each_apart (claim_text names claim) (claim_clean names claim (distinct_names names are)))

pub no_line : (names : List (List ℕ)) (line : List ℕ) (condition : List Affine) (claim other : Claim) → AreNames names → Tells names line claim
    → Spells names line condition other → ⊥
no_line names line condition claim other are tells spells =
    no_colon_behind (condition_text names condition) (32 ∷ claim_text names other)
    (subst IsClean (sym tells.text ∙ spells.text) (claim_clean names claim (distinct_names names are)))
