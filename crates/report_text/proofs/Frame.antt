-- The lines of a report that say nothing: the header of its exact part, the heads, the explanation and the verdict.
use Rattle.std.proofs.Common.{◌≡◌, ◌≢◌, ℕ, ◌+◌, ◌<◌, Bool, true, false, not, ◌&&◌, inl, inr, ◌==◌, List, [], ◌∷◌, ◌++◌, get_or, codes, All, Some, refl, ap, subst, arith}
use Rattle.std.specs.Char.{digit_value}
use Rattle.std.specs.Str.Parse.{AllDigits}
use Rattle.std.proofs.lemmas.Bool.Decides.{Decides-eqb}
use Rattle.std.proofs.lemmas.List.Elements.{All-append, All-cons, All-contains, All-nil, All-weaker}
use Rattle.line_text.specs.Numeral.{numeral}
use Rattle.line_text.specs.Spells.{OpensAsLine}
use Rattle.line_text.proofs.Words.{numeral_is_numeral}
use Rattle.report_text.specs.declared.report.Explain.{Explain}
use Rattle.report_text.specs.declared.report.Header.{Header}
use Rattle.report_text.specs.declared.report.Header.TheVariants.{Absent, Partial, Stopped, Whole}
use Rattle.report_text.specs.declared.report.Stop.{Stop}
use Rattle.report_text.specs.declared.report.Stop.TheVariants.{NotPlain, TooManyNodes, WideNumbers}
use Rattle.report_text.specs.Printed.{Head, adviser_lines, cause_text, exact_part, explain_part, explained, head_text, proved_head, ranked_head, unknown_head, verdict_line}

abbrev pub Bytes : Type 0
Bytes = List ℕ

-- ---- lines without a newline byte

abbrev pub Lacks : Bytes → Type 0
Lacks line = All (λ byte. byte ≢ 10) line

-- ---- lines that say nothing

-- neither the newline byte nor `>`, code 62, stands among the bytes
abbrev pub IsFree : Bytes → Type 0
IsFree line = All (λ byte. (byte ≢ 10) × (byte ≢ 62)) line

abbrev is_free : Bytes → Bool
is_free [] = true
is_free (byte ∷ more) = not (byte == 10) && (not (byte == 62) && is_free more)

pub tested : (bytes : Bytes) → is_free bytes ≡ true → IsFree bytes
tested [] h = All-nil (λ byte. (byte ≢ 10) × (byte ≢ 62))
tested (byte ∷ more) h =
    elim (byte == 10) as (λ t. (byte == 10) ≡ t → (not t && (not (byte == 62) && is_free more)) ≡ true → IsFree (byte ∷ more)) [
      | true ↦ λ newline k. cc
      | false ↦ λ newline k. elim (byte == 62) as (λ t. (byte == 62) ≡ t → (not t && is_free more) ≡ true → IsFree (byte ∷ more)) [
        | true ↦ λ above rest. cc
        | false ↦ λ above rest. All-cons (λ b. (b ≢ 10) × (b ≢ 62)) byte more
            ((λ same. let is = (Decides-eqb byte 10).1 same in cc), (λ same. let is = (Decides-eqb byte 62).1 same in cc)) (tested more rest)
      ] refl k
    ] refl h

-- a digit is neither
pub digits_free : (digits : Bytes) → AllDigits 10 digits → IsFree digits
digits_free [] h = All-nil (λ byte. (byte ≢ 10) × (byte ≢ 62))
digits_free (digit ∷ more) h =
    All-cons (λ b. (b ≢ 10) × (b ≢ 62)) digit more (
      (λ e. let bad : digit_value 10 < 10 = subst (λ b. digit_value b < 10) e h.0 in absurd (omega arith)),
      (λ e. let bad : digit_value 62 < 10 = subst (λ b. digit_value b < 10) e h.0 in absurd (omega arith)),
    ) (digits_free more h.1)

pub both_free : (xs ys : Bytes) → IsFree xs → IsFree ys → IsFree (xs ++ ys)
both_free = All-append (λ byte. (byte ≢ 10) × (byte ≢ 62))

pub free_lacks : (line : Bytes) → IsFree line → Lacks line
free_lacks = All-weaker (λ byte. (byte ≢ 10) × (byte ≢ 62)) (λ byte. byte ≢ 10) (λ byte is. is.0)

-- Besides, the second byte isn't that of `always`: so the line opens as none that says anything.
pub record IsSilent (line : Bytes) : Type 0 where
  pub free : IsFree line
  pub second : get_or line 1 0 ≢ 108

pub says_nothing : (line : Bytes) → IsSilent line → ¬ OpensAsLine line
says_nothing line is (inl begins) = is.second (ap (λ l. get_or l 1 0) begins.1)
says_nothing line is (inr above) = (All-contains (λ byte. (byte ≢ 10) × (byte ≢ 62)) line 62 is.free above).1 refl

pub silent_lacks : (line : Bytes) → IsSilent line → Lacks line
silent_lacks line is = free_lacks line is.free

-- ---- headers

abbrev pub whole_line : ℕ → Bytes
whole_line tests = codes "exact, " ++ (numeral tests ++ codes " tests:")

abbrev pub partial_line : ℕ → Stop → Bytes
partial_line tests cause = codes "exact, " ++ (numeral tests ++ (codes " tests, then " ++ (cause_text cause ++ codes ":")))

abbrev pub stopped_line : Stop → Bytes
stopped_line cause = codes "exact: " ++ cause_text cause

numeral_free : (n : ℕ) → IsFree (numeral n)
numeral_free n = digits_free (numeral n) (numeral_is_numeral n).1

cause_free : (cause : Stop) → IsFree (cause_text cause)
cause_free WideNumbers = tested (codes "wide numbers") refl
cause_free TooManyNodes = tested (codes "too many nodes") refl
cause_free NotPlain = tested (codes "not a plain program") refl

pub whole_silent : (tests : ℕ) → IsSilent (whole_line tests)
whole_silent tests = record {
  free = both_free (codes "exact, ") (numeral tests ++ codes " tests:") (tested (codes "exact, ") refl)
      (both_free (numeral tests) (codes " tests:") (numeral_free tests) (tested (codes " tests:") refl));
  second = λ e. omega arith;
}

pub partial_silent : (tests : ℕ) (cause : Stop) → IsSilent (partial_line tests cause)
partial_silent tests cause = record {
  free = both_free (codes "exact, ") (numeral tests ++ (codes " tests, then " ++ (cause_text cause ++ codes ":"))) (tested (codes "exact, ") refl)
      (both_free (numeral tests) (codes " tests, then " ++ (cause_text cause ++ codes ":")) (numeral_free tests)
      (both_free (codes " tests, then ") (cause_text cause ++ codes ":") (tested (codes " tests, then ") refl)
      (both_free (cause_text cause) (codes ":") (cause_free cause) (tested (codes ":") refl))));
  second = λ e. omega arith;
}

pub stopped_silent : (cause : Stop) → IsSilent (stopped_line cause)
stopped_silent cause = record {
  free = both_free (codes "exact: ") (cause_text cause) (tested (codes "exact: ") refl) (cause_free cause);
  second = λ e. omega arith;
}

pub headers_silent : (header : Header) → All IsSilent (exact_part header [])
headers_silent Absent = All-nil IsSilent
headers_silent (Whole tests) = All-cons IsSilent (whole_line tests) [] (whole_silent tests) (All-nil IsSilent)
headers_silent (Partial tests cause) = All-cons IsSilent (partial_line tests cause) [] (partial_silent tests cause) (All-nil IsSilent)
headers_silent (Stopped cause) = All-cons IsSilent (stopped_line cause) [] (stopped_silent cause) (All-nil IsSilent)

-- ---- the lines of an explanation

pub counted_free : (front : Bytes) → IsFree front → (n : ℕ) → IsFree (front ++ numeral n)
counted_free front clean n = both_free front (numeral n) clean (numeral_free n)

advisers_silent : (first : ℕ) (asked : List ℕ) → All IsSilent (adviser_lines first asked)
advisers_silent first [] = All-nil IsSilent
advisers_silent first (times ∷ more) =
    All-cons IsSilent (codes "adviser " ++ (numeral first ++ (codes " asked " ++ numeral times))) (adviser_lines (first + 1) more)
    (record {
      free = both_free (codes "adviser ") (numeral first ++ (codes " asked " ++ numeral times)) (tested (codes "adviser ") refl)
          (both_free (numeral first) (codes " asked " ++ numeral times) (numeral_free first) (counted_free (codes " asked ") (tested (codes " asked ") refl) times));
      second = λ e. omega arith;
    })
    (advisers_silent (first + 1) more)

pub explanation_silent : (explain : Explain) → All IsSilent (explain_part (Some explain))
explanation_silent explain =
    All-cons IsSilent (codes "explain:") (explained explain) (record { free = tested (codes "explain:") refl; second = λ e. omega arith })
    (All-cons IsSilent (codes "labels " ++ numeral explain.labels) ((codes "families " ++ numeral explain.families) ∷ adviser_lines 1 explain.asked)
    (record { free = counted_free (codes "labels ") (tested (codes "labels ") refl) explain.labels; second = λ e. omega arith })
    (All-cons IsSilent (codes "families " ++ numeral explain.families) (adviser_lines 1 explain.asked)
    (record { free = counted_free (codes "families ") (tested (codes "families ") refl) explain.families; second = λ e. omega arith })
    (advisers_silent 1 explain.asked)))

-- ---- heads and verdicts

pub head_silent : (head : Head) → IsSilent (head_text head)
head_silent proved_head = record { free = tested (codes "proved:") refl; second = λ e. omega arith }
head_silent ranked_head = record { free = tested (codes "ranked:") refl; second = λ e. omega arith }
head_silent unknown_head = record { free = tested (codes "unknown:") refl; second = λ e. omega arith }

pub fits_silent : IsSilent (codes "fits:")
fits_silent = record { free = tested (codes "fits:") refl; second = λ e. omega arith }

pub verdict_silent : {A : Type 0} (unknown : List A) → IsSilent (verdict_line unknown)
verdict_silent [] = record { free = tested (codes "verdict: all inputs") refl; second = λ e. omega arith }
verdict_silent (line ∷ more) = record { free = tested (codes "verdict: some inputs") refl; second = λ e. omega arith }
