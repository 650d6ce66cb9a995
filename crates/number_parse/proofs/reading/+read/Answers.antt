use Rattle.std.proofs.Common.{rules, ◌≡◌, ◌∙◌, ℕ, ◌<◌, ◌+◌, ◌*◌, ◌^◌, Some, length, List, [], ◌∷◌, ◌++◌, sym, ap, ap₂, arith}
use Rattle.std.proofs.lemmas.Option.{same_Some}
use Rattle.line_text.specs.Numeral.{numeral}
use Rattle.number_parse.proofs.Digits.{ends, long_numeral, longer, no_numeral, nothing, short_numeral}
use Rattle.line_text.proofs.Numerals.{numeral_small}
use Rattle.number_parse.proofs.reading.+read.Goals as goal

pub returns-in_default : goal.returns-in_default
returns-in_default t c n = (λ is. cc, λ both. absurd (no_numeral n c.args.bytes.now (search rules) both.0))

pub returns-then-last-lt48 : goal.returns-then-last-lt48
returns-then-last-lt48 t c n = (
  λ is. cc,
  λ both.
      let is : c.args.bytes.now ≡ c.in-Some.front.now ++ c.in-Some.last.now ∷ [] = search rules in
      let end = ends n c.in-Some.front.now c.in-Some.last.now (sym is ∙ both.0) in search rules,
)

pub returns-then-is_empty : goal.returns-then-is_empty
returns-then-is_empty t c n =
    let is : c.args.bytes.now ≡ c.in-Some.front.now ++ c.in-Some.last.now ∷ [] = search rules in
    let alone : c.in-Some.front.now ≡ [] = nothing c.in-Some.front.now (search rules) in
    let one : c.args.bytes.now ≡ c.in-Some.last.now ∷ [] = is ∙ ap (λ f. f ++ c.in-Some.last.now ∷ []) alone in
    let digit : c.in-Some.last.now ≡ 48 + c.from-digit.result = search rules in
    let low : c.from-digit.result < 10 = search rules in (
      λ said.
          let same : c.from-digit.result ≡ n = same_Some _ n said in
          (one ∙ ap (λ d. d ∷ []) (digit ∙ ap (λ d. 48 + d) same) ∙ sym (numeral_small n (omega (arith, same, low))), omega (arith, same, low)),
      λ both.
          let short = short_numeral n c.in-Some.last.now (sym one ∙ both.0) in
          let same : c.from-digit.result ≡ n = omega (arith, digit, short.1) in ap Some same,
    )

pub returns-in_default-read : goal.returns-in_default-read
returns-in_default-read t c n = (
  λ is. cc,
  λ both.
      let is : c.args.bytes.now ≡ c.in-Some.front.now ++ c.in-Some.last.now ∷ [] = search rules in
      let some : 0 < length c.in-Some.front.now = search rules in
      let long = long_numeral n c.in-Some.front.now c.in-Some.last.now some (sym is ∙ both.0) in
      let less : long.high < 2 ^ 63 = let n_is = long.is in let low = both.1 in omega arith in
      absurd (c.in_default-read.not-Some long.high ((c.read.ensures long.high).1 (long.front_is, less))),
)

pub extended-requires : goal.extended-requires
extended-requires t c =
    (((c.read.ensures c.in-Some-read.high).0 c.in-Some-read.is).1, search rules)

pub returns : goal.returns
returns t c n =
    let is : c.args.bytes.now ≡ c.in-Some.front.now ++ c.in-Some.last.now ∷ [] = search rules in
    let some : 0 < length c.in-Some.front.now = search rules in
    let digit : c.in-Some.last.now ≡ 48 + c.from-digit.result = search rules in
    let low : c.from-digit.result < 10 = search rules in
    let front = ((c.read.ensures c.in-Some-read.high).0 c.in-Some-read.is).0 in (
      λ said.
          let parts = (c.extended.ensures n).0 said in
          (is ∙ ap₂ (λ (f : List ℕ) (d : ℕ). f ++ d ∷ []) front digit ∙ sym (longer c.in-Some-read.high c.from-digit.result parts.0 low) ∙ ap numeral (sym parts.1), parts.2),
      λ both.
          let long = long_numeral n c.in-Some.front.now c.in-Some.last.now some (sym is ∙ both.0) in
          let less : long.high < 2 ^ 63 = let n_is = long.is in let low = both.1 in omega arith in
          let high : c.in-Some-read.high ≡ long.high = same_Some _ long.high (sym c.in-Some-read.is ∙ (c.read.ensures long.high).1 (long.front_is, less)) in
          let same : c.from-digit.result ≡ long.digit = omega (arith, digit, long.last_is) in
          (c.extended.ensures n).1 (omega (arith, high, long.some), long.is ∙ ap₂ (λ (h d : ℕ). h * 10 + d) (sym high) (sym same), both.1),
    )
