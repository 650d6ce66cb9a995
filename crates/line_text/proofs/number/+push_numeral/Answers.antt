use Rattle.std.proofs.Common.{◌≡◌, ℕ, ◌+◌, ◌/◌, ◌%◌, ◌<◌, ◌≤◌, List, [], ◌∷◌, ◌++◌, append_assoc, ap, ◌∙◌, vec_items, arith}
use Rattle.line_text.specs.Numeral.{numeral}
use Rattle.line_text.proofs.Numerals.{numeral_small, numeral_step}
use Rattle.line_text.proofs.number.+push_numeral.Goals as goal
use Rattle.line_text.proofs.number.+push_numeral.Goals.{then-number-ge10+in_ok-push_numeral, else-number-ge10}

-- the last digit behind the others
longer :
    (text front now : List ℕ) (n : ℕ) → 10 ≤ n → front ≡ text ++ numeral (n / 10) → now ≡ front ++ (48 + n % 10) ∷ []
    → now ≡ text ++ numeral n
longer text front now n large e f =
    let s = numeral_step n large in let a = append_assoc text (numeral (n / 10)) ((48 + n % 10) ∷ []) in cc

-- a single digit
single : (text front now : List ℕ) (n : ℕ) → n < 10 → front ≡ text → now ≡ front ++ (48 + n % 10) ∷ [] → now ≡ text ++ numeral n
single text front now n small e f = let s = numeral_small n small in let d : n % 10 ≡ n = omega arith in cc

pub returns-clause-text : goal.returns-clause-text
returns-clause-text t c = elim c.if-number-ge10.branch [
  | then-number-ge10+in_ok-push_numeral w ↦ longer c.args.text.now.items c.if-number-ge10.text.items _ c.args.number w.if-number-ge10.true
      (ap vec_items w.text-is ∙ w.in_ok-push_numeral.ensures.text) c.in_ok-push.ensures.items
  | else-number-ge10 w ↦ single c.args.text.now.items c.if-number-ge10.text.items _ c.args.number w.if-number-ge10.false
      (ap vec_items w.text-is) c.in_ok-push.ensures.items
]
