-- Gaps and tokens have at least one byte, and lie within the text.
use Rattle.std.proofs.Common.{◌≡◌, ℕ, ◌+◌, ◌<◌, ◌≤◌, Bool, true, List, length, slice_index, ⊎_elim, inl, inr, sym, ◌∙◌, ap, arith}
use Rattle.std.proofs.lemmas.Bool.{cases_lt, false≢true}
use Rattle.source_lex.specs.Runs.{Run}
use Rattle.source_lex.specs.Bytes.{is_digit, is_name_byte}
use Rattle.source_lex.specs.Gaps.{GapAt}
use Rattle.source_lex.specs.Words.{TokenAt, LiteralAt}
use Rattle.source_lex.specs.declared.token.Kind.{Kind}
use Rattle.source_lex.specs.declared.token.Kind.TheVariants.{Number, Name, Sign}
use Rattle.source_lex.proofs.ByteLemmas.{within_when, name_byte-from_letter}

-- j lies behind i, and within the text
pub record Moves (text : List ℕ) (i j : ℕ) : Type 0 where
  pub forward : i < j
  pub within : j ≤ length text

-- a run that begins with a byte of the class has at least that byte
pub moves-run : (test : ℕ → Bool) (text : List ℕ) (i j : ℕ) → i < length text → test (slice_index text i) ≡ true → Run test text i j → Moves text i j
moves-run test text i j inside first run =
    ⊎_elim
    (λ before. record { forward = before; within = run.within })
    (λ not_before. let at_i : j ≡ i = omega (arith, run.forward) in
    absurd (false≢true (sym (run.ends (omega arith)) ∙ ap (λ k. test (slice_index text k)) at_i ∙ first)))
    (cases_lt i j)

pub moves-gap : (text : List ℕ) (i j : ℕ) → GapAt text i j → Moves text i j
moves-gap text i j (inl blank) = record { forward = omega (arith, blank.ends); within = omega (arith, blank.ends, blank.inside) }
moves-gap text i j (inr (inl line)) = record { forward = omega (arith, line.line.forward); within = line.line.within }
moves-gap text i j (inr (inr block)) =
    let closed = within_when text (block.close + 1) 47 block.closes.1 (omega arith) in
    record { forward = omega (arith, block.behind, block.ends); within = omega (arith, block.ends, closed) }

pub moves-literal : (text : List ℕ) (i j : ℕ) → LiteralAt text i j → Moves text i j
moves-literal text i j (inl literal) = record { forward = omega (arith, literal.ends); within = omega (arith, literal.ends, literal.inside) }
moves-literal text i j (inr literal) = moves-run is_digit text i j literal.inside literal.first literal.digits

pub moves-token : (text : List ℕ) (i j : ℕ) (kind : Kind) → TokenAt text i j kind → Moves text i j
moves-token text i j (Number value) t = moves-literal text i j t.literal
moves-token text i j Name t = moves-run is_name_byte text i j t.inside (name_byte-from_letter _ t.first) t.word
moves-token text i j Sign (inl t) = record { forward = omega (arith, t.ends); within = omega (arith, t.ends, t.inside) }
moves-token text i j Sign (inr t) = record { forward = omega (arith, t.ends); within = omega (arith, t.ends, t.inside) }
