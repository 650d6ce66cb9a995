-- Each text has tokens or a first fault.
use Rattle.std.proofs.Common.{◌≡◌, ℕ, zero, suc, ◌+◌, ◌-◌, ◌^◌, ◌<◌, ◌≤◌, Bool, true, false, List, [], ◌∷◌, length, slice_index, slice_range, refl, subst, inl, inr, ⊎_elim, arith, pos}
use Rattle.std.specs.Prelude.{◌⊎◌}
use Rattle.std.proofs.lemmas.Bool.{cases_lt, cases_eq, cases_Bool}
use Rattle.source_lex.specs.Runs.{Run}
use Rattle.source_lex.specs.Bytes.{is_blank, is_letter, is_digit, is_name_byte, is_in_line}
use Rattle.source_lex.specs.Signs.{is_single_sign, is_double_sign}
use Rattle.source_lex.specs.Gaps.{GapAt, ClosesBlock}
use Rattle.source_lex.specs.Scans.{FirstCloseAt, NeverCloses}
use Rattle.source_lex.specs.Words.{TokenAt, LiteralAt, decimal_value}
use Rattle.source_lex.specs.Tokens.{TokensFrom}
use Rattle.source_lex.specs.Tokens.TokensFrom.{finish, gap, token}
use Rattle.source_lex.specs.Faults.{FaultAt, FaultFrom}
use Rattle.source_lex.specs.Faults.FaultFrom.{here, behind_gap, behind_token}
use Rattle.source_lex.specs.declared.fault.LexFault.{LexFault}
use Rattle.source_lex.specs.declared.fault.LexFault.TheVariants.{BadByte, BigNumber, OpenComment}
use Rattle.source_lex.specs.declared.token.Kind.{Kind}
use Rattle.source_lex.specs.declared.token.Kind.TheVariants.{Number, Name, Sign}
use Rattle.source_lex.specs.declared.token.Token.{Token}
use Rattle.source_lex.proofs.ByteLemmas.{within_when, next-double}
use Rattle.source_lex.proofs.Moves.{moves-gap, moves-token}
use Rattle.source_lex.proofs.Slash.{slash_is_a_sign}

-- one more byte in front of a run
run_longer : (test : ℕ → Bool) (text : List ℕ) (i j : ℕ) → test (slice_index text i) ≡ true → Run test text (i + 1) j → Run test text i j
run_longer test text i j first run = record {
  forward = omega (arith, run.forward);
  within = run.within;
  each = λ k from below. ⊎_elim (λ later. run.each k (omega arith) below) (λ here. let same : i ≡ k = omega arith in subst (λ x. test (slice_index text x) ≡ true) same first) (cases_lt i k);
  ends = run.ends;
}

-- no byte of the class
run_empty : (test : ℕ → Bool) (text : List ℕ) (i : ℕ) → i ≤ length text → (i < length text → test (slice_index text i) ≡ false) → Run test text i i
run_empty test text i within ends = record { forward = omega arith; within = within; each = λ k from below. absurd (omega arith); ends = ends }

-- from each offset there is a run
run_from : (n : ℕ) (test : ℕ → Bool) (text : List ℕ) (i : ℕ) → i + n ≡ length text → (j : ℕ) × Run test text i j
run_from zero test text i room = (i, run_empty test text i (omega arith) (λ inside. absurd (omega arith)))
run_from (suc n) test text i room =
    ⊎_elim
    (λ first. let behind = run_from n test text (i + 1) (omega arith) in (behind.0, run_longer test text i behind.0 first behind.1))
    (λ not_first. (i, run_empty test text i (omega arith) (λ inside. not_first)))
    (cases_Bool (test (slice_index text i)))

run_exists : (test : ℕ → Bool) (text : List ℕ) (i : ℕ) → i ≤ length text → (j : ℕ) × Run test text i j
run_exists test text i within = run_from (length text - i) test text i (omega arith)

-- whether `*/` is at an offset
closes_or_not : (text : List ℕ) (i : ℕ) → ClosesBlock text i ⊎ (ClosesBlock text i → ⊥)
closes_or_not text i =
    ⊎_elim
    (λ star. ⊎_elim (λ slash. inl (star, slash)) (λ no_slash. inr (λ closes. no_slash closes.1)) (cases_eq (slice_index text (i + 1)) 47))
    (λ no_star. inr (λ closes. no_star closes.0))
    (cases_eq (slice_index text i) 42)

-- from each offset on there is a first `*/` or none
close_from : (n : ℕ) (text : List ℕ) (i : ℕ) → length text ≤ i + n → ((close : ℕ) × FirstCloseAt text i close) ⊎ NeverCloses text i
close_from zero text i room = inr (λ k from closes. let inside = within_when text k 42 closes.0 (omega arith) in omega arith)
close_from (suc n) text i room =
    ⊎_elim
    (λ closes.
    let inside = within_when text (i + 1) 47 closes.1 (omega arith) in
    inl (i, record { behind = omega arith; within = omega arith; closes = closes; first = λ k from below. absurd (omega arith) }))
    (λ closes_not.
    let not_here : (k : ℕ) → i ≤ k → k < i + 1 → ClosesBlock text k → ⊥ = λ k from below. let same : i ≡ k = omega arith in subst (λ x. ClosesBlock text x → ⊥) same closes_not in
    ⊎_elim
    (λ found. inl (
      found.0,
      record {
        behind = omega (arith, found.1.behind);
        within = found.1.within;
        closes = found.1.closes;
        first = λ k from below. ⊎_elim (λ at_i. not_here k from at_i) (λ later. found.1.first k later below) (cases_lt k (i + 1));
      },
    ))
    (λ never. inr (λ k from. ⊎_elim (λ at_i. not_here k from at_i) (λ later. never k later) (cases_lt k (i + 1))))
    (close_from n text (i + 1) (omega arith)))
    (closes_or_not text i)

-- what is met at an offset
abbrev Step : List ℕ → ℕ → Type 0
Step text i = ((j : ℕ) × GapAt text i j) ⊎ (((j : ℕ) × (kind : Kind) × TokenAt text i j kind) ⊎ ((fault : LexFault) × FaultAt text i fault))

step-slash : (text : List ℕ) (i : ℕ) → i < length text → slice_index text i ≡ 47 → Step text i
step-slash text i inside slash =
    ⊎_elim
    (λ line.
    let next = within_when text (i + 1) 47 line (omega arith) in
    let run = run_exists is_in_line text (i + 2) (omega arith) in
    inl (run.0, inr (inl (record { opens = (slash, line); line = run.1 }))))
    (λ no_line. ⊎_elim
    (λ block. ⊎_elim
    (λ found. inl (found.0 + 2, inr (inr (record { opens = (slash, block); close = found.0; behind = found.1.behind; closes = found.1.closes; first = found.1.first; ends = refl }))))
    (λ never. inr (inr (OpenComment i, (record { opens = (slash, block); never_closes = never }, refl))))
    (close_from (length text) text (i + 2) (omega arith)))
    (λ no_block. inr (inl (i + 1, Sign, slash_is_a_sign text i inside slash no_line no_block)))
    (cases_eq (slice_index text (i + 1)) 42))
    (cases_eq (slice_index text (i + 1)) 47)

literal_exists : (text : List ℕ) (i : ℕ) → i < length text → is_digit (slice_index text i) ≡ true → (j : ℕ) × LiteralAt text i j
literal_exists text i inside first =
    ⊎_elim
    (λ zero_digit. (i + 1, inl (record { inside = inside; zero_digit = zero_digit; ends = refl })))
    (λ not_zero.
    let run = run_exists is_digit text i (omega arith) in
    (run.0, inr (record { inside = inside; first = first; not_zero = not_zero; digits = run.1 })))
    (cases_eq (slice_index text i) 48)

step-number : (text : List ℕ) (i : ℕ) → i < length text → is_digit (slice_index text i) ≡ true → Step text i
step-number text i inside first =
    let found = literal_exists text i inside first in
    ⊎_elim
    (λ fits. ⊎_elim
    (λ runs_on. inr (inr (BadByte found.0, inr (record { literal = found.1; fits = fits; runs_on = runs_on }))))
    (λ alone. inr (inl (found.0, Number (pos (decimal_value (slice_range text i found.0))), record { literal = found.1; says = refl; fits = fits; stands_alone = alone })))
    (cases_Bool (is_name_byte (slice_index text found.0))))
    (λ too_big. inr (inr (BigNumber i, (record { end = found.0; literal = found.1; too_big = too_big }, refl))))
    (cases_lt (decimal_value (slice_range text i found.0)) (2 ^ 63))

step-sign : (text : List ℕ) (i : ℕ) → i < length text → is_blank (slice_index text i) ≡ false → is_letter (slice_index text i) ≡ false → is_digit (slice_index text i) ≡ false → (slice_index text i ≡ 47 → ⊥) → Step text i
step-sign text i inside no_blank no_letter no_digit no_slash =
    ⊎_elim
    (λ double.
    let next = within_when text (i + 1) _ refl (next-double _ _ double) in
    inr (inl (i + 2, Sign, inl (record { inside = next; spelled = double; ends = refl }))))
    (λ no_double. ⊎_elim
    (λ single. inr (inl (i + 1, Sign, inr (record { inside = inside; longest = no_double; no_line_comment = λ opens. no_slash opens.0; no_block_comment = λ opens. no_slash opens.0; spelled = single; ends = refl }))))
    (λ no_single. inr (inr (
      BadByte i,
      inl (
        record {
          inside = inside;
          no_blank = no_blank;
          no_line_comment = λ opens. no_slash opens.0;
          no_block_comment = λ opens. no_slash opens.0;
          no_name = no_letter;
          no_number = no_digit;
          no_double_sign = no_double;
          no_single_sign = no_single;
        },
        refl,
      ),
    )))
    (cases_Bool (is_single_sign (slice_index text i))))
    (cases_Bool (is_double_sign (slice_index text i) (slice_index text (i + 1))))

-- at each offset within the text something is met
step : (text : List ℕ) (i : ℕ) → i < length text → Step text i
step text i inside =
    ⊎_elim
    (λ blank. inl (i + 1, inl (record { inside = inside; blank = blank; ends = refl })))
    (λ no_blank. ⊎_elim
    (λ letter.
    let run = run_exists is_name_byte text i (omega arith) in
    inr (inl (run.0, Name, record { inside = inside; first = letter; word = run.1 })))
    (λ no_letter. ⊎_elim
    (λ digit. step-number text i inside digit)
    (λ no_digit. ⊎_elim
    (λ slash. step-slash text i inside slash)
    (λ no_slash. step-sign text i inside no_blank no_letter no_digit no_slash)
    (cases_eq (slice_index text i) 47))
    (cases_Bool (is_digit (slice_index text i))))
    (cases_Bool (is_letter (slice_index text i))))
    (cases_Bool (is_blank (slice_index text i)))

-- from each offset on there are tokens or a first fault
pub read_from : (n : ℕ) (text : List ℕ) (i : ℕ) → i ≤ length text → length text ≤ i + n → ((tokens : List Token) × TokensFrom text i tokens) ⊎ ((fault : LexFault) × FaultFrom text fault i)
read_from zero text i within room = inl ([], finish i (omega arith))
read_from (suc n) text i within room =
    ⊎_elim
    (λ inside. ⊎_elim
    (λ passed.
    let moves = moves-gap text i passed.0 passed.1 in
    ⊎_elim
    (λ rest. inl (rest.0, gap i passed.0 rest.0 passed.1 rest.1))
    (λ rest. inr (rest.0, behind_gap i passed.0 passed.1 rest.1))
    (read_from n text passed.0 moves.within (omega (arith, moves.forward))))
    (λ other. ⊎_elim
    (λ read.
    let moves = moves-token text i read.0 read.1 read.2 in
    ⊎_elim
    (λ rest. inl (record { kind = read.1; start = i; end = read.0 } ∷ rest.0, token i read.0 read.1 rest.0 read.2 rest.1))
    (λ rest. inr (rest.0, behind_token i read.0 read.1 read.2 rest.1))
    (read_from n text read.0 moves.within (omega (arith, moves.forward))))
    (λ faulty. inr (faulty.0, here i faulty.1))
    other)
    (step text i inside))
    (λ past. inl ([], finish i (omega arith)))
    (cases_lt i (length text))
