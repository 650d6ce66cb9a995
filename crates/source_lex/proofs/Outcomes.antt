-- At each offset of a text the lexer meets one thing only.
use Rattle.std.proofs.Common.{◌≡◌, ℕ, ◌+◌, ◌^◌, ◌<◌, ◌≤◌, Bool, true, false, List, length, slice_index, slice_range, ⊎_elim, inl, inr, refl, sym, ◌∙◌, ap, subst, arith, pos}
use Rattle.std.specs.Prelude.{if◌then◌else◌, nat_le, ◌==◌, ◌&&◌}
use Rattle.std.proofs.lemmas.Bool.{cases_lt, false≢true}
use Rattle.std.proofs.lemmas.Bool.Decides.{nat_tests}
use Rattle.source_lex.specs.Runs.{Run}
use Rattle.source_lex.specs.Bytes.{is_blank, is_letter, is_digit, is_name_byte, is_in_line}
use Rattle.source_lex.specs.Signs.{is_single_sign, is_double_sign}
use Rattle.source_lex.specs.Gaps.{GapAt, BlockCommentAt}
use Rattle.source_lex.specs.Words.{TokenAt, LiteralAt, decimal_value}
use Rattle.source_lex.specs.Faults.{FaultAt, UnclosedAt}
use Rattle.source_lex.specs.declared.fault.LexFault.{LexFault}
use Rattle.source_lex.specs.declared.fault.LexFault.TheVariants.{BadByte, BigNumber, OpenComment, Memory}
use Rattle.source_lex.specs.declared.token.Kind.{Kind}
use Rattle.source_lex.specs.declared.token.Kind.TheVariants.{Number, Name, Sign}
use Rattle.source_lex.proofs.ByteLemmas.{blank-letter, blank-digit, letter-digit, plain-single, plain-double, no_slash-double, plain_parts, not_both, within_when}

-- what is met at an offset: the text's end, a gap up to an offset, a token up to an offset, a fault
pub data Outcome : Type 0 where
  over : Outcome
  passed : ℕ → Outcome
  read : ℕ → Kind → Outcome
  faulty : LexFault → Outcome

-- what two bytes begin
pub data Head : Type 0 where
  ended : Head
  blank : Head
  letter : Head
  digit : Head
  line : Head
  block : Head
  double : Head
  single : Head
  nothing : Head

unfoldable pub head_of : ℕ → ℕ → Head
head_of byte next =
    if is_blank byte then blank
    else (if is_letter byte then letter
    else (if is_digit byte then digit
    else (if byte == 47 && next == 47 then line
    else (if byte == 47 && next == 42 then block
    else (if is_double_sign byte next then double
    else (if is_single_sign byte then single
    else nothing))))))

unfoldable pub head_at : List ℕ → ℕ → Head
head_at text i = if nat_le (length text) i then ended else head_of (slice_index text i) (slice_index text (i + 1))

-- what a literal from i to j comes to
unfoldable pub literal_outcome : List ℕ → ℕ → ℕ → Outcome
literal_outcome text i j =
    if nat_le (2 ^ 63) (decimal_value (slice_range text i j)) then faulty (BigNumber i)
    else (if is_name_byte (slice_index text j) then faulty (BadByte j)
    else read j (Number (pos (decimal_value (slice_range text i j)))))

-- what each head comes to
pub data Rule (text : List ℕ) (i : ℕ) : Head → Outcome → Type 0 where
  at_end : Rule text i ended over
  at_blank : Rule text i blank (passed (i + 1))
  at_line : (j : ℕ) → Run is_in_line text (i + 2) j → Rule text i line (passed j)
  at_block : (j : ℕ) → BlockCommentAt text i j → Rule text i block (passed j)
  at_open : UnclosedAt text i → Rule text i block (faulty (OpenComment i))
  at_name : (j : ℕ) → Run is_name_byte text i j → Rule text i letter (read j Name)
  at_literal : (j : ℕ) (o : Outcome) → LiteralAt text i j → o ≡ literal_outcome text i j → Rule text i digit o
  at_double : Rule text i double (read (i + 2) Sign)
  at_single : Rule text i single (read (i + 1) Sign)
  at_nothing : Rule text i nothing (faulty (BadByte i))

-- this is met at i
pub record Meets (text : List ℕ) (i : ℕ) (o : Outcome) : Type 0 where
  pub rule : Rule text i (head_at text i) o

run_not_longer : (test : ℕ → Bool) (text : List ℕ) (i j k : ℕ) → Run test text i j → Run test text i k → j < k → ⊥
run_not_longer test text i j k run longer less =
    false≢true (sym (run.ends (omega (arith, longer.within))) ∙ longer.each j run.forward less)

run_unique : (test : ℕ → Bool) (text : List ℕ) (i j k : ℕ) → Run test text i j → Run test text i k → j ≡ k
run_unique test text i j k run other =
    ⊎_elim
    (λ less. absurd (run_not_longer test text i j k run other less))
    (λ not_less. ⊎_elim (λ more. absurd (run_not_longer test text i k j other run more)) (λ not_more. omega arith) (cases_lt k j))
    (cases_lt j k)

literal_unique : (text : List ℕ) (i j k : ℕ) → LiteralAt text i j → LiteralAt text i k → j ≡ k
literal_unique text i j k (inl one) (inl other) = one.ends ∙ sym other.ends
literal_unique text i j k (inl one) (inr other) = absurd (other.not_zero one.zero_digit)
literal_unique text i j k (inr one) (inl other) = absurd (one.not_zero other.zero_digit)
literal_unique text i j k (inr one) (inr other) = run_unique is_digit text i j k one.digits other.digits

block_unique : (text : List ℕ) (i j k : ℕ) → BlockCommentAt text i j → BlockCommentAt text i k → j ≡ k
block_unique text i j k one other =
    ⊎_elim
    (λ less. absurd (other.first one.close one.behind less one.closes))
    (λ not_less. ⊎_elim (λ more. absurd (one.first other.close other.behind more other.closes)) (λ not_more. omega (arith, one.ends, other.ends)) (cases_lt other.close one.close))
    (cases_lt one.close other.close)

rule_unique : (text : List ℕ) (i : ℕ) (h : Head) (o p : Outcome) → Rule text i h o → Rule text i h p → o ≡ p
rule_unique text i h o p at_end at_end = refl
rule_unique text i h o p at_blank at_blank = refl
rule_unique text i h o p (at_line j run) (at_line k other) = ap passed (run_unique is_in_line text (i + 2) j k run other)
rule_unique text i h o p (at_block j one) (at_block k other) = ap passed (block_unique text i j k one other)
rule_unique text i h o p (at_block j one) (at_open open') = absurd (open'.never_closes one.close one.behind one.closes)
rule_unique text i h o p (at_open open') (at_block k other) = absurd (open'.never_closes other.close other.behind other.closes)
rule_unique text i h o p (at_open open') (at_open other) = refl
rule_unique text i h o p (at_name j run) (at_name k other) = ap (λ end. read end Name) (run_unique is_name_byte text i j k run other)
rule_unique text i h o p (at_literal j o' literal is) (at_literal k p' other is') = is ∙ ap (literal_outcome text i) (literal_unique text i j k literal other) ∙ sym is'
rule_unique text i h o p at_double at_double = refl
rule_unique text i h o p at_single at_single = refl
rule_unique text i h o p at_nothing at_nothing = refl

-- two things that are met at one offset are the same
pub one_outcome : (text : List ℕ) (i : ℕ) (o p : Outcome) → Meets text i o → Meets text i p → o ≡ p
one_outcome text i o p one other = rule_unique text i (head_at text i) o p one.rule other.rule

meets-head : (text : List ℕ) (i : ℕ) (h : Head) (o : Outcome) → head_at text i ≡ h → Rule text i h o → Meets text i o
meets-head text i h o is rule = record { rule = subst (λ x. Rule text i x o) (sym is) rule }

-- within the text the head is that of the bytes
head_inside : (text : List ℕ) (i : ℕ) → i < length text → head_at text i ≡ head_of (slice_index text i) (slice_index text (i + 1))
unfolding head_at
head_inside text i inside = let e : nat_le (length text) i ≡ false = grind (arith, nat_tests) in rw e

head-ended : (text : List ℕ) (i : ℕ) → i ≡ length text → head_at text i ≡ ended
unfolding head_at
head-ended text i e = let past : nat_le (length text) i ≡ true = grind (arith, nat_tests) in rw past

head-blank : (byte next : ℕ) → is_blank byte ≡ true → head_of byte next ≡ blank
unfolding head_of
head-blank byte next h = rw h

head-letter : (byte next : ℕ) → is_letter byte ≡ true → head_of byte next ≡ letter
unfolding head_of
head-letter byte next h = rw (blank-letter byte h, h)

head-digit : (byte next : ℕ) → is_digit byte ≡ true → head_of byte next ≡ digit
unfolding head_of
head-digit byte next h = rw (blank-digit byte h, letter-digit byte h, h)

head-line : (byte next : ℕ) → byte ≡ 47 → next ≡ 47 → head_of byte next ≡ line
unfolding head_of is_blank is_letter is_digit
head-line byte next e f = rw (e, f)

head-block : (byte next : ℕ) → byte ≡ 47 → next ≡ 42 → head_of byte next ≡ block
unfolding head_of is_blank is_letter is_digit
head-block byte next e f = rw (e, f)

head-double : (byte next : ℕ) → is_double_sign byte next ≡ true → head_of byte next ≡ double
unfolding head_of
head-double byte next h = let p = plain_parts byte (plain-double byte next h) in rw (p.no_blank, p.no_letter, p.no_digit, no_slash-double byte next h, h)

head-single : (byte next : ℕ) → (byte == 47 && next == 47) ≡ false → (byte == 47 && next == 42) ≡ false → is_double_sign byte next ≡ false → is_single_sign byte ≡ true → head_of byte next ≡ single
unfolding head_of
head-single byte next d e f h = let p = plain_parts byte (plain-single byte h) in rw (p.no_blank, p.no_letter, p.no_digit, d, e, f, h)

head-nothing : (byte next : ℕ) → is_blank byte ≡ false → is_letter byte ≡ false → is_digit byte ≡ false → (byte == 47 && next == 47) ≡ false → (byte == 47 && next == 42) ≡ false → is_double_sign byte next ≡ false → is_single_sign byte ≡ false → head_of byte next ≡ nothing
unfolding head_of
head-nothing byte next a b c d e f g = rw (a, b, c, d, e, f, g)

pub meets-end : (text : List ℕ) (i : ℕ) → i ≡ length text → Meets text i over
meets-end text i e = meets-head text i ended over (head-ended text i e) at_end

pub meets-gap : (text : List ℕ) (i j : ℕ) → GapAt text i j → Meets text i (passed j)
meets-gap text i j (inl g) =
    subst (λ k. Meets text i (passed k)) (sym g.ends)
    (meets-head text i blank (passed (i + 1)) (head_inside text i g.inside ∙ head-blank _ _ g.blank) at_blank)
meets-gap text i j (inr (inl g)) =
    let inside = within_when text i 47 g.opens.0 (omega arith) in
    meets-head text i line (passed j) (head_inside text i inside ∙ head-line _ _ g.opens.0 g.opens.1) (at_line j g.line)
meets-gap text i j (inr (inr g)) =
    let inside = within_when text i 47 g.opens.0 (omega arith) in
    meets-head text i block (passed j) (head_inside text i inside ∙ head-block _ _ g.opens.0 g.opens.1) (at_block j g)

-- a literal begins with a digit
head-literal : (text : List ℕ) (i j : ℕ) → LiteralAt text i j → head_at text i ≡ digit
unfolding is_digit
head-literal text i j (inl literal) =
    let is_a_digit : is_digit (slice_index text i) ≡ true = rw literal.zero_digit refl in
    head_inside text i literal.inside ∙ head-digit _ _ is_a_digit
head-literal text i j (inr literal) = head_inside text i literal.inside ∙ head-digit _ _ literal.first

meets-literal : (text : List ℕ) (i j : ℕ) (o : Outcome) → LiteralAt text i j → o ≡ literal_outcome text i j → Meets text i o
meets-literal text i j o literal e = meets-head text i digit o (head-literal text i j literal) (at_literal j o literal e)

-- what a literal comes to, in its three cases
outcome-number : (text : List ℕ) (i j : ℕ) → decimal_value (slice_range text i j) < 2 ^ 63 → is_name_byte (slice_index text j) ≡ false → read j (Number (pos (decimal_value (slice_range text i j)))) ≡ literal_outcome text i j
unfolding literal_outcome
outcome-number text i j fits alone = let e : nat_le (2 ^ 63) (decimal_value (slice_range text i j)) ≡ false = grind (arith, nat_tests) in rw (e, alone)

outcome-runs_on : (text : List ℕ) (i j : ℕ) → decimal_value (slice_range text i j) < 2 ^ 63 → is_name_byte (slice_index text j) ≡ true → faulty (BadByte j) ≡ literal_outcome text i j
unfolding literal_outcome
outcome-runs_on text i j fits on = let e : nat_le (2 ^ 63) (decimal_value (slice_range text i j)) ≡ false = grind (arith, nat_tests) in rw (e, on)

outcome-big : (text : List ℕ) (i j : ℕ) → 2 ^ 63 ≤ decimal_value (slice_range text i j) → faulty (BigNumber i) ≡ literal_outcome text i j
unfolding literal_outcome
outcome-big text i j big = let e : nat_le (2 ^ 63) (decimal_value (slice_range text i j)) ≡ true = grind (arith, nat_tests) in rw e

pub meets-token : (text : List ℕ) (i j : ℕ) (kind : Kind) → TokenAt text i j kind → Meets text i (read j kind)
meets-token text i j (Number value) t =
    meets-literal text i j (read j (Number value)) t.literal (ap (λ v. read j (Number v)) t.says ∙ outcome-number text i j t.fits t.stands_alone)
meets-token text i j Name t =
    meets-head text i letter (read j Name) (head_inside text i t.inside ∙ head-letter _ _ t.first) (at_name j t.word)
meets-token text i j Sign (inl t) =
    let inside : i < length text = omega (arith, t.inside) in
    subst (λ k. Meets text i (read k Sign)) (sym t.ends)
    (meets-head text i double (read (i + 2) Sign) (head_inside text i inside ∙ head-double _ _ t.spelled) at_double)
meets-token text i j Sign (inr t) =
    subst (λ k. Meets text i (read k Sign)) (sym t.ends)
    (meets-head text i single (read (i + 1) Sign) (head_inside text i t.inside ∙ head-single _ _ (not_both _ _ 47 47 t.no_line_comment) (not_both _ _ 47 42 t.no_block_comment) t.longest t.spelled) at_single)

pub meets-fault : (text : List ℕ) (i : ℕ) (fault : LexFault) → FaultAt text i fault → Meets text i (faulty fault)
meets-fault text i (BadByte at) (inl (n, e)) =
    subst (λ k. Meets text i (faulty (BadByte k))) (sym e)
    (meets-head text i nothing (faulty (BadByte i))
    (head_inside text i n.inside ∙ head-nothing _ _ n.no_blank n.no_name n.no_number (not_both _ _ 47 47 n.no_line_comment) (not_both _ _ 47 42 n.no_block_comment) n.no_double_sign n.no_single_sign)
    at_nothing)
meets-fault text i (BadByte at) (inr r) = meets-literal text i at (faulty (BadByte at)) r.literal (outcome-runs_on text i at r.fits r.runs_on)
meets-fault text i (BigNumber at) (b, e) =
    subst (λ k. Meets text i (faulty (BigNumber k))) (sym e)
    (meets-literal text i b.end (faulty (BigNumber i)) b.literal (outcome-big text i b.end b.too_big))
meets-fault text i (OpenComment at) (u, e) =
    let inside = within_when text i 47 u.opens.0 (omega arith) in
    subst (λ k. Meets text i (faulty (OpenComment k))) (sym e)
    (meets-head text i block (faulty (OpenComment i)) (head_inside text i inside ∙ head-block _ _ u.opens.0 u.opens.1) (at_open u))
meets-fault text i (Memory e) h = absurd h
