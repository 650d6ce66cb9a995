-- Lexemes are read where they stand.
use Rattle.std.proofs.Common.{◌≡◌, ◌≢◌, ◌∙◌, ℕ, zero, suc, ◌+◌, ◌-◌, ◌^◌, ◌<◌, Bool, true, false, inl, inr, List, [], ◌∷◌, ◌++◌, length, take, drop, IsTrue, refl, sym, ap, subst, arith}
use Rattle.std.specs.Prelude.{slice_index, slice_range, pos}
use Rattle.std.specs.Bool.{IsFalse}
use Rattle.std.proofs.lemmas.List.{append_assoc, get_or_append_left, get_or-append-add, length-append}
use Rattle.source_lex.specs.Bytes.{is_blank, is_digit, is_letter, is_name_byte}
use Rattle.source_lex.specs.Runs.{Run}
use Rattle.source_lex.specs.Signs.{is_double_sign, is_single_sign}
use Rattle.source_lex.specs.Tokens.{TokensFrom, finish, gap, token}
use Rattle.source_lex.specs.Words.{DigitsAt, TokenAt, decimal_value}
use Rattle.source_lex.specs.declared.token.Kind.{Kind}
use Rattle.source_lex.specs.declared.token.Kind.TheVariants.{Number, Name, Sign}
use Rattle.demo_program.proofs.Spelled.{AllPass, Lexeme, LexemesAreRead, StandsAlone, behind, spelled, tokens_at, width}

passes_at : (test : ℕ → Bool) (bytes : List ℕ) (k : ℕ) → AllPass test bytes → k < length bytes → IsTrue (test (slice_index bytes k))
passes_at test [] k all low = absurd (omega arith)
passes_at test (b ∷ bytes) zero all low = all.0
passes_at test (b ∷ bytes) (suc k) all low = passes_at test bytes k all.1 (omega arith)

drop_front : (front more : List ℕ) → drop (length front) (front ++ more) ≡ more
drop_front [] more = refl
drop_front (b ∷ front) more = drop_front front more

take_front : (front more : List ℕ) → take (length front) (front ++ more) ≡ front
take_front [] more = refl
take_front (b ∷ front) more = ap (λ t. b ∷ t) (take_front front more)

-- bytes in a text, with what stands before and behind
module _ (front bytes after : List ℕ) where
  abbrev text : List ℕ
  text = front ++ (bytes ++ after)

  abbrev i : ℕ
  i = length front

  abbrev j : ℕ
  j = length front + length bytes

  here : (k : ℕ) → k < length bytes → slice_index text (i + k) ≡ slice_index bytes k
  here k low = get_or-append-add front (bytes ++ after) k 0 ∙ get_or_append_left bytes after 0 k low

  first : 0 < length bytes → slice_index text i ≡ slice_index bytes 0
  first some = let same : i + 0 ≡ i = omega arith in ap (λ n. slice_index text n) (sym same) ∙ here 0 some

  next : slice_index text j ≡ slice_index after 0
  next =
      let same : length bytes + 0 ≡ length bytes = omega arith in
      get_or-append-add front (bytes ++ after) (length bytes) 0 ∙ ap (λ n. slice_index (bytes ++ after) n) (sym same) ∙ get_or-append-add bytes after 0 0

  whole : length text ≡ length front + (length bytes + length after)
  whole = length-append front (bytes ++ after) ∙ ap (λ n. length front + n) (length-append bytes after)

  pub range : slice_range text i j ≡ bytes
  range =
      let many : j - i ≡ length bytes = omega arith in
      ap (λ t. take (j - i) t) (drop_front front (bytes ++ after)) ∙ ap (λ n. take n (bytes ++ after)) many ∙ take_front bytes after

  run : (test : ℕ → Bool) → AllPass test bytes → IsFalse (test (slice_index after 0)) → Run test text i j
  run test all ends = record {
    forward = omega arith;
    within = let w = whole in omega arith;
    each = λ k from below.
        let m : i + (k - i) ≡ k = omega arith in
        subst (λ n. IsTrue (test (slice_index text n))) m
        (subst (λ b. IsTrue (test b)) (sym (here (k - i) (omega arith))) (passes_at test bytes (k - i) all (omega arith)));
    ends = λ low. subst (λ b. IsFalse (test b)) (sym next) ends;
  }

  inside : 0 < length bytes → i < length text
  inside some = let w = whole in omega arith

  digits_at : (0 < length bytes) × (slice_index bytes 0 ≢ 48) × AllPass is_digit bytes → IsFalse (is_digit (slice_index after 0)) → DigitsAt text i j
  digits_at is ends = record {
    inside = inside is.0;
    first = subst (λ b. IsTrue (is_digit b)) (sym (first is.0)) (passes_at is_digit bytes 0 is.2 is.0);
    not_zero = λ zero_digit. is.1 (sym (first is.0) ∙ zero_digit);
    digits = run is_digit is.2 ends;
  }

  pub stands_at : (kind : Kind) → StandsAlone kind bytes (slice_index after 0) → TokenAt text i j kind
  stands_at Name is = record {
    inside = inside is.0;
    first = subst (λ b. IsTrue (is_letter b)) (sym (first is.0)) is.1;
    word = run is_name_byte is.2 is.3;
  }
  stands_at (Number value) is = record {
    literal = elim is.0 [
      | inl alone ↦ inl (let one : length bytes ≡ 1 = ap length alone in record {
        inside = inside (omega arith);
        zero_digit = first (omega arith) ∙ ap (λ t. slice_index t 0) alone;
        ends = omega arith;
      })
      | inr long ↦ inr (digits_at long is.3)
    ];
    says = is.1 ∙ ap (λ t. pos (decimal_value t)) (sym range);
    fits = subst (λ t. decimal_value t < 2 ^ 63) (sym range) is.2;
    stands_alone = subst (λ b. IsFalse (is_name_byte b)) (sym next) is.4;
  }
  stands_at Sign is =
      let one : length bytes ≡ 1 = ap length is.1 in
      let byte : slice_index text i ≡ is.0 = first (omega arith) ∙ ap (λ t. slice_index t 0) is.1 in
      let at : j ≡ i + 1 = omega arith in
      inr (record {
        inside = inside (omega arith);
        longest = subst (λ n. IsFalse (is_double_sign (slice_index text i) (slice_index text n))) at
            (rw (byte, next) is.3);
        no_line_comment = λ opens. is.4 (sym byte ∙ opens.0);
        no_block_comment = λ opens. is.4 (sym byte ∙ opens.0);
        spelled = subst (λ b. IsTrue (is_single_sign b)) (sym byte) is.2;
        ends = at;
      })

  -- a blank behind
  pub longer : length (front ++ bytes) ≡ j
  longer = length-append front bytes

  pub apart : text ≡ (front ++ bytes) ++ after
  apart = sym (append_assoc front bytes after)

blank_is : IsTrue (is_blank 32)
unfolding is_blank
blank_is = refl

-- a lexeme and those behind it
one : (front : List ℕ) (kind : Kind) (bytes : List ℕ) (spaced : Bool) (more : List Lexeme)
    → StandsAlone kind bytes (slice_index (behind spaced (spelled more)) 0)
    → ((before : List ℕ) → TokensFrom (before ++ spelled more) (length before) (tokens_at (length before) more))
    → TokensFrom (front ++ (bytes ++ behind spaced (spelled more))) (length front)
    (record { kind = kind; start = length front; end = length front + length bytes } ∷ tokens_at (length front + length bytes + width spaced) more)
one front kind bytes false more is rest =
    let at = stands_at front bytes (spelled more) kind is in
    let n = length (front ++ bytes) in
    let all = text front bytes (spelled more) in
    let moved : TokensFrom all n (tokens_at n more) = subst (λ t. TokensFrom t n (tokens_at n more)) (sym (apart front bytes (spelled more))) (rest (front ++ bytes)) in
    let placed : TokensFrom all (length front + length bytes) (tokens_at (length front + length bytes) more) =
    subst (λ m. TokensFrom all m (tokens_at m more)) (longer front bytes (spelled more)) moved in
    let same : length front + length bytes ≡ length front + length bytes + 0 = omega arith in
    token (length front) (length front + length bytes) kind _ at (subst (λ m. TokensFrom all (length front + length bytes) (tokens_at m more)) same placed)
one front kind bytes true more is rest =
    let at = stands_at front bytes (32 ∷ spelled more) kind is in
    let all = text front bytes (32 ∷ spelled more) in
    let before = (front ++ bytes) ++ 32 ∷ [] in
    let n = length before in
    let w = whole front bytes (32 ∷ spelled more) in
    let moved : TokensFrom all n (tokens_at n more) =
    subst (λ t. TokensFrom t n (tokens_at n more)) (append_assoc (front ++ bytes) (32 ∷ []) (spelled more) ∙ sym (apart front bytes (32 ∷ spelled more))) (rest before) in
    let same : n ≡ length front + length bytes + 1 = length-append (front ++ bytes) (32 ∷ []) ∙ ap (λ m. m + 1) (longer front bytes (32 ∷ spelled more)) in
    let placed : TokensFrom all (length front + length bytes + 1) (tokens_at (length front + length bytes + 1) more) = subst (λ m. TokensFrom all m (tokens_at m more)) same moved in
    token (length front) (length front + length bytes) kind _ at
    (gap (length front + length bytes) (length front + length bytes + 1) _
    (inl (record {
      inside = omega (arith, w);
      blank = subst (λ b. IsTrue (is_blank b)) (sym (next front bytes (32 ∷ spelled more))) blank_is;
      ends = refl;
    })) placed)

pub lexemes_are_read : LexemesAreRead
lexemes_are_read front [] all = finish (length front) (let same = length-append front [] in omega arith)
lexemes_are_read front (lexeme ∷ more) all =
    one front lexeme.kind lexeme.bytes lexeme.spaced more all.0 (λ before. lexemes_are_read before more all.1)
