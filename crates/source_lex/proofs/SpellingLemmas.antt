-- Tokens by their offsets against tokens by their bytes.
use Rattle.std.proofs.Common.{◌≡◌, ℕ, suc, ◌+◌, ◌-◌, ◌<◌, ◌≤◌, Bool, true, false, List, [], ◌∷◌, length, slice_index, slice_range, drop, length-take-le, length-drop, get_or-take, get_or-drop, drop-cons, add-one, IsTrue, sym, refl, ap, ◌∙◌, subst, inl, inr, ⊎_elim, arith, pos, ℤ}
use Rattle.std.specs.Prelude.{All, Contains, codes, ◌==◌, ◌&&◌, ◌⊎◌}
use Rattle.std.specs.List.{list_any, list_all}
use Rattle.std.specs.Str.{bytes_eq}
use Rattle.std.proofs.lemmas.Bool.{false≢true, or_cases, and_parts}
use Rattle.std.proofs.lemmas.List.Elements.{All-nil, All-cons, All-contains, All-from_get_or, All-get_or}
use Rattle.std.proofs.lemmas.List.Folds.{Any-from_list_any}
use Rattle.std.proofs.lemmas.Slice.Eq.{bytes_eq-Decides}
use Rattle.std.proofs.lemmas.Bool.Decides.{Decides-eqb}
use Rattle.source_lex.specs.Runs.{Run}
use Rattle.source_lex.specs.Bytes.{is_letter, is_digit, is_name_byte}
use Rattle.source_lex.specs.Signs.{is_one_of, is_single_sign, is_double_sign}
use Rattle.source_lex.specs.Faults.{NothingBeginsAt}
use Rattle.source_lex.specs.Words.{TokenAt, LiteralAt, decimal_value}
use Rattle.source_lex.specs.Spellings.{Spells, SpellsName, SpellsNumber, signs}
use Rattle.source_lex.specs.declared.token.Kind.{Kind}
use Rattle.source_lex.specs.declared.token.Kind.TheVariants.{Number, Name, Sign}
use Rattle.source_lex.proofs.Moves.{moves-token, moves-literal}
use Rattle.source_lex.proofs.ByteLemmas.{name_byte-from_digit, letter-digit, is_plain, plain_parts, plain-single, plain-double, one_of_all}

-- the length of a part of a text
length-part : (text : List ℕ) (i j : ℕ) → i ≤ j → j ≤ length text → length (slice_range text i j) ≡ j - i
length-part text i j forward within =
    let room : j - i ≤ length (drop i text) = omega (arith, length-drop i text) in
    length-take-le (j - i) (drop i text) room

-- its bytes are the text's
byte-part : (text : List ℕ) (i j k : ℕ) → k < j - i → slice_index (slice_range text i j) k ≡ slice_index text (i + k)
byte-part text i j k inside = get_or-take (j - i) (drop i text) k 0 inside ∙ get_or-drop i text k 0

byte-part_first : (text : List ℕ) (i j : ℕ) → i < j → slice_index (slice_range text i j) 0 ≡ slice_index text i
byte-part_first text i j forward =
    let here : i + 0 ≡ i = omega arith in byte-part text i j 0 (omega arith) ∙ ap (slice_index text) here

one_byte : (text : List ℕ) (i : ℕ) → i < length text → slice_range text i (i + 1) ≡ slice_index text i ∷ []
one_byte text i inside = let one : i + 1 - i ≡ 1 = omega arith in rw (one, drop-cons text i 0) refl

two_bytes : (text : List ℕ) (i : ℕ) → i + 1 < length text → slice_range text i (i + 2) ≡ slice_index text i ∷ slice_index text (i + 1) ∷ []
two_bytes text i inside =
    let two : i + 2 - i ≡ 2 = omega arith in
    let here : i < length text = omega arith in
    let first : drop i text ≡ slice_index text i ∷ drop (i + 1) text = rw add-one (drop-cons text i 0 here) in
    let second : drop (i + 1) text ≡ slice_index text (i + 1) ∷ drop (suc (i + 1)) text = drop-cons text (i + 1) 0 inside in
    rw (two, first, second) refl

-- what the table of signs says of its rows
abbrev is_sign : List ℕ → Bool
is_sign [] = false
is_sign (byte ∷ []) = is_single_sign byte
is_sign (byte ∷ next ∷ []) = is_double_sign byte next
is_sign (byte ∷ next ∷ more ∷ rest) = false

-- some sign is equal to these bytes
abbrev in_table : List ℕ → Bool
in_table bytes = list_any (bytes_eq bytes) signs

-- what passes a test everywhere holds of each
All-from_list_all : (test : List ℕ → Bool) (xs : List (List ℕ)) → list_all test xs ≡ true → All (λ x. test x ≡ true) xs
All-from_list_all test [] h = All-nil (λ x. test x ≡ true)
All-from_list_all test (x ∷ xs) h =
    let parts = and_parts (test x) (list_all test xs) h in
    All-cons (λ y. test y ≡ true) x xs parts.0 (All-from_list_all test xs parts.1)

table_is_signs : All (λ bytes. is_sign bytes ≡ true) signs
unfolding signs is_single_sign is_double_sign
table_is_signs = All-from_list_all is_sign signs refl

Contains-in_table : (bytes : List ℕ) → in_table bytes ≡ true → Contains signs bytes
Contains-in_table bytes h =
    let found = Any-from_list_any (bytes_eq bytes) signs h in
    let same : bytes ≡ found.1 = (bytes_eq-Decides bytes found.1).0 found.4 in
    subst (λ x. Contains signs x) (sym same) (found.0, found.2, found.3)

single_in_table : (byte : ℕ) → is_single_sign byte ≡ true → in_table (byte ∷ []) ≡ true
unfolding is_single_sign signs
single_in_table byte h = one_of_all (λ b. in_table (b ∷ [])) (codes "<>=+-*/%!(){}[];,?") byte h refl

double_in_table : (byte next : ℕ) → is_double_sign byte next ≡ true → in_table (byte ∷ next ∷ []) ≡ true
unfolding is_double_sign signs
double_in_table byte next h =
    ⊎_elim
    (λ doubled.
    let parts = and_parts (next == byte) (is_one_of (codes "+-&|") byte) doubled in
    subst (λ n. in_table (byte ∷ n ∷ []) ≡ true) (sym ((Decides-eqb next byte).0 parts.0))
    (one_of_all (λ b. in_table (b ∷ b ∷ [])) (codes "+-&|") byte parts.1 refl))
    (λ equals.
    let parts = and_parts (next == 61) (is_one_of (codes "+-*=!<>") byte) equals in
    subst (λ n. in_table (byte ∷ n ∷ []) ≡ true) (sym ((Decides-eqb next 61).0 parts.0))
    (one_of_all (λ b. in_table (b ∷ 61 ∷ [])) (codes "+-*=!<>") byte parts.1 refl))
    (or_cases (next == byte && is_one_of (codes "+-&|") byte) (next == 61 && is_one_of (codes "+-*=!<>") byte) h)

-- each byte of a run's part of the text passes the test
All-run : (test : ℕ → Bool) (text : List ℕ) (i j : ℕ) → Run test text i j → All (λ byte. IsTrue (test byte)) (slice_range text i j)
All-run test text i j run =
    All-from_get_or (λ byte. IsTrue (test byte)) (slice_range text i j) 0
    (λ k inside.
    let below : k < j - i = omega (arith, length-part text i j run.forward run.within) in
    ap test (byte-part text i j k below) ∙ run.each (i + k) (omega arith) (omega arith))

spells-literal : (text : List ℕ) (i j : ℕ) (value : ℤ) → LiteralAt text i j → value ≡ pos (decimal_value (slice_range text i j)) → SpellsNumber (slice_range text i j) value
unfolding is_digit
spells-literal text i j value (inl zero) says =
    let part : slice_range text i j ≡ 48 ∷ [] = rw (zero.ends, one_byte text i zero.inside, zero.zero_digit) refl in
    record {
      nonempty = omega (arith, ap length part);
      each = rw part (All-cons (λ byte. IsTrue (is_digit byte)) 48 [] refl (All-nil (λ byte. IsTrue (is_digit byte))));
      no_leading_zero = λ _. ap length part;
      says = says;
    }
spells-literal text i j value (inr literal) says =
    let moves = moves-literal text i j (inr literal) in
    record {
      nonempty = omega (arith, moves.forward, length-part text i j (omega (arith, moves.forward)) moves.within);
      each = All-run is_digit text i j literal.digits;
      no_leading_zero = λ is_zero. absurd (literal.not_zero (sym (byte-part_first text i j moves.forward) ∙ is_zero));
      says = says;
    }

-- a token's bytes spell its kind
pub spells-token : (text : List ℕ) (i j : ℕ) (kind : Kind) → TokenAt text i j kind → Spells (slice_range text i j) kind
spells-token text i j (Number value) t = spells-literal text i j value t.literal t.says
spells-token text i j Name t =
    let moves = moves-token text i j Name t in
    record {
      nonempty = omega (arith, moves.forward, length-part text i j (omega (arith, moves.forward)) moves.within);
      starts = ap is_letter (byte-part_first text i j moves.forward) ∙ t.first;
      each = All-run is_name_byte text i j t.word;
    }
spells-token text i j Sign (inl t) =
    rw (t.ends, two_bytes text i t.inside) (Contains-in_table _ (double_in_table _ _ t.spelled))
spells-token text i j Sign (inr t) =
    rw (t.ends, one_byte text i t.inside) (Contains-in_table _ (single_in_table _ t.spelled))

-- what holds of each byte of a part holds of the text's bytes there
each_at : (test : ℕ → Bool) (text : List ℕ) (i end : ℕ) → i ≤ end → end ≤ length text → All (λ byte. IsTrue (test byte)) (slice_range text i end) → (k : ℕ) → i ≤ k → k < end → test (slice_index text k) ≡ true
each_at test text i end forward within each k from below =
    let inside : k - i < length (slice_range text i end) = omega (arith, length-part text i end forward within) in
    let place : i + (k - i) ≡ k = omega arith in
    sym (ap test (byte-part text i end (k - i) (omega arith) ∙ ap (slice_index text) place))
    ∙ All-get_or (λ byte. IsTrue (test byte)) (slice_range text i end) (k - i) 0 inside each

-- a sign has one byte or two
sign_shape : (bytes : List ℕ) → is_sign bytes ≡ true → ((length bytes ≡ 1) × (is_single_sign (slice_index bytes 0) ≡ true)) ⊎ ((length bytes ≡ 2) × (is_double_sign (slice_index bytes 0) (slice_index bytes 1) ≡ true))
sign_shape [] h = absurd (false≢true h)
sign_shape (byte ∷ []) h = inl (refl, h)
sign_shape (byte ∷ next ∷ []) h = inr (refl, h)
sign_shape (byte ∷ next ∷ more ∷ rest) h = absurd (false≢true h)

-- the same for a part of a text
sign-part : (text : List ℕ) (i end : ℕ) → i < end → end ≤ length text → Contains signs (slice_range text i end) → ((end ≡ i + 1) × (is_single_sign (slice_index text i) ≡ true)) ⊎ ((end ≡ i + 2) × (is_double_sign (slice_index text i) (slice_index text (i + 1)) ≡ true))
sign-part text i end forward within spelled =
    let bytes = slice_range text i end in
    let size = length-part text i end (omega arith) within in
    let first = byte-part_first text i end forward in
    ⊎_elim
    (λ one. inl (omega (arith, one.0), ap is_single_sign (sym first) ∙ one.1))
    (λ two.
    let second = byte-part text i end 1 (omega (arith, two.0)) in
    inr (omega (arith, two.0), rw (← first, ← second) two.1))
    (sign_shape bytes (All-contains (λ x. is_sign x ≡ true) signs bytes table_is_signs spelled))

-- a sign begins with a byte that is no letter and no digit
plain-sign : (text : List ℕ) (i end : ℕ) → i < end → end ≤ length text → Contains signs (slice_range text i end) → is_plain (slice_index text i) ≡ true
plain-sign text i end forward within spelled =
    ⊎_elim (λ one. plain-single _ one.1) (λ two. plain-double _ _ two.1) (sign-part text i end forward within spelled)

letter_not_plain : (byte : ℕ) → is_letter byte ≡ true → is_plain byte ≡ true → ⊥
letter_not_plain byte h plain = false≢true (sym (plain_parts byte plain).no_letter ∙ h)

digit_not_plain : (byte : ℕ) → is_digit byte ≡ true → is_plain byte ≡ true → ⊥
digit_not_plain byte h plain = false≢true (sym (plain_parts byte plain).no_digit ∙ h)

letter_not_digit : (byte : ℕ) → is_letter byte ≡ true → is_digit byte ≡ true → ⊥
letter_not_digit byte h k = false≢true (sym (letter-digit byte k) ∙ h)

-- what the first byte of a token tells
name_starts : (text : List ℕ) (i end : ℕ) → i < end → SpellsName (slice_range text i end) → is_letter (slice_index text i) ≡ true
name_starts text i end forward s = ap is_letter (sym (byte-part_first text i end forward)) ∙ s.starts

number_starts : (text : List ℕ) (i end : ℕ) (value : ℤ) → i < end → end ≤ length text → SpellsNumber (slice_range text i end) value → is_digit (slice_index text i) ≡ true
number_starts text i end value forward within s = each_at is_digit text i end (omega arith) within s.each i (omega arith) forward

literal_starts : (text : List ℕ) (i j : ℕ) → LiteralAt text i j → is_digit (slice_index text i) ≡ true
unfolding is_digit
literal_starts text i j (inl zero) = ap is_digit zero.zero_digit
literal_starts text i j (inr literal) = literal.first

sign_starts : (text : List ℕ) (i j : ℕ) → TokenAt text i j Sign → is_plain (slice_index text i) ≡ true
sign_starts text i j (inl t) = plain-double _ _ t.spelled
sign_starts text i j (inr t) = plain-single _ t.spelled

-- where a run of a class ends within the text, no byte of the class follows
run_stops : (test : ℕ → Bool) (text : List ℕ) (i j end : ℕ) → Run test text i j → j < end → end ≤ length text → All (λ byte. IsTrue (test byte)) (slice_range text i end) → ⊥
run_stops test text i j end run longer within each =
    false≢true (sym (run.ends (omega arith)) ∙ each_at test text i end (omega (arith, run.forward)) within each j run.forward longer)

-- a number of more digits isn't spelled where a literal ends
literal_stops : (text : List ℕ) (i j end : ℕ) → LiteralAt text i j → is_name_byte (slice_index text j) ≡ false → i < j → j < end → end ≤ length text → All (λ byte. IsTrue (is_digit byte)) (slice_range text i end) → ⊥
literal_stops text i j end literal alone forward longer within each =
    false≢true (sym alone ∙ name_byte-from_digit _ (each_at is_digit text i end (omega arith) within each j (omega arith) longer))

-- no token that begins where a token begins is longer
pub token_is_longest : (text : List ℕ) (i j : ℕ) (kind : Kind) → TokenAt text i j kind → (end : ℕ) (other : Kind) → j < end → end ≤ length text → Spells (slice_range text i end) other → ⊥
token_is_longest text i j (Number value) t end (Number v) longer within s =
    let forward = (moves-literal text i j t.literal).forward in
    literal_stops text i j end t.literal t.stands_alone forward longer within s.each
token_is_longest text i j (Number value) t end Name longer within s =
    let forward = (moves-literal text i j t.literal).forward in
    letter_not_digit _ (name_starts text i end (omega arith) s) (literal_starts text i j t.literal)
token_is_longest text i j (Number value) t end Sign longer within s =
    let forward = (moves-literal text i j t.literal).forward in
    digit_not_plain _ (literal_starts text i j t.literal) (plain-sign text i end (omega arith) within s)
token_is_longest text i j Name t end (Number v) longer within s =
    let forward = (moves-token text i j Name t).forward in
    letter_not_digit _ t.first (number_starts text i end v (omega arith) within s)
token_is_longest text i j Name t end Name longer within s = run_stops is_name_byte text i j end t.word longer within s.each
token_is_longest text i j Name t end Sign longer within s =
    let forward = (moves-token text i j Name t).forward in
    letter_not_plain _ t.first (plain-sign text i end (omega arith) within s)
token_is_longest text i j Sign t end (Number v) longer within s =
    let forward = (moves-token text i j Sign t).forward in
    digit_not_plain _ (number_starts text i end v (omega arith) within s) (sign_starts text i j t)
token_is_longest text i j Sign t end Name longer within s =
    let forward = (moves-token text i j Sign t).forward in
    letter_not_plain _ (name_starts text i end (omega arith) s) (sign_starts text i j t)
token_is_longest text i j Sign (inl t) end Sign longer within s =
    ⊎_elim (λ one. omega (arith, one.0, t.ends)) (λ two. omega (arith, two.0, t.ends)) (sign-part text i end (omega (arith, t.ends)) within s)
token_is_longest text i j Sign (inr t) end Sign longer within s =
    ⊎_elim (λ one. omega (arith, one.0, t.ends)) (λ two. false≢true (sym t.longest ∙ two.1)) (sign-part text i end (omega (arith, t.ends)) within s)

-- where nothing begins no bytes spell a token
pub nothing_is_spelled : (text : List ℕ) (i end : ℕ) (kind : Kind) → NothingBeginsAt text i → i < end → end ≤ length text → Spells (slice_range text i end) kind → ⊥
nothing_is_spelled text i end (Number v) n forward within s = false≢true (sym n.no_number ∙ number_starts text i end v forward within s)
nothing_is_spelled text i end Name n forward within s = false≢true (sym n.no_name ∙ name_starts text i end forward s)
nothing_is_spelled text i end Sign n forward within s =
    ⊎_elim
    (λ one. false≢true (sym n.no_single_sign ∙ one.1))
    (λ two. false≢true (sym n.no_double_sign ∙ two.1))
    (sign-part text i end forward within s)
