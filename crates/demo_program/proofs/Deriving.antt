-- Demo programs are read.
use Rattle.std.proofs.Common.{◌≡◌, ◌∙◌, ℕ, zero, suc, ◌+◌, ◌≤◌, Bool, true, false, inl, inr, List, [], ◌∷◌, ◌++◌, length, map, codes, refl, sym, ap, subst, arith}
use Rattle.std.specs.Prelude.{pos}
use Rattle.std.proofs.lemmas.List.{append_assoc, length-append}
use Rattle.source_lex.specs.Bytes.{is_digit, is_letter, is_name_byte}
use Rattle.source_lex.specs.Signs.{is_double_sign, is_single_sign}
use Rattle.source_lex.specs.Words.{decimal_value}
use Rattle.source_lex.specs.declared.token.Kind.{Kind}
use Rattle.source_lex.specs.declared.token.Kind.TheVariants.{Number, Name, Sign}
use Rattle.source_lex.specs.Tokens.{TokensFrom}
use Rattle.derivation.specs.declared.symbol.Symbol.TheVariants as S
use Rattle.derivation.specs.Comes.{IsSpelledBy}
use Rattle.derivation.specs.Word.{Word, symbol, name as named, number as numbered, word_of, words}
use Rattle.source_syntax.specs.Texts.{programs}
use Rattle.source_parse.specs.Derives.{IsProgramText}
use Rattle.demo_program.specs.Demo.{demo_body, demo_names, demo_text, turn_text}
use Rattle.demo_program.proofs.Spelled.{AreLexemes, Lexeme, StandsAlone, behind, spelled, tokens_at, width}
use Rattle.demo_program.proofs.Lexing.{apart, lexemes_are_read, longer, range}
use Rattle.demo_program.proofs.Trees.{demo_tree, demo_words, turn_words}
use Rattle.demo_program.proofs.Standing.{stands, words_spelled}
use Rattle.line_text.specs.Numeral.{numeral}
use Rattle.demo_program.proofs.Digits.{digits_pass, no_zero, some_digit, value_is}

-- ---- the words of lexemes

abbrev word_of_lexeme : Lexeme → Word
word_of_lexeme lexeme = word_of lexeme.kind lexeme.bytes

one_word : (front : List ℕ) (kind : Kind) (bytes : List ℕ) (spaced : Bool) (more : List Lexeme)
    → ((before : List ℕ) → words (before ++ spelled more) (tokens_at (length before) more) ≡ map word_of_lexeme more)
    → words (front ++ (bytes ++ behind spaced (spelled more))) (record { kind = kind; start = length front; end = length front + length bytes } ∷ tokens_at (length front + length bytes + width spaced) more)
    ≡ word_of kind bytes ∷ map word_of_lexeme more
one_word front kind bytes false more rest =
    let n = length (front ++ bytes) in
    let same : n ≡ length front + length bytes + 0 = longer front bytes (spelled more) ∙ (let z : length front + length bytes ≡ length front + length bytes + 0 = omega arith in z) in
    let moved = subst (λ t. words t (tokens_at n more) ≡ map word_of_lexeme more) (sym (apart front bytes (spelled more))) (rest (front ++ bytes)) in
    let placed = subst (λ m. words (front ++ (bytes ++ spelled more)) (tokens_at m more) ≡ map word_of_lexeme more) same moved in
    ap (λ b. word_of kind b ∷ words (front ++ (bytes ++ spelled more)) (tokens_at (length front + length bytes + 0) more)) (range front bytes (spelled more))
    ∙ ap (λ t. word_of kind bytes ∷ t) placed
one_word front kind bytes true more rest =
    let before = (front ++ bytes) ++ 32 ∷ [] in
    let n = length before in
    let same : n ≡ length front + length bytes + 1 = length-append (front ++ bytes) (32 ∷ []) ∙ ap (λ m. m + 1) (longer front bytes (32 ∷ spelled more)) in
    let moved = subst (λ t. words t (tokens_at n more) ≡ map word_of_lexeme more) (append_assoc (front ++ bytes) (32 ∷ []) (spelled more) ∙ sym (apart front bytes (32 ∷ spelled more))) (rest before) in
    let placed = subst (λ m. words (front ++ (bytes ++ 32 ∷ spelled more)) (tokens_at m more) ≡ map word_of_lexeme more) same moved in
    ap (λ b. word_of kind b ∷ words (front ++ (bytes ++ 32 ∷ spelled more)) (tokens_at (length front + length bytes + 1) more)) (range front bytes (32 ∷ spelled more))
    ∙ ap (λ t. word_of kind bytes ∷ t) placed

words_read : (front : List ℕ) (lexemes : List Lexeme) → words (front ++ spelled lexemes) (tokens_at (length front) lexemes) ≡ map word_of_lexeme lexemes
words_read front [] = refl
words_read front (lexeme ∷ more) = one_word front lexeme.kind lexeme.bytes lexeme.spaced more (λ before. words_read before more)

-- ---- the lexemes of a demo program

abbrev lexeme : Kind → List ℕ → Bool → Lexeme
lexeme kind bytes spaced = record { kind = kind; bytes = bytes; spaced = spaced }

abbrev turn_lexemes : (left first : ℕ) → List Lexeme
turn_lexemes zero first =
    lexeme Name (codes "x") true ∷ (lexeme Sign (codes "=") true ∷ (lexeme Name (codes "x") true ∷ (lexeme Sign (codes "-") true
    ∷ (lexeme (Number (pos 1)) (codes "1") false ∷ (lexeme Sign (codes ";") true ∷ (lexeme Sign (codes "}") true ∷ (lexeme Sign (codes "}") false ∷ [])))))))
turn_lexemes (suc left) first =
    lexeme Name (codes "a") true ∷ (lexeme Sign (codes "=") true ∷ (lexeme Name (codes "a") true ∷ (lexeme Sign (codes "+") true
    ∷ (lexeme (Number (pos first)) (numeral first) false ∷ (lexeme Sign (codes ";") true ∷ turn_lexemes left (suc first))))))

abbrev demo_lexemes : ℕ → List Lexeme
demo_lexemes n =
    lexeme Name (codes "int") true ∷ (lexeme Name (codes "main") false ∷ (lexeme Sign (codes "(") false ∷ (lexeme Sign (codes ")") true
    ∷ (lexeme Sign (codes "{") true ∷ (lexeme Name (codes "int") true ∷ (lexeme Name (codes "a") false ∷ (lexeme Sign (codes ",") true
    ∷ (lexeme Name (codes "x") false ∷ (lexeme Sign (codes ";") true ∷ (lexeme Name (codes "while") true ∷ (lexeme Sign (codes "(") false
    ∷ (lexeme Name (codes "x") true ∷ (lexeme Sign (codes ">") true ∷ (lexeme (Number (pos 0)) (codes "0") false ∷ (lexeme Sign (codes ")") true
    ∷ (lexeme Sign (codes "{") true ∷ turn_lexemes n 1))))))))))))))))

turn_spelled : (left first : ℕ) → spelled (turn_lexemes left first) ≡ turn_text left first
turn_spelled zero first = refl
turn_spelled (suc left) first = ap (λ t. codes "a = a + " ++ (numeral first ++ (codes "; " ++ t))) (turn_spelled left (suc first))

demo_spelled : (n : ℕ) → spelled (demo_lexemes n) ≡ demo_text n
demo_spelled n = ap (λ t. codes "int main() { int a, x; while (x > 0) { " ++ t) (turn_spelled n 1)

turn_word : (left first : ℕ) → map word_of_lexeme (turn_lexemes left first) ≡ turn_words left first
turn_word zero first = refl
turn_word (suc left) first =
    ap (λ t. named (codes "a") ∷ (symbol S.Assign ∷ (named (codes "a") ∷ (symbol S.Plus ∷ (numbered (pos first) ∷ (symbol S.Semicolon ∷ t))))))
    (turn_word left (suc first))

demo_word : (n : ℕ) → map word_of_lexeme (demo_lexemes n) ≡ demo_words n
demo_word n =
    ap (λ t. symbol S.Int ∷ (symbol S.Main ∷ (symbol S.OpenParenthesis ∷ (symbol S.CloseParenthesis ∷ (symbol S.OpenBrace
    ∷ (symbol S.Int ∷ (named (codes "a") ∷ (symbol S.Comma ∷ (named (codes "x") ∷ (symbol S.Semicolon
    ∷ (symbol S.While ∷ (symbol S.OpenParenthesis ∷ (named (codes "x") ∷ (symbol S.Greater ∷ (numbered (pos 0) ∷ (symbol S.CloseParenthesis
    ∷ (symbol S.OpenBrace ∷ t))))))))))))))))) (turn_word n 1)

number_alone : (n : ℕ) → 1 ≤ n → n ≤ 2000 → StandsAlone (Number (pos n)) (numeral n) 59
unfolding is_letter is_name_byte is_digit
number_alone n some few = (
  inr (some_digit n, no_zero n some, digits_pass n),
  ap pos (sym (value_is n)),
  (let v = value_is n in omega arith),
  refl,
  refl,
)

turn_read : (left first : ℕ) → 1 ≤ first → left + first ≤ 2000 → AreLexemes (turn_lexemes left first)
unfolding is_letter is_name_byte is_digit is_single_sign is_double_sign decimal_value
turn_read zero first some few = ((omega arith, refl, (refl, tt), refl), ((61, refl, refl, refl, omega arith), ((omega arith, refl, (refl, tt), refl), ((45, refl, refl, refl, omega arith), ((inr (omega arith, (λ e. omega arith), (refl, tt)), refl, omega arith, refl, refl), ((59, refl, refl, refl, omega arith), ((125, refl, refl, refl, omega arith), ((125, refl, refl, refl, omega arith), tt))))))))
turn_read (suc left) first some few = ((omega arith, refl, (refl, tt), refl), ((61, refl, refl, refl, omega arith), ((omega arith, refl, (refl, tt), refl), ((43, refl, refl, refl, omega arith), (number_alone first some (omega arith), ((59, refl, refl, refl, omega arith), turn_read left (suc first) (omega arith) (omega arith)))))))

demo_read : (n : ℕ) → n ≤ 1000 → AreLexemes (demo_lexemes n)
unfolding is_letter is_name_byte is_digit is_single_sign is_double_sign decimal_value
demo_read n few = ((omega arith, refl, (refl, (refl, (refl, tt))), refl), ((omega arith, refl, (refl, (refl, (refl, (refl, tt)))), refl), ((40, refl, refl, refl, omega arith), ((41, refl, refl, refl, omega arith), ((123, refl, refl, refl, omega arith), ((omega arith, refl, (refl, (refl, (refl, tt))), refl), ((omega arith, refl, (refl, tt), refl), ((44, refl, refl, refl, omega arith), ((omega arith, refl, (refl, tt), refl), ((59, refl, refl, refl, omega arith), ((omega arith, refl, (refl, (refl, (refl, (refl, (refl, tt))))), refl), ((40, refl, refl, refl, omega arith), ((omega arith, refl, (refl, tt), refl), ((62, refl, refl, refl, omega arith), ((inl refl, refl, omega arith, refl, refl), ((41, refl, refl, refl, omega arith), ((123, refl, refl, refl, omega arith), turn_read n 1 (omega arith) (omega arith))))))))))))))))))

pub demo_derives : (n : ℕ) → n ≤ 1000 → IsProgramText (demo_text n) demo_names (demo_body n)
demo_derives n few = record {
  tree = demo_tree n;
  spelled = record {
    tokens = tokens_at 0 (demo_lexemes n);
    lexed = subst (λ t. TokensFrom t 0 (tokens_at 0 (demo_lexemes n))) (demo_spelled n) (lexemes_are_read [] (demo_lexemes n) (demo_read n few));
    spelled = subst (λ ws. IsSpelledBy (programs false) ws (demo_tree n))
        (sym (demo_word n) ∙ sym (words_read [] (demo_lexemes n)) ∙ ap (λ t. words t (tokens_at 0 (demo_lexemes n))) (demo_spelled n)) (words_spelled n);
  };
  stands = stands n;
}
