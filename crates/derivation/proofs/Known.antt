-- Each token of a text is a word.
use Rattle.std.proofs.Common.{◌≡◌, ◌≢◌, ℕ, zero, suc, ◌<◌, Bool, true, false, if◌then◌else◌, List, [], ◌∷◌, Option, None, Some, map, length, All, Contains, slice_index_or, refl, arith}
use Rattle.std.specs.Str.{bytes_eq}
use Rattle.std.proofs.lemmas.Slice.Eq.{bytes_eq-Decides}
use Rattle.source_lex.specs.Laws.{TokensSpellTheirKinds}
use Rattle.source_lex.specs.Lexemes.{lexeme}
use Rattle.source_lex.specs.Spellings.{Spells, SpellsItsKind, signs as spelled_signs}
use Rattle.source_lex.specs.declared.token.Kind.{Kind}
use Rattle.source_lex.specs.declared.token.Kind.TheVariants.{Number, Name, Sign}
use Rattle.source_lex.specs.declared.token.Token.{Token}
use Rattle.derivation.specs.declared.symbol.Symbol.{Symbol}
use Rattle.derivation.specs.Symbols.{Entry, found, reserved_words, signs}
use Rattle.derivation.specs.Word.{Word, unknown, name_word, sign_word, word_of, words}
use Rattle.derivation.specs.Laws.{TokensAreWords}

-- what a table spells is found in it
found_among : (table : List Entry) (bytes : List ℕ) → Contains (map (λ entry. entry.0) table) bytes → found table bytes ≢ None
found_among [] bytes h = absurd (omega (arith, h.1))
found_among (first ∷ rest) bytes h = by_first (found_among rest bytes) (bytes_eq first.0 bytes) refl h.0 h.1 h.2
  where
    by_first : (Contains (map (λ entry. entry.0) rest) bytes → found rest bytes ≢ None) → (same : Bool) → bytes_eq first.0 bytes ≡ same
        → (k : ℕ) → k < length (map (λ entry. entry.0) (first ∷ rest))
        → slice_index_or (map (λ entry. entry.0) (first ∷ rest)) k bytes ≡ bytes → (if same then Some first.1 else found rest bytes) ≢ None
    by_first more true e k lt at = λ none. cc
    by_first more false e zero lt at = absurd (let same = (bytes_eq-Decides first.0 bytes).1 at in cc)
    by_first more false e (suc k) lt at = more (k, omega (arith, lt), at)

-- both tables of signs spell the same
table_spells : (bytes : List ℕ) → Contains spelled_signs bytes → Contains (map (λ entry. entry.0) signs) bytes
unfolding spelled_signs
table_spells bytes h = h

sign_known : (sign : Option Symbol) → sign ≢ None → sign_word sign ≢ unknown
sign_known None h = absurd (h refl)
sign_known (Some symbol) h = λ e. cc

name_known : (bytes : List ℕ) (reserved : Option Symbol) → name_word bytes reserved ≢ unknown
name_known bytes None = λ e. cc
name_known bytes (Some symbol) = λ e. cc

word_known : (kind : Kind) (bytes : List ℕ) → Spells bytes kind → word_of kind bytes ≢ unknown
word_known (Number value) bytes h = λ e. cc
word_known Name bytes h = name_known bytes (found reserved_words bytes)
word_known Sign bytes h = sign_known (found signs bytes) (found_among signs bytes (table_spells bytes h))

words_known : (text : List ℕ) (tokens : List Token) → All (SpellsItsKind text) tokens → All (λ word. word ≢ unknown) (words text tokens)
words_known text [] h = λ k d lt. absurd (omega (arith, lt))
words_known text (one ∷ more) h = each (words_known text more (λ k d lt. h (suc k) d (omega arith)))
  where
    each : All (λ word. word ≢ unknown) (words text more) → (k : ℕ) (d : Word) → k < length (words text (one ∷ more)) → slice_index_or (words text (one ∷ more)) k d ≢ unknown
    each rest zero d lt = word_known one.kind (lexeme text one) (h 0 one (omega arith))
    each rest (suc k) d lt = rest k d (omega (arith, lt))

pub tokens_are_words : TokensSpellTheirKinds → TokensAreWords
tokens_are_words spell text tokens lexed = words_known text tokens (spell text tokens lexed)
