-- Laws of the definitions.
use Rattle.std.specs.Prelude.{◌≡◌, ℕ, ◌<◌, ◌≤◌, ◌⊎◌, List, All, length, slice_range}
use Rattle.source_lex.specs.Tokens.{TokensOf}
use Rattle.source_lex.specs.Faults.{FirstFault, NothingBeginsAt}
use Rattle.source_lex.specs.Lexemes.{StandsIn}
use Rattle.source_lex.specs.Spellings.{Spells, SpellsItsKind, IsLongest}
use Rattle.source_lex.specs.Spans.{IsWithin, InOrderFrom}
use Rattle.source_lex.specs.declared.fault.LexFault.{LexFault}
use Rattle.source_lex.specs.declared.token.Kind.{Kind}
use Rattle.source_lex.specs.declared.token.Token.{Token}

-- a text has at most one token list
abbrev pub TokensAreUnique : Type 0
TokensAreUnique =
    (text : List ℕ) (tokens others : List Token) → TokensOf text tokens → TokensOf text others → tokens ≡ others

-- a text with a token list has no fault
abbrev pub TokensExcludeFaults : Type 0
TokensExcludeFaults =
    (text : List ℕ) (tokens : List Token) (fault : LexFault) → TokensOf text tokens → FirstFault text fault → ⊥

-- a text has at most one first fault
abbrev pub FirstFaultIsUnique : Type 0
FirstFaultIsUnique =
    (text : List ℕ) (fault other : LexFault) → FirstFault text fault → FirstFault text other → fault ≡ other

-- each text has a token list or a first fault
abbrev pub EachTextIsRead : Type 0
EachTextIsRead =
    (text : List ℕ) → ((tokens : List Token) × TokensOf text tokens) ⊎ ((fault : LexFault) × FirstFault text fault)

-- the tokens of a text lie in order, each with at least one byte and within the text
abbrev pub TokensAreInOrder : Type 0
TokensAreInOrder =
    (text : List ℕ) (tokens : List Token) → TokensOf text tokens → InOrderFrom 0 tokens × All (IsWithin text) tokens

-- each token of a text stands there with its kind
abbrev pub TokensStandInText : Type 0
TokensStandInText = (text : List ℕ) (tokens : List Token) → TokensOf text tokens → All (StandsIn text) tokens

-- the bytes of each token of a text spell its kind, and of a number its value
abbrev pub TokensSpellTheirKinds : Type 0
TokensSpellTheirKinds = (text : List ℕ) (tokens : List Token) → TokensOf text tokens → All (SpellsItsKind text) tokens

-- of all the bytes that spell a token from a token's start on, the token's are the longest
abbrev pub TokensAreLongest : Type 0
TokensAreLongest = (text : List ℕ) (tokens : List Token) → TokensOf text tokens → All (IsLongest text) tokens

-- where nothing begins, no bytes spell a token
abbrev pub NoTokenIsMissed : Type 0
NoTokenIsMissed =
    (text : List ℕ) (i end : ℕ) (kind : Kind)
    → NothingBeginsAt text i → i < end → end ≤ length text → Spells (slice_range text i end) kind → ⊥
