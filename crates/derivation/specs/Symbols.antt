-- The spelling of reserved words and signs.
use Rattle.std.specs.Prelude.{ℕ, List, [], ◌∷◌, Option, None, Some, codes, if◌then◌else◌}
use Rattle.std.specs.Str.{bytes_eq}
use Rattle.derivation.specs.declared.symbol.Symbol.{Symbol}
use Rattle.derivation.specs.declared.symbol.Symbol.TheVariants.{Int, If, Else, While, Do, For, Return, Break, Continue, Extern, Void, Typedef, Enum, Bool, True, False, Infinite, Main, Nondeterministic, Increment, Decrement, AddAssign, SubtractAssign, MultiplyAssign, Equal, NotEqual, LessEqual, GreaterEqual, And, Or, Less, Greater, Assign, Plus, Minus, Times, Divide, Remainder, Not, OpenParenthesis, CloseParenthesis, OpenBrace, CloseBrace, OpenBracket, CloseBracket, Semicolon, Comma, Question}

-- a spelling and what it is
abbrev pub Entry : Type 0
Entry = List ℕ × Symbol

-- the first entry of these bytes
abbrev pub found : List Entry → List ℕ → Option Symbol
found [] bytes = None
found (first ∷ rest) bytes = if bytes_eq first.0 bytes then Some first.1 else found rest bytes

-- the reserved words, which no variable may be named
abbrev pub reserved_words : List Entry
reserved_words =
    (codes "int", Int) ∷ (codes "if", If) ∷ (codes "else", Else) ∷ (codes "while", While) ∷ (codes "do", Do) ∷ (codes "for", For)
    ∷ (codes "return", Return) ∷ (codes "break", Break) ∷ (codes "continue", Continue) ∷ (codes "extern", Extern)
    ∷ (codes "void", Void) ∷ (codes "typedef", Typedef) ∷ (codes "enum", Enum) ∷ (codes "bool", Bool) ∷ (codes "true", True) ∷ (codes "false", False) ∷ (codes "inf", Infinite)
    ∷ (codes "main", Main) ∷ (codes "__VERIFIER_nondet_int", Nondeterministic) ∷ []

abbrev pub signs : List Entry
signs =
    (codes "++", Increment) ∷ (codes "--", Decrement) ∷ (codes "+=", AddAssign) ∷ (codes "-=", SubtractAssign)
    ∷ (codes "*=", MultiplyAssign) ∷ (codes "==", Equal) ∷ (codes "!=", NotEqual) ∷ (codes "<=", LessEqual)
    ∷ (codes ">=", GreaterEqual) ∷ (codes "&&", And) ∷ (codes "||", Or) ∷ (codes "<", Less) ∷ (codes ">", Greater)
    ∷ (codes "=", Assign) ∷ (codes "+", Plus) ∷ (codes "-", Minus) ∷ (codes "*", Times) ∷ (codes "/", Divide)
    ∷ (codes "%", Remainder) ∷ (codes "!", Not)
    ∷ (codes "(", OpenParenthesis) ∷ (codes ")", CloseParenthesis) ∷ (codes "{", OpenBrace) ∷ (codes "}", CloseBrace)
    ∷ (codes "[", OpenBracket) ∷ (codes "]", CloseBracket) ∷ (codes ";", Semicolon) ∷ (codes ",", Comma)
    ∷ (codes "?", Question) ∷ []
