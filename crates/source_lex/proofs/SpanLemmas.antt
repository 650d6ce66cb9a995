-- Where the tokens of a text lie.
use Rattle.std.proofs.Common.{ℕ, ◌≤◌, List, [], ◌∷◌, arith}
use Rattle.std.specs.Prelude.{All}
use Rattle.std.proofs.lemmas.List.Elements.{All-nil, All-cons}
use Rattle.source_lex.specs.Lexemes.{StandsIn}
use Rattle.source_lex.specs.Tokens.{TokensFrom}
use Rattle.source_lex.specs.Tokens.TokensFrom.{finish, gap, token}
use Rattle.source_lex.specs.Spans.{IsWithin, InOrderFrom}
use Rattle.source_lex.specs.declared.token.Token.{Token}
use Rattle.source_lex.proofs.Moves.{moves-gap, moves-token}

-- each token has a byte, and lies within the text
pub tokens_within : (text : List ℕ) (i : ℕ) (tokens : List Token) → TokensFrom text i tokens → All (IsWithin text) tokens
tokens_within text i tokens (finish _ e) = All-nil (IsWithin text)
tokens_within text i tokens (gap _ j _ g rest) = tokens_within text j tokens rest
tokens_within text i tokens (token _ j kind others t rest) =
    let moves = moves-token text i j kind t in
    All-cons (IsWithin text) _ others (record { nonempty = moves.forward; inside = moves.within }) (tokens_within text j others rest)

-- what lies in order behind an offset lies in order behind an earlier one
in_order_earlier : (i j : ℕ) (tokens : List Token) → i ≤ j → InOrderFrom j tokens → InOrderFrom i tokens
in_order_earlier i j [] earlier h = tt
in_order_earlier i j (t ∷ ts) earlier h = (omega (arith, h.0), h.1)

-- the tokens lie in order
pub tokens_in_order : (text : List ℕ) (i : ℕ) (tokens : List Token) → TokensFrom text i tokens → InOrderFrom i tokens
tokens_in_order text i tokens (finish _ e) = tt
tokens_in_order text i tokens (gap _ j _ g rest) =
    in_order_earlier i j tokens (omega (arith, (moves-gap text i j g).forward)) (tokens_in_order text j tokens rest)
tokens_in_order text i tokens (token _ j kind others t rest) = (omega arith, tokens_in_order text j others rest)

-- each token stands in the text with its kind
pub tokens_stand : (text : List ℕ) (i : ℕ) (tokens : List Token) → TokensFrom text i tokens → All (StandsIn text) tokens
tokens_stand text i tokens (finish _ e) = All-nil (StandsIn text)
tokens_stand text i tokens (gap _ j _ g rest) = tokens_stand text j tokens rest
tokens_stand text i tokens (token _ j kind others t rest) =
    All-cons (StandsIn text) _ others t (tokens_stand text j others rest)
