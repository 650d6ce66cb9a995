-- The invariant of the lexer's loop, and what a piece keeps of it.
use Rattle.std.proofs.Common.{ℕ, ◌≤◌, List, [], ◌∷◌, ◌++◌, length, append_assoc, append-nil, arith}
use Rattle.source_lex.specs.Gaps.{GapAt}
use Rattle.source_lex.specs.Words.{TokenAt}
use Rattle.source_lex.specs.Tokens.{TokensFrom, TokensOf}
use Rattle.source_lex.specs.Tokens.TokensFrom.{finish, gap, token}
use Rattle.source_lex.specs.Faults.{FaultAt, FaultFrom, FirstFault, IsFaultAnswer}
use Rattle.source_lex.specs.Faults.FaultFrom.{here, behind_gap, behind_token}
use Rattle.source_lex.specs.declared.fault.LexFault.{LexFault}
use Rattle.source_lex.specs.declared.fault.LexFault.TheVariants.{BadByte, BigNumber, OpenComment, Memory}
use Rattle.source_lex.specs.declared.token.Kind.{Kind}
use Rattle.source_lex.specs.declared.token.Token.{Token}

-- what is read from offset i on, put behind these tokens, is what the whole text is read as
pub record Reached (text : List ℕ) (i : ℕ) (tokens : List Token) : Type 0 where
  pub within : i ≤ length text
  pub reads : (rest : List Token) → TokensFrom text i rest → TokensOf text (tokens ++ rest)
  pub meets : (fault : LexFault) → FaultFrom text fault i → FirstFault text fault

pub reached_start : (text : List ℕ) → Reached text 0 []
reached_start text = record { within = omega arith; reads = λ rest h. h; meets = λ fault h. h }

pub reached_gap : (text : List ℕ) (i j : ℕ) (tokens : List Token) → j ≤ length text → Reached text i tokens → GapAt text i j → Reached text j tokens
reached_gap text i j tokens within r g = record {
  within = within;
  reads = λ rest h. r.reads rest (gap i j rest g h);
  meets = λ fault h. r.meets fault (behind_gap i j g h);
}

pub reached_token : (text : List ℕ) (i j : ℕ) (kind : Kind) (tokens : List Token) → j ≤ length text → Reached text i tokens → TokenAt text i j kind → Reached text j (tokens ++ record { kind = kind; start = i; end = j } ∷ [])
reached_token text i j kind tokens within r t = record {
  within = within;
  reads = λ rest h. rw append_assoc (r.reads _ (token i j kind rest t h));
  meets = λ fault h. r.meets fault (behind_token i j kind t h);
}

pub reached_end : (text : List ℕ) (i : ℕ) (tokens : List Token) → length text ≤ i → Reached text i tokens → TokensOf text tokens
reached_end text i tokens past r = rw append-nil at (r.reads [] (finish i (omega (arith, r.within))))

-- the fault that is met at this offset is the answer
pub reached_fault : (text : List ℕ) (i : ℕ) (tokens : List Token) (fault : LexFault) → Reached text i tokens → FaultAt text i fault → IsFaultAnswer text fault
reached_fault text i tokens (BadByte at) r h = r.meets (BadByte at) (here i h)
reached_fault text i tokens (BigNumber at) r h = r.meets (BigNumber at) (here i h)
reached_fault text i tokens (OpenComment at) r h = r.meets (OpenComment at) (here i h)
reached_fault text i tokens (Memory e) r h = tt
