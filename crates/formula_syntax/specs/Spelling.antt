-- The pieces that a tree spells before others, where `levels` levels of nesting are open.
use Rattle.std.specs.Prelude.{ℕ, ◌+◌, Bool, true, false, List, ◌∷◌}
use Rattle.derivation.specs.Pieces.{keeps, one_more, token, look}
use Rattle.formula_syntax.specs.declared.sign.Operator.{Operator}
use Rattle.formula_syntax.specs.declared.sign.Operator.TheVariants as O
use Rattle.formula_syntax.specs.declared.sign.Sign.{Sign}
use Rattle.formula_syntax.specs.declared.sign.Sign.TheVariants as S
use Rattle.formula_syntax.specs.Words.{Word, sign, name as named, number as numbered}
use Rattle.formula_syntax.specs.Language.{Token, Piece, is_at, no_operator, no_connective}
use Rattle.formula_syntax.specs.Trees.{Factor, factor_at, FactorKind, number, name, signed, summed, Tail, ended, further, Sum, Part, prefixed, quantified, truth, exit, compared, grouped, Chain, done, joined, Formula}

-- a token that opens no level and doesn't count
abbrev pub plain : Word → Token
plain word = record { word = word; level = 0; counting = keeps }

abbrev pub mark : Sign → Token
mark s = plain (sign s)

-- one that opens a level
abbrev pub opening : Sign → ℕ → Token
opening s level = record { word = sign s; level = level; counting = keeps }

-- one that counts among the operators
abbrev pub counted : Sign → Token
counted s = record { word = sign s; level = 0; counting = one_more }

-- one that does both
abbrev pub counted_opening : Sign → ℕ → Token
counted_opening s level = record { word = sign s; level = level; counting = one_more }

-- the sign before a factor
abbrev pub sign_of : Bool → Operator
sign_of true = O.Subtract
sign_of false = O.Add

-- A sign before a factor, a prefix, `(` and `[` each open a level. Prefixes, `A` and `E`, connectives, comparisons and the signs of sums
-- each count among the operators. Behind the last factor of a sum no operator follows, and behind the last part of a formula no
-- connective: in a whole formula none could, so this keeps no text out, but tells where a sum or a formula that is read ends.
abbrev mutual
  pub factor_pieces : ℕ → Factor → List Piece → List Piece
  factor_pieces levels (factor_at at kind) behind = look (is_at at) ∷ factor_kind_pieces levels kind behind

  pub factor_kind_pieces : ℕ → FactorKind → List Piece → List Piece
  factor_kind_pieces levels (number z) behind = token (plain (numbered z)) ∷ behind
  factor_kind_pieces levels (name x) behind = token (plain (named x)) ∷ behind
  factor_kind_pieces levels (signed negative e) behind =
      token (counted_opening (S.Operator (sign_of negative)) (levels + 1)) ∷ factor_pieces (levels + 1) e behind
  factor_kind_pieces levels (summed e more) behind =
      token (opening S.OpenParenthesis (levels + 1))
      ∷ factor_pieces (levels + 1) e (tail_pieces (levels + 1) more (token (mark S.CloseParenthesis) ∷ behind))

  pub tail_pieces : ℕ → Tail → List Piece → List Piece
  tail_pieces levels ended behind = look no_operator ∷ behind
  tail_pieces levels (further op e more) behind = token (counted (S.Operator op)) ∷ factor_pieces levels e (tail_pieces levels more behind)

abbrev pub sum_pieces : ℕ → Sum → List Piece → List Piece
sum_pieces levels s behind = factor_pieces levels s.factor (tail_pieces levels s.tail behind)

abbrev mutual
  pub part_pieces : ℕ → Part → List Piece → List Piece
  part_pieces levels (prefixed prefix f) behind =
      token (counted_opening (S.Prefix prefix) (levels + 1)) ∷ part_pieces (levels + 1) f behind
  part_pieces levels (quantified all f more weak g others) behind =
      token (counted (S.Quantifier all)) ∷ token (opening S.OpenBracket (levels + 1))
      ∷ part_pieces (levels + 1) f (chain_pieces (levels + 1) more
      (token (mark (S.Until weak))
      ∷ part_pieces (levels + 1) g (chain_pieces (levels + 1) others (token (mark S.CloseBracket) ∷ behind))))
  part_pieces levels (truth b) behind = token (mark (S.Truth b)) ∷ behind
  part_pieces levels exit behind = token (mark S.Exit) ∷ behind
  part_pieces levels (compared left c right) behind =
      sum_pieces levels left (token (counted (S.Comparison c)) ∷ sum_pieces levels right behind)
  part_pieces levels (grouped at f more) behind =
      look (is_at at) ∷ token (opening S.OpenParenthesis (levels + 1))
      ∷ part_pieces (levels + 1) f (chain_pieces (levels + 1) more (token (mark S.CloseParenthesis) ∷ behind))

  pub chain_pieces : ℕ → Chain → List Piece → List Piece
  chain_pieces levels done behind = look no_connective ∷ behind
  chain_pieces levels (joined c f more) behind = token (counted (S.Connective c)) ∷ part_pieces levels f (chain_pieces levels more behind)

abbrev pub formula_pieces : ℕ → Formula → List Piece → List Piece
formula_pieces levels f behind = part_pieces levels f.part (chain_pieces levels f.chain behind)
