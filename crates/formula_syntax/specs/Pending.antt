-- What is still to be read: things one behind the other, each with its trees, where what stands behind one may depend on its tree.
use Rattle.std.specs.Prelude.{ℕ, ◌+◌, Bool, Some, List, [], ◌∷◌}
use Rattle.derivation.specs.declared.rule.Rule.{Rule}
use Rattle.derivation.specs.Pieces.{token, look}
use Rattle.derivation.specs.Grammars.{Grammar, Leads as LeadsIn, Stops as StopsIn}
use Rattle.formula_syntax.specs.declared.sign.Comparison.{Comparison}
use Rattle.formula_syntax.specs.declared.sign.Sign.TheVariants as S
use Rattle.formula_syntax.specs.Words.{name as named}
use Rattle.formula_syntax.specs.Language.{language, Token, Piece, Phrase, Rest, is_at, IsQuiet}
use Rattle.formula_syntax.specs.Trees.{Factor, FactorKind, Tail, Sum, Part, Chain, Formula}
use Rattle.formula_syntax.specs.Spelling.{plain, mark, opening, counted, factor_pieces, factor_kind_pieces, tail_pieces, sum_pieces, part_pieces, chain_pieces, formula_pieces}

-- a comparison and what stands at its right
pub record Right : Type 0 where
  pub comparison : Comparison
  pub sum : Sum

-- what stands in parentheses where a formula or a sum may, and what stands there behind a sum; with the `)`
pub data Inner : Type 0 where
  of_formula : Formula → Inner
  of_sum : Sum → Inner

pub data InnerEnd : Type 0 where
  closed : InnerEnd
  compares : Right → Chain → InnerEnd

-- such parentheses, with the number of the first
pub record Group : Type 0 where
  pub at : ℕ
  pub inner : Inner

-- something to be read, where so many levels are open
pub data Pending : Type 0 where
  exactly : (t : Token) → IsQuiet (Some t.word) → Pending
  bytes_of_a_name : Pending
  a_factor : ℕ → Pending
  a_factor_kind : ℕ → Pending
  a_tail : ℕ → Pending
  a_sum : ℕ → Pending
  a_right : ℕ → Pending
  an_until : Pending
  a_part : ℕ → Pending
  a_chain : ℕ → Pending
  a_formula : ℕ → Pending
  an_inner : ℕ → Pending
  an_inner_end : ℕ → Pending
  a_group : ℕ → Pending

abbrev pub TreeOf : Pending → Type 0
TreeOf (exactly t quiet) = Unit {0}
TreeOf bytes_of_a_name = List ℕ
TreeOf (a_factor n) = Factor
TreeOf (a_factor_kind n) = FactorKind
TreeOf (a_tail n) = Tail
TreeOf (a_sum n) = Sum
TreeOf (a_right n) = Right
TreeOf an_until = Bool
TreeOf (a_part n) = Part
TreeOf (a_chain n) = Chain
TreeOf (a_formula n) = Formula
TreeOf (an_inner n) = Inner
TreeOf (an_inner_end n) = InnerEnd
TreeOf (a_group n) = Group

abbrev pub right_pieces : ℕ → Right → List Piece → List Piece
right_pieces levels r behind = token (counted (S.Comparison r.comparison)) ∷ sum_pieces levels r.sum behind

abbrev pub inner_pieces : ℕ → Inner → List Piece → List Piece
inner_pieces levels (of_formula f) behind = formula_pieces levels f (token (mark S.CloseParenthesis) ∷ behind)
inner_pieces levels (of_sum s) behind = sum_pieces levels s (token (mark S.CloseParenthesis) ∷ behind)

abbrev pub inner_end_pieces : ℕ → InnerEnd → List Piece → List Piece
inner_end_pieces levels closed behind = token (mark S.CloseParenthesis) ∷ behind
inner_end_pieces levels (compares r chain) behind =
    right_pieces levels r (chain_pieces levels chain (token (mark S.CloseParenthesis) ∷ behind))

abbrev pub pieces_of : (p : Pending) → TreeOf p → List Piece → List Piece
pieces_of (exactly t quiet) tree behind = token t ∷ behind
pieces_of bytes_of_a_name x behind = token (plain (named x)) ∷ behind
pieces_of (a_factor n) e behind = factor_pieces n e behind
pieces_of (a_factor_kind n) kind behind = factor_kind_pieces n kind behind
pieces_of (a_tail n) tail behind = tail_pieces n tail behind
pieces_of (a_sum n) s behind = sum_pieces n s behind
pieces_of (a_right n) r behind = right_pieces n r behind
pieces_of an_until weak behind = token (mark (S.Until weak)) ∷ behind
pieces_of (a_part n) f behind = part_pieces n f behind
pieces_of (a_chain n) c behind = chain_pieces n c behind
pieces_of (a_formula n) f behind = formula_pieces n f behind
pieces_of (an_inner n) i behind = inner_pieces n i behind
pieces_of (an_inner_end n) e behind = inner_end_pieces n e behind
pieces_of (a_group n) g behind = look (is_at g.at) ∷ token (opening S.OpenParenthesis (n + 1)) ∷ inner_pieces (n + 1) g.inner behind

-- nothing, or something and what stands behind its tree
pub data Sequence : Type 0 where
  nothing : Sequence
  first_read : (p : Pending) → (TreeOf p → Sequence) → Sequence

-- something and then what stands behind it whatever its tree is
abbrev pub then_read : Pending → Sequence → Sequence
then_read p more = first_read p (λ tree. more)

-- trees of all that is to be read, and their pieces
abbrev pub Trees : Sequence → Type 0
Trees nothing = Unit {0}
Trees (first_read p more) = (tree : TreeOf p) × Trees (more tree)

abbrev pub pieces : (all : Sequence) → Trees all → List Piece
pieces nothing trees = []
pieces (first_read p more) trees = pieces_of p trees.0 (pieces (more trees.0) trees.1)

abbrev pub phrase : Sequence → Phrase
phrase all = record { Tree = Trees all; pieces = pieces all }

-- formulas as a grammar of the calculus
abbrev pub grammar : Grammar
grammar = record { language = language; Sequence = Sequence; phrase = phrase }

abbrev pub Leads : (count : ℕ) (these : Sequence) (from : Rest) (now : ℕ) (those : Sequence) (to : Rest) → (Trees those → Trees these) → Type 0
Leads = LeadsIn grammar

abbrev pub Stops : (count : ℕ) (these : Sequence) (from : Rest) → Rule → Rest → Type 0
Stops = StopsIn grammar
