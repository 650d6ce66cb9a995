-- Faults of names and atoms, by the numbers of their tokens. Parts are looked at in the order of the text, so the first found is the first.
use Rattle.std.specs.Prelude.{◌≡◌, ◌⊎◌, ℕ, Bool, true, false, List, Option, None, Some, ⊤, if◌then◌else◌}
use Rattle.step_meaning.specs.Syntax.{Expression}
use Rattle.step_meaning.specs.AffineExpressions.{IsAffine, ExpressionFits}
use Rattle.step_meaning.specs.Countdown.{form_of}
use Rattle.typed_expressions.specs.Scopes.{is_among}
use Rattle.formula_syntax.specs.declared.sign.Comparison.{Comparison}
use Rattle.formula_syntax.specs.Trees.{Factor, factor_at, FactorKind, number, name, signed, summed, Tail, ended, further, Sum, Part, prefixed, quantified, truth, exit, compared, grouped, Chain, done, joined, Formula}
use Rattle.formula_parse.specs.Comparing.{ComparisonFits}
use Rattle.formula_parse.specs.Meanings.{sum_meaning}

-- the first, or where there is none the other
abbrev pub or_else : Option ℕ → Option ℕ → Option ℕ
or_else (Some first) other = Some first
or_else None other = other

abbrev pub unless : Bool → ℕ → Option ℕ
unless true at = None
unless false at = Some at

-- the first name of a sum, a part or a formula that no variable has
abbrev mutual
  pub unknown_in_factor : List (List ℕ) → Factor → Option ℕ
  unknown_in_factor names (factor_at at kind) = unknown_in_kind names at kind

  pub unknown_in_kind : List (List ℕ) → ℕ → FactorKind → Option ℕ
  unknown_in_kind names at (number z) = None
  unknown_in_kind names at (name x) = unless (is_among names x) at
  unknown_in_kind names at (signed negative e) = unknown_in_factor names e
  unknown_in_kind names at (summed e more) = or_else (unknown_in_factor names e) (unknown_in_tail names more)

  pub unknown_in_tail : List (List ℕ) → Tail → Option ℕ
  unknown_in_tail names ended = None
  unknown_in_tail names (further op e more) = or_else (unknown_in_factor names e) (unknown_in_tail names more)

abbrev pub unknown_in_sum : List (List ℕ) → Sum → Option ℕ
unknown_in_sum names s = or_else (unknown_in_factor names s.factor) (unknown_in_tail names s.tail)

abbrev mutual
  pub unknown_in_part : List (List ℕ) → Part → Option ℕ
  unknown_in_part names (prefixed p f) = unknown_in_part names f
  unknown_in_part names (quantified all f c weak g d) =
      or_else (or_else (unknown_in_part names f) (unknown_in_chain names c)) (or_else (unknown_in_part names g) (unknown_in_chain names d))
  unknown_in_part names (truth b) = None
  unknown_in_part names exit = None
  unknown_in_part names (compared left c right) = or_else (unknown_in_sum names left) (unknown_in_sum names right)
  unknown_in_part names (grouped at f c) = or_else (unknown_in_part names f) (unknown_in_chain names c)

  pub unknown_in_chain : List (List ℕ) → Chain → Option ℕ
  unknown_in_chain names done = None
  unknown_in_chain names (joined k f more) = or_else (unknown_in_part names f) (unknown_in_chain names more)

abbrev pub unknown_in : List (List ℕ) → Formula → Option ℕ
unknown_in names f = or_else (unknown_in_part names f.part) (unknown_in_chain names f.chain)

-- both sides of a comparison are affine, and all numbers that they and it form are within 128 bits
pub record AtomFits (comparison : Comparison) (left right : Expression) : Type 0 where
  pub left_affine : IsAffine left
  pub left_fits : ExpressionFits left
  pub right_affine : IsAffine right
  pub right_fits : ExpressionFits right
  pub comparison_fits : ComparisonFits comparison (form_of left) (form_of right)

-- all atoms of a part fit
abbrev mutual
  pub PartFits : List (List ℕ) → Part → Type 0
  PartFits names (prefixed p f) = PartFits names f
  PartFits names (quantified all f c weak g d) = (PartFits names f × ChainFits names c) × (PartFits names g × ChainFits names d)
  PartFits names (truth b) = ⊤
  PartFits names exit = ⊤
  PartFits names (compared left c right) = AtomFits c (sum_meaning names left) (sum_meaning names right)
  PartFits names (grouped at f c) = PartFits names f × ChainFits names c

  pub ChainFits : List (List ℕ) → Chain → Type 0
  ChainFits names done = ⊤
  ChainFits names (joined k f more) = PartFits names f × ChainFits names more

abbrev pub AllFit : List (List ℕ) → Formula → Type 0
AllFit names f = PartFits names f.part × ChainFits names f.chain

-- What follows has no part in the headline.

-- the number of a sum's first token
abbrev pub first_of_factor : Factor → ℕ
first_of_factor (factor_at at kind) = at

abbrev pub first_token : Sum → ℕ
first_token s = first_of_factor s.factor

-- the first atom that doesn't fit begins at this token
abbrev mutual
  pub BreaksPart : List (List ℕ) → Part → ℕ → Type 0
  BreaksPart names (prefixed p f) at = BreaksPart names f at
  BreaksPart names (quantified all f c weak g d) at =
      (BreaksPart names f at ⊎ (PartFits names f × BreaksChain names c at))
      ⊎ ((PartFits names f × ChainFits names c) × (BreaksPart names g at ⊎ (PartFits names g × BreaksChain names d at)))
  BreaksPart names (truth b) at = ⊥
  BreaksPart names exit at = ⊥
  BreaksPart names (compared left c right) at = (at ≡ first_token left) × ¬ AtomFits c (sum_meaning names left) (sum_meaning names right)
  BreaksPart names (grouped m f c) at = BreaksPart names f at ⊎ (PartFits names f × BreaksChain names c at)

  pub BreaksChain : List (List ℕ) → Chain → ℕ → Type 0
  BreaksChain names done at = ⊥
  BreaksChain names (joined k f more) at = BreaksPart names f at ⊎ (PartFits names f × BreaksChain names more at)

abbrev pub BreaksAt : List (List ℕ) → Formula → ℕ → Type 0
BreaksAt names f at = BreaksPart names f.part at ⊎ (PartFits names f.part × BreaksChain names f.chain at)
