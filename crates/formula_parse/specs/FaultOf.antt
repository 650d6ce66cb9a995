-- The first fault of a text that is no formula.
use Rattle.std.specs.Prelude.{◌≡◌, ℕ, ◌<◌, ◌≤◌, List, Some, length, ⊤}
use Rattle.derivation.specs.declared.rule.Rule.TheVariants as Syntax
use Rattle.source_lex.specs.Tokens.{TokensOf}
use Rattle.source_lex.specs.Faults.{FirstFault as FirstLexFault}
use Rattle.source_lex.specs.declared.token.Token.{Token}
use Rattle.formula_syntax.specs.Trees.{Formula}
use Rattle.formula_syntax.specs.Texts.{IsFormulaText, HasFault, offset_in}
use Rattle.formula_parse.specs.Faults.{unknown_in, BreaksAt}
use Rattle.formula_parse.specs.declared.fault.FormulaFault.{FormulaFault}
use Rattle.formula_parse.specs.declared.fault.FormulaFault.TheVariants.{Lex, Expected, Unknown, NotAffine, Limit, Memory}
use Rattle.formula_parse.specs.declared.fault.FormulaLimit.{FormulaLimit}
use Rattle.ctl_formula.specs.Formulas.{Ctl, normal}
use Rattle.normal_form.specs.Operators.{operators}

-- of the faults of names and atoms of a tree the first one is an unknown name at this token, also where an atom that breaks its rule
-- begins with it
pub record FirstIsUnknown (names : List (List ℕ)) (tree : Formula) (token : ℕ) : Type 0 where
  pub unknown : unknown_in names tree ≡ Some token
  pub before : (other : ℕ) → BreaksAt names tree other → token ≤ other

-- or an atom that isn't affine, or whose numbers don't fit, begins with this token
pub record FirstIsAtom (names : List (List ℕ)) (tree : Formula) (token : ℕ) : Type 0 where
  pub breaks : BreaksAt names tree token
  pub before : (other : ℕ) → unknown_in names tree ≡ Some other → token < other

-- the text is a formula by its syntax, and the first fault of its tree, which is as said, stands at this offset
pub record HasNamesFault (text : List ℕ) (First : Formula → ℕ → Type 0) (at : ℕ) : Type 0 where
  pub short : length text ≤ 4096
  pub tree : Formula
  pub spelled : IsFormulaText text tree
  pub tokens : List Token
  pub lexed : TokensOf text tokens
  pub token : ℕ
  pub first : First tree token
  pub offset : at ≡ offset_in text tokens token

-- What may be answered in place of a formula: that the text is too long; else the first fault of its tokens; where it has tokens, the
-- first fault of its syntax; where it has a tree, the tree's first fault of names and atoms; or that memory ran out. Of a count nothing is
-- said but that it is above its limit.
abbrev pub IsFaultOf : List ℕ → List (List ℕ) → FormulaFault → Type 0
IsFaultOf text names (Limit FormulaLimit.Bytes at count) = (4096 < length text) × (at ≡ 4096) × (4096 < count)
IsFaultOf text names (Lex fault) = (length text ≤ 4096) × FirstLexFault text fault
IsFaultOf text names (Expected at) = (length text ≤ 4096) × HasFault text Syntax.Expected at
IsFaultOf text names (Limit FormulaLimit.Nesting at count) = (length text ≤ 4096) × HasFault text Syntax.Nesting at × (64 < count)
IsFaultOf text names (Limit FormulaLimit.Operators at count) = (length text ≤ 4096) × HasFault text Syntax.Operators at × (64 < count)
IsFaultOf text names (Unknown at) = HasNamesFault text (FirstIsUnknown names) at
IsFaultOf text names (NotAffine at) = HasNamesFault text (FirstIsAtom names) at
IsFaultOf text names (Memory error) = ⊤

-- What may be answered in place of a formula's normal form: that it has more than 256 operators, at offset 0, or that memory ran out.
abbrev pub IsNormalFault : Ctl → FormulaFault → Type 0
IsNormalFault f (Limit FormulaLimit.Operators at count) = (256 < operators (normal f)) × (at ≡ 0) × (256 < count)
IsNormalFault f (Limit FormulaLimit.Bytes at count) = ⊥
IsNormalFault f (Limit FormulaLimit.Nesting at count) = ⊥
IsNormalFault f (Lex fault) = ⊥
IsNormalFault f (Expected at) = ⊥
IsNormalFault f (Unknown at) = ⊥
IsNormalFault f (NotAffine at) = ⊥
IsNormalFault f (Memory error) = ⊤
