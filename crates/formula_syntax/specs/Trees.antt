-- The concrete trees of formulas: one constructor for each alternative of this grammar.
--
--     formula  = part (("&&" | "||") part)*
--     part     = ("AX" | "EX" | "AF" | "EF" | "AG" | "EG" | "!") part | ("A" | "E") "[" formula ("U" | "W") formula "]"
--              | "true" | "false" | "exit" | sum comparison sum | "(" formula ")"
--     sum      = factor (("+" | "-" | "*") factor)*
--     factor   = ("-" | "+") factor | NUMBER | NAME | "(" sum ")"
--
-- How connectives and operators group is said elsewhere. A factor and a formula in parentheses hold the number of their first token.
use Rattle.std.specs.Prelude.{ℕ, ℤ, Bool, List}
use Rattle.formula_syntax.specs.declared.sign.Prefix.{Prefix}
use Rattle.formula_syntax.specs.declared.sign.Connective.{Connective}
use Rattle.formula_syntax.specs.declared.sign.Comparison.{Comparison}
use Rattle.formula_syntax.specs.declared.sign.Operator.{Operator}

-- a factor, and what stands behind the first one of a sum
mutual
  pub data Factor : Type 0 where
    factor_at : ℕ → FactorKind → Factor

  pub data FactorKind : Type 0 where
    number : ℤ → FactorKind
    name : List ℕ → FactorKind
    signed : Bool → Factor → FactorKind
    summed : Factor → Tail → FactorKind

  pub data Tail : Type 0 where
    ended : Tail
    further : Operator → Factor → Tail → Tail

pub record Sum : Type 0 where
  pub factor : Factor
  pub tail : Tail

-- a part of a formula, and what stands behind the first one
mutual
  pub data Part : Type 0 where
    prefixed : Prefix → Part → Part
    quantified : Bool → Part → Chain → Bool → Part → Chain → Part
    truth : Bool → Part
    exit : Part
    compared : Sum → Comparison → Sum → Part
    grouped : ℕ → Part → Chain → Part

  pub data Chain : Type 0 where
    done : Chain
    joined : Connective → Part → Chain → Chain

pub record Formula : Type 0 where
  pub part : Part
  pub chain : Chain
