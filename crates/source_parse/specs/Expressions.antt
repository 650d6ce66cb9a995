-- Which expression of a program stands at a token of a text, or its first fault.
use Rattle.std.specs.Prelude.{◌≡◌, ℕ, ◌<◌, Bool, true, false, List, [], Some, Result, Ok, Err, ⊤}
use Rattle.source_lex.specs.declared.token.Token.{Token}
use Rattle.concrete_syntax.specs.Trees.{Expression}
use Rattle.derivation.specs.declared.fault.SyntaxFault.TheVariants.{Broken}
use Rattle.derivation.specs.declared.rule.Rule.TheVariants as Syntax
use Rattle.step_meaning.specs.Syntax as syntax
use Rattle.step_meaning.specs.declared.expression.Expr.{Expr}
use Rattle.source_syntax.specs.Places.{IsExpressionAt, IsNoExpressionAt}
use Rattle.source_syntax.specs.Texts.{offset_in}
use Rattle.typed_expressions.specs.declared.fault.Fault.{Fault}
use Rattle.typed_expressions.specs.Expressions.{as_test, expression_typed, expression_faults, number_faults}
use Rattle.typed_expressions.specs.Faults.{IsFirstOf}
use Rattle.typed_expressions.specs.Scopes.{Scope}
use Rattle.elaboration.specs.Levels.{expression_levels}
use Rattle.source_parse.specs.declared.expression.ReadExpr.{ReadExpr}
use Rattle.source_parse.specs.declared.fault.ParseFault.{ParseFault}
use Rattle.source_parse.specs.declared.fault.ParseFault.TheVariants.{Expected, Limit, Memory}
use Rattle.source_parse.specs.declared.fault.Which.{Which}
use Rattle.source_parse.specs.Faults.{number_of, numbered}

-- what an expression stands for where a number is needed, or else a test, and its faults there
abbrev pub meaning_as : Bool → Scope → Expression → syntax.Expression
meaning_as true scope e = (expression_typed scope e).meaning
meaning_as false scope e = as_test (expression_typed scope e)

abbrev pub faults_as : Bool → Scope → Expression → List Fault
faults_as true scope e = number_faults scope e
faults_as false scope e = expression_faults scope e

-- what stands for an expression: what it means, where it has no fault, or else its first one, by its number and its offset
abbrev pub IsValueOf : List ℕ → List Token → Scope → Bool → Expression → Result Expr ParseFault → Type 0
IsValueOf text tokens scope number e (Ok made) = (faults_as number scope e ≡ []) × (syntax.expression made ≡ meaning_as number scope e)
IsValueOf text tokens scope number e (Err fault) =
    (first : Fault) × IsFirstOf (faults_as number scope e) first
    × (numbered fault ≡ Some (number_of first.rule, offset_in text tokens first.token))

-- the tokens from this one on begin with an expression, where so many levels are open around it
pub record IsExprAt (text : List ℕ) (tokens : List Token) (at : ℕ) (scope : Scope) (level : ℕ) (number : Bool) (found : ReadExpr) : Type 0 where
  pub tree : Expression
  pub stands : IsExpressionAt text tokens level at tree found.next
  pub value : IsValueOf text tokens scope number tree found.value
  pub levels : found.levels ≡ expression_levels level tree

-- none stands there, or one that breaks a limit, by the token at which reading it stops; or memory ran out
abbrev pub IsNoExprAt : List ℕ → List Token → ℕ → ℕ → ParseFault → Type 0
IsNoExprAt text tokens level at (Expected offset) = IsNoExpressionAt text tokens level at (Broken Syntax.Expected offset)
IsNoExprAt text tokens level at (Limit Which.Nesting offset count) = IsNoExpressionAt text tokens level at (Broken Syntax.Nesting offset) × (64 < count)
IsNoExprAt text tokens level at (Limit Which.Operators offset count) = IsNoExpressionAt text tokens level at (Broken Syntax.Operators offset) × (256 < count)
IsNoExprAt text tokens level at (Memory error) = ⊤
IsNoExprAt text tokens level at _ = ⊥
