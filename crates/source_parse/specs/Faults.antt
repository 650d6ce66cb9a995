-- The first fault of a text.
use Rattle.std.specs.Prelude.{◌≡◌, ℕ, ◌<◌, Bool, true, false, List, Option, None, Some, ⊤}
use Rattle.derivation.specs.declared.rule.Rule.TheVariants as Syntax
use Rattle.source_lex.specs.Tokens.{TokensOf}
use Rattle.source_lex.specs.Faults.{FirstFault as FirstLexFault}
use Rattle.source_lex.specs.declared.fault.LexFault.TheVariants.{BadByte, BigNumber, OpenComment, Memory as LexMemory}
use Rattle.source_lex.specs.declared.token.Token.{Token}
use Rattle.concrete_syntax.specs.Trees.{Program}
use Rattle.source_syntax.specs.Texts.{HasFault as HasSyntaxFault, IsTreeText as IsSyntaxOf, offset_in}
use Rattle.typed_expressions.specs.declared.fault.Rule.{Rule}
use Rattle.elaboration.specs.Elaborates.{HasFirstFault}
use Rattle.typed_expressions.specs.Faults.{fault}
use Rattle.source_parse.specs.declared.fault.ParseFault.{ParseFault}
use Rattle.source_parse.specs.declared.fault.ParseFault.TheVariants.{Lex, Expected, Unknown, Twice, Mixed, BadRange, Outside, ZeroDivisor, Placed, Arguments, Limit, Memory}
use Rattle.source_parse.specs.declared.fault.Which.{Which}

-- the text is a program by its syntax, with functions where they are allowed, and of the faults of names, sorts, jumps, divisors, returns and calls of its tree
-- the first one breaks this rule at this offset
pub record HasNamesFault (functions : Bool) (text : List ℕ) (rule : Rule) (at : ℕ) : Type 0 where
  pub tree : Program
  pub spelled : IsSyntaxOf functions text tree
  pub tokens : List Token
  pub lexed : TokensOf text tokens
  pub token : ℕ
  pub first : HasFirstFault tree (fault rule token)
  pub offset : at ≡ offset_in text tokens token

-- What may be answered in place of a program, with functions where they are allowed: the first fault of the text's tokens; where it has tokens, the first fault of
-- its syntax; where it has a tree, the tree's first fault of names, sorts, jumps, divisors, returns and calls; or that memory ran out. Of a count nothing is said but
-- that it is above its limit.
abbrev pub IsFaultIn : Bool → List ℕ → ParseFault → Type 0
IsFaultIn functions text (Lex fault) = FirstLexFault text fault
IsFaultIn functions text (Expected at) = HasSyntaxFault functions text Syntax.Expected at
IsFaultIn functions text (Unknown at) = HasNamesFault functions text Rule.Unknown at
IsFaultIn functions text (Twice at) = HasNamesFault functions text Rule.Twice at
IsFaultIn functions text (Mixed at) = HasNamesFault functions text Rule.Mixed at
IsFaultIn functions text (BadRange at) = HasNamesFault functions text Rule.BadRange at
IsFaultIn functions text (Outside at) = HasNamesFault functions text Rule.Outside at
IsFaultIn functions text (ZeroDivisor at) = HasNamesFault functions text Rule.ZeroDivisor at
IsFaultIn functions text (Placed at) = HasNamesFault functions text Rule.Placed at
IsFaultIn functions text (Arguments at) = HasNamesFault functions text Rule.Arguments at
IsFaultIn functions text (Limit Which.Variables at count) = HasNamesFault functions text Rule.Variables at × (15 < count)
IsFaultIn functions text (Limit Which.Nesting at count) = HasSyntaxFault functions text Syntax.Nesting at × (64 < count)
IsFaultIn functions text (Limit Which.Operators at count) = HasSyntaxFault functions text Syntax.Operators at × (256 < count)
IsFaultIn functions text (Memory error) = ⊤

-- in place of a program without functions, and of one with functions
abbrev pub IsFaultOf : List ℕ → ParseFault → Type 0
IsFaultOf = IsFaultIn false

abbrev pub IsUnitFaultOf : List ℕ → ParseFault → Type 0
IsUnitFaultOf = IsFaultIn true

-- memory ran out
abbrev pub IsMemory : ParseFault → Type 0
IsMemory (Memory error) = ⊤
IsMemory _ = ⊥

-- the number of a rule on names, sorts, jumps, divisors, returns and calls among the faults
abbrev pub number_of : Rule → ℕ
number_of Rule.Unknown = 5
number_of Rule.Twice = 6
number_of Rule.Mixed = 7
number_of Rule.BadRange = 8
number_of Rule.Variables = 9
number_of Rule.Outside = 17
number_of Rule.ZeroDivisor = 18
number_of Rule.Placed = 19
number_of Rule.Arguments = 20

-- the number of a fault, as its line says it, and its offset; want of memory is no fault of a text
abbrev pub numbered : ParseFault → Option (ℕ × ℕ)
numbered (Lex (BadByte at)) = Some (1, at)
numbered (Lex (BigNumber at)) = Some (2, at)
numbered (Lex (OpenComment at)) = Some (3, at)
numbered (Lex (LexMemory error)) = None
numbered (Expected at) = Some (4, at)
numbered (Unknown at) = Some (5, at)
numbered (Twice at) = Some (6, at)
numbered (Mixed at) = Some (7, at)
numbered (BadRange at) = Some (8, at)
numbered (Outside at) = Some (17, at)
numbered (ZeroDivisor at) = Some (18, at)
numbered (Placed at) = Some (19, at)
numbered (Arguments at) = Some (20, at)
numbered (Limit Which.Variables at count) = Some (9, at)
numbered (Limit Which.Nesting at count) = Some (10, at)
numbered (Limit Which.Operators at count) = Some (11, at)
numbered (Memory error) = None
