-- How each kind of phrase opens, by its next word.
use Rattle.std.specs.Prelude.{Bool, true, false, Option, Some}
use Rattle.derivation.specs.declared.symbol.Symbol.TheVariants as Symbol
use Rattle.derivation.specs.Word.{Word, symbol, name, number}
use Rattle.source_syntax.specs.declared.opening.ActionOpening.{ActionOpening}
use Rattle.source_syntax.specs.declared.opening.ItemOpening.{ItemOpening}
use Rattle.source_syntax.specs.declared.opening.OperandOpening.{OperandOpening}
use Rattle.source_syntax.specs.declared.opening.PreludeOpening.{PreludeOpening}
use Rattle.source_syntax.specs.declared.opening.SimpleOpening.{SimpleOpening}
use Rattle.source_syntax.specs.declared.opening.SizeOpening.{SizeOpening}
use Rattle.source_syntax.specs.declared.opening.StartOpening.{StartOpening}
use Rattle.source_syntax.specs.declared.opening.StatementOpening.{StatementOpening}
use Rattle.source_syntax.specs.declared.opening.EndOpening.{EndOpening}
use Rattle.concrete_syntax.specs.declared.sign.Prefix.TheVariants as Prefix
use Rattle.concrete_syntax.specs.declared.sign.Assignment.TheVariants as Assignment
use Rattle.concrete_syntax.specs.declared.sign.Step.TheVariants as Step

abbrev pub opening_of_operand : Option Word → OperandOpening
opening_of_operand (Some (number z)) = OperandOpening.Number z
opening_of_operand (Some (name x)) = OperandOpening.Name
opening_of_operand (Some (symbol Symbol.True)) = OperandOpening.Truth true
opening_of_operand (Some (symbol Symbol.False)) = OperandOpening.Truth false
opening_of_operand (Some (symbol Symbol.Question)) = OperandOpening.Unknown
opening_of_operand (Some (symbol Symbol.Nondeterministic)) = OperandOpening.Call
opening_of_operand (Some (symbol Symbol.Plus)) = OperandOpening.Signed Prefix.Plus
opening_of_operand (Some (symbol Symbol.Minus)) = OperandOpening.Signed Prefix.Minus
opening_of_operand (Some (symbol Symbol.Not)) = OperandOpening.Signed Prefix.Not
opening_of_operand (Some (symbol Symbol.OpenParenthesis)) = OperandOpening.Parenthesis
opening_of_operand (Some (symbol Symbol.OpenBracket)) = OperandOpening.Bracket
opening_of_operand _ = OperandOpening.Nothing

abbrev pub size_opening : Option Word → SizeOpening
size_opening (Some (number z)) = SizeOpening.Number z
size_opening (Some (symbol Symbol.Infinite)) = SizeOpening.Infinite
size_opening _ = SizeOpening.Nothing

abbrev pub opening_of_simple : Option Word → SimpleOpening
opening_of_simple (Some (name x)) = SimpleOpening.Name
opening_of_simple (Some (symbol Symbol.Increment)) = SimpleOpening.Steps Step.Increment
opening_of_simple (Some (symbol Symbol.Decrement)) = SimpleOpening.Steps Step.Decrement
opening_of_simple _ = SimpleOpening.Nothing

abbrev pub opening_of_action : Option Word → ActionOpening
opening_of_action (Some (symbol Symbol.Assign)) = ActionOpening.Assigns Assignment.Assign
opening_of_action (Some (symbol Symbol.AddAssign)) = ActionOpening.Assigns Assignment.Add
opening_of_action (Some (symbol Symbol.SubtractAssign)) = ActionOpening.Assigns Assignment.Subtract
opening_of_action (Some (symbol Symbol.MultiplyAssign)) = ActionOpening.Assigns Assignment.Multiply
opening_of_action (Some (symbol Symbol.Increment)) = ActionOpening.Steps Step.Increment
opening_of_action (Some (symbol Symbol.Decrement)) = ActionOpening.Steps Step.Decrement
opening_of_action _ = ActionOpening.Nothing

abbrev pub opening_of_statement : Option Word → StatementOpening
opening_of_statement (Some (name x)) = StatementOpening.Name
opening_of_statement (Some (symbol Symbol.Increment)) = StatementOpening.Steps
opening_of_statement (Some (symbol Symbol.Decrement)) = StatementOpening.Steps
opening_of_statement (Some (symbol Symbol.Semicolon)) = StatementOpening.Skip
opening_of_statement (Some (symbol Symbol.OpenBrace)) = StatementOpening.Braces
opening_of_statement (Some (symbol Symbol.If)) = StatementOpening.If
opening_of_statement (Some (symbol Symbol.While)) = StatementOpening.While
opening_of_statement (Some (symbol Symbol.Do)) = StatementOpening.Do
opening_of_statement (Some (symbol Symbol.For)) = StatementOpening.For
opening_of_statement (Some (symbol Symbol.Return)) = StatementOpening.Return
opening_of_statement (Some (symbol Symbol.Break)) = StatementOpening.Break
opening_of_statement (Some (symbol Symbol.Continue)) = StatementOpening.Continue
opening_of_statement _ = StatementOpening.Nothing

abbrev pub opening_of_end : Option Word → EndOpening
opening_of_end (Some (symbol Symbol.OpenParenthesis)) = EndOpening.Call
opening_of_end (Some (symbol Symbol.Assign)) = EndOpening.Value
opening_of_end _ = EndOpening.Action

abbrev pub is_name : Option Word → Bool
is_name (Some (name x)) = true
is_name _ = false

abbrev pub opening_of_item : Option Word → ItemOpening
opening_of_item (Some (symbol Symbol.CloseBrace)) = ItemOpening.Close
opening_of_item (Some (symbol Symbol.Int)) = ItemOpening.Declaration
opening_of_item _ = ItemOpening.Statement

abbrev pub opening_of_start : Option Word → StartOpening
opening_of_start (Some (symbol Symbol.Semicolon)) = StartOpening.Nothing
opening_of_start (Some (symbol Symbol.Int)) = StartOpening.Declaration
opening_of_start _ = StartOpening.Simple

abbrev pub opening_of_prelude : Option Word → PreludeOpening
opening_of_prelude (Some (symbol Symbol.Extern)) = PreludeOpening.Extern
opening_of_prelude (Some (symbol Symbol.Typedef)) = PreludeOpening.Typedef
opening_of_prelude _ = PreludeOpening.Main
