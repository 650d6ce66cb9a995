-- Which tree of `Trees` each tree of this crate is: the same without its pointers.
use Rattle.std.specs.Prelude.{Option, Some, None, List, map}
use Rattle.concrete_syntax.specs.declared.expression.Divisor.{Divisor}
use Rattle.concrete_syntax.specs.declared.expression.End.{End}
use Rattle.concrete_syntax.specs.declared.expression.Operand.{Operand}
use Rattle.concrete_syntax.specs.declared.expression.OperandKind.{OperandKind, Signed', Parentheses'}
use Rattle.concrete_syntax.specs.declared.expression.OperandKind.TheVariants.{Number, Name, Truth, Unknown, Call, Range}
use Rattle.concrete_syntax.specs.declared.expression.Link.{Link, Operation'}
use Rattle.concrete_syntax.specs.declared.expression.Link.TheVariants as L
use Rattle.concrete_syntax.specs.declared.expression.Tail.{Tail, Further'}
use Rattle.concrete_syntax.specs.declared.expression.Tail.TheVariants as T
use Rattle.concrete_syntax.specs.declared.expression.Expression.{Expression}
use Rattle.concrete_syntax.specs.declared.simple.Action.{Action}
use Rattle.concrete_syntax.specs.declared.simple.Action.TheVariants.{Assigns, Steps}
use Rattle.concrete_syntax.specs.declared.simple.Simple.{Simple}
use Rattle.concrete_syntax.specs.declared.simple.Simple.TheVariants.{Acts, StepsBefore}
use Rattle.concrete_syntax.specs.declared.simple.Name.{Name as Named}
use Rattle.concrete_syntax.specs.declared.simple.Call.{Call as Called}
use Rattle.concrete_syntax.specs.declared.simple.Value.{Value}
use Rattle.concrete_syntax.specs.declared.simple.Value.TheVariants as G
use Rattle.concrete_syntax.specs.declared.simple.Part.{Part}
use Rattle.concrete_syntax.specs.declared.simple.Declaration.{Declaration}
use Rattle.concrete_syntax.specs.declared.simple.Start.{Start}
use Rattle.concrete_syntax.specs.declared.simple.Start.TheVariants as S
use Rattle.concrete_syntax.specs.declared.statement.Statement.{Statement}
use Rattle.concrete_syntax.specs.declared.statement.StatementKind.{StatementKind, Conditional', While', Do', For'}
use Rattle.concrete_syntax.specs.declared.statement.StatementKind.TheVariants as V
use Rattle.concrete_syntax.specs.declared.statement.ForLoop.{ForLoop}
use Rattle.concrete_syntax.specs.declared.statement.Otherwise.{Otherwise, Else'}
use Rattle.concrete_syntax.specs.declared.statement.Otherwise.TheVariants as O
use Rattle.concrete_syntax.specs.declared.statement.Items.{Items, Declaration', Statement'}
use Rattle.concrete_syntax.specs.declared.statement.Items.TheVariants as I
use Rattle.concrete_syntax.specs.declared.statement.Item.{Item}
use Rattle.concrete_syntax.specs.declared.statement.Item.TheVariants as One
use Rattle.concrete_syntax.specs.declared.program.Prelude.{Prelude}
use Rattle.concrete_syntax.specs.declared.program.Prelude.TheVariants.{ExternCall, TypedefBool}
use Rattle.concrete_syntax.specs.declared.program.Parameters.{Parameters}
use Rattle.concrete_syntax.specs.declared.program.Parameters.TheVariants as P
use Rattle.concrete_syntax.specs.declared.program.Function.{Function}
use Rattle.concrete_syntax.specs.declared.program.Program.{Program}
use Rattle.concrete_syntax.specs.Trees as tree
use Rattle.concrete_syntax.specs.Chains.{declared, stated}
use Rattle.concrete_syntax.specs.Chains as chain

abbrev pub range_end : End → tree.End
range_end end = record { negative = end.negative; size = end.size }

abbrev pub divisor : Divisor → tree.Divisor
divisor d = record { negative = d.negative; at = d.at; size = d.size }

-- operands, links and tails
abbrev mutual
  pub operand_kind : OperandKind → tree.OperandKind
  operand_kind (Number z) = tree.number z
  operand_kind (Name x) = tree.name x.items
  operand_kind (Truth b) = tree.truth b
  operand_kind Unknown = tree.unknown
  operand_kind Call = tree.call
  operand_kind (Signed' prefix p at e) = tree.signed prefix (tree.operand_at at (operand_kind e))
  operand_kind (Parentheses' p at e q more) = tree.parentheses (tree.operand_at at (operand_kind e)) (tail more)
  operand_kind (Range low high) = tree.range (range_end low) (range_end high)

  pub link : Link → tree.Link
  link (Operation' op at e) = tree.operation op (tree.operand_at at (operand_kind e))
  link (L.Division sign d) = tree.division sign (divisor d)

  pub tail : Tail → tree.Tail
  tail T.Ended = tree.ended
  tail (Further' l p rest) = tree.further (link l) (tail rest)

abbrev pub operand : Operand → tree.Operand
operand e = tree.operand_at e.at (operand_kind e.kind)

abbrev pub links : List Link → List tree.Link
links list = map link list

abbrev pub expression : Expression → tree.Expression
expression e = record { operand = operand e.operand; tail = tail e.tail }

abbrev pub optional : Option Expression → Option tree.Expression
optional (Some e) = Some (expression e)
optional None = None

abbrev pub action : Action → tree.Action
action (Assigns assignment value) = tree.assigns assignment (expression value)
action (Steps step) = tree.steps step

abbrev pub name : Named → tree.Name
name x = record { at = x.at; bytes = x.bytes.items }

abbrev pub simple : Simple → tree.Simple
simple (Acts x does) = tree.acts (name x) (action does)
simple (StepsBefore at step x) = tree.steps_before at step (name x)

abbrev pub optional_simple : Option Simple → Option tree.Simple
optional_simple (Some s) = Some (simple s)
optional_simple None = None

abbrev pub expressions : List Expression → List tree.Expression
expressions list = map expression list

abbrev pub call : Called → tree.Call
call c = record { function = name c.function; arguments = expressions c.arguments.items }

abbrev pub value : Value → tree.Value
value (G.Expression e) = tree.evaluates (expression e)
value (G.Call c) = tree.answers (call c)

abbrev pub optional_value : Option Value → Option tree.Value
optional_value (Some v) = Some (value v)
optional_value None = None

abbrev pub part : Part → tree.Part
part p = record { declared = name p.declared; initialiser = optional_value p.initialiser }

abbrev pub parts : List Part → List tree.Part
parts list = map part list

abbrev pub declaration : Declaration → tree.Declaration
declaration d = record { part = part d.part; more = parts d.more.items }

abbrev pub start : Start → tree.Start
start S.Nothing = tree.starts_with_nothing
start (S.Simple s) = tree.starts_with (simple s)
start (S.Declaration d) = tree.declares (declaration d)

-- statements and items
abbrev mutual
  pub statement_kind : StatementKind → tree.StatementKind
  statement_kind (V.Simple s) = tree.simple (simple s)
  statement_kind (V.Calls c) = tree.calls (call c)
  statement_kind (V.Gives target c) = tree.gives (name target) (call c)
  statement_kind V.Skip = tree.skip
  statement_kind (V.Braces all) = tree.braces (items all)
  statement_kind (Conditional' test p at first other) =
      tree.conditional (expression test) (tree.statement_at at (statement_kind first)) (otherwise other)
  statement_kind (While' test p at body) = tree.while_loop (expression test) (tree.statement_at at (statement_kind body))
  statement_kind (Do' p at body end test) = tree.do_loop (tree.statement_at at (statement_kind body)) end (expression test)
  statement_kind (For' p first test step at body) =
      tree.for_loop (start first) (optional test) (optional_simple step) (tree.statement_at at (statement_kind body))
  statement_kind (V.Return value) = tree.return (optional value)
  statement_kind V.Break = tree.break
  statement_kind V.Continue = tree.continue

  pub otherwise : Otherwise → tree.Otherwise
  otherwise O.Nothing = tree.without
  otherwise (Else' p at s) = tree.otherwise (tree.statement_at at (statement_kind s))

  pub items : Items → tree.Items
  items I.Ended = tree.none
  items (Declaration' d p rest) = tree.declaration (declaration d) (items rest)
  items (Statement' p at s q rest) = tree.statement (tree.statement_at at (statement_kind s)) (items rest)

abbrev pub statement : Statement → tree.Statement
statement s = tree.statement_at s.at (statement_kind s.kind)

abbrev pub for_loop : ForLoop → tree.StatementKind
for_loop l = tree.for_loop (start l.start) (optional l.test) (optional_simple l.step) (statement l.body)

abbrev pub item : Item → chain.Item
item (One.Declaration d) = declared (declaration d)
item (One.Statement s) = stated (statement s)

abbrev pub prelude : Prelude → tree.Prelude
prelude (ExternCall void) = tree.extern_call void
prelude TypedefBool = tree.typedef_bool

abbrev pub names : List Named → List tree.Name
names list = map name list

abbrev pub parameters : Parameters → tree.Parameters
parameters (P.Nothing void) = tree.nothing void
parameters (P.Named first more) = tree.named (name first) (names more.items)

abbrev pub function : Function → tree.Function
function f = record { valued = f.valued; name = name f.name; parameters = parameters f.parameters; items = items f.items; behind = f.behind }

abbrev pub functions : List Function → List tree.Function
functions list = map function list

abbrev pub program : Program → tree.Program
program p = record { preludes = map prelude p.preludes.items; functions = functions p.functions.items; void = p.void; items = items p.items }
