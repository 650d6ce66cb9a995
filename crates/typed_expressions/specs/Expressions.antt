-- The sort and the meaning of expressions, and their faults.
--
-- Comparisons, `&&`, `||`, `!`, `true` and `false` are truth values. The operands of `&&`, `||` and `!` are tests, those of comparisons
-- and of arithmetic are numbers, a sign `+` and a division among it. A number as a test means that it isn't 0. `?` takes the sort of its
-- place, and `__VERIFIER_nondet_int()` is the same. A divisor isn't 0.
use Rattle.std.specs.Prelude.{ℕ, ℤ, neg_ℤ, int_le, int_lt, pos, Bool, true, false, ◌&&◌, not, if◌then◌else◌, List, [], ◌∷◌, ◌++◌, Option, None, Some}
use Rattle.std.specs.Ordering.{int_eq}
use Rattle.step_meaning.specs.declared.expression.Op2.{Op2}
use Rattle.step_meaning.specs.declared.expression.Op2.TheVariants.{Add, Sub, Mul, Less, LessEqual, Greater, GreaterEqual, Equal, NotEqual, And, Or}
use Rattle.step_meaning.specs.Syntax as syntax
use Rattle.concrete_syntax.specs.declared.sign.Division.{Division}
use Rattle.concrete_syntax.specs.declared.sign.Operator.{Operator}
use Rattle.concrete_syntax.specs.declared.sign.Prefix.{Prefix}
use Rattle.concrete_syntax.specs.Trees.{Divisor, End, Operand, operand_at, OperandKind, number, name, truth, unknown, call, signed, parentheses, range, Link, operation, division, Tail, ended, further, Expression}
use Rattle.typed_expressions.specs.declared.fault.Fault.{Fault}
use Rattle.typed_expressions.specs.declared.fault.Rule.TheVariants.{Unknown, Mixed, BadRange, ZeroDivisor}
use Rattle.typed_expressions.specs.declared.typed.Sort.{Sort}
use Rattle.typed_expressions.specs.Grouping.{Grouped, leaf, node, divided, Joint, operator, divisor, attach}
use Rattle.typed_expressions.specs.Scopes.{Scope, is_among, place_of}
use Rattle.typed_expressions.specs.Faults.{fault}

-- an expression with its sort and the number of its first token
pub record Typed : Type 0 where
  pub first : ℕ
  pub sort : Sort
  pub meaning : syntax.Expression

abbrev pub typed : ℕ → Sort → syntax.Expression → Typed
typed first sort meaning = record { first = first; sort = sort; meaning = meaning }

-- as a test: a number is compared with 0
abbrev pub test_of_sort : Sort → syntax.Expression → syntax.Expression
test_of_sort Sort.Number e = syntax.pair NotEqual e (syntax.number (pos 0))
test_of_sort _ e = e

abbrev pub as_test : Typed → syntax.Expression
as_test t = test_of_sort t.sort t.meaning

-- a truth value in the place of a number is a fault at its first token
abbrev pub mixed_sort : Sort → ℕ → List Fault
mixed_sort Sort.Truth first = fault Mixed first ∷ []
mixed_sort _ first = []

abbrev pub mixed : Typed → List Fault
mixed t = mixed_sort t.sort t.first

-- what an operator makes of its two operands, and the faults of these
abbrev pub pair_of : Op2 → Typed → Typed → Typed
pair_of Add l r = typed l.first Sort.Number (syntax.pair Add l.meaning r.meaning)
pair_of Sub l r = typed l.first Sort.Number (syntax.pair Sub l.meaning r.meaning)
pair_of Mul l r = typed l.first Sort.Number (syntax.pair Mul l.meaning r.meaning)
pair_of And l r = typed l.first Sort.Truth (syntax.pair And (as_test l) (as_test r))
pair_of Or l r = typed l.first Sort.Truth (syntax.pair Or (as_test l) (as_test r))
pair_of op l r = typed l.first Sort.Truth (syntax.pair op l.meaning r.meaning)

abbrev pub mixed_operands : Op2 → Typed → Typed → List Fault
mixed_operands And l r = []
mixed_operands Or l r = []
mixed_operands op l r = mixed l ++ mixed r

-- what a division makes of what is divided
abbrev pub division_of : Division → syntax.Division
division_of Division.Quotient = syntax.quotient
division_of Division.Remainder = syntax.remainder

abbrev pub divided_by : Division → Typed → ℤ → Typed
divided_by sign t by = typed t.first Sort.Number (syntax.divided (division_of sign) t.meaning by)

-- what grouped operands are together
abbrev pub value : Grouped Typed → Typed
value (leaf t) = t
value (node op l r) = pair_of op (value l) (value r)
value (divided sign l by) = divided_by sign (value l) by

abbrev pub mixed_in : Grouped Typed → List Fault
mixed_in (leaf t) = []
mixed_in (node op l r) = mixed_in l ++ (mixed_in r ++ mixed_operands op (value l) (value r))
mixed_in (divided sign l by) = mixed_in l ++ mixed (value l)

-- the ends of a range: a number with its sign, or none for an infinite end; the number itself is written without a sign
abbrev pub signed_size : Bool → Option ℤ → Option ℤ
signed_size negative None = None
signed_size true (Some z) = if int_le (pos 0) z then Some (neg_ℤ z) else None
signed_size false (Some z) = Some z

abbrev pub end_value : End → Option ℤ
end_value end = signed_size end.negative end.size

-- a lower end may be minus infinity, an upper end plus infinity, and the lower one isn't above the upper one
abbrev pub is_infinite_as : Bool → Bool → Option ℤ → Bool
is_infinite_as wanted negative None = if wanted then negative else not negative
is_infinite_as wanted negative (Some z) = true

abbrev pub in_order : Option ℤ → Option ℤ → Bool
in_order (Some lo) (Some hi) = int_le lo hi
in_order _ _ = true

abbrev pub is_range : End → End → Bool
is_range lo hi = is_infinite_as true lo.negative lo.size && is_infinite_as false hi.negative hi.size && in_order (end_value lo) (end_value hi)

-- a divisor with its sign; its number is written without one, and isn't 0
abbrev pub signed_number : Bool → ℤ → ℤ
signed_number negative z = if negative && int_lt (pos 0) z then neg_ℤ z else z

abbrev pub divisor_value : Divisor → ℤ
divisor_value d = signed_number d.negative d.size

abbrev pub zero_faults : Divisor → List Fault
zero_faults d = if int_eq d.size (pos 0) then fault ZeroDivisor d.at ∷ [] else []

-- a sign and the operand behind it, and the operand's faults in its place
abbrev pub signed_typed : Prefix → ℕ → Typed → Typed
signed_typed Prefix.Plus at t = typed at Sort.Number t.meaning
signed_typed Prefix.Minus at t = typed at Sort.Number (syntax.negative t.meaning)
signed_typed Prefix.Not at t = typed at Sort.Truth (syntax.negation (as_test t))

abbrev pub signed_faults : Prefix → Typed → List Fault
signed_faults Prefix.Not t = []
signed_faults prefix t = mixed t

abbrev pub range_faults : ℕ → End → End → List Fault
range_faults at lo hi = if is_range lo hi then [] else fault BadRange at ∷ []

-- what a written operator means
abbrev pub op_of : Operator → Op2
op_of Operator.Or = Or
op_of Operator.And = And
op_of Operator.Equal = Equal
op_of Operator.NotEqual = NotEqual
op_of Operator.Less = Less
op_of Operator.LessEqual = LessEqual
op_of Operator.Greater = Greater
op_of Operator.GreaterEqual = GreaterEqual
op_of Operator.Add = Add
op_of Operator.Subtract = Sub
op_of Operator.Multiply = Mul

-- what stands in parentheses begins with their `(`
abbrev pub from_token : ℕ → Typed → Typed
from_token at t = typed at t.sort t.meaning

-- operands, what stands behind them, and tails behind what is grouped already
abbrev mutual
  pub operand_typed : Scope → Operand → Typed
  operand_typed scope (operand_at at kind) = kind_typed scope at kind

  pub kind_typed : Scope → ℕ → OperandKind → Typed
  kind_typed scope at (number z) = typed at Sort.Number (syntax.number z)
  kind_typed scope at (name x) = typed at Sort.Number (syntax.variable (place_of scope.declared x))
  kind_typed scope at (truth b) = typed at Sort.Truth (syntax.truth b)
  kind_typed scope at unknown = typed at Sort.Either syntax.free
  kind_typed scope at call = typed at Sort.Either syntax.free
  kind_typed scope at (signed prefix e) = signed_typed prefix at (operand_typed scope e)
  kind_typed scope at (parentheses e more) = from_token at (value (tail_grouped scope (leaf (operand_typed scope e)) more))
  kind_typed scope at (range lo hi) = typed at Sort.Number (syntax.range (end_value lo) (end_value hi))

  pub link_joint : Scope → Link → Joint Typed
  link_joint scope (operation op e) = operator (op_of op) (operand_typed scope e)
  link_joint scope (division sign d) = divisor sign (divisor_value d)

  pub tail_grouped : Scope → Grouped Typed → Tail → Grouped Typed
  tail_grouped scope so_far ended = so_far
  tail_grouped scope so_far (further link more) = tail_grouped scope (attach so_far (link_joint scope link)) more

-- an expression is what its grouped operands are together
abbrev pub grouped : Scope → Operand → Tail → Grouped Typed
grouped scope e more = tail_grouped scope (leaf (operand_typed scope e)) more

abbrev pub expression_typed : Scope → Expression → Typed
expression_typed scope e = value (grouped scope e.operand e.tail)

-- a name that may not be used here
abbrev pub unknown_name : Scope → ℕ → List ℕ → List Fault
unknown_name scope at x = if is_among scope.visible x then [] else fault Unknown at ∷ []

abbrev mutual
  pub operand_faults : Scope → Operand → List Fault
  operand_faults scope (operand_at at kind) = kind_faults scope at kind

  pub kind_faults : Scope → ℕ → OperandKind → List Fault
  kind_faults scope at (name x) = unknown_name scope at x
  kind_faults scope at (signed prefix e) = operand_faults scope e ++ signed_faults prefix (operand_typed scope e)
  kind_faults scope at (parentheses e more) = operand_faults scope e ++ (tail_faults scope more ++ mixed_in (grouped scope e more))
  kind_faults scope at (range lo hi) = range_faults at lo hi
  kind_faults scope at _ = []

  pub link_faults : Scope → Link → List Fault
  link_faults scope (operation op e) = operand_faults scope e
  link_faults scope (division sign d) = zero_faults d

  pub tail_faults : Scope → Tail → List Fault
  tail_faults scope ended = []
  tail_faults scope (further link more) = link_faults scope link ++ tail_faults scope more

-- the faults of an expression, and of one in the place of a number
abbrev pub expression_faults : Scope → Expression → List Fault
expression_faults scope e =
    operand_faults scope e.operand ++ (tail_faults scope e.tail ++ mixed_in (grouped scope e.operand e.tail))

abbrev pub number_faults : Scope → Expression → List Fault
number_faults scope e = expression_faults scope e ++ mixed (expression_typed scope e)
