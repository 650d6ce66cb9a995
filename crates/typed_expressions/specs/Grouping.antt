-- How the operators of an expression group: the precedence of C99 (6.5.5 to 6.5.14), each level from left to right.
use Rattle.std.specs.Prelude.{ℕ, ℤ, ◌<◌, ◌≤◌, nat_lt, if◌then◌else◌, List, [], ◌∷◌, ◌++◌, ⊤}
use Rattle.concrete_syntax.specs.declared.sign.Division.{Division}
use Rattle.step_meaning.specs.declared.expression.Op2.{Op2}
use Rattle.step_meaning.specs.declared.expression.Op2.TheVariants.{Add, Sub, Mul, Less, LessEqual, Greater, GreaterEqual, Equal, NotEqual, And, Or}

-- how tightly an operator binds
abbrev pub tightness : Op2 → ℕ
tightness Or = 0
tightness And = 1
tightness Equal = 2
tightness NotEqual = 2
tightness Less = 3
tightness LessEqual = 3
tightness Greater = 3
tightness GreaterEqual = 3
tightness Add = 4
tightness Sub = 4
tightness Mul = 5

-- what stands behind an operand: an operator and its right operand, or a division and its divisor
pub data Joint (A : Type 0) : Type 0 where
  operator : Op2 → A → Joint A
  divisor : Division → ℤ → Joint A

-- a division binds as a product does
abbrev pub joint_tightness : {A : Type 0} → Joint A → ℕ
joint_tightness (operator op right) = tightness op
joint_tightness (divisor sign by) = tightness Mul

-- operands with the operators between them, grouped, and groups that are divided
pub data Grouped (A : Type 0) : Type 0 where
  leaf : A → Grouped A
  node : Op2 → Grouped A → Grouped A → Grouped A
  divided : Division → Grouped A → ℤ → Grouped A

abbrev pub joined : {A : Type 0} → Grouped A → Joint A → Grouped A
joined left (operator op right) = node op left (leaf right)
joined left (divisor sign by) = divided sign left by

-- an operator and its right operand, or a division, behind what is grouped already: it takes as its left operand all before it, up to the
-- nearest operator that binds less tightly than it does
abbrev pub attach : {A : Type 0} → Grouped A → Joint A → Grouped A
attach (leaf a) joint = joined (leaf a) joint
attach (node top l r) joint = if nat_lt (tightness top) (joint_tightness joint) then node top l (attach r joint) else joined (node top l r) joint
attach (divided sign l by) joint = joined (divided sign l by) joint

-- What follows has no part in the headline.

-- the operands in the order of the text: the first one, and what stands behind it, one by one
abbrev pub first_operand : {A : Type 0} → Grouped A → A
first_operand (leaf a) = a
first_operand (node op l r) = first_operand l
first_operand (divided sign l by) = first_operand l

abbrev pub further_operands : {A : Type 0} → Grouped A → List (Joint A)
further_operands (leaf a) = []
further_operands (node op l r) = further_operands l ++ operator op (first_operand r) ∷ further_operands r
further_operands (divided sign l by) = further_operands l ++ divisor sign by ∷ []

-- the outermost operator of the group binds at least so tightly, or more tightly; in a group by the ladder so does every other
abbrev pub BindsAtLeast : {A : Type 0} → ℕ → Grouped A → Type 0
BindsAtLeast k (leaf a) = ⊤
BindsAtLeast k (node op l r) = k ≤ tightness op
BindsAtLeast k (divided sign l by) = k ≤ tightness Mul

abbrev pub BindsMoreThan : {A : Type 0} → ℕ → Grouped A → Type 0
BindsMoreThan k (leaf a) = ⊤
BindsMoreThan k (node op l r) = k < tightness op
BindsMoreThan k (divided sign l by) = k < tightness Mul

-- The ladder of C99: the left operand of an operator is a group of operators that bind at least as tightly, the right one of operators
-- that bind more tightly, and what is divided is a group of operators that bind at least as tightly as a division. What stands in
-- parentheses is a leaf.
abbrev pub IsLadder : {A : Type 0} → Grouped A → Type 0
IsLadder (leaf a) = ⊤
IsLadder (node op l r) = BindsAtLeast (tightness op) l × BindsMoreThan (tightness op) r × IsLadder l × IsLadder r
IsLadder (divided sign l by) = BindsAtLeast (tightness Mul) l × IsLadder l
