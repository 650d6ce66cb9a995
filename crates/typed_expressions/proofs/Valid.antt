-- Without faults, expressions have the sorts that their places need.
use Rattle.std.proofs.Common.{◌≡◌, ◌≢◌, ℕ, ℤ, pos, neg_ℤ, int_eq, int_lt, ◌<◌, ◌≤◌, Bool, true, false, nat_lt, ◌&&◌, List, [], ◌∷◌, ◌++◌, Option, None, Some, length, refl, sym, subst, arith, if◌then◌else◌, ◌∙◌}
use Rattle.std.proofs.lemmas.Bool.{false≢true}
use Rattle.std.proofs.lemmas.Bool.Decides.{Decides-int_eq}
use Rattle.std.proofs.lemmas.Int.{ints}
use Rattle.step_meaning.specs.declared.expression.Op2.{Op2}
use Rattle.step_meaning.specs.declared.expression.Op2.TheVariants.{Add, Sub, Mul, And, Or}
use Rattle.step_meaning.specs.Syntax as syntax
use Rattle.step_meaning.specs.Valid.{IsInOrder, IsNumber, IsTest}
use Rattle.concrete_syntax.specs.declared.sign.Prefix.{Prefix}
use Rattle.concrete_syntax.specs.Trees.{Divisor, End, Operand, operand_at, number, name, truth, unknown, call, signed, parentheses, range, Link, operation, division, Tail, ended, further, Expression}
use Rattle.typed_expressions.specs.declared.fault.Rule.TheVariants.{Unknown, BadRange, ZeroDivisor}
use Rattle.typed_expressions.specs.Faults.{fault}
use Rattle.typed_expressions.specs.declared.typed.Sort.{Sort}
use Rattle.typed_expressions.specs.Grouping.{Grouped, leaf, node, divided, Joint, operator, divisor, joined, attach, tightness, joint_tightness}
use Rattle.typed_expressions.specs.Scopes.{Scope, Name, is_among, place_of}
use Rattle.typed_expressions.specs.Expressions.{Typed, as_test, test_of_sort, mixed_sort, mixed, pair_of, mixed_operands, value, mixed_in, end_value, is_range, is_infinite_as, in_order, range_faults, signed_typed, signed_faults, operand_typed, link_joint, tail_grouped, grouped, unknown_name, operand_faults, link_faults, tail_faults, signed_number, divisor_value, zero_faults, expression_typed, expression_faults, number_faults}
use Rattle.typed_expressions.proofs.Names.{place_below}

-- two lists that make none are none
abbrev is_nil : {A : Type 0} → List A → Type 0
is_nil [] = Unit {0}
is_nil (x ∷ xs) = ⊥

pub some_is_not_none : {A : Type 0} (x : A) (xs : List A) → x ∷ xs ≡ [] → ⊥
some_is_not_none x xs e = subst is_nil (sym e) tt

pub both_none : {A : Type 0} (xs ys : List A) → xs ++ ys ≡ [] → (xs ≡ []) × (ys ≡ [])
both_none [] ys none = (refl, none)
both_none (x ∷ xs) ys none = absurd (some_is_not_none x (xs ++ ys) none)

-- what may be used is a variable
abbrev pub IsSound : Scope → Type 0
IsSound scope = (x : Name) → is_among scope.visible x ≡ true → is_among scope.declared x ≡ true

abbrev pub HasSort : ℕ → Sort → syntax.Expression → Type 0
HasSort vars Sort.Number e = IsNumber vars e
HasSort vars Sort.Truth e = IsTest vars e
HasSort vars Sort.Either e = e ≡ syntax.free

abbrev pub IsTyped : ℕ → Typed → Type 0
IsTyped vars t = HasSort vars t.sort t.meaning

abbrev pub AllTyped : ℕ → Grouped Typed → Type 0
AllTyped vars (leaf t) = IsTyped vars t
AllTyped vars (node op l r) = AllTyped vars l × AllTyped vars r
AllTyped vars (divided sign l by) = AllTyped vars l × (by ≢ pos 0)

abbrev pub IsJointTyped : ℕ → Joint Typed → Type 0
IsJointTyped vars (operator op t) = IsTyped vars t
IsJointTyped vars (divisor sign by) = by ≢ pos 0

sort_number : (vars first : ℕ) (sort : Sort) (e : syntax.Expression) → HasSort vars sort e → mixed_sort sort first ≡ [] → IsNumber vars e
sort_number vars first Sort.Number e is none = is
sort_number vars first Sort.Truth e is none = absurd (some_is_not_none _ [] none)
sort_number vars first Sort.Either e is none = subst (IsNumber vars) (sym is) tt

pub number_typed : (vars : ℕ) (t : Typed) → IsTyped vars t → mixed t ≡ [] → IsNumber vars t.meaning
number_typed vars t is none = sort_number vars t.first t.sort t.meaning is none

sort_test : (vars : ℕ) (sort : Sort) (e : syntax.Expression) → HasSort vars sort e → IsTest vars (test_of_sort sort e)
sort_test vars Sort.Number e is = (is, tt)
sort_test vars Sort.Truth e is = is
sort_test vars Sort.Either e is = subst (IsTest vars) (sym is) tt

pub test_typed : (vars : ℕ) (t : Typed) → IsTyped vars t → IsTest vars (as_test t)
test_typed vars t is = sort_test vars t.sort t.meaning is

joined_typed : (vars : ℕ) (group : Grouped Typed) (joint : Joint Typed) → AllTyped vars group → IsJointTyped vars joint → AllTyped vars (joined group joint)
joined_typed vars group (operator op t) all is = (all, is)
joined_typed vars group (divisor sign by) all is = (all, is)

attach_typed : (vars : ℕ) (group : Grouped Typed) (joint : Joint Typed) → AllTyped vars group → IsJointTyped vars joint → AllTyped vars (attach group joint)
attach_typed vars (leaf a) joint all is = joined_typed vars (leaf a) joint all is
attach_typed vars (node top l r) joint all is =
    let inner = attach_typed vars r joint all.1 is in
    by_order inner (nat_lt (tightness top) (joint_tightness joint))
  where
    by_order : AllTyped vars (attach r joint) → (less : Bool) → AllTyped vars (if less then node top l (attach r joint) else joined (node top l r) joint)
    by_order inner true = (all.0, inner)
    by_order inner false = joined_typed vars (node top l r) joint all is
attach_typed vars (divided sign l by) joint all is = joined_typed vars (divided sign l by) joint all is

numbers : (vars : ℕ) (l r : Typed) → IsTyped vars l → IsTyped vars r → mixed l ++ mixed r ≡ [] → IsNumber vars l.meaning × IsNumber vars r.meaning
numbers vars l r left right none =
    let parts = both_none (mixed l) (mixed r) none in
    (number_typed vars l left parts.0, number_typed vars r right parts.1)

pair_typed : (vars : ℕ) (op : Op2) (l r : Typed) → IsTyped vars l → IsTyped vars r → mixed_operands op l r ≡ [] → IsTyped vars (pair_of op l r)
pair_typed vars Add l r left right none = numbers vars l r left right none
pair_typed vars Sub l r left right none = numbers vars l r left right none
pair_typed vars Mul l r left right none = numbers vars l r left right none
pair_typed vars And l r left right none = (test_typed vars l left, test_typed vars r right)
pair_typed vars Or l r left right none = (test_typed vars l left, test_typed vars r right)
pair_typed vars op l r left right none = numbers vars l r left right none

value_typed : (vars : ℕ) (group : Grouped Typed) → AllTyped vars group → mixed_in group ≡ [] → IsTyped vars (value group)
value_typed vars (leaf t) all none = all
value_typed vars (node op l r) all none =
    let outer = both_none (mixed_in l) (mixed_in r ++ mixed_operands op (value l) (value r)) none in
    let inner = both_none (mixed_in r) (mixed_operands op (value l) (value r)) outer.1 in
    pair_typed vars op (value l) (value r) (value_typed vars l all.0 outer.0) (value_typed vars r all.1 inner.0) inner.1
value_typed vars (divided sign l by) all none =
    let parts = both_none (mixed_in l) (mixed (value l)) none in
    (number_typed vars (value l) (value_typed vars l all.0 parts.0) parts.1, all.1)

-- a range without a fault is in order
ordered : (lo hi : Option ℤ) → in_order lo hi ≡ true → IsInOrder lo hi
ordered (Some lo) (Some hi) is = omega (arith, ints)
ordered (Some lo) None is = tt
ordered None hi is = tt

both_true : (a b : Bool) → (a && b) ≡ true → (a ≡ true) × (b ≡ true)
both_true true b is = (refl, is)
both_true false b is = absurd (false≢true is)

range_ordered : (at : ℕ) (lo hi : End) → range_faults at lo hi ≡ [] → IsInOrder (end_value lo) (end_value hi)
range_ordered at lo hi none = by_range (is_range lo hi) refl none
  where
    by_range : (ok : Bool) → is_range lo hi ≡ ok → (if ok then [] else fault BadRange at ∷ []) ≡ [] → IsInOrder (end_value lo) (end_value hi)
    by_range true e h =
        let all = both_true (is_infinite_as true lo.negative lo.size && is_infinite_as false hi.negative hi.size) (in_order (end_value lo) (end_value hi)) e in
        ordered (end_value lo) (end_value hi) all.1
    by_range false e h = absurd (some_is_not_none _ [] h)

-- a name that may be used is a variable
pub name_typed : (vars : ℕ) (scope : Scope) (at : ℕ) (x : List ℕ) → IsSound scope → length scope.declared ≤ vars → unknown_name scope at x ≡ []
    → (is_among scope.declared x ≡ true) × (place_of scope.declared x < vars)
name_typed vars scope at x sound room none = by_visible (is_among scope.visible x) refl none
  where
    by_visible : (seen : Bool) → is_among scope.visible x ≡ seen → (if seen then [] else fault Unknown at ∷ []) ≡ []
        → (is_among scope.declared x ≡ true) × (place_of scope.declared x < vars)
    by_visible true e h =
        let known = sound x e in
        let below = place_below scope.declared x known in
        (known, omega arith)
    by_visible false e h = absurd (some_is_not_none _ [] h)

signed_is_typed : (vars at : ℕ) (prefix : Prefix) (t : Typed) → IsTyped vars t → signed_faults prefix t ≡ [] → IsTyped vars (signed_typed prefix at t)
signed_is_typed vars at Prefix.Plus t is none = number_typed vars t is none
signed_is_typed vars at Prefix.Minus t is none = number_typed vars t is none
signed_is_typed vars at Prefix.Not t is none = test_typed vars t is

-- a divisor without a fault isn't 0
signed_not_zero : (negative : Bool) (z : ℤ) → z ≢ pos 0 → signed_number negative z ≢ pos 0
signed_not_zero negative z some = by_case (negative && int_lt (pos 0) z)
  where
    by_case : (turned : Bool) → (if turned then neg_ℤ z else z) ≢ pos 0
    by_case true zero_is = some (omega (arith, ints))
    by_case false zero_is = some zero_is

divisor_not_zero : (d : Divisor) → zero_faults d ≡ [] → divisor_value d ≢ pos 0
divisor_not_zero d none = by_size (int_eq d.size (pos 0)) refl none
  where
    by_size : (zero_is : Bool) → int_eq d.size (pos 0) ≡ zero_is → (if zero_is then fault ZeroDivisor d.at ∷ [] else []) ≡ [] → divisor_value d ≢ pos 0
    by_size true e h = absurd (some_is_not_none _ [] h)
    by_size false e h = signed_not_zero d.negative d.size (λ same. false≢true (sym e ∙ (Decides-int_eq d.size (pos 0)).1 same))

mutual
  pub operand_is_typed : (vars : ℕ) (scope : Scope) → IsSound scope → length scope.declared ≤ vars → (e : Operand)
      → operand_faults scope e ≡ [] → IsTyped vars (operand_typed scope e)
  operand_is_typed vars scope sound room (operand_at at (number z)) none = tt
  operand_is_typed vars scope sound room (operand_at at (name x)) none = (name_typed vars scope at x sound room none).1
  operand_is_typed vars scope sound room (operand_at at (truth b)) none = tt
  operand_is_typed vars scope sound room (operand_at at unknown) none = refl
  operand_is_typed vars scope sound room (operand_at at call) none = refl
  operand_is_typed vars scope sound room (operand_at at (signed prefix e)) none =
      let parts = both_none (operand_faults scope e) (signed_faults prefix (operand_typed scope e)) none in
      signed_is_typed vars at prefix (operand_typed scope e) (operand_is_typed vars scope sound room e parts.0) parts.1
  operand_is_typed vars scope sound room (operand_at at (parentheses e more)) none =
      let outer = both_none (operand_faults scope e) (tail_faults scope more ++ mixed_in (grouped scope e more)) none in
      let inner = both_none (tail_faults scope more) (mixed_in (grouped scope e more)) outer.1 in
      value_typed vars (grouped scope e more)
      (tail_is_typed vars scope sound room (leaf (operand_typed scope e)) more (operand_is_typed vars scope sound room e outer.0) inner.0)
      inner.1
  operand_is_typed vars scope sound room (operand_at at (range lo hi)) none = range_ordered at lo hi none

  pub tail_is_typed : (vars : ℕ) (scope : Scope) → IsSound scope → length scope.declared ≤ vars → (so_far : Grouped Typed) (more : Tail)
      → AllTyped vars so_far → tail_faults scope more ≡ [] → AllTyped vars (tail_grouped scope so_far more)
  tail_is_typed vars scope sound room so_far ended all none = all
  tail_is_typed vars scope sound room so_far (further link more) all none =
      let parts = both_none (link_faults scope link) (tail_faults scope more) none in
      tail_is_typed vars scope sound room (attach so_far (link_joint scope link)) more
      (attach_typed vars so_far (link_joint scope link) all (joint_is_typed vars scope sound room link parts.0))
      parts.1

  joint_is_typed : (vars : ℕ) (scope : Scope) → IsSound scope → length scope.declared ≤ vars → (link : Link)
      → link_faults scope link ≡ [] → IsJointTyped vars (link_joint scope link)
  joint_is_typed vars scope sound room (operation op e) none = operand_is_typed vars scope sound room e none
  joint_is_typed vars scope sound room (division sign d) none = divisor_not_zero d none

-- an expression is typed as it is in parentheses
expression_is_typed : (vars : ℕ) (scope : Scope) → IsSound scope → length scope.declared ≤ vars → (e : Expression)
    → expression_faults scope e ≡ [] → IsTyped vars (expression_typed scope e)
expression_is_typed vars scope sound room e none = operand_is_typed vars scope sound room (operand_at 0 (parentheses e.operand e.tail)) none

pub expression_is_number : (vars : ℕ) (scope : Scope) → IsSound scope → length scope.declared ≤ vars → (e : Expression)
    → number_faults scope e ≡ [] → IsNumber vars (expression_typed scope e).meaning
expression_is_number vars scope sound room e none =
    let parts = both_none (expression_faults scope e) (mixed (expression_typed scope e)) none in
    number_typed vars (expression_typed scope e) (expression_is_typed vars scope sound room e parts.0) parts.1

pub expression_is_test : (vars : ℕ) (scope : Scope) → IsSound scope → length scope.declared ≤ vars → (e : Expression)
    → expression_faults scope e ≡ [] → IsTest vars (as_test (expression_typed scope e))
expression_is_test vars scope sound room e none =
    test_typed vars (expression_typed scope e) (expression_is_typed vars scope sound room e none)
