-- Without faults, an expression reads only variables that may be used.
use Rattle.std.proofs.Common.{◌≡◌, ℕ, Bool, true, false, nat_lt, IsTrue, List, [], ◌∷◌, ◌++◌, refl, if◌then◌else◌}
use Rattle.step_meaning.specs.declared.expression.Op2.{Op2}
use Rattle.step_meaning.specs.declared.expression.Op2.TheVariants.{Add, Sub, Mul, And, Or}
use Rattle.step_meaning.specs.Syntax as syntax
use Rattle.call_meaning.specs.Reads.{Places, Reads, AllRead}
use Rattle.concrete_syntax.specs.declared.sign.Prefix.{Prefix}
use Rattle.concrete_syntax.specs.Trees.{Operand, operand_at, number, name, truth, unknown, call, signed, parentheses, range, Link, operation, division, Tail, ended, further, Expression}
use Rattle.typed_expressions.specs.declared.fault.Rule.TheVariants.{Unknown}
use Rattle.typed_expressions.specs.declared.typed.Sort.{Sort}
use Rattle.typed_expressions.specs.Faults.{fault}
use Rattle.typed_expressions.specs.Grouping.{Grouped, leaf, node, divided, Joint, operator, divisor, joined, attach, tightness, joint_tightness}
use Rattle.typed_expressions.specs.Scopes.{Scope, Name, is_among, place_of}
use Rattle.typed_expressions.specs.Expressions.{Typed, as_test, test_of_sort, mixed, pair_of, value, mixed_in, signed_typed, signed_faults, operand_typed, link_joint, tail_grouped, grouped, unknown_name, operand_faults, link_faults, tail_faults, expression_typed, expression_faults, number_faults}
use Rattle.elaboration.specs.Statements.{arguments_faults, arguments_meaning}
use Rattle.typed_expressions.proofs.Valid.{both_none, some_is_not_none}

-- each name that may be used is a variable that is set
abbrev pub IsShown : Places → Scope → Type 0
IsShown shown scope = (x : Name) → is_among scope.visible x ≡ true → IsTrue (shown (place_of scope.declared x))

module _ (shown : Places) where
  abbrev GroupReads : Grouped Typed → Type 0
  GroupReads (leaf t) = Reads shown t.meaning
  GroupReads (node op l r) = GroupReads l × GroupReads r
  GroupReads (divided sign l by) = GroupReads l

  abbrev JointReads : Joint Typed → Type 0
  JointReads (operator op t) = Reads shown t.meaning
  JointReads (divisor sign by) = Unit {0}

  sort_reads : (sort : Sort) (e : syntax.Expression) → Reads shown e → Reads shown (test_of_sort sort e)
  sort_reads Sort.Number e is = (is, tt)
  sort_reads Sort.Truth e is = is
  sort_reads Sort.Either e is = is

  pub test_reads : (t : Typed) → Reads shown t.meaning → Reads shown (as_test t)
  test_reads t is = sort_reads t.sort t.meaning is

  pair_reads : (op : Op2) (l r : Typed) → Reads shown l.meaning → Reads shown r.meaning → Reads shown (pair_of op l r).meaning
  pair_reads Add l r left right = (left, right)
  pair_reads Sub l r left right = (left, right)
  pair_reads Mul l r left right = (left, right)
  pair_reads And l r left right = (test_reads l left, test_reads r right)
  pair_reads Or l r left right = (test_reads l left, test_reads r right)
  pair_reads op l r left right = (left, right)

  value_reads : (group : Grouped Typed) → GroupReads group → Reads shown (value group).meaning
  value_reads (leaf t) all = all
  value_reads (node op l r) all = pair_reads op (value l) (value r) (value_reads l all.0) (value_reads r all.1)
  value_reads (divided sign l by) all = value_reads l all

  joined_reads : (group : Grouped Typed) (joint : Joint Typed) → GroupReads group → JointReads joint → GroupReads (joined group joint)
  joined_reads group (operator op t) all is = (all, is)
  joined_reads group (divisor sign by) all is = all

  attach_reads : (group : Grouped Typed) (joint : Joint Typed) → GroupReads group → JointReads joint → GroupReads (attach group joint)
  attach_reads (leaf a) joint all is = joined_reads (leaf a) joint all is
  attach_reads (node top l r) joint all is =
      let inner = attach_reads r joint all.1 is in
      by_order inner (nat_lt (tightness top) (joint_tightness joint))
    where
      by_order : GroupReads (attach r joint) → (less : Bool) → GroupReads (if less then node top l (attach r joint) else joined (node top l r) joint)
      by_order inner true = (all.0, inner)
      by_order inner false = joined_reads (node top l r) joint all is
  attach_reads (divided sign l by) joint all is = joined_reads (divided sign l by) joint all is

  signed_reads : (at : ℕ) (prefix : Prefix) (t : Typed) → Reads shown t.meaning → Reads shown (signed_typed prefix at t).meaning
  signed_reads at Prefix.Plus t is = is
  signed_reads at Prefix.Minus t is = is
  signed_reads at Prefix.Not t is = test_reads t is

  module _ (scope : Scope) (sees : IsShown shown scope) where
    pub name_reads : (at : ℕ) (x : Name) → unknown_name scope at x ≡ [] → IsTrue (shown (place_of scope.declared x))
    name_reads at x none = by_visible (is_among scope.visible x) refl none
      where
        by_visible : (seen : Bool) → is_among scope.visible x ≡ seen → (if seen then [] else fault Unknown at ∷ []) ≡ []
            → IsTrue (shown (place_of scope.declared x))
        by_visible true e h = sees x e
        by_visible false e h = absurd (some_is_not_none _ [] h)

    mutual
      operand_reads : (e : Operand) → operand_faults scope e ≡ [] → Reads shown (operand_typed scope e).meaning
      operand_reads (operand_at at (number z)) none = tt
      operand_reads (operand_at at (name x)) none = name_reads at x none
      operand_reads (operand_at at (truth b)) none = tt
      operand_reads (operand_at at unknown) none = tt
      operand_reads (operand_at at call) none = tt
      operand_reads (operand_at at (signed prefix e)) none =
          let parts = both_none (operand_faults scope e) (signed_faults prefix (operand_typed scope e)) none in
          signed_reads at prefix (operand_typed scope e) (operand_reads e parts.0)
      operand_reads (operand_at at (parentheses e more)) none =
          let outer = both_none (operand_faults scope e) (tail_faults scope more ++ mixed_in (grouped scope e more)) none in
          let inner = both_none (tail_faults scope more) (mixed_in (grouped scope e more)) outer.1 in
          value_reads (grouped scope e more) (tail_reads (leaf (operand_typed scope e)) more (operand_reads e outer.0) inner.0)
      operand_reads (operand_at at (range lo hi)) none = tt

      tail_reads : (so_far : Grouped Typed) (more : Tail) → GroupReads so_far → tail_faults scope more ≡ [] → GroupReads (tail_grouped scope so_far more)
      tail_reads so_far ended all none = all
      tail_reads so_far (further link more) all none =
          let parts = both_none (link_faults scope link) (tail_faults scope more) none in
          tail_reads (attach so_far (link_joint scope link)) more (attach_reads so_far (link_joint scope link) all (joint_reads link parts.0)) parts.1

      joint_reads : (link : Link) → link_faults scope link ≡ [] → JointReads (link_joint scope link)
      joint_reads (operation op e) none = operand_reads e none
      joint_reads (division sign d) none = tt

    pub expression_reads : (e : Expression) → expression_faults scope e ≡ [] → Reads shown (expression_typed scope e).meaning
    expression_reads e none = operand_reads (operand_at 0 (parentheses e.operand e.tail)) none

    pub number_reads : (e : Expression) → number_faults scope e ≡ [] → Reads shown (expression_typed scope e).meaning
    number_reads e none = expression_reads e (both_none (expression_faults scope e) (mixed (expression_typed scope e)) none).0

    pub arguments_read : (arguments : List Expression) → arguments_faults scope arguments ≡ [] → AllRead shown (arguments_meaning scope arguments)
    arguments_read [] none = tt
    arguments_read (e ∷ more) none =
        let parts = both_none (number_faults scope e) (arguments_faults scope more) none in
        (number_reads e parts.0, arguments_read more parts.1)
