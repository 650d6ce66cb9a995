-- A formula without unknown names speaks of the named variables alone.
use Rattle.std.proofs.Common.{◌≡◌, ℕ, List, Bool, true, false, Option, None, Some, length, pos, refl, sym, subst}
use Rattle.linear_cons.specs.declared.affine.Affine.{Affine}
use Rattle.linear_cons.specs.declared.row.RowKind.{RowKind}
use Rattle.linear_cons.specs.declared.row.RowKind.TheVariants.{Always, Never, Row as Kept}
use Rattle.linear_cons.specs.Functions.{IsOver, constant_of, difference_of}
use Rattle.linear_cons.specs.Rows.{IsRowOf, row_kind_of}
use Rattle.linear_cons.proofs.Over.{over_constant, over_difference, over_quotient}
use Rattle.linear_cons.proofs.RowKinds.{row_kind_is}
use Rattle.step_meaning.specs.declared.expression.Op2.{Op2}
use Rattle.step_meaning.specs.declared.expression.Op2.TheVariants as Op
use Rattle.step_meaning.specs.Syntax as syntax
use Rattle.step_meaning.specs.Valid.{IsNumber}
use Rattle.step_meaning.specs.Countdown.{form_of}
use Rattle.step_meaning.proofs.OverVariables.{over_form}
use Rattle.ctl_formula.specs.Formulas.{Ctl, both as both_of}
use Rattle.ctl_formula.specs.Mirror.{ctl_of_kind}
use Rattle.formula_syntax.specs.declared.sign.Comparison.{Comparison}
use Rattle.formula_syntax.specs.declared.sign.Comparison.TheVariants as R
use Rattle.formula_syntax.specs.declared.sign.Connective.TheVariants as C
use Rattle.formula_syntax.specs.declared.sign.Operator.TheVariants as O
use Rattle.formula_syntax.specs.declared.sign.Prefix.{Prefix}
use Rattle.formula_syntax.specs.declared.sign.Prefix.TheVariants as P
use Rattle.formula_syntax.specs.Trees.{Factor, factor_at, FactorKind, number, name, signed, summed, Tail, ended, further, Sum, Part, prefixed, quantified, truth, exit, compared, grouped, Chain, done, joined}
use Rattle.typed_expressions.specs.Scopes.{is_among}
use Rattle.formula_parse.specs.Comparing.{comparing, less_1}
use Rattle.formula_parse.specs.Meanings.{added, factor_meaning, kind_meaning, tail_meaning, sum_meaning, part_meaning, chain_meaning, prefixed_meaning, until_meaning, truth_meaning, either_of}
use Rattle.formula_parse.specs.Faults.{or_else, unless, unknown_in_factor, unknown_in_kind, unknown_in_tail, unknown_in_sum, unknown_in_part, unknown_in_chain}
use Rattle.normal_form.specs.Rows.{RowsAreOver}
use Rattle.formula_parse.specs.Laws.{TextsNameTheirVariables}
use Rattle.typed_expressions.proofs.Names.{place_below}

neither : (a b : Option ℕ) → or_else a b ≡ None → (a ≡ None) × (b ≡ None)
neither None b e = (refl, e)
neither (Some x) b e = absurd (cc)

known : (is : Bool) (at : ℕ) → unless is at ≡ None → is ≡ true
known true at e = refl
known false at e = absurd (cc)

module _ (names : List (List ℕ)) where
  abbrev IsSum : syntax.Expression → Type 0
  IsSum e = IsNumber (length names) e

  abbrev Before : Option (syntax.Expression × Op2) → Type 0
  Before None = Unit {0}
  Before (Some b) = IsSum b.0 × ((e : syntax.Expression) → IsSum b.0 → IsSum e → IsSum (syntax.pair b.1 b.0 e))

  is_added : (before : Option (syntax.Expression × Op2)) (product : syntax.Expression) → Before before → IsSum product → IsSum (added before product)
  is_added None product h k = k
  is_added (Some b) product h k = h.1 product h.0 k

  mutual
    factor_is : (e : Factor) → unknown_in_factor names e ≡ None → IsSum (factor_meaning names e)
    factor_is (factor_at at kind) h = kind_is at kind h

    kind_is : (at : ℕ) (kind : FactorKind) → unknown_in_kind names at kind ≡ None → IsSum (kind_meaning names kind)
    kind_is at (number z) h = tt
    kind_is at (name x) h = place_below names x (known (is_among names x) at h)
    kind_is at (signed true e) h = factor_is e h
    kind_is at (signed false e) h = factor_is e h
    kind_is at (summed e more) h = let two = neither _ _ h in tail_is None (factor_meaning names e) more tt (factor_is e two.0) two.1

    tail_is : (before : Option (syntax.Expression × Op2)) (product : syntax.Expression) (t : Tail) → Before before → IsSum product → unknown_in_tail names t ≡ None
        → IsSum (tail_meaning names before product t)
    tail_is before product ended b p h = is_added before product b p
    tail_is before product (further O.Multiply e more) b p h =
        let two = neither _ _ h in tail_is before (syntax.pair Op.Mul product (factor_meaning names e)) more b (p, factor_is e two.0) two.1
    tail_is before product (further O.Add e more) b p h =
        let two = neither _ _ h in tail_is (Some (added before product, Op.Add)) (factor_meaning names e) more (is_added before product b p, (λ e x y. (x, y))) (factor_is e two.0) two.1
    tail_is before product (further O.Subtract e more) b p h =
        let two = neither _ _ h in tail_is (Some (added before product, Op.Sub)) (factor_meaning names e) more (is_added before product b p, (λ e x y. (x, y))) (factor_is e two.0) two.1

  sum_is : (s : Sum) → unknown_in_sum names s ≡ None → IsOver (length names) (form_of (sum_meaning names s))
  sum_is s h = let two = neither _ _ h in over_form (length names) (sum_meaning names s) (tail_is None (factor_meaning names s.factor) s.tail tt (factor_is s.factor two.0) two.1)

  kind_over : (e : Affine) (kind : RowKind) → IsRowOf e kind → IsOver (length names) e → RowsAreOver (length names) (ctl_of_kind kind)
  kind_over e Always is own = tt
  kind_over e Never is own = tt
  kind_over e (Kept row) is own = over_quotient (length names) e row.affine is own

  row_over : (e : Affine) → IsOver (length names) e → RowsAreOver (length names) (ctl_of_kind (row_kind_of e))
  row_over e own = kind_over e (row_kind_of e) (row_kind_is e) own

  plain : (a b : Affine) → IsOver (length names) a → IsOver (length names) b → RowsAreOver (length names) (ctl_of_kind (row_kind_of (difference_of a b)))
  plain a b h k = row_over (difference_of a b) (over_difference (length names) a b h k)

  strict : (a b : Affine) → IsOver (length names) a → IsOver (length names) b → RowsAreOver (length names) (ctl_of_kind (row_kind_of (less_1 (difference_of a b))))
  strict a b h k = row_over (less_1 (difference_of a b)) (over_difference (length names) (difference_of a b) (constant_of (pos 1)) (over_difference (length names) a b h k) (over_constant (length names) (pos 1)))

  comparing_over : (c : Comparison) (a b : Affine) → IsOver (length names) a → IsOver (length names) b → RowsAreOver (length names) (comparing c a b)
  comparing_over R.GreaterEqual a b h k = plain a b h k
  comparing_over R.Greater a b h k = strict a b h k
  comparing_over R.LessEqual a b h k = plain b a k h
  comparing_over R.Less a b h k = strict b a k h
  comparing_over R.Equal a b h k = (plain a b h k, plain b a k h)
  comparing_over R.NotEqual a b h k = (strict a b h k, strict b a k h)

  abbrev Own : Ctl → Type 0
  Own f = RowsAreOver (length names) f

  prefix_over : (p : Prefix) (f : Ctl) → Own f → Own (prefixed_meaning p f)
  prefix_over P.Not f h = h
  prefix_over P.AllNext f h = h
  prefix_over P.SomeNext f h = h
  prefix_over P.AllFinally f h = (tt, h)
  prefix_over P.SomeFinally f h = (tt, h)
  prefix_over P.AllGlobally f h = (h, tt)
  prefix_over P.SomeGlobally f h = (h, tt)

  until_over : (all weak : Bool) (f g : Ctl) → Own f → Own g → Own (until_meaning all weak f g)
  until_over all true f g h k = (h, k)
  until_over all false f g h k = (h, k)

  truth_over : (b : Bool) → Own (truth_meaning b)
  truth_over true = tt
  truth_over false = tt

  abbrev BeforeOver : Option Ctl → Type 0
  BeforeOver None = Unit {0}
  BeforeOver (Some f) = Own f

  either_over : (before : Option Ctl) (f : Ctl) → BeforeOver before → Own f → Own (either_of before f)
  either_over None f h k = k
  either_over (Some before) f h k = (h, k)

  mutual
    part_over : (f : Part) → unknown_in_part names f ≡ None → Own (part_meaning names f)
    part_over (prefixed p f) h = prefix_over p (part_meaning names f) (part_over f h)
    part_over (quantified all f c weak g d) h =
        let sides = neither _ _ h in
        let one = neither _ _ sides.0 in
        let two = neither _ _ sides.1 in
        until_over all weak (chain_meaning names None (part_meaning names f) c) (chain_meaning names None (part_meaning names g) d)
        (chain_over None (part_meaning names f) c tt (part_over f one.0) one.1) (chain_over None (part_meaning names g) d tt (part_over g two.0) two.1)
    part_over (truth b) h = truth_over b
    part_over exit h = tt
    part_over (compared left c right) h = let two = neither _ _ h in comparing_over c (form_of (sum_meaning names left)) (form_of (sum_meaning names right)) (sum_is left two.0) (sum_is right two.1)
    part_over (grouped at f c) h = let two = neither _ _ h in chain_over None (part_meaning names f) c tt (part_over f two.0) two.1

    chain_over : (before : Option Ctl) (so_far : Ctl) (c : Chain) → BeforeOver before → Own so_far → unknown_in_chain names c ≡ None
        → Own (chain_meaning names before so_far c)
    chain_over before so_far done h k e = either_over before so_far h k
    chain_over before so_far (joined C.And f more) h k e = let two = neither _ _ e in chain_over before (both_of so_far (part_meaning names f)) more h (k, part_over f two.0) two.1
    chain_over before so_far (joined C.Or f more) h k e =
        let two = neither _ _ e in chain_over (Some (either_of before so_far)) (part_meaning names f) more (either_over before so_far h k) (part_over f two.0) two.1

pub texts_name_their_variables : TextsNameTheirVariables
texts_name_their_variables text names f h =
    let two = neither _ _ h.stands.known in
    subst (RowsAreOver (length names)) (sym h.stands.means) (chain_over names None (part_meaning names h.tree.part) h.tree.chain tt (part_over names h.tree.part two.0) two.1)
