-- A function exceeds itself nowhere.
use Rattle.std.proofs.Common.{◌≡◌, pos, negsuc, ◌+ℤ◌, ◌-ℤ◌, ◌<ℤ◌, List, ⊎_elim, sym, subst, arith}
use Rattle.std.proofs.lemmas.Int.{ints}
use Rattle.linear_cons.specs.Functions.{IsConstant, coefficient, constant_of, difference_of}
use Rattle.linear_cons.specs.Rows.{row_kind_of}
use Rattle.linear_cons.specs.declared.affine.Affine.{Affine}
use Rattle.linear_cons.specs.declared.row.Row.{Row}
use Rattle.linear_cons.specs.declared.row.RowKind.TheVariants.{Never}
use Rattle.linear_cons.specs.Laws.Primitive.{number_at_places}
use Rattle.linear_cons.proofs.RowKinds.{row_kind_unique}
use Rattle.decision_tree.specs.AffineRanks.{excess_of, only}
use Rattle.tree_widening.specs.Meeting.{MayBeMetWith, MayBeMetWithOne}

pub excess_itself : (a : Affine) → row_kind_of (excess_of a a) ≡ Never
excess_itself a = sym (row_kind_unique (excess_of a a) Never (constant, below))
  where
    constant : IsConstant (excess_of a a)
    constant i low =
        let whole = number_at_places (λ i. coefficient (difference_of a a) i +ℤ coefficient (constant_of (negsuc 0)) i) i low in
        let part = number_at_places (λ i. coefficient a i -ℤ coefficient a i) i low in
        let none = number_at_places (λ i. pos 0) i low in
        omega (arith, ints)

    below : (excess_of a a).constant <ℤ pos 0
    below = omega (arith, ints)

-- no point meets a function's exceeding itself
pub never_met : (path : List Row) (a : Affine) → MayBeMetWith path (row_kind_of (excess_of a a)) → ⊥
never_met path a met = subst (λ kind. MayBeMetWith path kind) (excess_itself a) met

pub exceeds_itself_nowhere : (path : List Row) (a : Affine) → MayBeMetWithOne path (only (excess_of a a)) → ⊥
exceeds_itself_nowhere path a one = ⊎_elim (λ met. never_met path a met) (λ none. none) one
