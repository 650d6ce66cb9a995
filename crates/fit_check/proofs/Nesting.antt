-- Trees that ask rows one behind the other.
use Rattle.std.proofs.Common.{◌≡◌, ℤ, pos, negsuc, ◌≤ℤ◌, int_eq, int_le, Bool, true, false, cond, List, [], ◌∷◌, ◌++◌, All, refl, ap, arith}
use Rattle.std.proofs.lemmas.Int.{ints}
use Rattle.std.proofs.lemmas.List.Elements.{All-append}
use Rattle.linear_cons.specs.declared.bounds.Bounds.{Bounds}
use Rattle.linear_cons.specs.declared.row.RowKind.{RowKind}
use Rattle.linear_cons.specs.declared.row.RowKind.TheVariants.{Always, Never, Row as Kept}
use Rattle.linear_cons.specs.Functions.{value_at}
use Rattle.linear_forms.specs.Linearising.{linear_of}
use Rattle.decision_tree.specs.declared.affine_rank.AffineRank.{AffineRank}
use Rattle.decision_tree.specs.declared.reason.Why.{Why}
use Rattle.decision_tree.specs.Evaluation.{eval}
use Rattle.decision_tree.specs.Plans.{Plan, bottom, branch, leaf}
use Rattle.step_meaning.specs.Syntax.{Expression, number, variable, free, range, divided, truth, negative, negation, pair}
use Rattle.step_meaning.specs.Outcome.{Store}
use Rattle.tree_support.proofs.Lists.{all_none, all_one}
use Rattle.int_fit.specs.Narrowing.{joins_tests}
use Rattle.fit_check.specs.Ranges.{MeetsKinds, StaysIn, is_literal, nested, numbers_in, numbers_in_test, own_rows, rows_in, rows_in_test}

pub nested_append : (front : List RowKind) (kind : RowKind) (end : Plan AffineRank) → nested (front ++ kind ∷ []) end ≡ nested front (nested (kind ∷ []) end)
nested_append [] kind end = refl
nested_append (Always ∷ more) kind end = nested_append more kind end
nested_append (Never ∷ more) kind end = refl
nested_append (Kept row ∷ more) kind end = ap (λ (tree : Plan AffineRank). branch row tree bottom) (nested_append more kind end)

-- ---- where it is defined each row is met

module _ (store : Store) where
  taken : (v : ℤ) (t : Bool) (this : Plan AffineRank) (why : Why) (rank : AffineRank) → int_le (pos 0) v ≡ t
      → cond t this bottom ≡ leaf why rank → (pos 0 ≤ℤ v) × (this ≡ leaf why rank)
  taken v true this why rank is defined = (omega (arith, ints), defined)
  taken v false this why rank is defined = absurd (cc)

  pub defined_meets : (kinds : List RowKind) (end : Plan AffineRank) (why : Why) (rank : AffineRank) → eval (nested kinds end) store ≡ leaf why rank
      → MeetsKinds store kinds
  defined_meets [] end why rank is = tt
  defined_meets (Always ∷ more) end why rank is = (tt, defined_meets more end why rank is)
  defined_meets (Never ∷ more) end why rank is = absurd (cc)
  defined_meets (Kept row ∷ more) end why rank is =
      let side = taken (value_at row.affine store) (int_le (pos 0) (value_at row.affine store)) (eval (nested more end) store) why rank refl is in
      (side.0, defined_meets more end why rank side.1)

  pub meets_left : (xs ys : List RowKind) → MeetsKinds store (xs ++ ys) → MeetsKinds store xs
  meets_left [] ys met = tt
  meets_left (x ∷ xs) ys met = (met.0, meets_left xs ys met.1)

  pub meets_right : (xs ys : List RowKind) → MeetsKinds store (xs ++ ys) → MeetsKinds store ys
  meets_right [] ys met = met
  meets_right (x ∷ xs) ys met = meets_right xs ys met.1

  -- ---- and so each number stays in range

  module _ (bounds : Bounds) where
    abbrev Stays : Expression → Type 0
    Stays e = StaysIn store (linear_of bounds e)

    own : (e : Expression) → MeetsKinds store (own_rows (linear_of bounds e)) → Stays e
    own e met = (met.0, met.1.0)

    one : (e : Expression) → MeetsKinds store (own_rows (linear_of bounds e)) → All Stays (e ∷ [])
    one e met = all_one Stays e (own e met)

    behind : (es : List Expression) (e : Expression) → All Stays es → MeetsKinds store (own_rows (linear_of bounds e)) → All Stays (es ++ e ∷ [])
    behind es e first met = All-append Stays es (e ∷ []) first (one e met)

    -- of a division by -1 the negation is asked too, and of a sign before a literal nothing else
    divided_stay : (t : Bool) (e : Expression) → (MeetsKinds store (rows_in bounds e) → All Stays (numbers_in e))
        → MeetsKinds store (rows_in bounds e ++ cond t (own_rows (linear_of bounds (negative e))) []) → All Stays (numbers_in e ++ cond t (negative e ∷ []) [])
    divided_stay true e inner met =
        let last = own_rows (linear_of bounds (negative e)) in
        behind (numbers_in e) (negative e) (inner (meets_left (rows_in bounds e) last met)) (meets_right (rows_in bounds e) last met)
    divided_stay false e inner met = All-append Stays (numbers_in e) [] (inner (meets_left (rows_in bounds e) [] met)) (all_none Stays)

    negative_stays : (t : Bool) (e : Expression) → (MeetsKinds store (rows_in bounds e) → All Stays (numbers_in e))
        → MeetsKinds store (cond t [] (rows_in bounds e) ++ own_rows (linear_of bounds (negative e))) → All Stays (cond t [] (numbers_in e) ++ negative e ∷ [])
    negative_stays true e inner met = one (negative e) met
    negative_stays false e inner met =
        let last = own_rows (linear_of bounds (negative e)) in
        behind (numbers_in e) (negative e) (inner (meets_left (rows_in bounds e) last met)) (meets_right (rows_in bounds e) last met)

    pub numbers_stay : (e : Expression) → MeetsKinds store (rows_in bounds e) → All Stays (numbers_in e)
    numbers_stay (number z) met = one (number z) met
    numbers_stay (variable x) met = one (variable x) met
    numbers_stay free met = one free met
    numbers_stay (range lo hi) met = one (range lo hi) met
    numbers_stay (divided division e b) met = divided_stay (int_eq b (negsuc 0)) e (numbers_stay e) met
    numbers_stay (truth b) met = all_none Stays
    numbers_stay (negative e) met = negative_stays (is_literal e) e (numbers_stay e) met
    numbers_stay (negation c) met = all_none Stays
    numbers_stay (pair op l r) met =
        let last = own_rows (linear_of bounds (pair op l r)) in
        let more = meets_right (rows_in bounds l) (rows_in bounds r ++ last) met in
        All-append Stays (numbers_in l) (numbers_in r ++ pair op l r ∷ [])
        (numbers_stay l (meets_left (rows_in bounds l) (rows_in bounds r ++ last) met))
        (behind (numbers_in r) (pair op l r) (numbers_stay r (meets_left (rows_in bounds r) last more)) (meets_right (rows_in bounds r) last more))

    both_stay : (xs ys : List Expression) (rows others : List RowKind) → (MeetsKinds store rows → All Stays xs) → (MeetsKinds store others → All Stays ys)
        → MeetsKinds store (rows ++ others) → All Stays (xs ++ ys)
    both_stay xs ys rows others left right met = All-append Stays xs ys (left (meets_left rows others met)) (right (meets_right rows others met))

    by_kind : (t : Bool) (l r : Expression) → (MeetsKinds store (rows_in_test bounds l ++ rows_in_test bounds r) → All Stays (numbers_in_test l ++ numbers_in_test r))
        → MeetsKinds store (cond t (rows_in_test bounds l ++ rows_in_test bounds r) (rows_in bounds l ++ rows_in bounds r))
        → All Stays (cond t (numbers_in_test l ++ numbers_in_test r) (numbers_in l ++ numbers_in r))
    by_kind true l r tests met = tests met
    by_kind false l r tests met = both_stay (numbers_in l) (numbers_in r) (rows_in bounds l) (rows_in bounds r) (numbers_stay l) (numbers_stay r) met

    pub tests_stay : (c : Expression) → MeetsKinds store (rows_in_test bounds c) → All Stays (numbers_in_test c)
    tests_stay (number z) met = all_none Stays
    tests_stay (variable x) met = all_none Stays
    tests_stay free met = all_none Stays
    tests_stay (range lo hi) met = all_none Stays
    tests_stay (divided division e b) met = all_none Stays
    tests_stay (truth b) met = all_none Stays
    tests_stay (negative e) met = all_none Stays
    tests_stay (negation c) met = tests_stay c met
    tests_stay (pair op l r) met =
        by_kind (joins_tests op) l r
        (both_stay (numbers_in_test l) (numbers_in_test r) (rows_in_test bounds l) (rows_in_test bounds r) (tests_stay l) (tests_stay r)) met
