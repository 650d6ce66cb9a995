-- Ways through the candidates of countdown programs with small factors.
use Rattle.std.proofs.Common.{inl, inr, ◌≡◌, ◌∙◌, ℕ, zero, suc, ◌+◌, ◌*◌, ◌^◌, ◌≤◌, ℤ, pos, int_le, if◌then◌else◌, List, [], ◌∷◌, map, sym, ap, subst, arith}
use Rattle.std.proofs.Math.Nat.{mul_assoc, mul_comm, suc-mul}
use Rattle.std.proofs.lemmas.List.Elements.{All-cons}
use Rattle.linear_cons.specs.declared.affine.Affine.{Affine}
use Rattle.linear_cons.specs.declared.row.Row.{Row}
use Rattle.linear_cons.specs.declared.row.RowKind.{RowKind}
use Rattle.linear_cons.specs.declared.row.RowKind.TheVariants.{Always, Never, Row as Kept}
use Rattle.linear_cons.specs.Functions.{PartsFit, value_at}
use Rattle.linear_cons.specs.Rows.{IsRowOf, row_kind_of}
use Rattle.linear_cons.specs.Sizes.{SizesAtMost, total_size}
use Rattle.linear_cons.proofs.KindLaws.{row_kind_is}
use Rattle.linear_cons.proofs.Sizes.{sizes_grown, sizes_quotient, sizes_substituted}
use Rattle.decision_tree.specs.Evaluation.{WayFits}
use Rattle.decision_tree.specs.Plans.{Plan}
use Rattle.decision_tree.specs.declared.affine_rank.AffineRank.{AffineRank}
use Rattle.step_meaning.specs.declared.count.Count.{Count}
use Rattle.step_meaning.specs.declared.countdown.Countdown.TheVariants.{Straight, Loop}
use Rattle.step_meaning.specs.Counts.{HasNoLoop, none}
use Rattle.step_meaning.specs.Countdown.{CountsFrom, IsSmall, change_by, form_of}
use Rattle.step_meaning.specs.Syntax.{Statements, assign, while_loop, sequence}
use Rattle.step_meaning.specs.Valid.{IsBody}
use Rattle.control_flow.specs.Labels.{entry_of}
use Rattle.fitting_ways.proofs.Values.{parts_fit}
use Rattle.count_down.specs.Candidates.{IsCandidate, candidate_with, candidate_without, carried, last_of_loop, most_within, nothing, steps_before, turn_of_loop}
use Rattle.fitting_ways.specs.Factors.{HasSmallFactors, factors}
use Rattle.fitting_ways.specs.Ways.{HasSmallNumbers, SmallWaysFit}
use Rattle.fitting_ways.proofs.Rows.{none_fit, side_fits}
use Rattle.tree_support.specs.Setting.{trees_in}
use Rattle.count_down.specs.LabelCounts.{counts_of}
use Rattle.count_down.specs.Trees.{count_tree, split, within}

-- ---- how large the numbers of the row at the entry are

abbrev size_before : Statements → ℕ
size_before s = 2 ^ 31 * factors s

grown : (a f : ℕ) → 2 ^ 31 * ((1 + a) * f) ≡ 2 ^ 31 * f + a * (2 ^ 31 * f)
grown a f =
    let turned : a * (2 ^ 31 * f) ≡ 2 ^ 31 * (a * f) = sym (mul_assoc a (2 ^ 31) f) ∙ ap (λ t. t * f) (mul_comm a (2 ^ 31)) ∙ mul_assoc
    (2 ^ 31) a f in
    let whole : (1 + a) * f ≡ f + a * f = omega (arith, suc-mul a f) in
    omega arith

small_sizes : (e : Affine) → IsSmall e → SizesAtMost (2 ^ 31) e
small_sizes e small = record { coefficients = small.coefficients; constants = small.constants }

sizes_carried : (row : Row) (p vars : ℕ) (s : Statements) → CountsFrom row p s → vars ≤ 15 → IsBody vars s
    → SizesAtMost (size_before s) (carried row.affine s)
sizes_carried row p vars (sequence (assign x v) more) counts few sorted =
    let own = sizes_carried row (p * (1 + total_size (form_of v))) vars more counts.3 few sorted.1 in
    let place = sorted.0.0 in
    rw (grown (total_size (form_of v)) (factors more)) (sizes_substituted (size_before more) (carried row.affine more) x (form_of v)
    (omega arith) own)
sizes_carried row p vars (sequence (while_loop test body step) more) counts few sorted = sizes_grown (2 ^ 31) (2 ^ 31 * 1) row.affine (omega arith)
    (small_sizes row.affine counts.1.small)
sizes_carried row p vars other counts few sorted = absurd counts

-- ---- ways

module _ (store : List ℤ) (small : HasSmallNumbers store) where
  split_fits : (f a b : Affine) (kind : RowKind) → IsRowOf f kind → SizesAtMost (2 ^ 60) f → WayFits (split kind (within a) (within b)) store
  split_fits f a b Always is own = none_fit store
  split_fits f a b Never is own = none_fit store
  split_fits f a b (Kept row) is own =
      let met = int_le (pos 0) (value_at row.affine store) in
      All-cons (λ row. PartsFit row.affine store) row (if met then [] else [])
      (parts_fit row.affine store (sizes_quotient (2 ^ 60) f row.affine is own) small)
      (side_fits store met [] [] (none_fit store) (none_fit store))

  count_fits : (m s : ℕ) (f : Affine) (k : ℕ) → SizesAtMost (2 ^ 60) f → WayFits (count_tree m s f k) store
  count_fits m s f k own = split_fits f _ _ (row_kind_of f) (row_kind_is f) own

  carried_small : (row : Row) (vars : ℕ) (body : Statements) → CountsFrom row 1 body → vars ≤ 15 → IsBody vars body → factors body ≤ 2 ^ 28
      → SizesAtMost (2 ^ 60) (carried row.affine body)
  carried_small row vars body counts few sorted little =
      sizes_grown (size_before body) (2 ^ 60) (carried row.affine body) (omega arith) (sizes_carried row 1 vars body counts few sorted)

  with_fits : (row : Row) (vars : ℕ) (body : Statements) → CountsFrom row 1 body → vars ≤ 15 → IsBody vars body → factors body ≤ 2 ^ 28
      → WayFits (trees_in (candidate_with row.affine body) (entry_of body)) store
  with_fits row vars (sequence (assign x v) more) counts few sorted little =
      count_fits (turn_of_loop row.affine more) (last_of_loop more) (carried row.affine (sequence (assign x v) more)) (1 + steps_before more)
      (carried_small row vars (sequence (assign x v) more) counts few sorted little)
  with_fits row vars (sequence (while_loop test body step) more) counts few sorted little =
      count_fits (turn_of_loop row.affine (sequence (while_loop test body step) more)) (last_of_loop (sequence (while_loop test body step) more)) row.affine 0
      (carried_small row vars (sequence (while_loop test body step) more) counts few sorted little)
  with_fits row vars other counts few sorted little = absurd counts

  leaves_fit : (counts : List Count) (l : ℕ) → WayFits (trees_in (map most_within counts) l) store
  leaves_fit [] l = none_fit store
  leaves_fit (c ∷ more) zero = none_fit store
  leaves_fit (c ∷ more) (suc l) = leaves_fit more l

  without_fits : (body : Statements) (l : ℕ) → WayFits (trees_in (candidate_without body) l) store
  without_fits body zero = none_fit store
  without_fits body (suc l) = leaves_fit (counts_of (change_by nothing) body none) l

-- a program without loops counts nothing down
none_counted : (row : Row) (p : ℕ) (body : Statements) → HasNoLoop body → CountsFrom row p body → ⊥
none_counted row p (sequence (assign x v) more) free counts = none_counted row (p * (1 + total_size (form_of v))) more free.1 counts.3
none_counted row p (sequence (while_loop test body step) more) free counts = free.0
none_counted row p other free counts = counts

module _ (vars : ℕ) (few : vars ≤ 15) (body : Statements) (sorted : IsBody vars body) (store : List ℤ) (small : HasSmallNumbers store) where
  counted_fits : (row : Row) → CountsFrom row 1 body → HasSmallFactors body → WayFits (trees_in (candidate_with row.affine body) (entry_of body)) store
  counted_fits row counts (inl free) = absurd (none_counted row 1 body free counts)
  counted_fits row counts (inr little) = with_fits store small row vars body counts few sorted little

  entry_fits : (trees : List (Plan AffineRank)) → IsCandidate trees body → HasSmallFactors body → WayFits (trees_in trees (entry_of body)) store
  entry_fits trees (Straight, free, is) little =
      subst (λ (ts : List (Plan AffineRank)). WayFits (trees_in ts (entry_of body)) store) (sym is) (without_fits store small body (entry_of body))
  entry_fits trees (Loop row, (counts, first), is) little =
      subst (λ (ts : List (Plan AffineRank)). WayFits (trees_in ts (entry_of body)) store) (sym is) (counted_fits row counts little)

pub candidate_fits : (vars : ℕ) (body : Statements) (trees : List (Plan AffineRank)) → vars ≤ 15 → IsBody vars body → IsCandidate trees body
    → HasSmallFactors body → SmallWaysFit (trees_in trees (entry_of body))
candidate_fits vars body trees few sorted candidate little store small = entry_fits vars few body sorted store small trees candidate little
