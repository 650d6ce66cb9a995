-- How large the numbers are in the rows of the families that are made, and of how many steps their ranks speak.
use Rattle.std.proofs.Common.{◌≡◌, ⊎_elim, ℕ, zero, suc, ◌+◌, ◌-◌, ◌*◌, ◌<◌, ◌≤◌, true, false, List, [], ◌∷◌, All, length, sym, ap, ◌∙◌, arith}
use Rattle.std.proofs.Math.Nat.{le_refl, mul-le-mul, mul_comm}
use Rattle.std.proofs.lemmas.List.Elements.{All-head, All-tail}
use Rattle.step_meaning.specs.Counts.{HasNoLoop}
use Rattle.step_meaning.specs.Syntax.{Expression, Statements}
use Rattle.step_meaning.specs.Valid.{IsBody}
use Rattle.linear_cons.specs.Functions.{IsOver, substituted}
use Rattle.linear_cons.specs.Rows.{row_kind_of}
use Rattle.linear_cons.specs.Sizes.{total_size}
use Rattle.linear_cons.specs.declared.affine.Affine.{Affine}
use Rattle.linear_cons.specs.declared.bounds.Bounds.{Bounds}
use Rattle.linear_cons.specs.declared.row.Row.{Row}
use Rattle.linear_cons.specs.declared.row.RowKind.{RowKind}
use Rattle.linear_cons.specs.declared.row.RowKind.TheVariants.{Always, Never, Row as Kept}
use Rattle.linear_forms.specs.Duality.{EachOf}
use Rattle.linear_forms.specs.Spreading.{spread_of}
use Rattle.decision_tree.specs.declared.affine_rank.AffineRank.{AffineRank}
use Rattle.control_flow.specs.Actions.{IsSorted}
use Rattle.control_flow.specs.Fitting.{IsFitting}
use Rattle.control_flow.specs.Growth.{factor_at, greatest_of_conjunctions, greatest_of_tests, product_below, row_size}
use Rattle.control_flow.specs.Labels.{tests, action_at, all_labels}
use Rattle.control_flow.specs.Measures.{anywhere}
use Rattle.backward_transfer.specs.AffineShapes.{affine_ranks}
use Rattle.unroll.specs.Within.{IsSteps, IsWithin, place_by}
use Rattle.unroll.proofs.CountedRanks.{put_steps}
use Rattle.unroll.proofs.Growing.{below_more}
use Rattle.unroll.proofs.Keeping.{KindIs}
use Rattle.unroll.proofs.LevelSizes.{at_most_greatest}
use Rattle.unroll.proofs.Variables.{put_over, spread_over}
use Rattle.unroll.proofs.WithinRows.{conjunctions_within, put_within}
use Rattle.exact_families.proofs.Acting.{IsFair}
use Rattle.exact_families.proofs.Complete.{LeadsOn}
use Rattle.exact_families.proofs.Spreads.{spread_same}

-- ---- two properties of one row

kind_both : (P Q : Row → Type 0) (kind : RowKind) → KindIs P kind → KindIs Q kind → KindIs (λ row. P row × Q row) kind
kind_both P Q Always one two = tt
kind_both P Q Never one two = tt
kind_both P Q (Kept row) one two = (one, two)

rows_both : (P Q : Row → Type 0) (rows : List Row) → EachOf P rows → All Q rows → EachOf (λ row. P row × Q row) rows
rows_both P Q [] one two = tt
rows_both P Q (row ∷ rest) one two = ((one.0, All-head Q row rest two), rows_both P Q rest one.1 (All-tail Q row rest two))

lists_both : (P Q : Row → Type 0) (lists : List (List Row)) → EachOf (EachOf P) lists → All (All Q) lists → EachOf (EachOf (λ row. P row × Q row)) lists
lists_both P Q [] one two = tt
lists_both P Q (rows ∷ rest) one two =
    (rows_both P Q rows one.0 (All-head (All Q) rows rest two), lists_both P Q rest one.1 (All-tail (All Q) rows rest two))

module _ (body : Statements) (vars : ℕ) (few : vars ≤ 15) (valid : IsBody vars body) (fitting : IsFitting body) (loopless : HasNoLoop body) (bounds : ℕ → Bounds)
    (most : ℕ) (small : greatest_of_tests body * product_below (factor_at body) (length (all_labels body)) ≤ most) where
  abbrev count : ℕ
  count = length (all_labels body)

  abbrev pub below : ℕ → ℕ
  below k = product_below (factor_at body) k

  -- the end comes first, and then the labels from the greatest downward
  abbrev pub place : ℕ → ℕ
  place l = place_by false count l

  -- the row's numbers, times the factors of the assignments that it has yet to be moved over, are at most the number; it is over the variables
  abbrev pub RowAt : ℕ → Row → Type 0
  RowAt l row = IsWithin (below (place l)) most row × IsOver vars row.affine

  abbrev pub RankAt : ℕ → AffineRank → Type 0
  RankAt l rank = IsSteps (count - place l) rank

  -- behind the step of a label
  abbrev pub BehindAt : ℕ → AffineRank → Type 0
  BehindAt zero rank = ⊥
  BehindAt (suc l) rank = (suc l < count) × IsSteps (count - suc l - 1) rank

  -- ---- a target

  place_on : (l target : ℕ) → suc l < count → LeadsOn count (suc l) target → suc (suc l) ≤ place target
  place_on l zero low on = low
  place_on l (suc k) low on = ⊎_elim (λ none. absurd (cc)) (λ more. more) on.1

  pub within_less : (k next : ℕ) (row : Row) → next ≤ k → IsWithin k most row → IsWithin next most row
  within_less k next row less own = record {
    size = own.size;
    sizes = own.sizes;
    small = let least : own.size * next ≤ own.size * k = mul-le-mul (le_refl own.size) less in let enough = own.small in omega (arith, least, enough);
  }

  pub row_comes : (l target : ℕ) → suc l < count → LeadsOn count (suc l) target → (row : Row) → RowAt target row → RowAt (suc l) row
  row_comes l target low on row own =
      let more = place_on l target low on in
      (within_less (below (place target)) (below (suc l)) row (below_more body (suc l) (place target) (omega (arith, more))) own.0, own.1)

  pub rank_comes : (l target : ℕ) → suc l < count → LeadsOn count (suc l) target → (rank : AffineRank) → RankAt target rank → BehindAt (suc l) rank
  rank_comes l target low on rank own =
      let more = place_on l target low on in
      let enough = own.few in
      (low, record { steps = own.steps; few = omega (arith, more, enough); is = own.is })

  -- ---- an assignment

  pub put_small : (l : ℕ) (target : ℕ) → suc l < count → LeadsOn count (suc l) target → (by : Affine) → factor_at body (suc l) ≡ 1 + total_size by
      → (1 + total_size by) * below (suc l) ≤ below (place target)
  put_small l target low on by is =
      let more = below_more body (suc (suc l)) (place target) (place_on l target low on) in
      let turned : (1 + total_size by) * below (suc l) ≡ below (suc l) * factor_at body (suc l) = ap (λ t. t * below (suc l)) (sym is) ∙ mul_comm (factor_at body (suc l)) (below (suc l)) in
      omega (arith, more, turned)

  pub sets_suit : (l x target : ℕ) → x < 16 → suc l < count → LeadsOn count (suc l) target → (by : Affine) → factor_at body (suc l) ≡ 1 + total_size by → IsOver vars by
      → ((row : Row) → RowAt target row → KindIs (RowAt (suc l)) (row_kind_of (substituted row.affine x by)))
      × ((rank : AffineRank) → RankAt target rank → BehindAt (suc l) (affine_ranks.substituted rank x by))
  sets_suit l x target low_place low on by is over = (
    λ row own. kind_both (IsWithin (below (suc l)) most) (λ other. IsOver vars other.affine) (row_kind_of (substituted row.affine x by))
        (put_within x low_place by (below (suc l)) most row
        (within_less (below (place target)) ((1 + total_size by) * below (suc l)) row (put_small l target low on by is) own.0))
        (put_over vars row.affine x by own.1 over),
    λ rank own. let behind = rank_comes l target low on rank own in (low, put_steps x by low_place (count - suc l - 1) rank behind.1),
  )

  -- ---- a test

  pub test_suit : (l : ℕ) (c : Expression) (p q : ℕ) → IsFair c → IsSorted vars (tests false c p q) → row_size (action_at body (suc l)) ≡ greatest_of_conjunctions (spread_of anywhere c true)
      → suc l < count → EachOf (EachOf (RowAt (suc l))) (spread_of (bounds (suc l)) c true)
  test_suit l c p q fair sorted is low =
      let list : List (List Row) = spread_of (bounds (suc l)) c true in
      let size : ℕ = greatest_of_conjunctions (spread_of anywhere c true) in
      let own = at_most_greatest (λ label. row_size (action_at body label)) count (suc l) low in
      let same : greatest_of_conjunctions list ≡ size = ap greatest_of_conjunctions (spread_same (bounds (suc l)) anywhere c true fair.2 fair.3) in
      let enough : size * below (suc l) ≤ greatest_of_tests body * below count = mul-le-mul (omega (arith, own, is)) (below_more body (suc l) count (omega (arith, low))) in
      let within : size * below (suc l) ≤ most = omega (arith, enough, small) in
      lists_both (IsWithin (below (suc l)) most) (λ row. IsOver vars row.affine) list
      (conjunctions_within (below (suc l)) most size within list (omega (arith, same)))
      (spread_over vars (bounds (suc l)) c true sorted)
