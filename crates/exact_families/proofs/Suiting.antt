-- What is done at the labels of a program keeps numbers and ranks within their bounds; and forms trees before it within the limits.
use Rattle.std.specs.Prelude.{⊤}
use Rattle.std.proofs.Common.{◌≡◌, inl, inr, ℕ, zero, suc, ◌+◌, ◌-◌, ◌*◌, ◌^◌, ◌<◌, ◌≤◌, Bool, true, false, List, [], ◌∷◌, length, refl, sym, ap, subst, ◌∙◌, arith}
use Rattle.std.proofs.Math.Nat.{le_refl, mul-le-mul, mul-suc}
use Rattle.step_meaning.specs.Counts.{HasNoLoop}
use Rattle.step_meaning.specs.Countdown.{form_of}
use Rattle.step_meaning.specs.Syntax.{Expression, Statements, free, range, number, variable, truth, negative, negation, pair, divided}
use Rattle.step_meaning.specs.Valid.{IsBody, IsTest}
use Rattle.linear_cons.specs.Functions.{IsOver, NumbersFit, complement_of}
use Rattle.linear_cons.specs.Sizes.{total_size}
use Rattle.linear_cons.specs.declared.affine.Affine.{Affine}
use Rattle.linear_cons.specs.declared.bounds.Bounds.{Bounds}
use Rattle.linear_cons.specs.declared.bounds.Linear.{Linear}
use Rattle.linear_cons.specs.declared.row.Row.{Row}
use Rattle.linear_forms.specs.Duality.{EachOf}
use Rattle.linear_forms.specs.Spreading.{spread_of}
use Rattle.linear_forms.proofs.Exactness.{linear_exact}
use Rattle.decision_tree.specs.Plans.{Plan, leaf, size_of}
use Rattle.decision_tree.specs.declared.affine_rank.AffineRank.{AffineRank}
use Rattle.decision_tree.specs.declared.reason.Pick.TheVariants.{Yes, No}
use Rattle.decision_tree.specs.declared.reason.Why.{Why}
use Rattle.control_flow.specs.Actions.{IsSorted}
use Rattle.control_flow.specs.Fitting.{IsFitting}
use Rattle.control_flow.specs.Growth.{factor, factor_at, greatest_of_conjunctions, greatest_of_tests, product_below, row_size}
use Rattle.control_flow.specs.Labels.{Action, ends, assigns, passes, tests, action_at, all_labels}
use Rattle.control_flow.specs.Measures.{anywhere, leaves_asking, leaves_of_test, size_before, size_of_test}
use Rattle.control_flow.proofs.PlainActions.{sorted_as}
use Rattle.tree_unify.specs.Shapes.{leaf_met}
use Rattle.tree_unify.specs.declared.join.Join.TheVariants.{Later}
use Rattle.tree_support.specs.Setting.{Trees}
use Rattle.backward_transfer.specs.AffineShapes.{affine_ranks, assigned_shape, picked_shape, same_rank, stepped_shape, tested_shape}
use Rattle.backward_transfer.specs.Ranges.{later_of}
use Rattle.backward_transfer.specs.Steps.{stepped_by}
use Rattle.backward_transfer.proofs.Making.{trimmed_size}
use Rattle.backward_sweeps.specs.Moving.{nought}
use Rattle.unroll.specs.Levels.{RanksCount}
use Rattle.unroll.specs.Within.{AreWithin, EachIs, IsNarrow, IsSteps, IsWithin}
use Rattle.unroll.proofs.Bounding.{assigned_size, dual_later, dual_size, stepped_size}
use Rattle.unroll.proofs.CountedRanks.{Counts, met_each, more_fits, more_steps}
use Rattle.unroll.proofs.DualAsks.{IsAsked}
use Rattle.unroll.proofs.Growing.{below_some}
use Rattle.unroll.proofs.Keeping.{each_more}
use Rattle.unroll.proofs.KeptFits.{step_fits, trim_fits}
use Rattle.unroll.proofs.LaterSizes.{later_size}
use Rattle.unroll.proofs.SpreadRows.{spread_long}
use Rattle.unroll.proofs.Variables.{linear_over}
use Rattle.unroll.proofs.WithinRows.{turned_fits}
use Rattle.unroll.proofs.WithinTrees.{assigned_fits, stepped_fits, tested_fits}
use Rattle.exact_families.proofs.Acting.{IsFair, IsFittingAction, IsFreeOr, deed_of, deed_of_test}
use Rattle.exact_families.specs.Narrowness.{NoValue}
use Rattle.exact_families.proofs.Bounds.{RanksAre, RowsAre, Suits, by_each, or_each}
use Rattle.exact_families.proofs.Complete.{AreAfter, AtAfter, LeadsOn}
use Rattle.exact_families.proofs.Counting.{of_each}
use Rattle.exact_families.proofs.Deeds.{asks, before, before_free}
use Rattle.exact_families.proofs.Flowing.{asks_as}
use Rattle.exact_families.proofs.Measured.{BehindAt, RankAt, RowAt, below, place, put_small, rank_comes, row_comes, sets_suit, test_suit, within_less}
use Rattle.exact_families.proofs.Programs.{deeds, fits_at, program}
use Rattle.exact_families.proofs.Readying.{AreTestsReady, IsFreeReady, IsReady}
use Rattle.exact_families.proofs.Sizing.{by_size, either_size, some_nodes}
use Rattle.exact_families.proofs.Spreads.{spread_same}
use Rattle.exact_families.proofs.Turning.{Turns, either_fit}

-- ---- sizes

pub twice : (a b : ℕ) → 1 ≤ b → a * (b + 1) ≤ 4 * (a * b)
twice a b some =
    let least : a * 1 ≤ a * b = mul-le-mul (le_refl a) some in
    let next : suc b ≡ b + 1 = omega arith in
    let product : a * (b + 1) ≡ a * b + a = ap (λ k. a * k) (sym next) ∙ mul-suc a b in
    omega (arith, least, product)

pub at_most_product : (n a b x y : ℕ) → n ≤ 4 * (a * b) → a ≤ x → b ≤ y → n ≤ 4 * (x * y)
at_most_product n a b x y own first second = let more : a * b ≤ x * y = mul-le-mul first second in omega (arith, own, more)

counts_of : (most : ℕ) (P : Row → Type 0) (plan : Plan AffineRank) → RanksAre P (IsSteps most) plan → RanksCount plan
counts_of most P plan each =
    of_each plan (each_more P (λ row. ⊤) (λ why. IsSteps most) (λ why. Counts) (λ row own. tt) (λ why rank own. (own.steps, own.is)) plan each)

-- before a free test
free_size : (this that : Plan AffineRank) → RanksCount this → RanksCount that → size_of (tested_shape this that ([] ∷ []) ([] ∷ [])) ≤ 4 * (size_of this * size_of that)
free_size this that one two =
    let most = later_size this that one two in
    let less = stepped_size same_rank affine_ranks.one_more (later_of same_rank affine_ranks.where_greater affine_ranks.greater_fits this that) in
    omega (arith, most, less)

picked_size : (this that : Plan AffineRank) → size_of (picked_shape this that) ≤ 4 * (size_of this * size_of that)
picked_size this that =
    let first : Plan AffineRank = stepped_by same_rank affine_ranks.one_more Yes this in
    let second : Plan AffineRank = stepped_by same_rank affine_ranks.one_more No that in
    let whole = either_size first second in
    let one = by_size Yes this in
    let two = by_size No that in
    let more : size_of first * (size_of second + 1) ≤ size_of this * (size_of that + 1) = mul-le-mul one (omega (arith, two)) in
    let most = twice (size_of this) (size_of that) (some_nodes that) in
    omega (arith, whole, more, most)

-- before a test that isn't free
affine_size : (c : Expression) → (vars : ℕ) → IsTest vars c → (c ≡ free → ⊥) → (a b : ℕ) → size_of_test c a b ≡ 2 * (leaves_of_test c * (a + b + 1))
affine_size free vars sorted other a b = absurd (other refl)
affine_size (number z) vars sorted other a b = refl
affine_size (variable x) vars sorted other a b = refl
affine_size (range lo hi) vars sorted other a b = refl
affine_size (truth t) vars sorted other a b = refl
affine_size (negative e) vars sorted other a b = refl
affine_size (negation e) vars sorted other a b = refl
affine_size (pair op l r) vars sorted other a b = refl
affine_size (divided division e z) vars sorted other a b = refl

module _ (bounds : Bounds) (c : Expression) (fair : IsFair c) (this that : Plan AffineRank) where
  asked_size : size_of (tested_shape this that (spread_of bounds c true) (spread_of bounds c false)) + 1 ≤ leaves_of_test c * (size_of this + size_of that + 1)
  asked_size =
      let own = dual_size (spread_of bounds c true) (spread_of bounds c false) (spread_long bounds c true) (asks_as bounds c fair) same_rank affine_ranks.where_greater
      affine_ranks.greater_fits affine_ranks.one_more this that in
      let same : leaves_asking (spread_of bounds c true) ≡ leaves_of_test c = ap leaves_asking (spread_same bounds anywhere c true fair.2 fair.3) in
      subst (λ n. size_of (tested_shape this that (spread_of bounds c true) (spread_of bounds c false)) + 1 ≤ n * (size_of this + size_of that + 1)) same own

  pub asked_most : (a b : ℕ) → size_of this ≤ a → size_of that ≤ b
      → size_of (tested_shape this that (spread_of bounds c true) (spread_of bounds c false)) ≤ 2 * (leaves_of_test c * (a + b + 1))
  asked_most a b one two =
      let own = asked_size in
      let more : leaves_of_test c * (size_of this + size_of that + 1) ≤ leaves_of_test c * (a + b + 1) = mul-le-mul (le_refl (leaves_of_test c)) (omega (arith, one, two)) in
      omega (arith, own, more)

-- the tree before what is done, by the sizes of those behind it
module _ (bounds : Bounds) (all : Bool) (trees : Trees AffineRank) (Z : ℕ → ℕ) where
  abbrev Small : ℕ → Type 0
  Small t = (size_of (trees t) ≤ Z t) × RanksCount (trees t)

  free_before : (all : Bool) (p q : ℕ) → Small p → Small q → size_of (before_free all (trees p) (trees q)) ≤ 4 * (Z p * Z q)
  free_before true p q one two =
      let less = trimmed_size same_rank [] (stepped_shape (later_of same_rank affine_ranks.where_greater affine_ranks.greater_fits (trees p) (trees q))) in
      let own = free_size (trees p) (trees q) one.1 two.1 in
      at_most_product _ (size_of (trees p)) (size_of (trees q)) (Z p) (Z q) (omega (arith, less, own)) one.0 two.0
  free_before false p q one two =
      let less = trimmed_size same_rank [] (picked_shape (trees p) (trees q)) in
      let own = picked_size (trees p) (trees q) in
      at_most_product _ (size_of (trees p)) (size_of (trees q)) (Z p) (Z q) (omega (arith, less, own)) one.0 two.0

  asked_before : (c : Expression) → IsFair c → (p q : ℕ) → Small p → Small q
      → size_of (before all (asks (spread_of bounds c true) (spread_of bounds c false) p q) trees) ≤ 2 * (leaves_of_test c * (Z p + Z q + 1))
  asked_before c fair p q one two =
      let less = trimmed_size same_rank [] (tested_shape (trees p) (trees q) (spread_of bounds c true) (spread_of bounds c false)) in
      let own = asked_most bounds c fair (trees p) (trees q) (Z p) (Z q) one.0 two.0 in
      omega (arith, less, own)

  test_before : (c : Expression) (p q : ℕ) → IsFreeOr c (IsFair c) → AtAfter (deed_of_test bounds c p q) Small
      → size_of (before all (deed_of_test bounds c p q) trees) ≤ size_of_test c (Z p) (Z q)
  test_before free p q fair each = free_before all p q each.0 each.1
  test_before (truth b) p q fair each = asked_before (truth b) fair p q each.0 each.1
  test_before (negation c) p q fair each = asked_before (negation c) fair p q each.0 each.1
  test_before (pair op l r) p q fair each = asked_before (pair op l r) fair p q each.0 each.1
  test_before (number z) p q fair each = absurd fair.2
  test_before (variable x) p q fair each = absurd fair.2
  test_before (range lo hi) p q fair each = absurd fair.2
  test_before (negative e) p q fair each = absurd fair.2
  test_before (divided division e b) p q fair each = absurd fair.2

  pub size_most : (action : Action) → IsFittingAction action → AtAfter (deed_of bounds action) Small
      → size_of (before all (deed_of bounds action) trees) ≤ size_before Z action
  size_most ends fit each = omega arith
  size_most (assigns x e next) fit each =
      let less = trimmed_size same_rank [] (assigned_shape x (form_of e) (trees next)) in
      let own = assigned_size same_rank affine_ranks.substituted affine_ranks.one_more x (form_of e) (trees next) in
      let small = each.0 in
      omega (arith, less, own, small)
  size_most (passes next) fit each =
      let less = trimmed_size same_rank [] (stepped_shape (trees next)) in
      let own = stepped_size same_rank affine_ranks.one_more (trees next) in
      let small = each.0 in
      omega (arith, less, own, small)
  size_most (tests head c p q) fit each = test_before c p q fit each

module _ (body : Statements) (vars : ℕ) (few : vars ≤ 15) (valid : IsBody vars body) (fitting : IsFitting body) (loopless : HasNoLoop body) (bounds : ℕ → Bounds)
    (most : ℕ) (small : greatest_of_tests body * product_below (factor_at body) (length (all_labels body)) ≤ most) (most_small : most ≤ 2 ^ 100)
    (short : length (all_labels body) ≤ 1024) where
  abbrev count : ℕ
  count = length (all_labels body)

  abbrev pub Rows : ℕ → Row → Type 0
  Rows = RowAt body vars few valid fitting loopless bounds most small

  abbrev pub Ranks : ℕ → AffineRank → Type 0
  Ranks = RankAt body vars few valid fitting loopless bounds most small

  abbrev pub Behind : ℕ → AffineRank → Type 0
  Behind = BehindAt body vars few valid fitting loopless bounds most small

  abbrev pub factors : ℕ → ℕ
  factors = below body vars few valid fitting loopless bounds most small

  -- ---- what is done suits them

  test_suits : (l : ℕ) (head : Bool) (c : Expression) (p q : ℕ) → suc l < count → IsFreeOr c (IsFair c)
      → (IsFair c → IsAsked (Rows (suc l)) (spread_of (bounds (suc l)) c true) (spread_of (bounds (suc l)) c false))
      → AreAfter count (suc l) (deed_of_test (bounds (suc l)) c p q) → Suits Rows Ranks Behind (suc l) (deed_of_test (bounds (suc l)) c p q)
  test_suits l head free p q low fair asked on = (
    (row_comes body vars few valid fitting loopless bounds most small l p low on.0, rank_comes body vars few valid fitting loopless bounds most small l p low on.0),
    (row_comes body vars few valid fitting loopless bounds most small l q low on.1, rank_comes body vars few valid fitting loopless bounds most small l q low on.1),
  )
  test_suits l head (truth b) p q low fair asked on = (
    asked fair,
    (row_comes body vars few valid fitting loopless bounds most small l p low on.0, rank_comes body vars few valid fitting loopless bounds most small l p low on.0),
    (row_comes body vars few valid fitting loopless bounds most small l q low on.1, rank_comes body vars few valid fitting loopless bounds most small l q low on.1),
  )
  test_suits l head (negation c) p q low fair asked on = (
    asked fair,
    (row_comes body vars few valid fitting loopless bounds most small l p low on.0, rank_comes body vars few valid fitting loopless bounds most small l p low on.0),
    (row_comes body vars few valid fitting loopless bounds most small l q low on.1, rank_comes body vars few valid fitting loopless bounds most small l q low on.1),
  )
  test_suits l head (pair op a b) p q low fair asked on = (
    asked fair,
    (row_comes body vars few valid fitting loopless bounds most small l p low on.0, rank_comes body vars few valid fitting loopless bounds most small l p low on.0),
    (row_comes body vars few valid fitting loopless bounds most small l q low on.1, rank_comes body vars few valid fitting loopless bounds most small l q low on.1),
  )
  test_suits l head (number z) p q low fair asked on = absurd fair.2
  test_suits l head (variable x) p q low fair asked on = absurd fair.2
  test_suits l head (range lo hi) p q low fair asked on = absurd fair.2
  test_suits l head (negative e) p q low fair asked on = absurd fair.2
  test_suits l head (divided division e b) p q low fair asked on = absurd fair.2

  rows_asked : (l : ℕ) (head : Bool) (c : Expression) (p q : ℕ) → suc l < count → IsSorted vars (tests head c p q)
      → row_size (action_at body (suc l)) ≡ greatest_of_conjunctions (spread_of anywhere c true) → IsFair c
      → IsAsked (Rows (suc l)) (spread_of (bounds (suc l)) c true) (spread_of (bounds (suc l)) c false)
  rows_asked l head c p q low sorted is fair = inr (record {
    long = spread_long (bounds (suc l)) c true;
    dual = asks_as (bounds (suc l)) c fair;
    rows = test_suit body vars few valid fitting loopless bounds most small l c p q fair sorted is low;
  })

  form_over : (l : ℕ) (e : Expression) (x next : ℕ) → IsFittingAction (assigns x e next) → IsSorted vars (assigns x e next) → IsOver vars (form_of e)
  form_over l e x next fit sorted =
      subst (λ (form : Linear). IsOver vars form.affine) (linear_exact (bounds (suc l)) e fit.1 fit.2) (linear_over vars (bounds (suc l)) e sorted.1)

  suits_as : (l : ℕ) → suc l < count → (action : Action) → action ≡ action_at body (suc l) → IsFittingAction action
      → AreAfter count (suc l) (deed_of (bounds (suc l)) action) → Suits Rows Ranks Behind (suc l) (deed_of (bounds (suc l)) action)
  suits_as l low ends is fit on = tt
  suits_as l low (assigns x e next) is fit on =
      sets_suit body vars few valid fitting loopless bounds most small l x next fit.0 low on (form_of e) (ap factor (sym is))
      (form_over l e x next fit (sorted_as body vars few valid fitting.plain (suc l) low (assigns x e next) is))
  suits_as l low (passes next) is fit on =
      (row_comes body vars few valid fitting loopless bounds most small l next low on, rank_comes body vars few valid fitting loopless bounds most small l next low on)
  suits_as l low (tests head c p q) is fit on =
      test_suits l head c p q low fit
      (rows_asked l head c p q low (sorted_as body vars few valid fitting.plain (suc l) low (tests head c p q) is) (ap row_size (sym is))) on

  pub after_at : (l : ℕ) → l < count → AreAfter count l (deeds body vars few valid fitting bounds l)
  after_at = (program body vars few valid fitting bounds loopless).after

  pub suits_at : (l : ℕ) → l < count → Suits Rows Ranks Behind l (deeds body vars few valid fitting bounds l)
  suits_at zero low = tt
  suits_at (suc l) low = suits_as l low (action_at body (suc l)) refl (fits_at body vars few valid fitting (suc l)) (after_at (suc l) low)

  pub fresh_at : (l : ℕ) → Ranks l nought
  fresh_at l = record { steps = 0; few = omega arith; is = refl }

  pub more_at : (l : ℕ) (rank : AffineRank) → Behind l rank → Ranks l (affine_ranks.one_more rank)
  more_at zero rank own = absurd own
  more_at (suc l) rank own =
      let more = more_steps (count - suc l - 1) rank own.1 in
      let low = own.0 in
      let enough = more.few in
      record { steps = more.steps; few = omega (arith, enough, low); is = more.is }

  pub met_at : (l : ℕ) (why other : Why) (rank next : AffineRank) → Behind l rank → Behind l next
      → RanksAre (Rows l) (Behind l) (leaf_met same_rank affine_ranks.where_greater affine_ranks.greater_fits Later (leaf why rank) (leaf other next))
  met_at zero why other rank next one two = absurd one
  met_at (suc l) why other rank next one two =
      met_each (Rows (suc l)) (λ why. Behind (suc l)) why other rank next (one.1.steps, one.1.is) (two.1.steps, two.1.is) one two

  -- ---- what is formed on the way fits, and is small

  narrow : (l : ℕ) → IsNarrow (factors (suc l)) most (count - suc l - 1)
  narrow l = record { some = below_some body (suc l); small = most_small; few = omega (arith, short) }

  pub turns_at : (l : ℕ) (row : Row) → Rows l row → Turns row
  turns_at l row own = turned_fits (factors (place body vars few valid fitting loopless bounds most small l)) most (below_some body (place body vars few valid fitting loopless bounds most small l)) most_small row own.0

  module _ (l : ℕ) (low : suc l < count) (trees : Trees AffineRank) (Z : ℕ → ℕ) where
    abbrev pub Fine : ℕ → Type 0
    Fine t = RanksAre (Rows t) (Ranks t) (trees t) × (size_of (trees t) ≤ Z t)

    counts : (t : ℕ) → Fine t → RanksCount (trees t)
    counts t own = counts_of (count - place body vars few valid fitting loopless bounds most small t) (Rows t) (trees t) own.0

    -- a target's tree as it stands behind the step
    comes_within : (t : ℕ) → LeadsOn count (suc l) t → Fine t → AreWithin (factors (suc l)) most (count - suc l - 1) (trees t)
    comes_within t on own =
        each_more (Rows t) (IsWithin (factors (suc l)) most) (λ why. Ranks t) (λ why. IsSteps (count - suc l - 1))
        (λ row has. (row_comes body vars few valid fitting loopless bounds most small l t low on row has).0)
        (λ why rank has. (rank_comes body vars few valid fitting loopless bounds most small l t low on rank has).1) (trees t) own.0

    puts_within : (t : ℕ) (by : Affine) → LeadsOn count (suc l) t → factor_at body (suc l) ≡ 1 + total_size by → Fine t
        → AreWithin ((1 + total_size by) * factors (suc l)) most (count - suc l - 1) (trees t)
    puts_within t by on is own =
        each_more (Rows t) (IsWithin ((1 + total_size by) * factors (suc l)) most) (λ why. Ranks t) (λ why. IsSteps (count - suc l - 1))
        (λ row has. within_less body vars few valid fitting loopless bounds most small (factors (place body vars few valid fitting loopless bounds most small t))
        ((1 + total_size by) * factors (suc l)) row (put_small body vars few valid fitting loopless bounds most small l t low on by is) has.0)
        (λ why rank has. (rank_comes body vars few valid fitting loopless bounds most small l t low on rank has).1) (trees t) own.0

    asked_ready : (c : Expression) → IsFair c → (p q : ℕ) → IsAsked (Rows (suc l)) (spread_of (bounds (suc l)) c true) (spread_of (bounds (suc l)) c false)
        → LeadsOn count (suc l) p → LeadsOn count (suc l) q → Fine p → Fine q → 2 * (leaves_of_test c * (Z p + Z q + 1)) ≤ 65536
        → AreTestsReady (trees p) (trees q) (spread_of (bounds (suc l)) c true) (spread_of (bounds (suc l)) c false)
    asked_ready c fair p q asked one two first second enough =
        let holds = spread_of (bounds (suc l)) c true in
        let fails = spread_of (bounds (suc l)) c false in
        let most_nodes = asked_most (bounds (suc l)) c fair (trees p) (trees q) (Z p) (Z q) first.1 second.1 in (
          tested_fits (factors (suc l)) most (count - suc l - 1) (trees p) (trees q) (comes_within p one first) (comes_within q two second) holds fails
              (less_asked holds fails asked) (narrow l),
          (
            dual_later holds fails (spread_long (bounds (suc l)) c true) (asks_as (bounds (suc l)) c fair) same_rank affine_ranks.where_greater affine_ranks.greater_fits
                affine_ranks.one_more (trees p) (trees q),
            omega (arith, most_nodes, enough),
          ),
        )
      where
        rows_less : (rows : List Row) → EachOf (Rows (suc l)) rows → EachOf (IsWithin (factors (suc l)) most) rows
        rows_less [] each = tt
        rows_less (row ∷ rest) each = (each.0.0, rows_less rest each.1)

        lists_less : (list : List (List Row)) → EachOf (EachOf (Rows (suc l))) list → EachOf (EachOf (IsWithin (factors (suc l)) most)) list
        lists_less [] each = tt
        lists_less (rows ∷ rest) each = (rows_less rows each.0, lists_less rest each.1)

        less_asked : (holds fails : List (List Row)) → IsAsked (Rows (suc l)) holds fails → IsAsked (IsWithin (factors (suc l)) most) holds fails
        less_asked holds fails (inl is) = inl is
        less_asked holds fails (inr exact) = inr (record { long = exact.long; dual = exact.dual; rows = lists_less holds exact.rows })

    free_ready : (all : Bool) (p q : ℕ) → LeadsOn count (suc l) p → LeadsOn count (suc l) q → Fine p → Fine q → 4 * (Z p * Z q) ≤ 65536
        → IsFreeReady all (trees p) (trees q)
    free_ready true p q one two first second enough =
        let later = later_size (trees p) (trees q) (counts p first) (counts q second) in
        let whole = free_size (trees p) (trees q) (counts p first) (counts q second) in
        let most_later = at_most_product _ (size_of (trees p)) (size_of (trees q)) (Z p) (Z q) later first.1 second.1 in
        let most_whole = at_most_product _ (size_of (trees p)) (size_of (trees q)) (Z p) (Z q) whole first.1 second.1 in (
          tested_fits (factors (suc l)) most (count - suc l - 1) (trees p) (trees q) (comes_within p one first) (comes_within q two second) ([] ∷ []) ([] ∷ [])
              (inl (refl, refl)) (narrow l),
          (omega (arith, most_later, enough), omega (arith, most_whole, enough)),
        )
    free_ready false p q one two first second enough =
        let this = trees p in
        let that = trees q in
        let here : AreWithin (factors (suc l)) most (count - suc l - 1) this = comes_within p one first in
        let there : AreWithin (factors (suc l)) most (count - suc l - 1) that = comes_within q two second in
        let P : Row → Type 0 = IsWithin (factors (suc l)) most in
        let Out : Why → AffineRank → Type 0 = λ why rank. NoValue why × IsSteps (suc (count - suc l - 1)) rank in
        let yes : EachIs P Out (stepped_by same_rank affine_ranks.one_more Yes this) =
        by_each P (IsSteps (count - suc l - 1)) (IsSteps (suc (count - suc l - 1))) (more_steps (count - suc l - 1)) Yes tt this here in
        let no : EachIs P Out (stepped_by same_rank affine_ranks.one_more No that) =
        by_each P (IsSteps (count - suc l - 1)) (IsSteps (suc (count - suc l - 1))) (more_steps (count - suc l - 1)) No tt that there in
        let turn : (row : Row) → P row → NumbersFit (complement_of row.affine) = turned_fits (factors (suc l)) most (below_some body (suc l)) most_small in
        let turns : (plan : Plan AffineRank) → EachIs P Out plan → RowsAre Turns plan = each_more P Turns Out (λ why rank. ⊤) turn (λ why rank own. tt) in
        let one_size = by_size Yes this in
        let two_size = by_size No that in
        let some_one = some_nodes this in
        let some_two = some_nodes that in
        let whole = picked_size this that in
        let least_one : size_of this * 1 ≤ size_of this * size_of that = mul-le-mul (le_refl (size_of this)) some_two in
        let least_two : 1 * size_of that ≤ size_of this * size_of that = mul-le-mul some_one (le_refl (size_of that)) in
        let product : size_of this * size_of that ≤ Z p * Z q = mul-le-mul first.1 second.1 in (
          (
            (
              step_fits P (λ why. IsSteps (count - suc l - 1)) affine_ranks.add_one_fits (λ why. more_fits (count - suc l - 1) (narrow l).few) this here,
              step_fits P (λ why. IsSteps (count - suc l - 1)) affine_ranks.add_one_fits (λ why. more_fits (count - suc l - 1) (narrow l).few) that there,
              either_fit (stepped_by same_rank affine_ranks.one_more Yes this) (stepped_by same_rank affine_ranks.one_more No that) (turns _ yes) (turns _ no),
            ),
            trim_fits P Out same_rank turn [] (picked_shape this that) (or_each P Out _ _ yes no),
          ),
          (omega (arith, one_size, least_one, product, enough), omega (arith, two_size, least_two, product, enough), omega (arith, whole, product, enough)),
        )

    test_ready : (all : Bool) (c : Expression) (p q : ℕ) → IsFreeOr c (IsFair c)
        → (IsFair c → IsAsked (Rows (suc l)) (spread_of (bounds (suc l)) c true) (spread_of (bounds (suc l)) c false))
        → AreAfter count (suc l) (deed_of_test (bounds (suc l)) c p q) → AtAfter (deed_of_test (bounds (suc l)) c p q) Fine → size_of_test c (Z p) (Z q) ≤ 65536
        → IsReady all (deed_of_test (bounds (suc l)) c p q) trees
    test_ready all free p q fair asked on each enough = free_ready all p q on.0 on.1 each.0 each.1 enough
    test_ready all (truth b) p q fair asked on each enough = asked_ready (truth b) fair p q (asked fair) on.0 on.1 each.0 each.1 enough
    test_ready all (negation c) p q fair asked on each enough = asked_ready (negation c) fair p q (asked fair) on.0 on.1 each.0 each.1 enough
    test_ready all (pair op a b) p q fair asked on each enough = asked_ready (pair op a b) fair p q (asked fair) on.0 on.1 each.0 each.1 enough
    test_ready all (number z) p q fair asked on each enough = absurd fair.2
    test_ready all (variable x) p q fair asked on each enough = absurd fair.2
    test_ready all (range lo hi) p q fair asked on each enough = absurd fair.2
    test_ready all (negative e) p q fair asked on each enough = absurd fair.2
    test_ready all (divided division e b) p q fair asked on each enough = absurd fair.2

    ready_deed : (all : Bool) (action : Action) → action ≡ action_at body (suc l) → IsFittingAction action → AreAfter count (suc l) (deed_of (bounds (suc l)) action)
        → AtAfter (deed_of (bounds (suc l)) action) Fine → size_before Z action ≤ 65536 → IsReady all (deed_of (bounds (suc l)) action) trees
    ready_deed all ends is fit on each enough = tt
    ready_deed all (assigns x e next) is fit on each enough =
        let own = assigned_size same_rank affine_ranks.substituted affine_ranks.one_more x (form_of e) (trees next) in
        let less = each.1 in (
          assigned_fits (factors (suc l)) most (count - suc l - 1) x fit.0 (form_of e) (narrow l) (trees next)
              (puts_within next (form_of e) on (ap factor (sym is)) each),
          omega (arith, own, less, enough),
        )
    ready_deed all (passes next) is fit on each enough =
        let own = stepped_size same_rank affine_ranks.one_more (trees next) in
        let less = each.1 in
        (stepped_fits (factors (suc l)) most (count - suc l - 1) (narrow l) (trees next) (comes_within next on each), omega (arith, own, less, enough))
    ready_deed all (tests head c p q) is fit on each enough =
        test_ready all c p q fit (rows_asked l head c p q low (sorted_as body vars few valid fitting.plain (suc l) low (tests head c p q) is) (ap row_size (sym is))) on each enough

    pub ready_at : (all : Bool) → AtAfter (deeds body vars few valid fitting bounds (suc l)) Fine → size_before Z (action_at body (suc l)) ≤ 65536
        → IsReady all (deeds body vars few valid fitting bounds (suc l)) trees
    ready_at all each enough =
        ready_deed all (action_at body (suc l)) refl (fits_at body vars few valid fitting (suc l)) (after_at (suc l) low) each enough
