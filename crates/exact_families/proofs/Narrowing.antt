-- The trees that are proposed in a program without loops stay within the sizes that the program and the formula tell, so none is given up.
use Rattle.std.specs.Prelude.{⊤}
use Rattle.std.proofs.Common.{◌≡◌, ◌⊎◌, inl, inr, ⊎_elim, ℕ, zero, suc, ◌+◌, ◌-◌, ◌*◌, ◌^◌, ◌<◌, ◌≤◌, max, Bool, true, false, List, None, Some, length, refl, sym, ap, subst, ◌∙◌, arith}
use Rattle.std.proofs.Math.Nat.{le_refl, mul-le-mul, mul_assoc, mul_comm}
use Rattle.step_meaning.specs.Counts.{HasNoLoop}
use Rattle.step_meaning.specs.Syntax.{Statements}
use Rattle.step_meaning.specs.Valid.{IsBody}
use Rattle.linear_cons.specs.Functions.{IsOver}
use Rattle.linear_cons.specs.declared.affine.Affine.{Affine}
use Rattle.linear_cons.specs.declared.row.Row.{Row}
use Rattle.decision_tree.specs.Plans.{Plan, bottom, branch, size_of}
use Rattle.decision_tree.specs.declared.affine_rank.AffineRank.{AffineRank}
use Rattle.decision_tree.specs.declared.reason.Pick.TheVariants.{All as Every}
use Rattle.decision_tree.specs.declared.reason.Why.{Why}
use Rattle.decision_tree.specs.declared.reason.Why.TheVariants.{Atom, Both, Dead as NeverReached, Left, Now, Right, Step}
use Rattle.control_flow.specs.Fitting.{IsFitting}
use Rattle.control_flow.specs.Growth.{factor_at, greatest_of_tests, greatest_number, product_below}
use Rattle.control_flow.specs.Labels.{action_at, all_labels}
use Rattle.control_flow.specs.Measures.{size_before}
use Rattle.control_flow.specs.Told.{Told}
use Rattle.control_flow.specs.Transitions.{AreTold, first_target, second_target, transition_in}
use Rattle.control_flow.specs.declared.transition.Transition.{Transition}
use Rattle.control_flow.specs.declared.transition.Transition.TheVariants.{End}
use Rattle.ctl_formula.specs.declared.formula.Formula.{Formula, Not', And', Or', Next', Until', Weak'}
use Rattle.ctl_formula.specs.declared.formula.Formula.TheVariants.{True, False, Exit, NotExit, Holds}
use Rattle.normal_form.specs.Rows.{RowsAreOver}
use Rattle.ctl_formula.specs.Formulas.{Ctl, truth, falsity, exit, not_exit, always, never, least, negation, both, either, next, until, weak}
use Rattle.ctl_formula.specs.Mirror.{ctl}
use Rattle.backward_transfer.specs.AffineShapes.{tree_at}
use Rattle.backward_sweeps.specs.Claiming.{claimed, reranked}
use Rattle.backward_sweeps.specs.Moving.{at_once}
use Rattle.backward_sweeps.specs.Remaking.{BothFit, EitherFits, IsTop, IsMadeSmall, MadeFits, RemadeFits, IsRemadeSmall, StartFits, both_of, either_of, goal_at, keep_at, made, started}
use Rattle.part_trees.specs.Local.{end_tree, going_tree, met}
use Rattle.part_trees.specs.Proposed.{AreProposed, until_of}
use Rattle.tree_support.specs.Setting.{Trees}
use Rattle.unroll.specs.Levels.{RanksCount}
use Rattle.linear_cons.specs.Sizes.{SizesAtMost}
use Rattle.linear_cons.specs.declared.row.RowKind.TheVariants.{Always, Never, Row as Kept}
use Rattle.unroll.specs.Within.{place_by}
use Rattle.unroll.proofs.CountedRanks.{Counts}
use Rattle.unroll.proofs.Growing.{below_more}
use Rattle.unroll.proofs.Keeping.{each_more}
use Rattle.unroll.proofs.LevelSizes.{at_most_greatest}
use Rattle.unroll.proofs.WithinRows.{greatest_numbers}
use Rattle.exact_families.specs.Completeness.{EachPart, two_parts}
use Rattle.formula_measures.specs.Measures.{AreSizesWithin, IsSizeWithin, ctl_growth, next_size, part_size, until_size}
use Rattle.exact_families.specs.Narrowness.{NoValue}
use Rattle.exact_families.proofs.Bounded.{AtomIs, again, keeping, label_at, anew, stepped_at}
use Rattle.exact_families.proofs.Bounds.{EachAre, RanksAre, RowsAre, claimed_each, meet_each, ranks_only, rows_only}
use Rattle.exact_families.proofs.Complete.{AtAfter, LeadsOn, AreAfter, upward}
use Rattle.exact_families.proofs.Counting.{of_each}
use Rattle.exact_families.proofs.Deeds.{Deed, IsMadeAt, asks, before as before_deed, finishes, frees, passes as goes, sets}
use Rattle.exact_families.proofs.Programs.{deeds, fits_at}
use Rattle.exact_families.proofs.Proposing.{IsHeldAt, IsKeptTop, IsNextTop, IsSweptTop, dead_is, goal_is, keep_is, made_at, never_top, proposed_held, start_is, started_is, told_over}
use Rattle.exact_families.proofs.Readying.{IsReached, IsReadyFor, end_is_ready, ready_as}
use Rattle.exact_families.proofs.Sizing.{both_size, either_size, some_nodes, taken_size}
use Rattle.exact_families.proofs.Suiting.{Behind, Ranks, Rows, after_at, fresh_at, met_at, more_at, ready_at, size_most, suits_at, turns_at, twice}
use Rattle.exact_families.proofs.Transiting.{reached_as, reached_by}
use Rattle.exact_families.proofs.Turning.{Turns, both_fit, either_fit}
use Rattle.exact_families.proofs.Whole.{IsMade}

-- ---- how large a tree is that is made of three

module _ (n m a k s G K B : ℕ) (whole : n + 1 ≤ a * (m + 1)) (middle : m + 1 ≤ k * (s + 1)) (goal : a ≤ G) (keep : k ≤ K) (step : s ≤ B) (some_a : 1 ≤ a) (some_s : 1 ≤ s) where
  kept_most : m + 1 ≤ 4 * (K * B)
  kept_most =
      let more : k * (s + 1) ≤ K * (B + 1) = mul-le-mul keep (omega (arith, step)) in
      let most = twice K B (omega (arith, some_s, step)) in
      omega (arith, middle, more, most)

  product_is : G * (4 * (K * B)) ≡ 4 * (K * G * B)
  product_is =
      mul_comm G (4 * (K * B)) ∙ mul_assoc 4 (K * B) G
      ∙ ap (λ n. 4 * n) (mul_assoc K B G ∙ ap (λ n. K * n) (mul_comm B G) ∙ sym (mul_assoc K G B))

  pub made_most : n ≤ 16 * (K * G * B)
  made_most =
      let more : a * (m + 1) ≤ G * (4 * (K * B)) = mul-le-mul goal kept_most in
      let same = product_is in
      omega (arith, whole, more, same)

  pub middle_most : m ≤ 16 * (K * G * B)
  middle_most =
      let own = kept_most in
      let least : 1 * (4 * (K * B)) ≤ G * (4 * (K * B)) = mul-le-mul (omega (arith, some_a, goal)) (le_refl (4 * (K * B))) in
      let same = product_is in
      omega (arith, own, least, same)

-- and of two
pub joined_most : (n a b x y : ℕ) → n + 1 ≤ a * (b + 1) → 1 ≤ b → a ≤ x → b ≤ y → n ≤ 4 * (x * y)
joined_most n a b x y own some first second =
    let more : a * (b + 1) ≤ x * (y + 1) = mul-le-mul first (omega (arith, second)) in
    let most = twice x y (omega (arith, some, second)) in
    omega (arith, own, more, most)

some_product : (a b : ℕ) → 1 ≤ a → 1 ≤ b → 1 ≤ a * b
some_product a b one two = let more : 1 * 1 ≤ a * b = mul-le-mul one two in omega (arith, more)

-- ---- the sizes of a formula

own_size : (body : Statements) (f : Ctl) → AreSizesWithin 4096 body f → IsSizeWithin 4096 body f
own_size body truth sizes = sizes
own_size body falsity sizes = sizes
own_size body exit sizes = sizes
own_size body not_exit sizes = sizes
own_size body always sizes = sizes
own_size body never sizes = sizes
own_size body (least a) sizes = sizes
own_size body (negation f) sizes = sizes.0
own_size body (both f g) sizes = sizes.0
own_size body (either f g) sizes = sizes.0
own_size body (next all f) sizes = sizes.0
own_size body (until all f g) sizes = sizes.0
own_size body (weak all f g) sizes = sizes.0

pub size_at : (body : Statements) (f : Ctl) → AreSizesWithin 4096 body f → (l : ℕ) → l < length (all_labels body) → part_size body f l ≤ 4096
size_at body f sizes l low =
    let most = at_most_greatest (part_size body f) (length (all_labels body)) l low in let own = own_size body f sizes in omega (arith, most, own)

module _ (body : Statements) (vars : ℕ) (few : vars ≤ 15) (valid : IsBody vars body) (fitting : IsFitting body) (loopless : HasNoLoop body) (told : Told)
    (transitions : List Transition) (same : length transitions ≡ length (all_labels body)) (told_are : AreTold body told transitions)
    (short : length (all_labels body) ≤ 1024) (largest : ℕ) (small : greatest_of_tests body * product_below (factor_at body) (length (all_labels body)) ≤ largest)
    (most_small : largest ≤ 2 ^ 100) (first second trees : List (Plan AffineRank)) where
  abbrev n : ℕ
  n = length (all_labels body)

  abbrev done : ℕ → Deed
  done = deeds body vars few valid fitting told.bounds

  abbrev parts : ℕ → Trees AffineRank
  parts = two_parts first second

  abbrev family : Trees AffineRank
  family l = tree_at trees l

  abbrev R : ℕ → Row → Type 0
  R = Rows body vars few valid fitting loopless told.bounds largest small most_small short

  abbrev Q : ℕ → AffineRank → Type 0
  Q = Ranks body vars few valid fitting loopless told.bounds largest small most_small short

  abbrev B : ℕ → AffineRank → Type 0
  B = Behind body vars few valid fitting loopless told.bounds largest small most_small short

  pub after : (l : ℕ) → l < n → AreAfter n l (done l)
  after = after_at body vars few valid fitting loopless told.bounds largest small most_small short

  turns : (l : ℕ) (plan : Plan AffineRank) → RowsAre (R l) plan → RowsAre Turns plan
  turns l plan each =
      each_more (R l) Turns (λ why rank. ⊤) (λ why rank. ⊤) (turns_at body vars few valid fitting loopless told.bounds largest small most_small short l) (λ why rank own. tt) plan each

  -- what is known of the families of the parts, and of this one
  abbrev Part : (ℕ → ℕ) → Trees AffineRank → Type 0
  Part Z part = (l : ℕ) → l < n → EachAre (R l) (Q l) (part l) × (size_of (part l) ≤ Z l)

  rows_of : (Z : ℕ → ℕ) (part : Trees AffineRank) → Part Z part → (l : ℕ) → l < n → RowsAre (R l) (part l)
  rows_of Z part own l low = rows_only (R l) (Q l) (part l) (own l low).0

  rerank_rows : (Z : ℕ → ℕ) (part : Trees AffineRank) → Part Z part → (l : ℕ) → l < n → RowsAre (R l) (reranked (part l))
  rerank_rows Z part own l low =
      keeping n done told.dead after R Q B (suits_at body vars few valid fitting loopless told.bounds largest small most_small short)
      (fresh_at body vars few valid fitting loopless told.bounds largest small most_small short)
      (more_at body vars few valid fitting loopless told.bounds largest small most_small short)
      (met_at body vars few valid fitting loopless told.bounds largest small most_small short) part (rows_of Z part own) l low

  claim_rows : (why : Why) → NoValue why → (Z : ℕ → ℕ) (part : Trees AffineRank) → Part Z part → (l : ℕ) → l < n → RowsAre (R l) (claimed why (part l))
  claim_rows why plain Z part own l low =
      rows_only (R l) (Q l) (claimed why (part l))
      (anew n done told.dead after R Q B (suits_at body vars few valid fitting loopless told.bounds largest small most_small short)
      (fresh_at body vars few valid fitting loopless told.bounds largest small most_small short)
      (more_at body vars few valid fitting loopless told.bounds largest small most_small short)
      (met_at body vars few valid fitting loopless told.bounds largest small most_small short) why plain part (rows_of Z part own) l low)

  -- what a tree is at a target, as it is asked of those behind a step
  abbrev Stands : (ℕ → ℕ) → Trees AffineRank → ℕ → Type 0
  Stands Z trees t = RanksAre (R t) (Q t) (trees t) × (size_of (trees t) ≤ Z t)

  counted_at : (t : ℕ) (plan : Plan AffineRank) → RanksAre (R t) (Q t) plan → RanksCount plan
  counted_at t plan each =
      of_each plan (each_more (R t) (λ row. ⊤) (λ why. Q t) (λ why. Counts) (λ row own. tt) (λ why rank own. (own.steps, own.is)) plan each)

  after_map : (deed : Deed) (Good More : ℕ → Type 0) → ((t : ℕ) → Good t → More t) → AtAfter deed Good → AtAfter deed More
  after_map finishes Good More more each = tt
  after_map (sets x by target) Good More more each = more target each
  after_map (goes target) Good More more each = more target each
  after_map (asks holds fails then_to else_to) Good More more each = (more then_to each.0, more else_to each.1)
  after_map (frees then_to else_to) Good More more each = (more then_to each.0, more else_to each.1)

  after_on : (l : ℕ) (deed : Deed) (Good More : ℕ → Type 0) → AreAfter n l deed → ((t : ℕ) → LeadsOn n l t → Good t → More t) → AtAfter deed Good → AtAfter deed More
  after_on l finishes Good More on more each = tt
  after_on l (sets x by target) Good More on more each = more target on each
  after_on l (goes target) Good More on more each = more target on each
  after_on l (asks holds fails then_to else_to) Good More on more each = (more then_to on.0 each.0, more else_to on.1 each.1)
  after_on l (frees then_to else_to) Good More on more each = (more then_to on.0 each.0, more else_to on.1 each.1)

  after_all : (l : ℕ) (deed : Deed) (Good : ℕ → Type 0) → AreAfter n l deed → ((t : ℕ) → t < n → Good t) → AtAfter deed Good
  after_all l finishes Good on each = tt
  after_all l (sets x by target) Good on each = each target on.0
  after_all l (goes target) Good on each = each target on.0
  after_all l (asks holds fails then_to else_to) Good on each = (each then_to on.0.0, each else_to on.1.0)
  after_all l (frees then_to else_to) Good on each = (each then_to on.0.0, each else_to on.1.0)

  -- the tree before a step is formed within the limits, and how large it is
  reached_at : (all : Bool) (Z : ℕ → ℕ) (trees : Trees AffineRank) (l : ℕ) → suc l < n → told.dead (suc l) ≡ false → AtAfter (done (suc l)) (Stands Z trees)
      → size_before Z (action_at body (suc l)) ≤ 65536 → IsReached all (transition_in transitions (suc l)) trees
  reached_at all Z trees l low alive each enough =
      ready_as (told.bounds (suc l)) trees all (action_at body (suc l)) (transition_in transitions (suc l)) (fits_at body vars few valid fitting (suc l))
      (told_over body vars few valid fitting loopless told transitions same told_are (suc l) low alive)
      (ready_at body vars few valid fitting loopless told.bounds largest small most_small short l low trees Z all each enough)

  before_size : (all : Bool) (Z : ℕ → ℕ) (trees : Trees AffineRank) (l : ℕ) → AtAfter (done l) (Stands Z trees)
      → size_of (before_deed all (done l) trees) ≤ size_before Z (action_at body l)
  before_size all Z trees l each =
      size_most (told.bounds l) all trees Z (action_at body l) (fits_at body vars few valid fitting l)
      (after_map (done l) (Stands Z trees) (λ t. (size_of (trees t) ≤ Z t) × RanksCount (trees t)) (λ t own. (own.1, counted_at t (trees t) own.0)) each)

  -- ---- a part at the same label

  module _ (kz gz : ℕ → ℕ) (one : Part kz (parts 0)) (two : Part gz (parts 1)) where
    keep_rows : (l : ℕ) → l < n → RowsAre Turns (reranked (parts 0 l))
    keep_rows l low = turns l (reranked (parts 0 l)) (rerank_rows kz (parts 0) one l low)

    goal_rows : (why : Why) → NoValue why → (l : ℕ) → l < n → RowsAre Turns (claimed why (parts 1 l))
    goal_rows why plain l low = turns l (claimed why (parts 1 l)) (claim_rows why plain gz (parts 1) two l low)

    keep_size : (l : ℕ) → l < n → size_of (reranked (parts 0 l)) ≤ kz l
    keep_size l low = let less = taken_size None (parts 0 l) in let own = (one l low).1 in omega (arith, less, own)

    goal_size : (why : Why) (l : ℕ) → l < n → size_of (claimed why (parts 1 l)) ≤ gz l
    goal_size why l low = let less = taken_size (Some why) (parts 1 l) in let own = (two l low).1 in omega (arith, less, own)

    met_most : (l : ℕ) → l < n → size_of (met (parts 0 l) (parts 1 l)) ≤ 4 * (kz l * gz l)
    met_most l low =
        let first = keep_size l low in
        let less = taken_size None (parts 1 l) in
        let large = (two l low).1 in
        let second : size_of (reranked (parts 1 l)) ≤ gz l = omega (arith, less, large) in
        joined_most (size_of (met (parts 0 l) (parts 1 l))) (size_of (reranked (parts 0 l))) (size_of (reranked (parts 1 l))) (kz l) (gz l)
        (both_size (reranked (parts 0 l)) (reranked (parts 1 l))) (some_nodes (reranked (parts 1 l))) first second

    either_most : (l : ℕ) → l < n → size_of (either_of (claimed Left (parts 0 l)) (claimed Right (parts 1 l))) ≤ 4 * (kz l * gz l)
    either_most l low =
        let less = taken_size (Some Left) (parts 0 l) in
        let large = (one l low).1 in
        let first : size_of (claimed Left (parts 0 l)) ≤ kz l = omega (arith, less, large) in
        joined_most (size_of (either_of (claimed Left (parts 0 l)) (claimed Right (parts 1 l)))) (size_of (claimed Left (parts 0 l))) (size_of (claimed Right (parts 1 l)))
        (kz l) (gz l) (either_size (claimed Left (parts 0 l)) (claimed Right (parts 1 l))) (some_nodes (claimed Right (parts 1 l))) first (goal_size Right l low)

    start_most : (l : ℕ) → l < n → size_of (either_of (claimed Now (parts 1 l)) (claimed (Step Every) (reranked (parts 0 l)))) ≤ 4 * (kz l * gz l)
    start_most l low =
        let less = taken_size (Some (Step Every)) (reranked (parts 0 l)) in
        let large = keep_size l low in
        let second : size_of (claimed (Step Every) (reranked (parts 0 l))) ≤ kz l = omega (arith, less, large) in
        let most = joined_most (size_of (either_of (claimed Now (parts 1 l)) (claimed (Step Every) (reranked (parts 0 l))))) (size_of (claimed Now (parts 1 l)))
        (size_of (claimed (Step Every) (reranked (parts 0 l)))) (gz l) (kz l) (either_size (claimed Now (parts 1 l)) (claimed (Step Every) (reranked (parts 0 l))))
        (some_nodes (claimed (Step Every) (reranked (parts 0 l)))) (goal_size Now l low) second in
        let same = mul_comm (gz l) (kz l) in
        omega (arith, most, same)

    end_most : (l : ℕ) → l < n → size_of (claimed Now (parts 1 l)) ≤ 4 * (kz l * gz l)
    end_most l low =
        let own = goal_size Now l low in
        let some = some_nodes (parts 0 l) in
        let large = (one l low).1 in
        let more : 1 * gz l ≤ kz l * gz l = mul-le-mul (omega (arith, some, large)) (le_refl (gz l)) in
        omega (arith, own, more)

    -- the tree of a sweep, by that before the step
    module _ (l : ℕ) (low : l < n) (step : Plan AffineRank) (b : ℕ) (few_steps : size_of step ≤ b) where
      abbrev now : Plan AffineRank
      now = claimed Now (parts 1 l)

      abbrev keep : Plan AffineRank
      keep = reranked (parts 0 l)

      made_size : size_of (made now keep step) ≤ 16 * (kz l * gz l * b)
      made_size =
          made_most (size_of (made now keep step)) (size_of (both_of keep step)) (size_of now) (size_of keep) (size_of step) (gz l) (kz l) b
          (either_size now (both_of keep step)) (both_size keep step) (goal_size Now l low) (keep_size l low) few_steps (some_nodes now) (some_nodes step)

      both_small : size_of (both_of keep step) ≤ 16 * (kz l * gz l * b)
      both_small =
          middle_most (size_of (made now keep step)) (size_of (both_of keep step)) (size_of now) (size_of keep) (size_of step) (gz l) (kz l) b
          (either_size now (both_of keep step)) (both_size keep step) (goal_size Now l low) (keep_size l low) few_steps (some_nodes now) (some_nodes step)

      made_fits : RowsAre (R l) step → MadeFits now keep step
      made_fits rows = (
        both_fit keep step (keep_rows l low) (turns l step rows),
        either_fit now (both_of keep step) (goal_rows Now tt l low)
            (turns l (both_of keep step) (meet_each (R l) (λ why rank. ⊤) keep step (rerank_rows kz (parts 0) one l low) rows)),
      )

      made_small : 16 * (kz l * gz l * b) ≤ 65536 → IsMadeSmall now keep step
      made_small enough = let first = both_small in let second = made_size in (omega (arith, first, enough), omega (arith, second, enough))

    -- ---- an until and a weak until

    abbrev Z : ℕ → ℕ → ℕ
    Z depth l = until_size body kz gz depth l

    -- the depth is enough for the label
    abbrev IsDeep : ℕ → ℕ → Type 0
    IsDeep l depth = (l ≡ 0) ⊎ (n ≤ l + depth)

    abbrev Fine : ℕ → Type 0
    Fine l = EachAre (R l) (Q l) (family l) × ((depth : ℕ) → IsDeep l depth → size_of (family l) ≤ Z depth l)

    deeper : (l depth t : ℕ) → n ≤ l + suc depth → LeadsOn n l t → IsDeep t depth
    deeper l depth t deep on = ⊎_elim (λ is. inl is) (λ more. inr (omega (arith, deep, more))) on.1

    stands : (l depth : ℕ) → suc l < n → n ≤ suc l + suc depth → AtAfter (done (suc l)) Fine → AtAfter (done (suc l)) (Stands (Z depth) family)
    stands l depth low deep each =
        after_on (suc l) (done (suc l)) Fine (Stands (Z depth) family) (after (suc l) low)
        (λ t on own. (ranks_only (R t) (Q t) (family t) own.0, own.1 depth (deeper (suc l) depth t deep on))) each

    step_rows : (all : Bool) (l : ℕ) → suc l < n → AtAfter (done (suc l)) Fine → RowsAre (R (suc l)) (before_deed all (done (suc l)) family)
    step_rows all l low each =
        rows_only (R (suc l)) (Q (suc l)) (before_deed all (done (suc l)) family)
        (stepped_at n done told.dead after R Q B (suits_at body vars few valid fitting loopless told.bounds largest small most_small short)
        (fresh_at body vars few valid fitting loopless told.bounds largest small most_small short)
        (more_at body vars few valid fitting loopless told.bounds largest small most_small short)
        (met_at body vars few valid fitting loopless told.bounds largest small most_small short) all family (suc l) low
        (after_map (done (suc l)) Fine (λ t. RanksAre (R t) (Q t) (family t)) (λ t own. ranks_only (R t) (Q t) (family t) own.0) each))

    module _ (limit : (l : ℕ) → l < n → Z n l ≤ 4096) where
      limit_at : (l depth : ℕ) → suc l < n → n ≡ suc depth → 16 * (kz (suc l) * gz (suc l) * size_before (Z depth) (action_at body (suc l))) ≤ 4096
      limit_at l depth low is = subst (λ k. Z k (suc l) ≤ 4096) is (limit (suc l) low)

      -- what is before the step is no larger than the whole
      step_small : (l depth : ℕ) → suc l < n → n ≡ suc depth → size_before (Z depth) (action_at body (suc l)) ≤ 65536
      step_small l depth low is =
          let whole = limit_at l depth low is in
          let b : ℕ = size_before (Z depth) (action_at body (suc l)) in
          let some_k = some_nodes (parts 0 (suc l)) in
          let large_k = (one (suc l) low).1 in
          let some_g = some_nodes (parts 1 (suc l)) in
          let large_g = (two (suc l) low).1 in
          let product : 1 ≤ kz (suc l) * gz (suc l) = some_product (kz (suc l)) (gz (suc l)) (omega (arith, some_k, large_k)) (omega (arith, some_g, large_g)) in
          let more : 1 * b ≤ kz (suc l) * gz (suc l) * b = mul-le-mul product (le_refl b) in
          omega (arith, whole, more)

      sweep_held : (all : Bool) (l depth : ℕ) → suc l < n → n ≡ suc depth → told.dead (suc l) ≡ false → AtAfter (done (suc l)) Fine
          → RemadeFits (until_of all first second) (suc l) (transition_in transitions (suc l)) (family (first_target (transition_in transitions (suc l))))
          (family (second_target (transition_in transitions (suc l))))
          × IsRemadeSmall (until_of all first second) (suc l) (transition_in transitions (suc l)) (family (first_target (transition_in transitions (suc l))))
          (family (second_target (transition_in transitions (suc l))))
      sweep_held all l depth low is alive each =
          let t : Transition = transition_in transitions (suc l) in
          let behind = stands l depth low (omega (arith, is)) each in
          let reached = reached_at all (Z depth) family l low alive behind (step_small l depth low is) in
          let step_is : reached_by all t family ≡ before_deed all (done (suc l)) family =
          reached_as (told.bounds (suc l)) family all (action_at body (suc l)) t (fits_at body vars few valid fitting (suc l))
          (told_over body vars few valid fitting loopless told transitions same told_are (suc l) low alive) in
          let few_steps = before_size all (Z depth) family (suc l) behind in
          let rows = step_rows all l low each in
          let enough = limit_at l depth low is in
          let own : MadeFits (claimed Now (parts 1 (suc l))) (reranked (parts 0 (suc l))) (before_deed all (done (suc l)) family)
          × IsMadeSmall (claimed Now (parts 1 (suc l))) (reranked (parts 0 (suc l))) (before_deed all (done (suc l)) family) = (
            made_fits (suc l) low (before_deed all (done (suc l)) family) (size_before (Z depth) (action_at body (suc l))) few_steps rows,
            made_small (suc l) low (before_deed all (done (suc l)) family) (size_before (Z depth) (action_at body (suc l))) few_steps (omega (arith, enough)),
          ) in
          let formed : MadeFits (goal_at (until_of all first second) (suc l)) (keep_at (until_of all first second) (suc l)) (reached_by all t family)
          × IsMadeSmall (goal_at (until_of all first second) (suc l)) (keep_at (until_of all first second) (suc l)) (reached_by all t family) =
          subst (λ g. MadeFits g (keep_at (until_of all first second) (suc l)) (reached_by all t family)
          × IsMadeSmall g (keep_at (until_of all first second) (suc l)) (reached_by all t family))
          (sym (goal_is body vars few valid fitting loopless told transitions same told_are first second trees all (suc l)))
          (subst (λ k. MadeFits (claimed Now (parts 1 (suc l))) k (reached_by all t family) × IsMadeSmall (claimed Now (parts 1 (suc l))) k (reached_by all t family))
          (sym (keep_is body vars few valid fitting loopless told transitions same told_are first second trees all (suc l)))
          (subst (λ p. MadeFits (claimed Now (parts 1 (suc l))) (reranked (parts 0 (suc l))) p × IsMadeSmall (claimed Now (parts 1 (suc l))) (reranked (parts 0 (suc l))) p)
          (sym step_is) own)) in
          ((reached.0, formed.0), (reached.1, formed.1))

      -- where no run comes the tree is small too, as that of each target is
      dead_most : (all : Bool) (l depth : ℕ) → suc l < n → n ≤ suc l + suc depth → AtAfter (done (suc l)) Fine → 1 ≤ Z (suc depth) (suc l)
      dead_most all l depth low deep each =
          let few_steps = before_size all (Z depth) family (suc l) (stands l depth low deep each) in
          let some_step = some_nodes (before_deed all (done (suc l)) family) in
          let some_k = some_nodes (parts 0 (suc l)) in
          let large_k = (one (suc l) low).1 in
          let some_g = some_nodes (parts 1 (suc l)) in
          let large_g = (two (suc l) low).1 in
          let product : 1 ≤ kz (suc l) * gz (suc l) = some_product (kz (suc l)) (gz (suc l)) (omega (arith, some_k, large_k)) (omega (arith, some_g, large_g)) in
          let whole : 1 ≤ kz (suc l) * gz (suc l) * size_before (Z depth) (action_at body (suc l)) =
          some_product (kz (suc l) * gz (suc l)) (size_before (Z depth) (action_at body (suc l))) product (omega (arith, few_steps, some_step)) in
          omega (arith, whole)

      -- the tree that is made is no larger than its size
      sized : (plan other : Plan AffineRank) (most : ℕ) → plan ≡ other → size_of other ≤ most → size_of plan ≤ most
      sized plan other most is own = subst (λ (t : Plan AffineRank). size_of t ≤ most) (sym is) own

      swept_most : (all : Bool) (l : ℕ) → suc l < n → AtAfter (done (suc l)) Fine
          → family (suc l) ≡ made (claimed Now (parts 1 (suc l))) (reranked (parts 0 (suc l))) (before_deed all (done (suc l)) family)
          → (depth : ℕ) → IsDeep (suc l) depth → size_of (family (suc l)) ≤ Z depth (suc l)
      swept_most all l low each is zero (inl none) = absurd (omega (arith, none))
      swept_most all l low each is zero (inr deep) = absurd (omega (arith, low, deep))
      swept_most all l low each is (suc depth) (inl none) = absurd (omega (arith, none))
      swept_most all l low each is (suc depth) (inr deep) =
          sized (family (suc l)) (made (claimed Now (parts 1 (suc l))) (reranked (parts 0 (suc l))) (before_deed all (done (suc l)) family)) (Z (suc depth) (suc l)) is
          (made_size (suc l) low (before_deed all (done (suc l)) family) (size_before (Z depth) (action_at body (suc l)))
          (before_size all (Z depth) family (suc l) (stands l depth low deep each)))

      until_most : (all : Bool) (f g : Ctl) (l : ℕ) → l < n → AtAfter (done l) Fine → IsMadeAt (until all f g) done parts family l
          → (depth : ℕ) → IsDeep l depth → size_of (family l) ≤ Z depth l
      until_most all f g zero low each is depth deep = sized (family 0) (claimed Now (parts 1 0)) (Z depth 0) is (end_most 0 low)
      until_most all f g (suc l) low each is depth deep = swept_most all l low each is depth deep

      weak_most : (all : Bool) (f g : Ctl) (l : ℕ) → l < n → AtAfter (done l) Fine → IsMadeAt (weak all f g) done parts family l
          → (depth : ℕ) → IsDeep l depth → size_of (family l) ≤ Z depth l
      weak_most all f g zero low each is depth deep =
          sized (family 0) (either_of (claimed Now (parts 1 0)) (claimed (Step Every) (reranked (parts 0 0)))) (Z depth 0) is (start_most 0 low)
      weak_most all f g (suc l) low each is depth deep = swept_most all l low each is depth deep

      some_both : (l : ℕ) → l < n → 1 ≤ kz l * gz l
      some_both l low =
          let some_k = some_nodes (parts 0 l) in
          let large_k = (one l low).1 in
          let some_g = some_nodes (parts 1 l) in
          let large_g = (two l low).1 in
          some_product (kz l) (gz l) (omega (arith, some_k, large_k)) (omega (arith, some_g, large_g))

      none_most : (all : Bool) (l : ℕ) → l < n → AtAfter (done l) Fine → (depth : ℕ) → IsDeep l depth → 1 ≤ Z depth l
      none_most all zero low each depth deep = let some = some_both 0 low in omega (arith, some)
      none_most all (suc l) low each zero (inl none) = absurd (omega (arith, none))
      none_most all (suc l) low each zero (inr deep) = absurd (omega (arith, low, deep))
      none_most all (suc l) low each (suc depth) (inl none) = absurd (omega (arith, none))
      none_most all (suc l) low each (suc depth) (inr deep) = dead_most all l depth low deep each

      -- no tree is given up
      swept_held : (all : Bool) (l : ℕ) → l < n → told.dead l ≡ false → AtAfter (done l) Fine
          → IsSweptTop body vars few valid fitting loopless told transitions same told_are first second trees all l (transition_in transitions l) → ⊥
      swept_held all zero low alive each is = is
      swept_held all (suc l) low alive each is =
          let held = sweep_held all l (n - 1) low (omega (arith, low)) alive each in
          never_top (family (suc l)) _ _ held.0 held.1 is

      kept_held : (all : Bool) (l : ℕ) → l < n → told.dead l ≡ false → AtAfter (done l) Fine
          → IsKeptTop body vars few valid fitting loopless told transitions same told_are first second trees all l (transition_in transitions l) → ⊥
      kept_held all zero low alive each is =
          let most = start_most 0 low in
          let enough = limit 0 low in
          let start_same = started_is body vars few valid fitting loopless told transitions same told_are first second trees all 0 in
          never_top (family 0) _ _ (start_fits all low)
          (sized (started (until_of all first second) 0) (either_of (claimed Now (parts 1 0)) (claimed (Step Every) (reranked (parts 0 0)))) 65536 start_same
          (omega (arith, most, enough))) is
        where
          start_fits : (all : Bool) → 0 < n → StartFits (until_of all first second) 0
          start_fits all low =
              subst (λ g. EitherFits g (claimed (Step Every) (keep_at (until_of all first second) 0)))
              (sym (goal_is body vars few valid fitting loopless told transitions same told_are first second trees all 0))
              (subst (λ k. EitherFits (claimed Now (parts 1 0)) (claimed (Step Every) k))
              (sym (keep_is body vars few valid fitting loopless told transitions same told_are first second trees all 0))
              (either_fit (claimed Now (parts 1 0)) (claimed (Step Every) (reranked (parts 0 0))) (goal_rows Now tt 0 low)
              (turns 0 (claimed (Step Every) (reranked (parts 0 0))) (claimed_rows 0 (reranked (parts 0 0)) (rerank_rows kz (parts 0) one 0 low)))))
            where
              claimed_rows : (l : ℕ) (plan : Plan AffineRank) → RowsAre (R l) plan → RowsAre (R l) (claimed (Step Every) plan)
              claimed_rows l plan each =
                  rows_only (R l) (Q l) (claimed (Step Every) plan)
                  (claimed_each (R l) (Q l) (fresh_at body vars few valid fitting loopless told.bounds largest small most_small short l) (Step Every) tt plan each)
      kept_held all (suc l) low alive each is =
          let held = sweep_held all l (n - 1) low (omega (arith, low)) alive each in
          never_top (family (suc l)) _ _ held.0 held.1 is

  -- ---- each formula

  -- what is asked of the size of a tree, by its label
  module _ (S : ℕ → Plan AffineRank → Type 0) where
    abbrev Good : ℕ → Type 0
    Good l = EachAre (R l) (Q l) (family l) × S l (family l)

    module _ (formula : Formula) (are : AreProposed formula transitions first second trees)
        (atom : AtomIs n done told.dead after R Q B (suits_at body vars few valid fitting loopless told.bounds largest small most_small short)
        (fresh_at body vars few valid fitting loopless told.bounds largest small most_small short)
        (more_at body vars few valid fitting loopless told.bounds largest small most_small short)
        (met_at body vars few valid fitting loopless told.bounds largest small most_small short) (ctl formula))
        (rows : EachPart (λ f part. (l : ℕ) → l < n → RowsAre (R l) (part l)) (ctl formula) parts)
        (none : (l : ℕ) → l < n → AtAfter (done l) Good → S l (at_once NeverReached))
        (held : (l : ℕ) → l < n → told.dead l ≡ false → AtAfter (done l) Good
        → IsHeldAt body vars few valid fitting loopless told transitions same told_are first second trees formula l)
        (size : (l : ℕ) → l < n → AtAfter (done l) Good → IsMadeAt (ctl formula) done parts family l → S l (family l)) where
      good_at : (l : ℕ) → l < n → AtAfter (done l) Good → Good l
      good_at l low each = by (told.dead l) refl
        where
          by : (t : Bool) → told.dead l ≡ t → Good l
          by true dead =
              let is = dead_is body vars few valid fitting loopless told transitions same told_are first second trees formula are l low dead in
              subst (λ (t : Plan AffineRank). EachAre (R l) (Q l) t × S l t) (sym is)
              ((tt, fresh_at body vars few valid fitting loopless told.bounds largest small most_small short l), none l low each)
          by false alive =
              let made = made_at body vars few valid fitting loopless told transitions same told_are first second trees formula are l low alive (held l low alive each) in (
                label_at n done told.dead after R Q B (suits_at body vars few valid fitting loopless told.bounds largest small most_small short)
                    (fresh_at body vars few valid fitting loopless told.bounds largest small most_small short)
                    (more_at body vars few valid fitting loopless told.bounds largest small most_small short)
                    (met_at body vars few valid fitting loopless told.bounds largest small most_small short) parts family (ctl formula) atom rows l low
                    (after_map (done l) Good (λ t. EachAre (R t) (Q t) (family t)) (λ t own. own.0) each) made,
                size l low each made,
              )

      pub good : (l : ℕ) → l < n → Good l
      good l low = upward n done after Good (good_at 0 (omega (arith, low)) tt) (λ k k_low each. good_at (suc k) k_low each) l low

      pub made_good : IsMade n done told.dead (ctl formula) parts family
      made_good =
          proposed_held body vars few valid fitting loopless told transitions same told_are first second trees formula are
          (λ l low alive. held l low alive (after_all l (done l) Good (after l low) good))

  -- what holds of each atom
  abbrev Atoms : Ctl → Type 0
  Atoms f = AtomIs n done told.dead after R Q B (suits_at body vars few valid fitting loopless told.bounds largest small most_small short)
      (fresh_at body vars few valid fitting loopless told.bounds largest small most_small short)
      (more_at body vars few valid fitting loopless told.bounds largest small most_small short)
      (met_at body vars few valid fitting loopless told.bounds largest small most_small short) f

  place_most : (l : ℕ) → l < n → place_by false n l ≤ n
  place_most zero low = le_refl n
  place_most (suc l) low = omega (arith, low)

  atom_row : (a : Affine) → IsOver vars a → greatest_number a * product_below (factor_at body) n ≤ largest → (l : ℕ) → l < n → (row : Row) → row.affine ≡ a → R l row
  atom_row a over enough l low row is =
      let more : greatest_number a * product_below (factor_at body) (place_by false n l) ≤ greatest_number a * product_below (factor_at body) n =
      mul-le-mul (le_refl (greatest_number a)) (below_more body (place_by false n l) n (place_most l low)) in (
        record { size = greatest_number a; sizes = subst (SizesAtMost (greatest_number a)) (sym is) (greatest_numbers a); small = omega (arith, more, enough) },
        subst (IsOver vars) (sym is) over,
      )

  atoms_are : (f : Ctl) → RowsAreOver vars f → ctl_growth body f ≤ largest → Atoms f
  atoms_are truth over growth = tt
  atoms_are falsity over growth = tt
  atoms_are exit over growth = tt
  atoms_are not_exit over growth = tt
  atoms_are always over growth = tt
  atoms_are never over growth = tt
  atoms_are (least a) over growth =
      let more : greatest_number a * product_below (factor_at body) n ≤ (1 + max (greatest_of_tests body) (greatest_number a)) * product_below (factor_at body) n =
      mul-le-mul (omega arith) (le_refl (product_below (factor_at body) n)) in
      atom_row a over (omega (arith, more, growth))
  atoms_are (negation f) over growth = tt
  atoms_are (both f g) over growth = tt
  atoms_are (either f g) over growth = tt
  atoms_are (next all f) over growth = tt
  atoms_are (until all f g) over growth = tt
  atoms_are (weak all f g) over growth = tt

  -- ---- the trees that are proposed are made, and as small and narrow as the formula tells

  abbrev Parted : Ctl → Type 0
  Parted f = EachPart (λ f. Part (part_size body f)) f parts

  abbrev Result : Formula → Type 0
  Result formula =
      IsMade n done told.dead (ctl formula) parts family × ((l : ℕ) → l < n → EachAre (R l) (Q l) (family l) × (size_of (family l) ≤ part_size body (ctl formula) l))

  abbrev Within : Ctl → ℕ → Plan AffineRank → Type 0
  Within f l plan = size_of plan ≤ part_size body f l

  single : (f : Ctl) (l : ℕ) (plan other : Plan AffineRank) → plan ≡ other → size_of other ≤ part_size body f l → size_of plan ≤ part_size body f l
  single f l plan other is own = subst (λ (t : Plan AffineRank). size_of t ≤ part_size body f l) (sym is) own

  exit_size : (l : ℕ) → IsMadeAt exit done parts family l → size_of (family l) ≤ 1
  exit_size zero is = single exit 0 (family 0) (end_tree true) is (omega arith)
  exit_size (suc l) is = single exit (suc l) (family (suc l)) (end_tree false) is (omega arith)

  going_size : (l : ℕ) → IsMadeAt not_exit done parts family l → size_of (family l) ≤ 1
  going_size zero is = single not_exit 0 (family 0) (going_tree true) is (omega arith)
  going_size (suc l) is = single not_exit (suc l) (family (suc l)) (going_tree false) is (omega arith)

  -- a formula whose trees are made of none
  plain_made : (formula : Formula) → AreProposed formula transitions first second trees → Atoms (ctl formula)
      → EachPart (λ f part. (l : ℕ) → l < n → RowsAre (R l) (part l)) (ctl formula) parts → ((l : ℕ) → 1 ≤ part_size body (ctl formula) l)
      → ((l : ℕ) → IsHeldAt body vars few valid fitting loopless told transitions same told_are first second trees formula l)
      → ((l : ℕ) → IsMadeAt (ctl formula) done parts family l → size_of (family l) ≤ part_size body (ctl formula) l) → Result formula
  plain_made formula are atom rows some held size = (
    made_good (Within (ctl formula)) formula are atom rows (λ l low each. some l) (λ l low alive each. held l) (λ l low each made. size l made),
    good (Within (ctl formula)) formula are atom rows (λ l low each. some l) (λ l low alive each. held l) (λ l low each made. size l made),
  )

  rows_all : (f : Ctl) (part : Trees AffineRank) → Part (part_size body f) part → (l : ℕ) → l < n → RowsAre (R l) (part l)
  rows_all f part own l low = rows_of (part_size body f) part own l low

  -- a next
  module _ (all : Bool) (f : Ctl) (one : Part (part_size body f) (parts 0)) (limit : (l : ℕ) → l < n → next_size body (part_size body f) l ≤ 4096) where
    abbrev behind_trees : Trees AffineRank
    behind_trees target = reranked (parts 0 target)

    behind_stands : (l : ℕ) → suc l < n → AtAfter (done (suc l)) (Stands (part_size body f) behind_trees)
    behind_stands l low =
        after_all (suc l) (done (suc l)) (Stands (part_size body f) behind_trees) (after (suc l) low)
        (λ t t_low. let less = taken_size None (parts 0 t) in let own = (one t t_low).1 in (
          again n done told.dead after R Q B (suits_at body vars few valid fitting loopless told.bounds largest small most_small short)
              (fresh_at body vars few valid fitting loopless told.bounds largest small most_small short)
              (more_at body vars few valid fitting loopless told.bounds largest small most_small short)
              (met_at body vars few valid fitting loopless told.bounds largest small most_small short) (parts 0) (rows_all f (parts 0) one) t t_low,
          omega (arith, less, own),
        ))

    next_held : (l : ℕ) → l < n → told.dead l ≡ false
        → IsNextTop body vars few valid fitting loopless told transitions same told_are first second trees all l (transition_in transitions l) → ⊥
    next_held zero low alive is =
        let end : transition_in transitions 0 ≡ End = start_is body vars few valid fitting loopless told transitions same told_are first second trees all low alive in
        let ready : IsReadyFor all (transition_in transitions 0) (reranked (tree_at first (first_target (transition_in transitions 0))))
        (reranked (tree_at first (second_target (transition_in transitions 0)))) =
        subst (λ t. IsReadyFor all t (reranked (tree_at first (first_target t))) (reranked (tree_at first (second_target t)))) (sym end)
        (end_is_ready all (reranked (tree_at first 0)) (reranked (tree_at first 0))) in
        never_top (family 0) _ _ ready.0 ready.1 is
    next_held (suc l) low alive is =
        let enough = limit (suc l) low in
        let ready = reached_at all (part_size body f) behind_trees l low alive (behind_stands l low) (omega (arith, enough)) in
        never_top (family (suc l)) _ _ ready.0 ready.1 is

    next_most : (l : ℕ) → l < n → IsMadeAt (next all f) done parts family l → size_of (family l) ≤ next_size body (part_size body f) l
    next_most zero low is =
        let less = taken_size (Some Now) (parts 0 0) in
        let own = (one 0 low).1 in
        subst (λ (t : Plan AffineRank). size_of t ≤ part_size body f 0) (sym is) (omega (arith, less, own))
    next_most (suc l) low is =
        subst (λ (t : Plan AffineRank). size_of t ≤ size_before (part_size body f) (action_at body (suc l))) (sym is)
        (before_size all (part_size body f) behind_trees (suc l) (behind_stands l low))

    next_some : (l : ℕ) → l < n → 1 ≤ next_size body (part_size body f) l
    next_some zero low = let some = some_nodes (parts 0 0) in let own = (one 0 low).1 in omega (arith, some, own)
    next_some (suc l) low =
        let some = some_nodes (before_deed all (done (suc l)) behind_trees) in
        let own = before_size all (part_size body f) behind_trees (suc l) (behind_stands l low) in
        omega (arith, some, own)

  -- a conjunction and a disjunction
  module _ (f g : Ctl) (one : Part (part_size body f) (parts 0)) (two : Part (part_size body g) (parts 1))
      (limit : (l : ℕ) → l < n → 4 * (part_size body f l * part_size body g l) ≤ 4096) where
    some_pair : (l : ℕ) → l < n → 1 ≤ 4 * (part_size body f l * part_size body g l)
    some_pair l low =
        let some_k = some_nodes (parts 0 l) in
        let large_k = (one l low).1 in
        let some_g = some_nodes (parts 1 l) in
        let large_g = (two l low).1 in
        let some = some_product (part_size body f l) (part_size body g l) (omega (arith, some_k, large_k)) (omega (arith, some_g, large_g)) in
        omega (arith, some)

    both_held : (l : ℕ) → l < n → IsTop (BothFit (reranked (parts 0 l)) (reranked (parts 1 l))) (size_of (met (parts 0 l) (parts 1 l)) ≤ 65536) (family l) → ⊥
    both_held l low is =
        let most = met_most (part_size body f) (part_size body g) one two l low in
        let enough = limit l low in
        never_top (family l) _ _
        (both_fit (reranked (parts 0 l)) (reranked (parts 1 l)) (turns l (reranked (parts 0 l)) (rerank_rows (part_size body f) (parts 0) one l low))
        (turns l (reranked (parts 1 l)) (rerank_rows (part_size body g) (parts 1) two l low))) (omega (arith, most, enough)) is

    either_held : (l : ℕ) → l < n → IsTop (EitherFits (claimed Left (parts 0 l)) (claimed Right (parts 1 l)))
        (size_of (either_of (claimed Left (parts 0 l)) (claimed Right (parts 1 l))) ≤ 65536) (family l) → ⊥
    either_held l low is =
        let most = either_most (part_size body f) (part_size body g) one two l low in
        let enough = limit l low in
        never_top (family l) _ _
        (either_fit (claimed Left (parts 0 l)) (claimed Right (parts 1 l))
        (turns l (claimed Left (parts 0 l)) (claim_rows Left tt (part_size body f) (parts 0) one l low))
        (turns l (claimed Right (parts 1 l)) (claim_rows Right tt (part_size body g) (parts 1) two l low))) (omega (arith, most, enough)) is

    both_most : (l : ℕ) → l < n → family l ≡ claimed Both (met (parts 0 l) (parts 1 l)) → size_of (family l) ≤ 4 * (part_size body f l * part_size body g l)
    both_most l low is =
        let less = taken_size (Some Both) (met (parts 0 l) (parts 1 l)) in
        let most = met_most (part_size body f) (part_size body g) one two l low in
        subst (λ (t : Plan AffineRank). size_of t ≤ 4 * (part_size body f l * part_size body g l)) (sym is) (omega (arith, less, most))

    or_most : (l : ℕ) → l < n → family l ≡ either_of (claimed Left (parts 0 l)) (claimed Right (parts 1 l)) → size_of (family l) ≤ 4 * (part_size body f l * part_size body g l)
    or_most l low is =
        subst (λ (t : Plan AffineRank). size_of t ≤ 4 * (part_size body f l * part_size body g l)) (sym is)
        (either_most (part_size body f) (part_size body g) one two l low)

  pub narrow_made : (formula : Formula) → AreProposed formula transitions first second trees → AreSizesWithin 4096 body (ctl formula)
      → RowsAreOver vars (ctl formula) → ctl_growth body (ctl formula) ≤ largest → Parted (ctl formula) → Result formula
  narrow_made True are sizes over growth each =
      plain_made True are (atoms_are truth over growth) tt (λ l. omega arith) (λ l none. none) (λ l is. single truth l (family l) (at_once Atom) is (omega arith))
  narrow_made False are sizes over growth each =
      plain_made False are (atoms_are falsity over growth) tt (λ l. omega arith) (λ l none. none) (λ l is. single falsity l (family l) bottom is (omega arith))
  narrow_made Exit are sizes over growth each = plain_made Exit are (atoms_are exit over growth) tt (λ l. omega arith) (λ l none. none) exit_size
  narrow_made NotExit are sizes over growth each = plain_made NotExit are (atoms_are not_exit over growth) tt (λ l. omega arith) (λ l none. none) going_size
  narrow_made (Holds Always) are sizes over growth each =
      plain_made (Holds Always) are (atoms_are always over growth) tt (λ l. omega arith) (λ l none. none) (λ l is. single always l (family l) (at_once Atom) is (omega arith))
  narrow_made (Holds Never) are sizes over growth each =
      plain_made (Holds Never) are (atoms_are never over growth) tt (λ l. omega arith) (λ l none. none) (λ l is. single never l (family l) bottom is (omega arith))
  narrow_made (Holds (Kept row)) are sizes over growth each =
      plain_made (Holds (Kept row)) are (atoms_are (least row.affine) over growth) tt (λ l. omega arith) (λ l none. none)
      (λ l is. single (least row.affine) l (family l) (branch is.0 (at_once Atom) bottom) is.2 (omega arith))
  narrow_made (Not' p f) are sizes over growth each = absurd each
  narrow_made (And' p f q g) are sizes over growth each =
      let limit = size_at body (both (ctl f) (ctl g)) sizes in (
        made_good (Within (both (ctl f) (ctl g))) (And' p f q g) are tt (rows_all (ctl f) (parts 0) each.0, rows_all (ctl g) (parts 1) each.1) (λ l low behind. some_pair (ctl f) (ctl g) each.0 each.1 limit l low)
            (λ l low alive behind. both_held (ctl f) (ctl g) each.0 each.1 limit l low) (λ l low behind is. both_most (ctl f) (ctl g) each.0 each.1 limit l low is),
        good (Within (both (ctl f) (ctl g))) (And' p f q g) are tt (rows_all (ctl f) (parts 0) each.0, rows_all (ctl g) (parts 1) each.1) (λ l low behind. some_pair (ctl f) (ctl g) each.0 each.1 limit l low)
            (λ l low alive behind. both_held (ctl f) (ctl g) each.0 each.1 limit l low) (λ l low behind is. both_most (ctl f) (ctl g) each.0 each.1 limit l low is),
      )
  narrow_made (Or' p f q g) are sizes over growth each =
      let limit = size_at body (either (ctl f) (ctl g)) sizes in (
        made_good (Within (either (ctl f) (ctl g))) (Or' p f q g) are tt (rows_all (ctl f) (parts 0) each.0, rows_all (ctl g) (parts 1) each.1) (λ l low behind. some_pair (ctl f) (ctl g) each.0 each.1 limit l low)
            (λ l low alive behind. either_held (ctl f) (ctl g) each.0 each.1 limit l low) (λ l low behind is. or_most (ctl f) (ctl g) each.0 each.1 limit l low is),
        good (Within (either (ctl f) (ctl g))) (Or' p f q g) are tt (rows_all (ctl f) (parts 0) each.0, rows_all (ctl g) (parts 1) each.1) (λ l low behind. some_pair (ctl f) (ctl g) each.0 each.1 limit l low)
            (λ l low alive behind. either_held (ctl f) (ctl g) each.0 each.1 limit l low) (λ l low behind is. or_most (ctl f) (ctl g) each.0 each.1 limit l low is),
      )
  narrow_made (Next' all p f) are sizes over growth each =
      let limit = size_at body (next all (ctl f)) sizes in (
        made_good (Within (next all (ctl f))) (Next' all p f) are tt (rows_all (ctl f) (parts 0) each) (λ l low behind. next_some all (ctl f) each limit l low)
            (λ l low alive behind. next_held all (ctl f) each limit l low alive) (λ l low behind is. next_most all (ctl f) each limit l low is),
        good (Within (next all (ctl f))) (Next' all p f) are tt (rows_all (ctl f) (parts 0) each) (λ l low behind. next_some all (ctl f) each limit l low)
            (λ l low alive behind. next_held all (ctl f) each limit l low alive) (λ l low behind is. next_most all (ctl f) each limit l low is),
      )
  narrow_made (Until' all p f q g) are sizes over growth each =
      let kz = part_size body (ctl f) in
      let gz = part_size body (ctl g) in
      let limit = size_at body (until all (ctl f) (ctl g)) sizes in
      let S : ℕ → Plan AffineRank → Type 0 = λ l plan. (depth : ℕ) → IsDeep kz gz each.0 each.1 l depth → size_of plan ≤ until_size body kz gz depth l in
      let whole = good S (Until' all p f q g) are tt (rows_all (ctl f) (parts 0) each.0, rows_all (ctl g) (parts 1) each.1) (λ l low behind. none_most kz gz each.0 each.1 limit all l low behind)
      (λ l low alive behind. swept_held kz gz each.0 each.1 limit all l low alive behind)
      (λ l low behind is. until_most kz gz each.0 each.1 limit all (ctl f) (ctl g) l low behind is) in (
        made_good S (Until' all p f q g) are tt (rows_all (ctl f) (parts 0) each.0, rows_all (ctl g) (parts 1) each.1) (λ l low behind. none_most kz gz each.0 each.1 limit all l low behind)
            (λ l low alive behind. swept_held kz gz each.0 each.1 limit all l low alive behind)
            (λ l low behind is. until_most kz gz each.0 each.1 limit all (ctl f) (ctl g) l low behind is),
        (λ l low. ((whole l low).0, (whole l low).1 n (inr (omega arith)))),
      )
  narrow_made (Weak' all p f q g) are sizes over growth each =
      let kz = part_size body (ctl f) in
      let gz = part_size body (ctl g) in
      let limit = size_at body (weak all (ctl f) (ctl g)) sizes in
      let S : ℕ → Plan AffineRank → Type 0 = λ l plan. (depth : ℕ) → IsDeep kz gz each.0 each.1 l depth → size_of plan ≤ until_size body kz gz depth l in
      let whole = good S (Weak' all p f q g) are tt (rows_all (ctl f) (parts 0) each.0, rows_all (ctl g) (parts 1) each.1) (λ l low behind. none_most kz gz each.0 each.1 limit all l low behind)
      (λ l low alive behind. kept_held kz gz each.0 each.1 limit all l low alive behind)
      (λ l low behind is. weak_most kz gz each.0 each.1 limit all (ctl f) (ctl g) l low behind is) in (
        made_good S (Weak' all p f q g) are tt (rows_all (ctl f) (parts 0) each.0, rows_all (ctl g) (parts 1) each.1) (λ l low behind. none_most kz gz each.0 each.1 limit all l low behind)
            (λ l low alive behind. kept_held kz gz each.0 each.1 limit all l low alive behind)
            (λ l low behind is. weak_most kz gz each.0 each.1 limit all (ctl f) (ctl g) l low behind is),
        (λ l low. ((whole l low).0, (whole l low).1 n (inr (omega arith)))),
      )
