-- The label of a loop's test, and those of the assignments before it.
use Rattle.std.proofs.Common.{◌≡◌, ℕ, ◌+◌, ◌*◌, ◌^◌, ◌<◌, ◌≤◌, ℤ, pos, negsuc, neg_ℤ, ◌*ℤ◌, ◌<ℤ◌, true, false, List, ◌++◌, None, Some, length, All, sym, subst, arith}
use Rattle.std.proofs.Math.Nat.{mul-le-mul}
use Rattle.std.proofs.lemmas.Int.{ints}
use Rattle.std.proofs.lemmas.List.Elements.{All-append, Contains-append_left, Contains-append_right}
use Rattle.linear_cons.specs.declared.affine.Affine.{Affine}
use Rattle.linear_cons.specs.declared.bounds.Bounds.{Bounds}
use Rattle.linear_cons.specs.declared.row.Row.{Row}
use Rattle.linear_cons.specs.Functions.{IsQuotient, constant_of, value_at}
use Rattle.linear_cons.specs.Rows.{row_kind_of}
use Rattle.linear_cons.proofs.KindLaws.{primitive_quotient, row_kind_is}
use Rattle.linear_cons.proofs.Ring.{mul_le, mul_one, mul_neg}
use Rattle.linear_cons.specs.Ends.{exactly}
use Rattle.linear_forms.specs.Linearising.{linear_of}
use Rattle.linear_forms.specs.Spreading.{spread_of}
use Rattle.linear_forms.proofs.Exactness.{linear_exact}
use Rattle.control_flow.specs.Labels.{assigns, tests}
use Rattle.step_meaning.specs.declared.count.Count.{Count}
use Rattle.step_meaning.specs.Countdown.{Asks, IsSmall, form_of}
use Rattle.linear_cons.specs.Sizes.{total_size}
use Rattle.step_meaning.specs.Syntax.{Expression, Statements, assign, sequence}
use Rattle.decision_tree.specs.declared.affine_rank.AffineRank.{AffineRank}
use Rattle.tree_support.specs.Arcs.{putting, rows_given, testing}
use Rattle.constraint_stack.specs.Forming.{Formed}
use Rattle.tree_support.specs.Setting.{Trees}
use Rattle.tree_support.specs.Systems.{at_leaves, moved_by, unless_less}
use Rattle.control_flow.specs.Told.{Told}
use Rattle.tree_support.proofs.Lists.{all_one}
use Rattle.tree_support.proofs.Moving.{store_after}
use Rattle.count_down.specs.Asking.{Has}
use Rattle.count_down.specs.Blocking.{IsBlocked}
use Rattle.count_down.specs.Building.{IsLed, IsModest}
use Rattle.count_down.specs.Candidates.{carried, steps_before}
use Rattle.count_down.specs.Trees.{bound, count_tree, ranked}
use Rattle.count_down.proofs.AskingLaws.{each_has}
use Rattle.count_down.proofs.Carrying.{put_in}
use Rattle.count_down.proofs.Fitting.{bound_sizes, claim_fits, most_size, rows_fit, steps_sizes, unset_fits}
use Rattle.count_down.proofs.Heading.{asked_row, leaves_yes, never_taken, steps_less}
use Rattle.count_down.proofs.Inside.{IsAhead}
use Rattle.count_down.proofs.Last.{IsLast, unset_claim}
use Rattle.count_down.proofs.Leading.{below, led_modest, limit, size_before, sizes}
use Rattle.count_down.proofs.Leads.{Blocks, IsGiven, LeadsDown, Passes, all_lead, tested, testing_all, testing_asked}
use Rattle.count_down.proofs.Lining.{Natural, Negative}
use Rattle.count_down.proofs.Modest.{modest_fits, small_sizes}
use Rattle.linear_cons.proofs.Sizes.{sizes_grown}
use Rattle.count_down.proofs.Putting.{put_fits}
use Rattle.count_down.proofs.Stepping.{from_yes, more_natural, more_negative}

module _ (body : Statements) (told : Told) (parts : ℕ → Trees AffineRank) (family : Trees AffineRank) (ground : IsGiven body parts)
    (m s : ℕ) (turn : 0 < m) (short : m ≤ 1024) (rest : s ≤ 1024) where
  -- ---- the test
  module _ (row : Row) (small : IsSmall row.affine) (long : length row.affine.coef ≡ 16) (test : Expression) (asked : Asks test row) (label p q : ℕ) (round after : Count)
      (first : IsAhead body told parts family ground m s turn short rest row.affine small p round) (falls : round.change <ℤ pos 0)
      (steps : m ≡ 1 + round.most)
      (second : IsLast body told parts family ground q after) (lasts : s ≡ after.most) where
    abbrev e : Affine
    e = row.affine

    abbrev v : List ℤ → ℤ
    v store = value_at e store

    own_modest : IsModest e
    own_modest = sizes_grown (2 ^ 31) (2 ^ 91) e (omega arith) (small_sizes e small)

    first_modest : IsModest first.f
    first_modest = sizes_grown (2 ^ 74) (2 ^ 91) first.f (omega arith) first.sizes

    module _ (asks : List Formed) (rows : List Row) where
      -- into a turn, which counts down
      turn_yes : Natural asks v → Blocks body told parts family (ranked (bound m s e 0)) asks (tested 0 p rows)
      turn_yes natural =
          let down = mul_le (pos m) round.change (negsuc 0) (omega (arith, ints)) (omega (arith, ints)) in
          let once = mul_neg (pos m) (pos 1) in
          let unit = mul_one (pos m) in
          let minus : pos m *ℤ negsuc 0 ≡ neg_ℤ (pos m *ℤ pos 1) = once in
          subst (λ tree. All IsBlocked (at_leaves (moved_by None) (unless_less 0 None (ranked (bound m s e 0))) tree (asks ++ rows_given rows)))
          (sym first.tree)
          (from_yes None m s e 0 first.f round.most
          (unset_fits m s e 0 first.f round.most short (omega arith) (let most = first.few in omega arith) own_modest first_modest)
          round.change (omega (arith, ints)) (λ store long. first.value store) 0 (asks ++ rows_given rows) turn (omega arith)
          (omega (arith, ints))
          (more_natural asks (asks ++ rows_given rows) v (λ a inside. Contains-append_left asks (rows_given rows) a inside) natural))

      -- not where the function is below 0
      turn_no : Has row rows → Negative asks v → Blocks body told parts family (ranked (constant_of (pos (0 + 1 + s)))) asks (tested 0 p rows)
      turn_no has falls_below =
          let quotient : IsQuotient e e = primitive_quotient e long in
          subst (λ tree. All IsBlocked (at_leaves (moved_by None) (unless_less 0 None (ranked (constant_of (pos (0 + 1 + s))))) tree
          (asks ++ rows_given rows))) (sym first.tree)
          (never_taken m s e first.f round.most 0 (constant_of (pos (0 + 1 + s))) (asks ++ rows_given rows)
          (rows_fit first.f (row_kind_of first.f) (row_kind_is first.f) first_modest)
          (more_negative asks (asks ++ rows_given rows) v (λ a inside. Contains-append_left asks (rows_given rows) a inside) falls_below)
          (more_natural (rows_given rows) (asks ++ rows_given rows) v (λ a inside. Contains-append_right asks (rows_given rows) a inside)
          (asked_row e row rows quotient (modest_fits e own_modest) has)))

      -- out of the loop
      out_yes : Natural asks v → Blocks body told parts family (ranked (bound m s e 0)) asks (tested 1 q rows)
      out_yes natural =
          let few_last = second.few in
          subst (λ tree. All IsBlocked (at_leaves (moved_by None) (unless_less 1 None (ranked (bound m s e 0))) tree (asks ++ rows_given rows)))
          (sym second.tree)
          (leaves_yes None tt 1 (asks ++ rows_given rows) second.why m s e 0 after.most turn (omega arith)
          (more_natural asks (asks ++ rows_given rows) v (λ a inside. Contains-append_left asks (rows_given rows) a inside) natural)
          (claim_fits None (constant_of (pos after.most)) (bound m s e 0) tt
          (sizes_grown most_size (most_size * 2 ^ 20) (constant_of (pos after.most)) (omega arith) (steps_sizes after.most (omega arith)))
          (bound_sizes m s e 0 short (omega arith) own_modest)))

      out_no : Blocks body told parts family (ranked (constant_of (pos (0 + 1 + s)))) asks (tested 1 q rows)
      out_no =
          let few_last = second.few in
          subst (λ tree. All IsBlocked (at_leaves (moved_by None) (unless_less 1 None (ranked (constant_of (pos (0 + 1 + s))))) tree
          (asks ++ rows_given rows))) (sym second.tree)
          (steps_less None tt 1 (asks ++ rows_given rows) second.why after.most (0 + 1 + s) (omega arith)
          (unset_claim after.most (0 + 1 + s) (omega arith) (omega arith)))

    pub head_passes : family label ≡ count_tree m s e 0
        → Passes body told parts family m s label (tests true test p q)
    head_passes tree =
        let bounds : Bounds = told.bounds label in
        record {
          e = e;
          k = 0;
          tree = tree;
          modest = own_modest;
          steps = omega arith;
          yes_arcs = λ asks natural.
              All-append (Blocks body told parts family (ranked (bound m s e 0)) asks) (testing 0 p (spread_of bounds test true))
              (testing 1 q (spread_of bounds test false))
              (testing_all (Blocks body told parts family (ranked (bound m s e 0)) asks) 0 p (spread_of bounds test true)
              (λ rows. turn_yes asks rows natural))
              (testing_all (Blocks body told parts family (ranked (bound m s e 0)) asks) 1 q (spread_of bounds test false)
              (λ rows. out_yes asks rows natural));
          no_arcs = λ asks falls_below.
              All-append (Blocks body told parts family (ranked (constant_of (pos (0 + 1 + s)))) asks) (testing 0 p (spread_of bounds test true))
              (testing 1 q (spread_of bounds test false))
              (testing_asked (Blocks body told parts family (ranked (constant_of (pos (0 + 1 + s)))) asks) row 0 p (spread_of bounds test true)
              (each_has bounds row test asked)
              (λ rows has. turn_no asks rows has falls_below))
              (testing_all (Blocks body told parts family (ranked (constant_of (pos (0 + 1 + s)))) asks) 1 q (spread_of bounds test false)
              (λ rows. out_no asks rows));
        }

  -- ---- an assignment before the loop
  module _ (row : Row) (x : ℕ) (v : Expression) (more : Statements) (led : IsLed row (sequence (assign x v) more)) (label next : ℕ) where
    abbrev here : Affine
    here = carried row.affine (sequence (assign x v) more)

    abbrev behind_it : Affine
    behind_it = carried row.affine more

    size_small : total_size (form_of v) ≤ 2 ^ 60
    size_small =
        let product = led.counts.2 in
        let grown : 1 * (1 + total_size (form_of v)) ≤ led.product * (1 + total_size (form_of v)) = mul-le-mul led.some (omega arith) in
        omega arith

    pub before_passes : steps_before more + 1 + s ≤ 2048 → family label ≡ count_tree m s here (1 + steps_before more)
        → family next ≡ count_tree m s behind_it (steps_before more)
        → Passes body told parts family m s label (assigns x v next)
    before_passes few tree there =
        let j : ℕ = steps_before more in
        let low : x < 16 = below row x v more led in
        let bounds : Bounds = told.bounds label in
        let modest : IsModest here = led_modest row (sequence (assign x v) more) led in
        let exact : linear_of bounds v ≡ exactly (form_of v) = linear_exact bounds v led.counts.0 led.counts.1 in
        let carries = put_in behind_it x low bounds v exact in
        let grown = limit row x v more led in
        let leads : LeadsDown body told parts family m s here (1 + j) (putting x next (form_of v)) = record {
          f = behind_it;
          j = j;
          tree = there;
          d = pos 0;
          less = omega (arith, ints);
          is = λ store long.
              let put : value_at behind_it (store_after (Some (x, form_of v)) store) ≡ value_at here store = rw exact at (carries store long) in
              omega (arith, ints);
          fits = put_fits x low (form_of v) m s here (1 + j) behind_it j (size_before more) short (omega arith) (omega arith) modest
              (sizes row x v more led) (omega arith) size_small;
          step = omega arith;
        } in
        all_lead body told parts family m s here (1 + j) turn label (assigns x v next) tree modest (omega arith)
        (rw exact (all_one (LeadsDown body told parts family m s here (1 + j)) (putting x next (form_of v)) leads))
