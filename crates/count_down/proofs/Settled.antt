-- All systems of a candidate are blocked.
use Rattle.std.proofs.Common.{◌≡◌, ℕ, zero, suc, ◌+◌, ◌*◌, ◌^◌, ◌<◌, ◌≤◌, true, ⊎_elim, inl, inr, ◌⊎◌, List, [], ◌∷◌, ◌++◌, length, length-append, append_assoc, get_or, All, refl, sym, ap, subst, ◌∙◌, arith}
use Rattle.std.proofs.Math.Seq.{get_or-append_seam}
use Rattle.std.proofs.lemmas.Bool.{cases_lt}
use Rattle.std.proofs.lemmas.Int.{ints}
use Rattle.std.proofs.lemmas.List.{get_or_past, length-map}
use Rattle.linear_cons.specs.declared.affine.Affine.{Affine}
use Rattle.linear_cons.specs.declared.row.Row.{Row}
use Rattle.control_flow.specs.Actions.{IsSorted}
use Rattle.control_flow.specs.Labels.{Jumps, Action, Label, action_at, all_labels, entry_label, inside as within, labels_of, labels_of_statement, stray, tests}
use Rattle.control_flow.proofs.LabelLaws.{count_of_labels, labels_are_sorted}
use Rattle.control_flow.proofs.Standing.{EachFrom, each_at, each_both, length-labels_of, length-labels_of_statement}
use Rattle.step_meaning.specs.declared.statement.Block.{Block}
use Rattle.step_meaning.specs.declared.count.Count.{Count}
use Rattle.step_meaning.specs.declared.countdown.Countdown.{Countdown}
use Rattle.step_meaning.specs.declared.countdown.Countdown.TheVariants.{Straight, Loop}
use Rattle.step_meaning.specs.Counts.{HasNoLoop, before, none}
use Rattle.step_meaning.specs.Countdown.{Asks, CountsDown, CountsFrom, IsCountdownBy, change_by, form_of}
use Rattle.linear_cons.specs.Sizes.{total_size}
use Rattle.step_meaning.specs.Step.{Todo, behind_body, items_of, one}
use Rattle.step_meaning.specs.Syntax.{Expression, Statements, statements, assign, while_loop, sequence, size_of}
use Rattle.step_meaning.specs.Valid.{IsBody}
use Rattle.decision_tree.specs.Plans.{Plan, bottom}
use Rattle.decision_tree.specs.Paths.{leaf_numbered}
use Rattle.decision_tree.specs.declared.affine_rank.AffineRank.{AffineRank}
use Rattle.decision_tree.specs.declared.reason.Why.TheVariants.{End}
use Rattle.ctl_formula.specs.Formulas.{af_exit}
use Rattle.tree_support.specs.Setting.{Trees, setting_of, trees_in}
use Rattle.tree_support.specs.Systems.{of_leaf, region}
use Rattle.control_flow.specs.Told.{Told}
use Rattle.tree_support.proofs.Lists.{all_none}
use Rattle.count_down.specs.Blocking.{AllBlocked, IsBlocked, IsGround}
use Rattle.count_down.specs.Building.{IsFew, IsLed}
use Rattle.count_down.specs.Candidates.{IsCandidate, behind, candidate_by, carried, counting, inner, inside, last_of_loop, last_steps, looping, most_within, nothing, steps_before, turn_counts, turn_of_loop, turn_steps}
use Rattle.count_down.specs.LabelCounts.{counts_of}
use Rattle.count_down.specs.Trees.{count_tree, ended}
use Rattle.count_down.proofs.CountingLaws.{AreWalked, EachIs, Follows, StandAt, counting_walked, entry_stands, few_counts, few_turn_counts, list_followed, measured_walked, stand_first, stand_mapped, stand_second, stand_with}
use Rattle.count_down.proofs.Head.{before_passes, head_passes}
use Rattle.count_down.proofs.Inside.{IsAhead, IsInside, ahead, inside_passes}
use Rattle.count_down.proofs.Labelled.{where_alive}
use Rattle.count_down.proofs.Labelling.{length_candidate, length_counts, length_turn}
use Rattle.count_down.proofs.Last.{IsBehind, IsLast, Steps, last, steps_done, last_labels}
use Rattle.count_down.proofs.Leading.{last_short, led_behind, most_turn, steps_short, turn_short}
use Rattle.count_down.proofs.Leads.{Blocked, IsGiven, Passes, passes_blocked}
use Rattle.count_down.proofs.Measured.{counting_measured, free_measured, most_before, nothing_small}
use Rattle.count_down.proofs.Modest.{small_sizes}
use Rattle.linear_cons.proofs.Sizes.{sizes_grown}
use Rattle.count_down.proofs.Over.{asked_over}
use Rattle.count_down.proofs.Straight.{end_blocked}

each_weaken : (P Q : ℕ → Label → Type 0) → ((l : ℕ) (x : Label) → P l x → Q l x) → (n : ℕ) (xs : List Label) → EachFrom P n xs → EachFrom Q n xs
each_weaken P Q weaker n [] each = tt
each_weaken P Q weaker n (x ∷ xs) each = (weaker n x each.0, each_weaken P Q weaker (n + 1) xs each.1)

-- the trees of a list are those of the family that it holds
pub trees_stand : (xs ys : List (Plan AffineRank)) (k : ℕ) → length xs ≡ k → StandAt (λ l (tree : Plan AffineRank). trees_in (xs ++ ys) l ≡ tree) k ys
trees_stand xs [] k e = tt
trees_stand xs (y ∷ ys) k e =
    let here : get_or (xs ++ y ∷ ys) k bottom ≡ y = ap (λ i. get_or (xs ++ y ∷ ys) i bottom) (sym e) ∙ get_or-append_seam xs y ys bottom in
    let grown = length-append xs (y ∷ []) in
    let longer : length (xs ++ y ∷ []) ≡ k + 1 = omega arith in (
      here,
      subst (λ t. StandAt (λ l (tree : Plan AffineRank). trees_in t l ≡ tree) (k + 1) ys) (append_assoc xs (y ∷ []) ys)
          (trees_stand (xs ++ y ∷ []) ys (k + 1) longer),
    )

module _ (body : Statements) (told : Told) (parts : ℕ → Trees AffineRank) (family : Trees AffineRank) (ground : IsGiven body parts)
    (ended_is : family 0 ≡ ended) where
  abbrev Is : ℕ → Plan AffineRank → Type 0
  Is l tree = family l ≡ tree

  -- what is done at the label is blocked
  abbrev Done : ℕ → Action → Type 0
  Done l action = ((m : ℕ) × (s : ℕ) × (0 < m) × (m ≤ 1024) × Passes body told parts family m s l action) ⊎ Steps body told parts family ground l action

  abbrev IsSettled : ℕ → Label → Type 0
  IsSettled l x = IsSorted ground.vars x.action → Done l x.action

  -- ---- statements without loops, behind which the program ends

  end_last : IsLast body told parts family ground 0 none
  end_last = record { why = End; tree = ended_is; few = omega arith }

  module _ (n : ℕ) (left : Todo) (more : Statements) (free : HasNoLoop more) (sorted : IsBody ground.vars more) (few : size_of more < 1024)
      (trees : StandAt Is n (behind more)) where
    behind_stand : StandAt (IsBehind body told parts family ground) n (counts_of (change_by nothing) more none)
    behind_stand =
        stand_with (λ l c. family l ≡ most_within c) (IsFew 2048) n (counts_of (change_by nothing) more none)
        (stand_mapped Is most_within n (counts_of (change_by nothing) more none) trees)
        (few_counts nothing nothing_small ground.vars ground.few_vars more none sorted (free_measured more free) (omega (arith, ints)) (omega arith))

    behind_entered : IsLast body told parts family ground (entry_label n 0 more) (before (change_by nothing) more none)
    behind_entered =
        entry_stands nothing (IsLast body told parts family ground) (IsBehind body told parts family ground)
        (last body told parts family ground) n 0 stray more none
        (measured_walked nothing (IsLast body told parts family ground) (IsBehind body told parts family ground)
        (last body told parts family ground) end_last more (free_measured more free))
        end_last behind_stand

    behind_settled : EachFrom IsSettled n (labels_of n 0 stray left more)
    behind_settled =
        each_weaken (λ l x. Follows nothing (IsLast body told parts family ground) (IsBehind body told parts family ground)
        (last body told parts family ground) l x.action) IsSettled
        (λ l x follows sort. inr (last_labels body told parts family ground l x.action sort follows))
        n (labels_of n 0 stray left more)
        (list_followed nothing (IsLast body told parts family ground) (IsBehind body told parts family ground)
        (last body told parts family ground) n 0 stray left more none
        (measured_walked nothing (IsLast body told parts family ground) (IsBehind body told parts family ground)
        (last body told parts family ground) end_last more (free_measured more free))
        end_last behind_stand)

  -- ---- the loop

  module _ (row : Row) (n : ℕ) (left : Todo) (test : Expression) (round step more : Statements) (asks : Asks test row)
      (counts : CountsDown round step row.affine) (free : HasNoLoop more)
      (sorted : IsBody ground.vars (sequence (while_loop test round step) more)) (few : size_of (sequence (while_loop test round step) more) < 1024)
      (trees : StandAt Is n (looping row.affine round step more)) where
    abbrev e : Affine
    e = row.affine

    abbrev m : ℕ
    m = turn_steps e round step

    abbrev s : ℕ
    s = last_steps more

    abbrev by_step : Count
    by_step = before (change_by e) step none

    abbrev by_turn : Count
    by_turn = before (change_by e) round by_step

    some_turn : 0 < m
    some_turn = omega arith

    short_turn : m ≤ 1024
    short_turn = let most = most_turn e round step in omega arith

    short_last : s ≤ 1024
    short_last = let most = most_before (change_by nothing) more none in omega arith

    abbrev Ahead : ℕ → Count → Type 0
    Ahead = IsAhead body told parts family ground m s some_turn short_turn short_last e counts.small

    abbrev Inside : ℕ → Count → Type 0
    Inside = IsInside body told parts family ground m s some_turn short_turn short_last e counts.small

    weaker : (l : ℕ) (c : Count) → Inside l c → Ahead l c
    weaker = ahead body told parts family ground m s some_turn short_turn short_last e counts.small

    few_turn : EachIs (IsFew 2048) (turn_counts e round step)
    few_turn = few_turn_counts ground.vars ground.few_vars e round step counts sorted.0.1 sorted.0.2 (omega arith)

    turn_stand : StandAt Inside (n + 1) (turn_counts e round step)
    turn_stand =
        stand_with (λ l c. family l ≡ inside m s e c) (IsFew 2048) (n + 1) (turn_counts e round step)
        (stand_mapped Is (inside m s e) (n + 1) (turn_counts e round step)
        (stand_first Is (n + 1) (inner m s e round step) (behind more) trees.1)) few_turn

    abbrev step_at : ℕ
    step_at = n + 1 + size_of round

    round_stand : StandAt Inside (n + 1) (counts_of (change_by e) round by_step)
    round_stand = stand_first Inside (n + 1) (counts_of (change_by e) round by_step) (counts_of (change_by e) step none) turn_stand

    step_stand : StandAt Inside step_at (counts_of (change_by e) step none)
    step_stand =
        let size = length_counts e (change_by e) round by_step (counting_measured e round counts.in_body) in
        stand_second Inside (n + 1) step_at (counts_of (change_by e) round by_step) (counts_of (change_by e) step none) (omega arith) turn_stand

    -- the test stands before a turn with nothing counted
    head_ahead : Ahead n none
    head_ahead = record {
      f = e;
      tree = trees.0;
      value = λ store. omega (arith, ints);
      same = λ x low. refl;
      sizes = sizes_grown (2 ^ 31) (2 ^ 74) e (omega arith) (small_sizes e counts.small);
      few = omega arith;
    }

    step_walked : AreWalked e Ahead Inside weaker stray step
    step_walked = counting_walked e Ahead Inside weaker stray step counts.in_step

    step_entered : Ahead (entry_label step_at n step) by_step
    step_entered = entry_stands e Ahead Inside weaker step_at n stray step none step_walked head_ahead step_stand

    abbrev turn_at : ℕ
    turn_at = entry_label step_at n step

    -- where jumps from the body lead
    abbrev turning : Jumps
    turning = within (entry_label (n + (1 + size_of round + size_of step)) 0 more) turn_at

    round_walked : AreWalked e Ahead Inside weaker turning round
    round_walked = counting_walked e Ahead Inside weaker turning round counts.in_body

    round_entered : Ahead (entry_label (n + 1) turn_at round) by_turn
    round_entered = entry_stands e Ahead Inside weaker (n + 1) turn_at turning round by_step round_walked step_entered round_stand

    inside_settled : (k after : ℕ) (jumps : Jumps) (rest : Todo) (block : Statements)
        → EachFrom (λ l x. Follows e Ahead Inside weaker l x.action) k (labels_of k after jumps rest block)
        → EachFrom IsSettled k (labels_of k after jumps rest block)
    inside_settled k after jumps rest block followed =
        each_weaken (λ l x. Follows e Ahead Inside weaker l x.action) IsSettled
        (λ l x follows sort.
        inl (
          m,
          s,
          some_turn,
          short_turn,
          inside_passes body told parts family ground m s some_turn short_turn short_last e counts.small l x.action sort follows,
        ))
        k (labels_of k after jumps rest block) followed

    abbrev after_at : ℕ
    after_at = n + (1 + size_of round + size_of step)

    abbrev later : Todo
    later = items_of more ++ left

    behind_trees : StandAt Is after_at (behind more)
    behind_trees =
        let size = length_turn e round step counts in
        let mapped = length-map (turn_counts e round step) (inside m s e) in
        stand_second Is (n + 1) after_at (inner m s e round step) (behind more) (omega arith) trees.1

    few_more : size_of more < 1024
    few_more = omega arith

    head_settled : IsSettled n (record {
      todo = one (while_loop test round step) ∷ later;
      action = tests true test (entry_label (n + 1) turn_at round)
          (entry_label after_at 0 more);
    })
    head_settled sort =
        let over = asked_over ground.vars test row sorted.0.0 asks in
        let long = over.places in
        inl (
          m,
          s,
          some_turn,
          short_turn,
          head_passes body told parts family ground m s some_turn short_turn short_last row counts.small long test asks n
              (entry_label (n + 1) turn_at round) (entry_label after_at 0 more) by_turn (before (change_by nothing) more none)
              round_entered counts.falls refl (behind_entered after_at later more free sorted.1 few_more behind_trees) refl trees.0,
        )

    loop_settled : EachFrom IsSettled n (labels_of n 0 stray left (sequence (while_loop test round step) more))
    loop_settled =
        let whole = length-labels_of_statement n (entry_label after_at 0 more) stray later (while_loop test round step) in
        let size = length-labels_of (n + 1) turn_at turning (behind_body test round step later) round in
        each_both IsSettled n after_at (labels_of_statement n (entry_label after_at 0 more) stray later (while_loop test round step))
        (labels_of after_at 0 stray left more) (omega arith) (
          head_settled,
          each_both IsSettled (n + 1) step_at (labels_of (n + 1) turn_at turning (behind_body test round step later) round)
              (labels_of step_at n stray (one (while_loop test round step) ∷ later) step) (omega arith)
              (inside_settled (n + 1) turn_at turning (behind_body test round step later) round
              (list_followed e Ahead Inside weaker (n + 1) turn_at turning
              (behind_body test round step later) round by_step round_walked step_entered round_stand))
              (inside_settled step_at n stray (one (while_loop test round step) ∷ later) step
              (list_followed e Ahead Inside weaker step_at n stray (one (while_loop test round step) ∷ later) step none step_walked head_ahead step_stand)),
        )
        (behind_settled after_at left more free sorted.1 few_more behind_trees)

  -- ---- assignments, and then the loop

  -- a turn takes a step at least
  turn_some : (row : Row) (p : ℕ) (s : Statements) → CountsFrom row p s → 0 < turn_of_loop row.affine s
  turn_some row p (sequence (assign x v) more) counts = turn_some row (p * (1 + total_size (form_of v))) more counts.3
  turn_some row p (sequence (while_loop test round step) more) counts = omega arith
  turn_some row p other counts = absurd counts

  -- the tree where the statements are entered
  entered_tree : (row : Row) (p n : ℕ) (s : Statements) → CountsFrom row p s → StandAt Is n (counting row.affine s)
      → family (entry_label n 0 s) ≡ count_tree (turn_of_loop row.affine s) (last_of_loop s) (carried row.affine s) (steps_before s)
  entered_tree row p n (sequence (assign x v) more) counts trees = trees.0
  entered_tree row p n (sequence (while_loop test round step) more) counts trees = trees.0
  entered_tree row p n other counts trees = absurd counts

  counting_settled : (row : Row) (n : ℕ) (left : Todo) (s : Statements) (led : IsLed row s) → IsBody ground.vars s → size_of s < 1024
      → StandAt Is n (counting row.affine s)
      → EachFrom IsSettled n (labels_of n 0 stray left s)
  counting_settled row n left (sequence (assign x v) more) led sorted few trees =
      let later : IsLed row more = led_behind row x v more led in
      let turn = turn_short row.affine more in
      let last_few = last_short more in
      let steps = steps_short more in (
        (λ sort. inl (
          turn_of_loop row.affine more,
          last_of_loop more,
          turn_some row later.product more later.counts,
          omega arith,
          before_passes body told parts family ground (turn_of_loop row.affine more) (last_of_loop more)
              (turn_some row later.product more later.counts) (omega arith) (omega arith)
              row x v more led n (entry_label (n + 1) 0 more) (omega arith) trees.0
              (entered_tree row later.product (n + 1) more later.counts trees.1),
        )),
        counting_settled row (n + 1) left more later sorted.1 (omega arith) trees.1,
      )
  counting_settled row n left (sequence (while_loop test round step) more) led sorted few trees =
      loop_settled row n left test round step more led.counts.0 led.counts.1 led.counts.2 sorted few trees
  counting_settled row n left other led sorted few trees = absurd led.counts

  -- ---- all labels

  done_blocked : (l : ℕ) → l < length (all_labels body) → Done l (action_at body l) → Blocked body told parts family l
  done_blocked l low (inl passes) = passes_blocked body told parts family ground passes.0 passes.1 l low passes.2 passes.3 passes.4
  done_blocked l low (inr steps) = steps_done body told parts family ground l low steps

  -- past the labels no leaf is defined
  past_blocked : (l : ℕ) → family l ≡ bottom → Blocked body told parts family l
  past_blocked l is place =
      where_alive IsBlocked (told.dead l)
      (of_leaf (setting_of body told af_exit parts) (leaf_numbered (family l) place) family l
      (region (setting_of body told af_exit parts) (family l) l place))
      (subst (λ tree. All IsBlocked (of_leaf (setting_of body told af_exit parts) (leaf_numbered tree place) family l
      (region (setting_of body told af_exit parts) tree l place))) (sym is)
      (all_none IsBlocked))

  settled_blocked : ((l : ℕ) → length (all_labels body) ≤ l → family l ≡ bottom) → EachFrom IsSettled 1 (labels_of 1 0 stray [] body)
      → AllBlocked (setting_of body told af_exit parts) family
  settled_blocked past settled zero = end_blocked body told parts family ended_is
  settled_blocked past settled (suc k) = ⊎_elim
      (λ (low : suc k < length (all_labels body)).
      let count = count_of_labels body in
      let labels = length-labels_of 1 0 stray [] body in
      let own = each_at IsSettled 1 (labels_of 1 0 stray [] body) settled k (suc k) (omega arith) (omega arith) in
      done_blocked (suc k) low (own (labels_are_sorted ground.vars body ground.sorted (suc k) low)))
      (λ (high : length (all_labels body) ≤ suc k). past_blocked (suc k) (past (suc k) high))
      (cases_lt (suc k) (length (all_labels body)))

-- the trees of a reason
blocked_by : (countdown : Countdown) (body : Statements) (told : Told) (parts : ℕ → Trees AffineRank) (ground : IsGiven body parts)
    → IsCountdownBy countdown body
    → AllBlocked (setting_of body told af_exit parts) (trees_in (candidate_by countdown body))
blocked_by Straight body told parts ground free =
    let trees : List (Plan AffineRank) = ended ∷ behind body in
    let count = count_of_labels body in
    let long = length_candidate Straight body free in
    settled_blocked body told parts (trees_in (ended ∷ behind body)) ground refl
    (λ l high. get_or_past (ended ∷ behind body) l bottom (omega arith))
    (behind_settled body told parts (trees_in (ended ∷ behind body)) ground refl 1 [] body free ground.sorted ground.few
    (trees_stand (ended ∷ []) (behind body) 1 refl))
blocked_by (Loop row) body told parts ground counts =
    let count = count_of_labels body in
    let long = length_candidate (Loop row) body counts in
    let led : IsLed row body = record {
      vars = ground.vars;
      few = ground.few_vars;
      sorted = ground.sorted;
      product = 1;
      some = omega arith;
      small = omega arith;
      counts = counts.0;
    } in
    settled_blocked body told parts (trees_in (ended ∷ counting row.affine body)) ground refl
    (λ l high. get_or_past (ended ∷ counting row.affine body) l bottom (omega arith))
    (counting_settled body told parts (trees_in (ended ∷ counting row.affine body)) ground refl row 1 [] body led ground.sorted ground.few
    (trees_stand (ended ∷ []) (counting row.affine body) 1 refl))

-- a candidate
pub candidate_blocked : (vars : ℕ) (block : Block) (told : Told) (parts : ℕ → Trees AffineRank) (trees : List (Plan AffineRank))
    → IsGround vars block parts
    → IsCandidate trees (statements block) → AllBlocked (setting_of (statements block) told af_exit parts) (trees_in trees)
candidate_blocked vars block told parts trees ground candidate =
    subst (λ t. AllBlocked (setting_of (statements block) told af_exit parts) (trees_in t)) (sym candidate.2)
    (blocked_by candidate.0 (statements block) told parts
    (record {
      vars = vars;
      few_vars = ground.few_variables;
      sorted = ground.sorted;
      few = ground.few_labels;
      kept = ground.whole;
    })
    candidate.1)
