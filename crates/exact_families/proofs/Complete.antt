-- Where a configuration satisfies a part of a formula, the family that sweeps make for it is defined: in a program without loops.
use Rattle.std.specs.Prelude.{⊤}
use Rattle.std.proofs.Common.{◌≡◌, ◌⊎◌, ⊎_elim, ℕ, zero, suc, ◌+◌, ◌<◌, ◌≤◌, ℤ, pos, int_le, Bool, true, false, ◌||◌, cond, List, length, length-set, refl, sym, ap, subst, ◌∙◌, arith, set}
use Rattle.std.proofs.lemmas.Bool.{false≢true}
use Rattle.step_meaning.specs.Step.{Configuration, IsFinal, Next}
use Rattle.linear_cons.specs.declared.affine.Affine.{Affine}
use Rattle.linear_cons.specs.Functions.{substituted, value_at}
use Rattle.linear_cons.proofs.Forms.{value_substituted}
use Rattle.linear_forms.specs.Duality.{AreDual}
use Rattle.decision_tree.specs.Plans.{Plan, bottom, branch, is_defined, leaf, top}
use Rattle.decision_tree.specs.declared.affine_rank.AffineRank.{AffineRank}
use Rattle.decision_tree.specs.declared.reason.Pick.TheVariants.{Yes, No}
use Rattle.decision_tree.specs.declared.reason.Why.{Why}
use Rattle.ctl_formula.specs.Satisfaction.{Ahead, WeakIn}
use Rattle.ctl_formula.specs.Systems.{Classically}
use Rattle.tree_unify.specs.Shapes.{joined}
use Rattle.tree_unify.specs.declared.join.Join.TheVariants.{Later}
use Rattle.tree_support.specs.Certificates.{affine_ranks}
use Rattle.tree_support.specs.Setting.{Trees}
use Rattle.exact_families.proofs.Deeds.{Deed, asks, before, before_free, finishes, frees, passes, sets}
use Rattle.exact_families.proofs.Judges.{GrantsOne, IsJudge, judged}
use Rattle.backward_transfer.specs.Picks.{picked}
use Rattle.backward_transfer.specs.Steps.{stepped_by}
use Rattle.exact_families.proofs.Completing.{Goes, GoesOnly, IsLike, Respects, both_ahead, one_ahead, one_weak, or_left, or_right, some_ahead, two_weak, weak_like}
use Rattle.exact_families.proofs.Definedness.{assign_defined, either_defined, skip_defined, test_fails, test_holds}
use Rattle.exact_families.proofs.Judging.{cut_judged, joined_judged, node_no, node_yes, on_no, on_yes, true_or_not}
use Rattle.exact_families.proofs.Freely.{judged_counts, later_met}
use Rattle.exact_families.proofs.Making.{which_leaf, rank_alike}
use Rattle.exact_families.proofs.StoreJudges.{store_says, stores_judge}
use Rattle.unroll.specs.Levels.{counted, RanksCount}
use Rattle.unroll.proofs.CountedRanks.{Counts}
use Rattle.backward_transfer.specs.AffineShapes.{same_rank}

-- a tree's leaf depends on what is said of its rows alone
judged_same : {R : Type 0} (v w : Affine → Bool) → ((a : Affine) → v a ≡ w a) → (plan : Plan R) → judged v plan ≡ judged w plan
judged_same v w same bottom = refl
judged_same v w same (top cause) = refl
judged_same v w same (leaf why rank) = refl
judged_same v w same (branch row this that) = rw (same row.affine, judged_same v w same this, judged_same v w same that) refl

-- what a store says of a function with another put in the store behind the assignment says of the function
says_behind : (store : List ℤ) (x : ℕ) (by : Affine) → x < 16 → length store ≡ 16 → (a : Affine) → store_says store (substituted a x by) ≡ store_says (set store x (value_at by store)) a
says_behind store x by low long a = ap (λ z. int_le (pos 0) z) (value_substituted a x by store low (omega arith))

-- ---- the program: what follows a label and a store

module _ (conf : ℕ → List ℤ → Configuration) where
  -- the configurations that follow, at a label at which this is done
  abbrev pub GoesAs : ℕ → Deed → List ℤ → Type 0
  GoesAs l finishes s = IsFinal (conf l s) × Goes (conf l s) (conf l s) × GoesOnly (conf l s) (conf l s)
  GoesAs l (sets x by target) s =
      (IsFinal (conf l s) → ⊥) × (x < 16) × Goes (conf l s) (conf target (set s x (value_at by s)))
      × GoesOnly (conf l s) (conf target (set s x (value_at by s)))
  GoesAs l (passes target) s = (IsFinal (conf l s) → ⊥) × Goes (conf l s) (conf target s) × GoesOnly (conf l s) (conf target s)
  GoesAs l (asks holds fails then_to else_to) s =
      (IsFinal (conf l s) → ⊥) × AreDual holds fails
      × ((GrantsOne (store_says s) holds × Goes (conf l s) (conf then_to s) × GoesOnly (conf l s) (conf then_to s))
      ⊎ (GrantsOne (store_says s) fails × Goes (conf l s) (conf else_to s) × GoesOnly (conf l s) (conf else_to s)))
  GoesAs l (frees then_to else_to) s =
      (IsFinal (conf l s) → ⊥) × Goes (conf l s) (conf then_to s) × Goes (conf l s) (conf else_to s)
      × ((d : Configuration) → Next (conf l s) d → IsLike d (conf then_to s) ⊎ IsLike d (conf else_to s))

-- each label that may follow is 0 or greater, and one of n
abbrev pub LeadsOn : ℕ → ℕ → ℕ → Type 0
LeadsOn n l target = (target < n) × ((target ≡ 0) ⊎ (l < target))

abbrev pub AreAfter : ℕ → ℕ → Deed → Type 0
AreAfter n l finishes = ⊤
AreAfter n l (sets x by target) = LeadsOn n l target
AreAfter n l (passes target) = LeadsOn n l target
AreAfter n l (asks holds fails then_to else_to) = LeadsOn n l then_to × LeadsOn n l else_to
AreAfter n l (frees then_to else_to) = LeadsOn n l then_to × LeadsOn n l else_to

-- something holds at each label that may follow
abbrev pub AtAfter : Deed → (ℕ → Type 0) → Type 0
AtAfter finishes P = ⊤
AtAfter (sets x by target) P = P target
AtAfter (passes target) P = P target
AtAfter (asks holds fails then_to else_to) P = P then_to × P else_to
AtAfter (frees then_to else_to) P = P then_to × P else_to

-- from the end upward
module _ (n : ℕ) (deeds : ℕ → Deed) (after : (l : ℕ) → l < n → AreAfter n l (deeds l)) (P : ℕ → Type 0) (start : P 0)
    (step : (l : ℕ) → suc l < n → AtAfter (deeds (suc l)) P → P (suc l)) where
  one_on : (k l target : ℕ) → n ≤ l + suc k → LeadsOn n l target → ((t : ℕ) → t < n → n ≤ t + k → P t) → P target
  one_on k l target far on below =
      let low = on.0 in
      ⊎_elim (λ is. subst P (sym is) start) (λ more. below target low (omega (arith, far, more))) on.1

  all_on : (k l : ℕ) (deed : Deed) → n ≤ l + suc k → AreAfter n l deed → ((t : ℕ) → t < n → n ≤ t + k → P t) → AtAfter deed P
  all_on k l finishes far on below = tt
  all_on k l (sets x by target) far on below = one_on k l target far on below
  all_on k l (passes target) far on below = one_on k l target far on below
  all_on k l (asks holds fails then_to else_to) far on below = (one_on k l then_to far on.0 below, one_on k l else_to far on.1 below)
  all_on k l (frees then_to else_to) far on below = (one_on k l then_to far on.0 below, one_on k l else_to far on.1 below)

  within : (k l : ℕ) → l < n → n ≤ l + k → P l
  within zero l low far = absurd (omega (arith, low, far))
  within (suc k) zero low far = start
  within (suc k) (suc l) low far = step l low (all_on k (suc l) (deeds (suc l)) far (after (suc l) low) (λ t t_low t_far. within k t t_low t_far))

  pub upward : (l : ℕ) → l < n → P l
  upward l low = within n l low (omega (arith, low))

-- ---- what is satisfied ahead

-- Where it is so of all, or some, successors: of the one there is, of both of two, or of one of two.
pub record Reaches (all : Bool) (c : Configuration) (Good : Configuration → Type 0) : Type 0 where
  pub one : (e : Configuration) → Goes c e → GoesOnly c e → Classically (Good e)
  pub two : all ≡ true → (e f : Configuration) → Goes c e → Goes c f → Good e × Good f
  pub some : all ≡ false → (e f : Configuration) → ((d : Configuration) → Next c d → IsLike d e ⊎ IsLike d f) → Classically (Good e ⊎ Good f)

pub ahead_reaches : (all : Bool) (c : Configuration) (Good : Configuration → Type 0) → Respects Good → Ahead all Good c → Reaches all c Good
ahead_reaches true c Good respects own = record {
  one = λ e goes only. one_ahead true Good respects c e goes only own;
  two = λ is e f first second. both_ahead Good respects c e f first second own;
  some = λ is. absurd (false≢true (sym is));
}
ahead_reaches false c Good respects own = record {
  one = λ e goes only. one_ahead false Good respects c e goes only own;
  two = λ is. absurd (false≢true is);
  some = λ is e f only. some_ahead Good respects c e f only own;
}

pub weak_reaches : (all : Bool) (keep goal : Configuration → Type 0) → Respects keep → Respects goal → (c : Configuration) → ((n : ℕ) → Ahead all (λ d. WeakIn n all keep goal d) c)
    → Reaches all c (λ d. (n : ℕ) → WeakIn n all keep goal d)
weak_reaches true keep goal keeps goals c own = record {
  one = λ e goes only none. none (one_weak true keep goal keeps goals c e goes only own);
  two = λ is e f first second. (
    λ n. (both_ahead (λ d. WeakIn n true keep goal d) (weak_like true keep goal keeps goals n) c e f first second (own n)).0,
    λ n. (both_ahead (λ d. WeakIn n true keep goal d) (weak_like true keep goal keeps goals n) c e f first second (own n)).1,
  );
  some = λ is. absurd (false≢true (sym is));
}
weak_reaches false keep goal keeps goals c own = record {
  one = λ e goes only none. none (one_weak false keep goal keeps goals c e goes only own);
  two = λ is. absurd (false≢true is);
  some = λ is e f only. two_weak keep goal keeps goals c e f only own;
}

abbrev Holds : Trees AffineRank → ℕ → List ℤ → Type 0
Holds trees l s = is_defined (judged (store_says s) (trees l)) ≡ true

by_judged : (v : Affine → Bool) (plan : Plan AffineRank) (t : Bool)
    → is_defined (judged v (stepped_by same_rank affine_ranks.one_more (cond t Yes No) plan)) ≡ is_defined (judged v plan)
by_judged v bottom t = refl
by_judged v (top cause) t = refl
by_judged v (leaf why rank) t = refl
by_judged v (branch row this that) t =
    ⊎_elim
    (λ held. ap is_defined (node_yes same_rank rank_alike v row (stepped_by same_rank affine_ranks.one_more (cond t Yes No) this) (stepped_by same_rank affine_ranks.one_more (cond t Yes No) that) held)
    ∙ by_judged v this t ∙ sym (ap is_defined (on_yes v row this that held)))
    (λ lost. ap is_defined (node_no same_rank rank_alike v row (stepped_by same_rank affine_ranks.one_more (cond t Yes No) this) (stepped_by same_rank affine_ranks.one_more (cond t Yes No) that) lost)
    ∙ by_judged v that t ∙ sym (ap is_defined (on_no v row this that lost)))
    (true_or_not (v row.affine))

later_of_leaves : (v : Affine → Bool) → IsJudge v → (this that : Plan AffineRank) (why other : Why) (m n : ℕ) → judged v this ≡ leaf why (counted m) → judged v that ≡ leaf other (counted n)
    → is_defined (judged v (joined same_rank affine_ranks.where_greater affine_ranks.greater_fits Later this that)) ≡ true
later_of_leaves v j this that why other m n one two =
    ap is_defined (joined_judged same_rank rank_alike v j affine_ranks.where_greater affine_ranks.greater_fits Later this that ∙ rw (one, two) refl)
    ∙ ⊎_elim (λ more. ap (λ t. is_defined (judged v t)) more.0) (λ less. ap (λ t. is_defined (judged v t)) less.0) (later_met why other m n)

-- the later of two claims of steps is one
later_there : (v : Affine → Bool) → IsJudge v → (this that : Plan AffineRank) → RanksCount this → RanksCount that
    → is_defined (judged v this) ≡ true → is_defined (judged v that) ≡ true
    → is_defined (judged v (joined same_rank affine_ranks.where_greater affine_ranks.greater_fits Later this that)) ≡ true
later_there v j this that one two first second =
    let here = which_leaf (judged v this) first in
    let there = which_leaf (judged v that) second in
    let m : Counts here.1 = subst (RanksCount) here.2 (judged_counts v this one) in
    let n : Counts there.1 = subst (RanksCount) there.2 (judged_counts v that two) in
    later_of_leaves v j this that here.0 there.0 m.0 n.0 (here.2 ∙ ap (leaf here.0) m.1) (there.2 ∙ ap (leaf there.0) n.1)

module _ (conf : ℕ → List ℤ → Configuration) (all : Bool) (trees : Trees AffineRank) (counts : (l : ℕ) → RanksCount (trees l)) (Good : Configuration → Type 0) where
  -- what is good at a label that may follow stands at a claim
  abbrev Serves : ℕ → Type 0
  Serves l = (s : List ℤ) → length s ≡ 16 → Good (conf l s) → Holds trees l s

  free_there : (t : Bool) (s : List ℤ) (then_to else_to : ℕ) → all ≡ t → Serves then_to → Serves else_to → (c : Configuration) → Goes c (conf then_to s) → Goes c (conf else_to s)
      → ((d : Configuration) → Next c d → IsLike d (conf then_to s) ⊎ IsLike d (conf else_to s)) → length s ≡ 16 → Reaches all c Good
      → Classically (is_defined (judged (store_says s) (before_free t (trees then_to) (trees else_to))) ≡ true)
  free_there true s then_to else_to is first second c one two only long reaches none =
      let both = reaches.two is (conf then_to s) (conf else_to s) one two in
      none (skip_defined same_rank rank_alike (store_says s) (stores_judge s) affine_ranks.one_more (joined same_rank affine_ranks.where_greater affine_ranks.greater_fits Later (trees then_to) (trees else_to))
      ∙ later_there (store_says s) (stores_judge s) (trees then_to) (trees else_to) (counts then_to) (counts else_to) (first s long both.0) (second s long both.1))
  free_there false s then_to else_to is first second c one two only long reaches none =
      let this : Plan AffineRank = stepped_by same_rank affine_ranks.one_more Yes (trees then_to) in
      let that : Plan AffineRank = stepped_by same_rank affine_ranks.one_more No (trees else_to) in
      let whole : is_defined (judged (store_says s) (before_free false (trees then_to) (trees else_to)))
      ≡ (is_defined (judged (store_says s) (trees then_to)) || is_defined (judged (store_says s) (trees else_to))) =
      ap is_defined (cut_judged same_rank rank_alike (store_says s) (stores_judge s) (picked same_rank affine_ranks.where_greater affine_ranks.greater_fits affine_ranks.one_more (trees then_to) (trees else_to)))
      ∙ either_defined same_rank rank_alike (store_says s) (stores_judge s) affine_ranks.where_greater affine_ranks.greater_fits this that
      ∙ rw (by_judged (store_says s) (trees then_to) true, by_judged (store_says s) (trees else_to) false) refl in
      reaches.some is (conf then_to s) (conf else_to s) only
      (λ some. ⊎_elim
      (λ here. none (whole ∙ or_left _ _ (first s long here)))
      (λ there. none (whole ∙ or_right _ _ (second s long there))) some)

  -- and so does, before what is done, what reaches it
  pub step_there : (l : ℕ) (deed : Deed) (s : List ℤ) → length s ≡ 16 → GoesAs conf l deed s → AtAfter deed Serves → (deed ≡ finishes → ⊥) → Reaches all (conf l s) Good
      → Classically (is_defined (judged (store_says s) (before all deed trees)) ≡ true)
  step_there l finishes s long goes serves live reaches none = live refl
  step_there l (sets x by target) s long goes serves live reaches none =
      reaches.one (conf target (set s x (value_at by s))) goes.2 goes.3
      (λ good. none (assign_defined same_rank rank_alike (store_says s) (stores_judge s) affine_ranks.substituted affine_ranks.one_more x by (trees target)
      ∙ ap is_defined (judged_same (λ a. store_says s (substituted a x by)) (store_says (set s x (value_at by s))) (says_behind s x by goes.1 long) (trees target))
      ∙ serves (set s x (value_at by s)) (length-set s x (value_at by s) ∙ long) good))
  step_there l (passes target) s long goes serves live reaches none =
      reaches.one (conf target s) goes.1 goes.2
      (λ good. none (skip_defined same_rank rank_alike (store_says s) (stores_judge s) affine_ranks.one_more (trees target) ∙ serves s long good))
  step_there l (asks holds fails then_to else_to) s long goes serves live reaches none =
      ⊎_elim
      (λ here. reaches.one (conf then_to s) here.1 here.2
      (λ good. none (test_holds same_rank rank_alike (store_says s) (stores_judge s) affine_ranks.where_greater affine_ranks.greater_fits affine_ranks.one_more (trees then_to) (trees else_to) holds fails goes.1 here.0
      ∙ serves.0 s long good)))
      (λ there. reaches.one (conf else_to s) there.1 there.2
      (λ good. none (test_fails same_rank rank_alike (store_says s) (stores_judge s) affine_ranks.where_greater affine_ranks.greater_fits affine_ranks.one_more (trees then_to) (trees else_to) holds fails goes.1 there.0
      ∙ serves.1 s long good)))
      goes.2
  step_there l (frees then_to else_to) s long goes serves live reaches none =
      free_there all s then_to else_to refl serves.0 serves.1 (conf l s) goes.1 goes.2 goes.3 long reaches none
