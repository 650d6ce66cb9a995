-- The labels behind a loop, and those of programs without loops: their trees are numbers of steps.
use Rattle.std.proofs.Common.{true, false, ◌≡◌, ℕ, ◌+◌, ◌*◌, ◌^◌, ◌<◌, ◌≤◌, max, pos, List, [], None, Some, length, All, arith}
use Rattle.std.proofs.lemmas.List.Elements.{All-append, All-contains}
use Rattle.linear_cons.specs.declared.affine.Affine.{Affine}
use Rattle.linear_cons.specs.declared.bounds.Bounds.{Bounds}
use Rattle.linear_cons.specs.Functions.{constant_of}
use Rattle.linear_forms.specs.Linearising.{linear_of}
use Rattle.linear_forms.specs.Spreading.{spread_of}
use Rattle.control_flow.specs.Actions.{IsSorted}
use Rattle.control_flow.specs.Labels.{Action, action_at, all_labels, ends, assigns, passes, tests}
use Rattle.step_meaning.specs.declared.count.Count.{Count}
use Rattle.step_meaning.specs.Syntax.{Statements}
use Rattle.decision_tree.specs.declared.affine_rank.AffineRank.{AffineRank}
use Rattle.decision_tree.specs.declared.reason.Why.{Why}
use Rattle.decision_tree.specs.declared.reason.Pick.TheVariants.{All as Every}
use Rattle.decision_tree.specs.declared.reason.Why.TheVariants.{Step}
use Rattle.decision_tree.specs.Plans.{leaf}
use Rattle.tree_support.specs.Certificates.{affine_ranks}
use Rattle.quotient_cases.specs.Cases.{value_rows}
use Rattle.tree_support.specs.Arcs.{Arc, arcs_by, rows_given, testing}
use Rattle.constraint_stack.specs.Forming.{Formed}
use Rattle.tree_support.specs.Setting.{Trees}
use Rattle.constraint_stack.specs.Claims.{ClaimFits, exceeding}
use Rattle.control_flow.specs.Told.{Told}
use Rattle.tree_support.proofs.Lists.{all_one}
use Rattle.count_down.specs.Building.{IsFew}
use Rattle.count_down.specs.Candidates.{most_within, nothing}
use Rattle.count_down.specs.Trees.{ranked, within}
use Rattle.count_down.proofs.CountingLaws.{Follows}
use Rattle.count_down.proofs.Fitting.{claim_fits, most_size, steps_sizes}
use Rattle.count_down.proofs.Leads.{Blocked, IsGiven, assigning_all, testing_all}
use Rattle.linear_cons.proofs.Sizes.{sizes_grown}
use Rattle.count_down.proofs.Noughts.{steps_claim}
use Rattle.count_down.proofs.Straight.{IsStep, steps_blocked}

pub unset_claim : (j k : ℕ) → j ≤ 4096 → k ≤ 4096 → ClaimFits affine_ranks
    (exceeding (ranked (constant_of (pos j))) None (ranked (constant_of (pos k))))
unset_claim j k few more =
    claim_fits None (constant_of (pos j)) (constant_of (pos k)) tt
    (sizes_grown most_size (most_size * 2 ^ 20) (constant_of (pos j)) (omega arith) (steps_sizes j few)) (steps_sizes k more)

module _ (body : Statements) (told : Told) (parts : ℕ → Trees AffineRank) (family : Trees AffineRank) (ground : IsGiven body parts) where
  -- the tree of the label is the number of steps of the count
  pub record IsLast (l : ℕ) (c : Count) : Type 0 where
    pub why : Why
    pub tree : family l ≡ leaf why (ranked (constant_of (pos c.most)))
    pub few : c.most ≤ 2048

  abbrev pub IsBehind : ℕ → Count → Type 0
  IsBehind l c = (family l ≡ most_within c) × IsFew 2048 c

  pub last : (l : ℕ) (c : Count) → IsBehind l c → IsLast l c
  last l c own = record { why = Step Every; tree = own.0; few = own.1.most }

  -- the tree of the label is a number of steps, and each arc of the action leads to fewer
  pub record Steps (l : ℕ) (action : Action) : Type 0 where
    pub k : ℕ
    pub tree : family l ≡ within (constant_of (pos k))
    pub few : k ≤ 2048
    pub arcs : All (IsStep body told parts family l k) (arcs_by (told.bounds l) action)

  pub steps_done : (l : ℕ) → l < length (all_labels body) → Steps l (action_at body l) → Blocked body told parts family l
  steps_done l low steps =
      let few = steps.few in
      steps_blocked body told parts family l steps.k steps.tree (ground.kept l low) (omega arith)
      (λ arc inside. All-contains (IsStep body told parts family l steps.k) (arcs_by (told.bounds l) (action_at body l)) arc steps.arcs inside)

  unset_step : (l k : ℕ) (c : Count) (edge target : ℕ) (asks : List Formed) → IsLast target c → c.most < k → k ≤ 2048
      → IsStep body told parts family l k (record { edge = edge; target = target; asks = asks; sets = None })
  unset_step l k c edge target asks there less few = record {
    place = tt;
    why = there.why;
    steps = c.most;
    tree = there.tree;
    less = less;
    fits = unset_claim c.most k (omega arith) (omega arith);
  }

  set_step : (l k x : ℕ) → x < 16 → (c : Count) (target : ℕ) (a : Affine) (asks : List Formed) → IsLast target c → c.most < k → k ≤ 2048
      → IsStep body told parts family l k (record { edge = 0; target = target; asks = asks; sets = Some (x, a) })
  set_step l k x low c target a asks there less few = record {
    place = low;
    why = there.why;
    steps = c.most;
    tree = there.tree;
    less = less;
    fits = steps_claim x low a c.most k (omega arith) (omega arith);
  }

  -- at a label whose count is that of a step and of what follows
  pub last_labels : (l : ℕ) (action : Action) → IsSorted ground.vars action → Follows nothing IsLast IsBehind last l action
      → Steps l action
  last_labels l ends sorted follows = absurd follows
  last_labels l (assigns x v next) sorted follows =
      let few = ground.few_vars in
      let place = sorted.0 in
      let low : x < 16 = omega arith in
      let c : Count = follows.1.0 in
      let most = follows.1.2.1.most in
      record {
        k = 1 + c.most;
        tree = follows.1.2.0;
        few = most;
        arcs = assigning_all (λ (arc : Arc). IsStep body told parts family l (1 + c.most) arc) x next (linear_of (told.bounds l) v)
            (value_rows (told.bounds l) 15 v) (λ a asks. set_step l (1 + c.most) x low c next a asks follows.1.1 (omega arith) most);
      }
  last_labels l (passes next) sorted follows =
      let c : Count = follows.0 in
      let most = follows.2.1.most in
      record {
        k = 1 + c.most;
        tree = follows.2.0;
        few = most;
        arcs = all_one (IsStep body told parts family l (1 + c.most)) (record { edge = 0; target = next; asks = []; sets = None })
            (unset_step l (1 + c.most) c 0 next [] follows.1 (omega arith) most);
      }
  last_labels l (tests head test p q) sorted follows =
      let c : Count = follows.0 in
      let d : Count = follows.1 in
      let k : ℕ = 1 + max c.most d.most in
      let most = follows.4.1.most in
      let bounds : Bounds = told.bounds l in
      let Is : Arc → Type 0 = IsStep body told parts family l k in
      record {
        k = k;
        tree = follows.4.0;
        few = most;
        arcs = All-append Is (testing 0 p (spread_of bounds test true)) (testing 1 q (spread_of bounds test false))
            (testing_all Is 0 p (spread_of bounds test true)
            (λ rows. unset_step l k c 0 p (rows_given rows) follows.2 (omega arith) most))
            (testing_all Is 1 q (spread_of bounds test false)
            (λ rows. unset_step l k d 1 q (rows_given rows) follows.3 (omega arith) most));
      }
