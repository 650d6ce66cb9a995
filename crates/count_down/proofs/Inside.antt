-- The labels inside a loop that counts a function down.
use Rattle.std.proofs.Common.{All, true, false, ◌≡◌, ℕ, ◌+◌, ◌*◌, ◌^◌, ◌<◌, ◌≤◌, ℤ, pos, ◌+ℤ◌, ◌-ℤ◌, ◌*ℤ◌, ◌≤ℤ◌, inl, inr, List, [], None, Some, set, refl, ap, ◌∙◌, arith}
use Rattle.std.proofs.lemmas.Int.{ints, int_max_is}
use Rattle.std.proofs.lemmas.List.Elements.{All-append}
use Rattle.linear_cons.specs.declared.affine.Affine.{Affine}
use Rattle.linear_cons.specs.declared.bounds.Bounds.{Bounds}
use Rattle.linear_cons.specs.Functions.{coefficient, constant_of, value_at}
use Rattle.linear_cons.proofs.Places.{number_at_places}
use Rattle.linear_cons.proofs.Ring.{zero_mul}
use Rattle.linear_cons.specs.Sizes.{SizesAtMost, total_size}
use Rattle.linear_forms.specs.Linearising.{linear_of}
use Rattle.linear_forms.specs.Spreading.{spread_of}
use Rattle.control_flow.specs.Actions.{IsSorted}
use Rattle.control_flow.specs.Labels.{Action, ends, assigns, passes, tests}
use Rattle.step_meaning.specs.declared.count.Count.{Count}
use Rattle.step_meaning.specs.Counts.{either_of, none, step_by}
use Rattle.step_meaning.specs.Countdown.{IsShort, IsSmall, added, amount, change_by, form_of}
use Rattle.step_meaning.specs.Syntax.{Expression, Statements}
use Rattle.step_meaning.specs.Turns.{MayAssign}
use Rattle.decision_tree.specs.declared.affine_rank.AffineRank.{AffineRank}
use Rattle.quotient_cases.specs.Cases.{value_rows}
use Rattle.tree_support.specs.Arcs.{Arc, assigning, putting, rows_given, testing}
use Rattle.constraint_stack.specs.Forming.{Formed}
use Rattle.tree_support.specs.Setting.{Trees}
use Rattle.control_flow.specs.Told.{Told}
use Rattle.tree_support.proofs.Lists.{all_one}
use Rattle.count_down.specs.Building.{IsFew, IsModest}
use Rattle.count_down.specs.Candidates.{inside}
use Rattle.count_down.specs.Trees.{count_tree, shifted}
use Rattle.count_down.proofs.Adding.{short_exact, short_size}
use Rattle.count_down.proofs.Carrying.{counted, shifted_value, unmentioned}
use Rattle.count_down.proofs.CountingLaws.{Follows}
use Rattle.count_down.proofs.Fitting.{unset_fits}
use Rattle.count_down.proofs.Leads.{IsGiven, LeadsDown, Passes, all_lead, assigning_all, testing_all}
use Rattle.count_down.proofs.Modest.{ahead_modest, sizes_shifted, small_sizes}
use Rattle.linear_cons.proofs.Sizes.{sizes_grown}
use Rattle.count_down.proofs.Noughts.{nought_step}
use Rattle.count_down.proofs.Putting.{put_fits}

module _ (body : Statements) (told : Told) (parts : ℕ → Trees AffineRank) (family : Trees AffineRank) (ground : IsGiven body parts)
    (m s : ℕ) (turn : 0 < m) (short : m ≤ 1024) (rest : s ≤ 1024) (e : Affine) (small : IsSmall e) where
  -- the tree of the label counts down what e will be behind the steps of the count
  pub record IsAhead (l : ℕ) (c : Count) : Type 0 where
    pub f : Affine
    pub tree : family l ≡ count_tree m s f c.most
    pub value : (store : List ℤ) → value_at f store ≡ value_at e store +ℤ c.change
    pub same : (x : ℕ) → x < 16 → coefficient f x ≡ coefficient e x
    pub sizes : SizesAtMost (2 ^ 74) f
    pub few : c.most ≤ 2048

  abbrev pub IsInside : ℕ → Count → Type 0
  IsInside l c = (family l ≡ inside m s e c) × IsFew 2048 c

  pub ahead : (l : ℕ) (c : Count) → IsInside l c → IsAhead l c
  ahead l c own =
      let most = own.1.most in
      let change = own.1.moderate in
      record {
        f = shifted e c.change;
        tree = own.0;
        value = shifted_value e c.change;
        same = λ x low.
            let none : coefficient (constant_of c.change) x ≡ pos 0 = rw number_at_places refl in
            number_at_places (λ i. coefficient e i +ℤ coefficient (constant_of c.change) i) x low ∙ omega (arith, ints);
        sizes = sizes_grown (2 ^ 31 + 2048 * 2 ^ 62) (2 ^ 74) (shifted e c.change) (omega arith)
            (sizes_shifted (2 ^ 31) (2048 * 2 ^ 62) e c.change (small_sizes e small) (omega arith));
        few = most;
      }

  inside_modest : (c : Count) → IsFew 2048 c → IsModest (shifted e c.change)
  inside_modest c few = ahead_modest e c.most c.change small few.most few.moderate

  modest : (f : Affine) → SizesAtMost (2 ^ 74) f → IsModest f
  modest f sizes = sizes_grown (2 ^ 74) (2 ^ 91) f (omega arith) sizes

  -- an arc that changes no store leads to fewer steps
  pub unset_leads : (o c : Count) (edge target : ℕ) (asks : List Formed) → IsFew 2048 o → IsAhead target c → c.most < o.most → c.change ≤ℤ o.change
      → LeadsDown body told parts family m s (shifted e o.change) o.most (record { edge = edge; target = target; asks = asks; sets = None })
  unset_leads o c edge target asks own there steps change =
      let most = own.most in
      record {
        f = there.f;
        j = c.most;
        tree = there.tree;
        d = c.change -ℤ o.change;
        less = omega (arith, ints);
        is = λ store long. let first = there.value store in let second = shifted_value e o.change store in omega (arith, ints);
        fits = unset_fits m s (shifted e o.change) o.most there.f c.most short (omega arith) (omega arith) (inside_modest o own)
            (modest there.f there.sizes);
        step = steps;
      }

  module _ (x : ℕ) (low : x < 16) (bounds : Bounds) (v : Expression) (next : ℕ) (c : Count) (there : IsAhead next c)
      (own : IsFew 2048 (step_by (change_by e x v) c)) where
    abbrev before : Count
    before = step_by (change_by e x v) c

    -- an assignment of a variable that e doesn't mention
    unmentioned_leads : coefficient e x ≡ pos 0 → (a : Affine) (asks : List Formed)
        → LeadsDown body told parts family m s (shifted e before.change) before.most
        (record { edge = 0; target = next; asks = asks; sets = Some (x, a) })
    unmentioned_leads none a asks =
        let most = own.most in
        let zero : change_by e x v ≡ pos 0 = ap (λ t. t *ℤ amount (added x v)) none ∙ zero_mul (amount (added x v)) in
        record {
          f = there.f;
          j = c.most;
          tree = there.tree;
          d = pos 0;
          less = omega (arith, ints);
          is = λ store long.
              let first = there.value (set store x (value_at a store)) in
              let second = shifted_value e before.change store in
              let same = unmentioned e x (value_at a store) store long low none in
              omega (arith, ints);
          fits = nought_step x low a m s (shifted e before.change) before.most there.f c.most short (omega arith) (omega arith)
              (inside_modest before own) (modest there.f there.sizes) (there.same x low ∙ none);
          step = omega arith;
        }

    -- `x = x + c` and `x = x - c`
    added_leads : IsShort (added x v) → All (LeadsDown body told parts family m s (shifted e before.change) before.most)
        (assigning x next (linear_of bounds v) (value_rows bounds 15 v))
    added_leads literal =
        let most = own.most in
        let t : ℕ = total_size (form_of v) in
        let size : t ≤ 2 ^ 32 = short_size x v literal in
        let product : t * 2 ^ 74 ≤ 2 ^ 32 * 2 ^ 74 = omega arith in
        let exact = short_exact bounds x v literal in
        let moved = counted e x low bounds v exact (inr literal) in
        let put : LeadsDown body told parts family m s (shifted e before.change) before.most (putting x next (form_of v)) = record {
          f = there.f;
          j = c.most;
          tree = there.tree;
          d = pos 0;
          less = omega (arith, ints);
          is = λ store long.
              let first = there.value (set store x (value_at (form_of v) store)) in
              let second = shifted_value e before.change store in
              let after : value_at e (set store x (value_at (form_of v) store)) ≡ value_at e store +ℤ change_by e x v =
              rw exact at (moved store long) in
              omega (arith, ints);
          fits = put_fits x low (form_of v) m s (shifted e before.change) before.most there.f c.most (2 ^ 74) short (omega arith) (omega arith)
              (inside_modest before own) there.sizes (omega arith) (omega arith);
          step = omega arith;
        } in
        rw exact (all_one (LeadsDown body told parts family m s (shifted e before.change) before.most) (putting x next (form_of v)) put)

    assigned_leads : MayAssign e x v → All (LeadsDown body told parts family m s (shifted e before.change) before.most)
        (assigning x next (linear_of bounds v) (value_rows bounds 15 v))
    assigned_leads (inl none) =
        assigning_all (λ (arc : Arc). LeadsDown body told parts family m s (shifted e before.change) before.most arc) x next (linear_of bounds v)
        (value_rows bounds 15 v) (unmentioned_leads none)
    assigned_leads (inr literal) = added_leads literal

  -- at a label whose count is that of a step and of what follows
  pub inside_passes : (l : ℕ) (action : Action) → IsSorted ground.vars action → Follows e IsAhead IsInside ahead l action
      → Passes body told parts family m s l action
  inside_passes l ends sorted follows = absurd follows
  inside_passes l (assigns x v next) sorted follows =
      let few = ground.few_vars in
      let place = sorted.0 in
      let c : Count = follows.1.0 in
      let o : Count = step_by (change_by e x v) c in
      let own = follows.1.2.1 in
      let most = own.most in
      all_lead body told parts family m s (shifted e o.change) o.most turn l (assigns x v next) follows.1.2.0 (inside_modest o own)
      (omega arith)
      (assigned_leads x (omega arith) (told.bounds l) v next c follows.1.1 own follows.0)
  inside_passes l (passes next) sorted follows =
      let c : Count = follows.0 in
      let o : Count = step_by (pos 0) c in
      let own = follows.2.1 in
      let most = own.most in
      all_lead body told parts family m s (shifted e o.change) o.most turn l (passes next) follows.2.0 (inside_modest o own) (omega arith)
      (all_one (LeadsDown body told parts family m s (shifted e o.change) o.most) (record { edge = 0; target = next; asks = []; sets = None })
      (unset_leads o c 0 next [] own follows.1 (omega arith) (omega (arith, ints))))
  inside_passes l (tests head test p q) sorted follows =
      let c : Count = follows.0 in
      let d : Count = follows.1 in
      let o : Count = either_of c d in
      let own = follows.4.1 in
      let most = own.most in
      let bounds : Bounds = told.bounds l in
      let greater = int_max_is c.change d.change in
      let Leads : Arc → Type 0 = LeadsDown body told parts family m s (shifted e o.change) o.most in
      all_lead body told parts family m s (shifted e o.change) o.most turn l (tests head test p q) follows.4.0 (inside_modest o own)
      (omega arith)
      (All-append Leads (testing 0 p (spread_of bounds test true)) (testing 1 q (spread_of bounds test false))
      (testing_all Leads 0 p (spread_of bounds test true)
      (λ rows. unset_leads o c 0 p (rows_given rows) own follows.2 (omega arith) (omega (arith, ints, int_max_is c.change d.change))))
      (testing_all Leads 1 q (spread_of bounds test false)
      (λ rows. unset_leads o d 1 q (rows_given rows) own follows.3 (omega arith) (omega (arith, ints, int_max_is c.change d.change)))))
