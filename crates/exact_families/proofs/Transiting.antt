-- What is done at the labels of a plain program, by their transitions: the tree before a transition is that before what is done.
use Rattle.std.proofs.Common.{◌≡◌, ℕ, Bool, true, false, not, List, [], ◌∷◌, refl, sym, ap, ◌∙◌}
use Rattle.std.proofs.lemmas.Bool.{false≢true}
use Rattle.step_meaning.specs.Countdown.{form_of}
use Rattle.step_meaning.specs.Syntax.{Expression, free, range as between, number, variable, truth, negative, negation, pair, divided}
use Rattle.linear_cons.specs.declared.affine.Affine.{Affine}
use Rattle.linear_cons.specs.declared.bounds.Bounds.{Bounds}
use Rattle.linear_cons.specs.declared.bounds.Linear.{Linear}
use Rattle.linear_cons.specs.declared.row.Row.{Row}
use Rattle.linear_forms.specs.Linearising.{is_exact}
use Rattle.linear_forms.specs.Spreading.{spread_of}
use Rattle.linear_forms.proofs.Exactness.{linear_exact}
use Rattle.decision_tree.specs.Plans.{Plan, bottom}
use Rattle.decision_tree.specs.declared.affine_rank.AffineRank.{AffineRank}
use Rattle.control_flow.specs.declared.edge.Choice.TheVariants.{None as NoChoice}
use Rattle.control_flow.specs.Edges.{choice_of_test, is_head_by}
use Rattle.control_flow.specs.Labels.{Action, ends, assigns, passes, tests}
use Rattle.backward_transfer.specs.AffineShapes.{assigned_shape, cut, picked_shape, stepped_shape, tested_shape}
use Rattle.backward_sweeps.specs.Before.{before}
use Rattle.backward_sweeps.specs.Picking.{before_choice}
use Rattle.control_flow.specs.Transitions.{IsOver, first_target, is_given, is_head, second_target}
use Rattle.control_flow.specs.declared.transition.Transition.{Transition}
use Rattle.control_flow.specs.declared.transition.Transition.TheVariants.{Assign, Choose, Dead, End, Pass, Test}
use Rattle.tree_support.specs.Setting.{Trees}
use Rattle.unroll.proofs.Ordering.{does}
use Rattle.exact_families.proofs.Acting.{IsFittingAction, deed_of, deed_of_test}
use Rattle.exact_families.proofs.Deeds.{before_free, before as before_deed}

-- the tree before a transition, by those of its targets
abbrev pub reached_by : Bool → Transition → Trees AffineRank → Plan AffineRank
reached_by all t trees = before all t (trees (first_target t)) (trees (second_target t))

module _ (bounds : Bounds) (trees : Trees AffineRank) where
  -- ---- a test

  tested_as : (holds fails spread other : List (List Row)) (to next behind else_to : ℕ) → to ≡ next → behind ≡ else_to → holds ≡ spread → fails ≡ other
      → cut (tested_shape (trees to) (trees behind) holds fails) ≡ cut (tested_shape (trees next) (trees else_to) spread other)
  tested_as holds fails spread other to next behind else_to one two three four =
      ap (λ k. cut (tested_shape (trees k) (trees behind) holds fails)) one
      ∙ ap (λ k. cut (tested_shape (trees next) (trees k) holds fails)) two
      ∙ ap (λ rows. cut (tested_shape (trees next) (trees else_to) rows fails)) three
      ∙ ap (λ rows. cut (tested_shape (trees next) (trees else_to) spread rows)) four

  picked_as : (to next behind else_to : ℕ) → to ≡ next → behind ≡ else_to
      → cut (picked_shape (trees to) (trees behind)) ≡ cut (picked_shape (trees next) (trees else_to))
  picked_as to next behind else_to one two =
      ap (λ k. cut (picked_shape (trees k) (trees behind))) one ∙ ap (λ k. cut (picked_shape (trees next) (trees k))) two

  -- of which nothing may be chosen
  asked_before : (all head : Bool) (c : Expression) (p q : ℕ) (t : Transition) → choice_of_test c ≡ NoChoice → IsOver bounds (tests head c p q) t
      → reached_by all t trees ≡ cut (tested_shape (trees p) (trees q) (spread_of bounds c true) (spread_of bounds c false))
  asked_before true head c p q (Test head_there choice holds fails to other) none over =
      tested_as holds.items fails.items (spread_of bounds c true) (spread_of bounds c false) to p other q over.1 over.2 over.4 over.5
  asked_before false head c p q (Test head_there choice holds fails to other) none over =
      ap (λ ch. before_choice ch (Test head_there choice holds fails to other) (trees to) (trees other)) (over.3 ∙ none)
      ∙ tested_as holds.items fails.items (spread_of bounds c true) (spread_of bounds c false) to p other q over.1 over.2 over.4 over.5
  asked_before all head c p q End none over = absurd over
  asked_before all head c p q Dead none over = absurd over
  asked_before all head c p q (Pass to) none over = absurd over
  asked_before all head c p q (Assign place value to) none over = absurd over
  asked_before all head c p q (Choose place values choice cases to) none over = absurd over

  -- of which an outcome may be chosen
  freed_before : (all head : Bool) (p q : ℕ) (t : Transition) → IsOver bounds (tests head free p q) t → reached_by all t trees ≡ before_free all (trees p) (trees q)
  freed_before true head p q (Test head_there choice holds fails to other) over =
      tested_as holds.items fails.items ([] ∷ []) ([] ∷ []) to p other q over.1 over.2 over.4 over.5
  freed_before false head p q (Test head_there choice holds fails to other) over =
      ap (λ ch. before_choice ch (Test head_there choice holds fails to other) (trees to) (trees other)) over.3 ∙ picked_as to p other q over.1 over.2
  freed_before all head p q End over = absurd over
  freed_before all head p q Dead over = absurd over
  freed_before all head p q (Pass to) over = absurd over
  freed_before all head p q (Assign place value to) over = absurd over
  freed_before all head p q (Choose place values choice cases to) over = absurd over

  test_before : (all head : Bool) (c : Expression) (p q : ℕ) (t : Transition) → IsFittingAction (tests head c p q) → IsOver bounds (tests head c p q) t
      → reached_by all t trees ≡ before_deed all (deed_of_test bounds c p q) trees
  test_before all head free p q t fitting over = freed_before all head p q t over
  test_before all head (truth b) p q t fitting over = asked_before all head (truth b) p q t refl over
  test_before all head (negation c) p q t fitting over = asked_before all head (negation c) p q t refl over
  test_before all head (pair op a b) p q t fitting over = asked_before all head (pair op a b) p q t refl over
  test_before all head (number z) p q t fitting over = absurd fitting.2
  test_before all head (variable x) p q t fitting over = absurd fitting.2
  test_before all head (between lo hi) p q t fitting over = absurd fitting.2
  test_before all head (negative e) p q t fitting over = absurd fitting.2
  test_before all head (divided division e b) p q t fitting over = absurd fitting.2

  -- ---- an assignment

  value_as : (place x : ℕ) (value form : Affine) (to next : ℕ) → place ≡ x → value ≡ form → to ≡ next
      → cut (assigned_shape place value (trees to)) ≡ cut (assigned_shape x form (trees next))
  value_as place x value form to next one two three =
      ap (λ k. cut (assigned_shape k value (trees to))) one ∙ ap (λ a. cut (assigned_shape x a (trees to))) two
      ∙ ap (λ k. cut (assigned_shape x form (trees k))) three

  assigned_before : (all : Bool) (x : ℕ) (e : Expression) (next : ℕ) (t : Transition) → IsFittingAction (assigns x e next) → IsOver bounds (assigns x e next) t
      → reached_by all t trees ≡ cut (assigned_shape x (form_of e) (trees next))
  assigned_before true x e next (Assign place value to) fitting over =
      value_as place.number x value (form_of e) to next over.0 (over.3 ∙ ap (λ (l : Linear). l.affine) (linear_exact bounds e fitting.1 fitting.2)) over.1
  assigned_before false x e next (Assign place value to) fitting over =
      value_as place.number x value (form_of e) to next over.0 (over.3 ∙ ap (λ (l : Linear). l.affine) (linear_exact bounds e fitting.1 fitting.2)) over.1
  assigned_before all x e next (Choose place values choice cases to) fitting over =
      absurd (false≢true (sym over.2 ∙ ap is_exact (linear_exact bounds e fitting.1 fitting.2)))
  assigned_before all x e next End fitting over = absurd over
  assigned_before all x e next Dead fitting over = absurd over
  assigned_before all x e next (Pass to) fitting over = absurd over
  assigned_before all x e next (Test head_there choice holds fails to other) fitting over = absurd over

  -- ---- a step that changes nothing, and the end

  passed_before : (all : Bool) (next : ℕ) (t : Transition) → IsOver bounds (passes next) t → reached_by all t trees ≡ cut (stepped_shape (trees next))
  passed_before true next (Pass to) over = ap (λ k. cut (stepped_shape (trees k))) over
  passed_before false next (Pass to) over = ap (λ k. cut (stepped_shape (trees k))) over
  passed_before all next End over = absurd over
  passed_before all next Dead over = absurd over
  passed_before all next (Assign place value to) over = absurd over
  passed_before all next (Choose place values choice cases to) over = absurd over
  passed_before all next (Test head_there choice holds fails to other) over = absurd over

  end_before : (all : Bool) (t : Transition) → IsOver bounds ends t → reached_by all t trees ≡ bottom
  end_before true End over = refl
  end_before false End over = refl
  end_before all Dead over = absurd over
  end_before all (Pass to) over = absurd over
  end_before all (Assign place value to) over = absurd over
  end_before all (Choose place values choice cases to) over = absurd over
  end_before all (Test head_there choice holds fails to other) over = absurd over

  -- the tree before the transition is that before what is done
  pub reached_as : (all : Bool) (action : Action) (t : Transition) → IsFittingAction action → IsOver bounds action t
      → reached_by all t trees ≡ before_deed all (deed_of bounds action) trees
  reached_as all ends t fitting over = end_before all t over
  reached_as all (assigns x e next) t fitting over = assigned_before all x e next t fitting over
  reached_as all (passes next) t fitting over = passed_before all next t over
  reached_as all (tests head c p q) t fitting over = test_before all head c p q t fitting over

-- ---- what is told of a transition by its action

-- it is the end
abbrev pub is_end : Transition → Bool
is_end End = true
is_end Dead = false
is_end (Pass to) = false
is_end (Assign place value to) = false
is_end (Choose place values choice cases to) = false
is_end (Test head_there choice holds fails to other) = false

module _ (bounds : Bounds) where
  -- so it is exactly where nothing is done
  pub end_as : (action : Action) (t : Transition) → IsOver bounds action t → is_end t ≡ not (does action)
  end_as ends End over = refl
  end_as (assigns x e next) (Assign place value to) over = refl
  end_as (assigns x e next) (Choose place values choice cases to) over = refl
  end_as (passes next) (Pass to) over = refl
  end_as (tests head c p q) (Test head_there choice holds fails to other) over = refl
  end_as action t over = absurd over

  -- its tree is given exactly there, and at the test of a loop
  pub open_as : (action : Action) (t : Transition) → IsOver bounds action t → does action ≡ true → is_head_by action ≡ false → is_given t ≡ false
  open_as ends End over something plain = absurd (false≢true something)
  open_as (assigns x e next) (Assign place value to) over something plain = refl
  open_as (assigns x e next) (Choose place values choice cases to) over something plain = refl
  open_as (passes next) (Pass to) over something plain = refl
  open_as (tests head c p q) (Test head_there choice holds fails to other) over something plain = over.0 ∙ plain
  open_as action t over something plain = absurd over

  pub head_as : (action : Action) (t : Transition) → IsOver bounds action t → is_head_by action ≡ false → is_head t ≡ false
  head_as ends End over plain = refl
  head_as (assigns x e next) (Assign place value to) over plain = refl
  head_as (assigns x e next) (Choose place values choice cases to) over plain = refl
  head_as (passes next) (Pass to) over plain = refl
  head_as (tests head c p q) (Test head_there choice holds fails to other) over plain = over.0 ∙ plain
  head_as action t over plain = absurd over
