-- The tree before a transition is formed without a number that is too large or a tree that is, where that before what is done is.
use Rattle.std.specs.Prelude.{⊤}
use Rattle.std.proofs.Common.{◌≡◌, ℕ, ◌≤◌, Bool, true, false, List, [], ◌∷◌, refl, sym, ap, subst, ◌∙◌}
use Rattle.std.proofs.lemmas.Bool.{false≢true}
use Rattle.step_meaning.specs.Countdown.{form_of}
use Rattle.step_meaning.specs.Syntax.{Expression, free, range as between, number, variable, truth, negative, negation, pair, divided}
use Rattle.linear_cons.specs.declared.affine.Affine.{Affine}
use Rattle.linear_cons.specs.declared.bounds.Bounds.{Bounds}
use Rattle.linear_cons.specs.declared.bounds.Linear.{Linear}
use Rattle.linear_cons.specs.declared.row.Row.{Row}
use Rattle.linear_forms.specs.Linearising.{is_exact}
use Rattle.linear_forms.specs.Spreading.{spread_of}
use Rattle.linear_forms.proofs.Exactness.{linear_exact}
use Rattle.decision_tree.specs.Plans.{Plan, size_of}
use Rattle.decision_tree.specs.declared.affine_rank.AffineRank.{AffineRank}
use Rattle.control_flow.specs.declared.edge.Choice.{Choice}
use Rattle.control_flow.specs.declared.edge.Choice.TheVariants.{None as NoChoice}
use Rattle.control_flow.specs.Edges.{choice_of_test}
use Rattle.control_flow.specs.Labels.{Action, ends, assigns, passes, tests}
use Rattle.control_flow.specs.Transitions.{IsOver, first_target, second_target}
use Rattle.control_flow.specs.declared.transition.Transition.{Transition}
use Rattle.control_flow.specs.declared.transition.Transition.TheVariants.{Assign, Choose, Dead, End, Pass, Test}
use Rattle.backward_transfer.specs.AffineShapes.{CutFits, affine_ranks, assigned_shape, picked_shape, same_rank, stepped_shape}
use Rattle.backward_transfer.specs.Picks.{ArePicksSmall, PickFits}
use Rattle.backward_transfer.specs.Steps.{AssignFits, StepFits}
use Rattle.backward_sweeps.specs.Before.{BeforeFits, IsBeforeSmall}
use Rattle.backward_sweeps.specs.Moving.{AreTestsSmall, TestsFit}
use Rattle.backward_sweeps.specs.Picking.{AreChoicesSmall, ChoicesFit}
use Rattle.tree_support.specs.Setting.{Trees}
use Rattle.exact_families.proofs.Acting.{IsFittingAction, deed_of, deed_of_test}
use Rattle.exact_families.proofs.Deeds.{Deed, asks, finishes, frees, passes as goes, sets}

-- before a test
abbrev pub AreTestsReady : Plan AffineRank → Plan AffineRank → List (List Row) → List (List Row) → Type 0
AreTestsReady this that holds fails = TestsFit this that holds fails × AreTestsSmall this that holds fails

-- before an assignment, and a step that changes nothing
abbrev pub IsPutReady : ℕ → Affine → Plan AffineRank → Type 0
IsPutReady x by plan =
    (AssignFits affine_ranks.substituted affine_ranks.subst_fits affine_ranks.add_one_fits x by plan × CutFits (assigned_shape x by plan))
    × (size_of (assigned_shape x by plan) ≤ 65536)

abbrev pub IsStepReady : Plan AffineRank → Type 0
IsStepReady plan = (StepFits affine_ranks.add_one_fits plan × CutFits (stepped_shape plan)) × (size_of (stepped_shape plan) ≤ 65536)

-- before a free test, for all outcomes, and for one that is picked
abbrev pub ArePicksReady : Plan AffineRank → Plan AffineRank → Type 0
ArePicksReady this that =
    (PickFits same_rank affine_ranks.where_greater affine_ranks.greater_fits affine_ranks.one_more affine_ranks.add_one_fits this that
    × CutFits (picked_shape this that))
    × ArePicksSmall same_rank affine_ranks.where_greater affine_ranks.greater_fits affine_ranks.one_more 65536 this that

abbrev pub IsFreeReady : Bool → Plan AffineRank → Plan AffineRank → Type 0
IsFreeReady true this that = AreTestsReady this that ([] ∷ []) ([] ∷ [])
IsFreeReady false this that = ArePicksReady this that

-- before what is done
abbrev pub IsReady : Bool → Deed → Trees AffineRank → Type 0
IsReady all finishes trees = ⊤
IsReady all (sets x by target) trees = IsPutReady x by (trees target)
IsReady all (goes target) trees = IsStepReady (trees target)
IsReady all (asks holds fails then_to else_to) trees = AreTestsReady (trees then_to) (trees else_to) holds fails
IsReady all (frees then_to else_to) trees = IsFreeReady all (trees then_to) (trees else_to)

-- before a transition
abbrev pub IsReadyFor : Bool → Transition → Plan AffineRank → Plan AffineRank → Type 0
IsReadyFor all t this that = BeforeFits all t this that × IsBeforeSmall all t this that

abbrev pub IsReached : Bool → Transition → Trees AffineRank → Type 0
IsReached all t trees = IsReadyFor all t (trees (first_target t)) (trees (second_target t))

module _ (bounds : Bounds) (trees : Trees AffineRank) where
  -- ---- a test

  tests_ready : (holds fails spread other : List (List Row)) (to next behind else_to : ℕ) → to ≡ next → behind ≡ else_to → holds ≡ spread → fails ≡ other
      → AreTestsReady (trees next) (trees else_to) spread other → AreTestsReady (trees to) (trees behind) holds fails
  tests_ready holds fails spread other to next behind else_to one two three four own =
      subst (λ k. AreTestsReady (trees k) (trees behind) holds fails) (sym one)
      (subst (λ k. AreTestsReady (trees next) (trees k) holds fails) (sym two)
      (subst (λ rows. AreTestsReady (trees next) (trees else_to) rows fails) (sym three)
      (subst (λ rows. AreTestsReady (trees next) (trees else_to) spread rows) (sym four) own)))

  -- what may be chosen there
  abbrev ByChoice : Choice → Transition → Type 0
  ByChoice choice t =
      ChoicesFit choice t (trees (first_target t)) (trees (second_target t)) × AreChoicesSmall choice t (trees (first_target t)) (trees (second_target t))

  asked_ready : (all head : Bool) (c : Expression) (p q : ℕ) (t : Transition) → choice_of_test c ≡ NoChoice → IsOver bounds (tests head c p q) t
      → AreTestsReady (trees p) (trees q) (spread_of bounds c true) (spread_of bounds c false) → IsReached all t trees
  asked_ready true head c p q (Test head_there choice holds fails to other) none over own =
      tests_ready holds.items fails.items (spread_of bounds c true) (spread_of bounds c false) to p other q over.1 over.2 over.4 over.5 own
  asked_ready false head c p q (Test head_there choice holds fails to other) none over own =
      subst (λ ch. ByChoice ch (Test head_there choice holds fails to other)) (sym (over.3 ∙ none))
      (tests_ready holds.items fails.items (spread_of bounds c true) (spread_of bounds c false) to p other q over.1 over.2 over.4 over.5 own)
  asked_ready all head c p q End none over own = absurd over
  asked_ready all head c p q Dead none over own = absurd over
  asked_ready all head c p q (Pass to) none over own = absurd over
  asked_ready all head c p q (Assign place value to) none over own = absurd over
  asked_ready all head c p q (Choose place values choice cases to) none over own = absurd over

  freed_ready : (all head : Bool) (p q : ℕ) (t : Transition) → IsOver bounds (tests head free p q) t → IsFreeReady all (trees p) (trees q) → IsReached all t trees
  freed_ready true head p q (Test head_there choice holds fails to other) over own =
      tests_ready holds.items fails.items ([] ∷ []) ([] ∷ []) to p other q over.1 over.2 over.4 over.5 own
  freed_ready false head p q (Test head_there choice holds fails to other) over own =
      subst (λ ch. ByChoice ch (Test head_there choice holds fails to other)) (sym over.3)
      (subst (λ k. ArePicksReady (trees k) (trees other)) (sym over.1) (subst (λ k. ArePicksReady (trees p) (trees k)) (sym over.2) own))
  freed_ready all head p q End over own = absurd over
  freed_ready all head p q Dead over own = absurd over
  freed_ready all head p q (Pass to) over own = absurd over
  freed_ready all head p q (Assign place value to) over own = absurd over
  freed_ready all head p q (Choose place values choice cases to) over own = absurd over

  test_ready : (all head : Bool) (c : Expression) (p q : ℕ) (t : Transition) → IsFittingAction (tests head c p q) → IsOver bounds (tests head c p q) t
      → IsReady all (deed_of_test bounds c p q) trees → IsReached all t trees
  test_ready all head free p q t fitting over own = freed_ready all head p q t over own
  test_ready all head (truth b) p q t fitting over own = asked_ready all head (truth b) p q t refl over own
  test_ready all head (negation c) p q t fitting over own = asked_ready all head (negation c) p q t refl over own
  test_ready all head (pair op a b) p q t fitting over own = asked_ready all head (pair op a b) p q t refl over own
  test_ready all head (number z) p q t fitting over own = absurd fitting.2
  test_ready all head (variable x) p q t fitting over own = absurd fitting.2
  test_ready all head (between lo hi) p q t fitting over own = absurd fitting.2
  test_ready all head (negative e) p q t fitting over own = absurd fitting.2
  test_ready all head (divided division e b) p q t fitting over own = absurd fitting.2

  -- ---- an assignment

  value_ready : (place x : ℕ) (value form : Affine) (to next : ℕ) → place ≡ x → value ≡ form → to ≡ next → IsPutReady x form (trees next)
      → IsPutReady place value (trees to)
  value_ready place x value form to next one two three own =
      subst (λ k. IsPutReady place value (trees k)) (sym three)
      (subst (λ a. IsPutReady place a (trees next)) (sym two) (subst (λ k. IsPutReady k form (trees next)) (sym one) own))

  assigned_ready : (all : Bool) (x : ℕ) (e : Expression) (next : ℕ) (t : Transition) → IsFittingAction (assigns x e next) → IsOver bounds (assigns x e next) t
      → IsPutReady x (form_of e) (trees next) → IsReached all t trees
  assigned_ready true x e next (Assign place value to) fitting over own =
      value_ready place.number x value (form_of e) to next over.0 (over.3 ∙ ap (λ (l : Linear). l.affine) (linear_exact bounds e fitting.1 fitting.2)) over.1 own
  assigned_ready false x e next (Assign place value to) fitting over own =
      value_ready place.number x value (form_of e) to next over.0 (over.3 ∙ ap (λ (l : Linear). l.affine) (linear_exact bounds e fitting.1 fitting.2)) over.1 own
  assigned_ready all x e next (Choose place values choice cases to) fitting over own =
      absurd (false≢true (sym over.2 ∙ ap is_exact (linear_exact bounds e fitting.1 fitting.2)))
  assigned_ready all x e next End fitting over own = absurd over
  assigned_ready all x e next Dead fitting over own = absurd over
  assigned_ready all x e next (Pass to) fitting over own = absurd over
  assigned_ready all x e next (Test head_there choice holds fails to other) fitting over own = absurd over

  -- ---- a step that changes nothing, and the end

  passed_ready : (all : Bool) (next : ℕ) (t : Transition) → IsOver bounds (passes next) t → IsStepReady (trees next) → IsReached all t trees
  passed_ready true next (Pass to) over own = subst (λ k. IsStepReady (trees k)) (sym over) own
  passed_ready false next (Pass to) over own = subst (λ k. IsStepReady (trees k)) (sym over) own
  passed_ready all next End over own = absurd over
  passed_ready all next Dead over own = absurd over
  passed_ready all next (Assign place value to) over own = absurd over
  passed_ready all next (Choose place values choice cases to) over own = absurd over
  passed_ready all next (Test head_there choice holds fails to other) over own = absurd over

  end_ready : (all : Bool) (t : Transition) → IsOver bounds ends t → IsReached all t trees
  end_ready true End over = (tt, tt)
  end_ready false End over = (tt, tt)
  end_ready all Dead over = absurd over
  end_ready all (Pass to) over = absurd over
  end_ready all (Assign place value to) over = absurd over
  end_ready all (Choose place values choice cases to) over = absurd over
  end_ready all (Test head_there choice holds fails to other) over = absurd over

  pub ready_as : (all : Bool) (action : Action) (t : Transition) → IsFittingAction action → IsOver bounds action t → IsReady all (deed_of bounds action) trees
      → IsReached all t trees
  ready_as all ends t fitting over own = end_ready all t over
  ready_as all (assigns x e next) t fitting over own = assigned_ready all x e next t fitting over own
  ready_as all (passes next) t fitting over own = passed_ready all next t over own
  ready_as all (tests head c p q) t fitting over own = test_ready all head c p q t fitting over own

-- where no run comes nothing is formed
pub dead_ready : (all : Bool) (this that : Plan AffineRank) → IsReadyFor all Dead this that
dead_ready true this that = (tt, tt)
dead_ready false this that = (tt, tt)

pub end_is_ready : (all : Bool) (this that : Plan AffineRank) → IsReadyFor all End this that
end_is_ready true this that = (tt, tt)
end_is_ready false this that = (tt, tt)
