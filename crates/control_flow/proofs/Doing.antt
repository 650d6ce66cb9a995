-- What is done at the labels of a program leads on, and its tests come down to what they spread to.
use Rattle.std.proofs.Common.{◌≡◌, inl, inr, ℕ, zero, suc, ◌<◌, Bool, true, false, List, [], ◌∷◌, ◌++◌, Some, length, get_or, refl, sym, ap, subst, ◌∙◌, arith}
use Rattle.std.specs.Prelude.{⊤}
use Rattle.linear_cons.specs.declared.bounds.Bounds.{Bounds}
use Rattle.step_meaning.specs.Syntax.{Expression, Statements}
use Rattle.control_flow.specs.Actions.{IsBehind, LeadsBelow, LeadsOn}
use Rattle.linear_forms.specs.Spreading.{spread_of}
use Rattle.control_flow.specs.Edges.{is_head_by, test_by}
use Rattle.control_flow.specs.Labels.{Action, ends, assigns, passes, tests, action_at, all_labels}
use Rattle.control_flow.specs.declared.transition.Transition.{Transition}
use Rattle.control_flow.specs.declared.transition.Transition.TheVariants.{Assign, Choose, Dead, End, Pass, Test}
use Rattle.control_flow.specs.Told.{Told}
use Rattle.control_flow.specs.Transitions.{conjunctions_in, AreOnward, AreTold, IsOn, IsOver, IsTold, first_target, is_given, second_target, transition_in}

-- what holds of each element at its number holds of one more
pub made_more : {A : Type 0} (d : A) (P : ℕ → A → Type 0) (list : List A) (x : A) → ((l : ℕ) → l < length list → P l (get_or list l d)) → P (length list) x
    → (l : ℕ) → l < suc (length list) → P l (get_or (list ++ x ∷ []) l d)
made_more d P [] x each here zero low = here
made_more d P [] x each here (suc l) low = absurd (omega (arith, low))
made_more d P (y ∷ ys) x each here zero low = each 0 (omega arith)
made_more d P (y ∷ ys) x each here (suc l) low =
    made_more d (λ k. P (suc k)) ys x (λ k under. each (suc k) (omega (arith, under))) here l (omega (arith, low))

-- the transition has the shape of the action, or says that no run comes there
abbrev IsDone : Action → Transition → Type 0
IsDone done Dead = ⊤
IsDone ends End = ⊤
IsDone (assigns x e next) (Assign place value to) = to ≡ next
IsDone (assigns x e next) (Choose place range choice cases to) = to ≡ next
IsDone (passes next) (Pass to) = to ≡ next
IsDone (tests head c then_to else_to) (Test is_head choice holds fails to other) = (is_head ≡ head) × (to ≡ then_to) × (other ≡ else_to)
IsDone done transition = ⊥

over_done : (bounds : Bounds) (done : Action) (transition : Transition) → IsOver bounds done transition → IsDone done transition
over_done bounds ends End is = tt
over_done bounds (assigns x e next) (Assign place value to) is = is.1
over_done bounds (assigns x e next) (Choose place range choice cases to) is = is.1
over_done bounds (passes next) (Pass to) is = is
over_done bounds (tests head c then_to else_to) (Test is_head choice holds fails to other) is = (is.0, is.1, is.2)
over_done bounds done transition is = absurd is

told_done : (bounds : Bounds) (dead : Bool) (done : Action) (transition : Transition) → IsTold bounds dead done transition → IsDone done transition
told_done bounds true done transition is = subst (IsDone done) (sym is) tt
told_done bounds false done transition is = over_done bounds done transition is

-- something holds of each label that follows
abbrev Each : Action → (ℕ → Type 0) → Type 0
Each ends P = ⊤
Each (assigns x e next) P = P next
Each (passes next) P = P next
Each (tests head c then_to else_to) P = P then_to × P else_to

-- so it does of the targets of the transition
targets : (done : Action) (transition : Transition) → IsDone done transition → (P : ℕ → Type 0) → P 0 → Each done P → P (first_target transition) × P (second_target transition)
targets ends End is P nought each = (nought, nought)
targets done Dead is P nought each = (nought, nought)
targets (assigns x e next) (Assign place value to) is P nought each = let there = subst P (sym is) each in (there, there)
targets (assigns x e next) (Choose place range choice cases to) is P nought each = let there = subst P (sym is) each in (there, there)
targets (passes next) (Pass to) is P nought each = let there = subst P (sym is) each in (there, there)
targets (tests head c then_to else_to) (Test is_head choice holds fails to other) is P nought each = (subst P (sym is.1) each.0, subst P (sym is.2) each.1)
targets done transition is P nought each = absurd is

below_each : (n : ℕ) (done : Action) → LeadsBelow n done → Each done (λ k. k < n)
below_each n ends below = tt
below_each n (assigns x e next) below = below
below_each n (passes next) below = below
below_each n (tests head c then_to else_to) below = below

-- a loop's test has a given tree, and so has the end
given_head : (done : Action) (transition : Transition) → IsDone done transition → is_head_by done ≡ true → is_given transition ≡ true
given_head done Dead is head = refl
given_head ends transition is head = absurd (cc)
given_head (assigns x e next) transition is head = absurd (cc)
given_head (passes next) transition is head = absurd (cc)
given_head (tests mark c then_to else_to) (Test is_head choice holds fails to other) is head = is.0 ∙ head
given_head (tests mark c then_to else_to) other is head = absurd is

given_end : (transition : Transition) → IsDone ends transition → is_given transition ≡ true
given_end End is = refl
given_end Dead is = refl
given_end other is = absurd is

-- what leads on leads behind its label, where its tree isn't given
behind_each : (body : Statements) (label : ℕ) (done : Action) (transition : Transition) → IsDone done transition → is_given transition ≡ false → LeadsOn body label done
    → Each done (IsBehind body (suc label))
behind_each body label ends transition is open_there on = tt
behind_each body label (assigns x e next) transition is open_there on = on
behind_each body label (passes next) transition is open_there on = on
behind_each body label (tests false c then_to else_to) transition is open_there on = on
behind_each body label (tests true c then_to else_to) transition is open_there on =
    let given : is_given transition ≡ true = given_head (tests true c then_to else_to) transition is refl in absurd (cc)

both_each : (done : Action) (P Q R : ℕ → Type 0) → ((k : ℕ) → P k → Q k → R k) → Each done P → Each done Q → Each done R
both_each ends P Q R make one other = tt
both_each (assigns x e next) P Q R make one other = make next one other
both_each (passes next) P Q R make one other = make next one other
both_each (tests head c then_to else_to) P Q R make one other = (make then_to one.0 other.0, make else_to one.1 other.1)

module _ (body : Statements) (told : Told) (transitions : List Transition) (told_are : AreTold body told transitions) where
  are : (label : ℕ) → label < length (all_labels body) → IsDone (action_at body label) (transition_in transitions label)
  are label low = told_done (told.bounds label) (told.dead label) (action_at body label) (transition_in transitions label) (told_are label low)

  -- a label that is behind another, or done first, is on
  on_of : (label k : ℕ) → k < length (all_labels body) → IsBehind body (suc label) k → IsOn transitions label k
  on_of label k below (inl more) = inl (omega (arith, more))
  on_of label k below (inr (inl nought)) =
      inr (subst (λ i. is_given (transition_in transitions i) ≡ true) (sym nought) (given_end (transition_in transitions 0) (are 0 (omega arith))))
  on_of label k below (inr (inr head)) = inr (given_head (action_at body k) (transition_in transitions k) (are k below) head)

  pub are_onward : length transitions ≡ length (all_labels body)
      → ((l : ℕ) → l < length (all_labels body) → LeadsBelow (length (all_labels body)) (action_at body l))
      → ((l : ℕ) → l < length (all_labels body) → LeadsOn body l (action_at body l)) → AreOnward transitions
  are_onward same leads_below leads_on =
      record {
        within = λ label low.
            let there : label < length (all_labels body) = omega (arith, same, low) in
            let nought : 0 < length transitions = omega (arith, low) in
            let each : Each (action_at body label) (λ k. k < length transitions) =
            subst (λ n. Each (action_at body label) (λ k. k < n)) (sym same) (below_each (length (all_labels body)) (action_at body label) (leads_below label there)) in
            targets (action_at body label) (transition_in transitions label) (are label there) (λ k. k < length transitions) nought each;
        on = λ label low open_there.
            let there : label < length (all_labels body) = omega (arith, same, low) in
            targets (action_at body label) (transition_in transitions label) (are label there) (IsOn transitions label)
            (on_of label 0 (omega arith) (inr (inl refl)))
            (both_each (action_at body label) (λ k. k < length (all_labels body)) (IsBehind body (suc label)) (IsOn transitions label) (λ k below behind. on_of label k below behind)
            (below_each (length (all_labels body)) (action_at body label) (leads_below label there))
            (behind_each body label (action_at body label) (transition_in transitions label) (are label there) open_there (leads_on label there)));
      }

-- the conjunctions of a test are those that it spreads to
module _ (bounds : Bounds) where
  pub over_tests : (action : Action) (transition : Transition) → IsOver bounds action transition → (c : Expression) → test_by action ≡ Some c
      → (outcome : Bool) → conjunctions_in transition outcome ≡ spread_of bounds c outcome
  over_tests (tests head d then_to else_to) (Test is_head choice holds fails to other) is c asked true =
      let same : d ≡ c = cc in is.4 ∙ ap (λ e. spread_of bounds e true) same
  over_tests (tests head d then_to else_to) (Test is_head choice holds fails to other) is c asked false =
      let same : d ≡ c = cc in is.5 ∙ ap (λ e. spread_of bounds e false) same
  over_tests ends transition is c asked outcome = absurd (cc)
  over_tests (assigns x e next) transition is c asked outcome = absurd (cc)
  over_tests (passes next) transition is c asked outcome = absurd (cc)
  over_tests (tests head d then_to else_to) transition is c asked outcome = absurd is
