-- The arcs of a transition are those of the action over the bounds.
use Rattle.std.proofs.Common.{◌≡◌, ℕ, List, Bool, true, false, if◌then◌else◌, [], ◌∷◌, ◌++◌, refl, sym, ap, ◌∙◌}
use Rattle.linear_cons.specs.declared.affine.Affine.{Affine}
use Rattle.linear_cons.specs.declared.bounds.Bounds.{Bounds}
use Rattle.linear_cons.specs.declared.bounds.Linear.{Linear}
use Rattle.linear_forms.specs.Linearising.{is_exact, linear_of}
use Rattle.linear_forms.specs.Spreading.{spread_of}
use Rattle.linear_cons.specs.declared.row.Row.{Row}
use Rattle.quotient_cases.specs.Cases.{value_rows}
use Rattle.control_flow.specs.Told.{chosen_place}
use Rattle.control_flow.specs.Labels.{Action, ends, assigns, passes, tests}
use Rattle.tree_support.specs.Arcs.{arcs_by, arcs_of_outcome, arcs_putting, assigning, choosing_each, passing, putting, testing, arcs_of, outcome_arcs, value_arcs}
use Rattle.control_flow.specs.Transitions.{IsOver}
use Rattle.control_flow.specs.declared.transition.Transition.{Transition}
use Rattle.control_flow.specs.declared.transition.Transition.TheVariants.{Assign, Choose, End, Pass, Test}

module _ (x next : ℕ) (value : Linear) (cases : List (List Row)) where
  exactly : is_exact value ≡ true → putting x next value.affine ∷ [] ≡ assigning x next value cases
  exactly exact = sym (ap (λ (t : Bool). if t then putting x next value.affine ∷ [] else choosing_each x next value cases) exact)

  between : is_exact value ≡ false → choosing_each x next value cases ≡ assigning x next value cases
  between exact = sym (ap (λ (t : Bool). if t then putting x next value.affine ∷ [] else choosing_each x next value cases) exact)

module _ (bounds : Bounds) where
  pub over_arcs : (action : Action) (transition : Transition) → IsOver bounds action transition → arcs_of transition ≡ arcs_by bounds action
  over_arcs ends End is = refl
  over_arcs (assigns x e next) (Assign place value to) is =
      ap (λ p. putting p to value ∷ []) is.0
      ∙ ap (λ t. putting x t value ∷ []) is.1
      ∙ ap (λ a. putting x next a ∷ []) is.3
      ∙ exactly x next (linear_of bounds e) (value_rows bounds chosen_place e) is.2
  over_arcs (assigns x e next) (Choose place range choice cases to) is =
      ap (λ p. choosing_each p to range cases.items) is.0
      ∙ ap (λ t. choosing_each x t range cases.items) is.1
      ∙ ap (λ r. choosing_each x next r cases.items) is.3
      ∙ ap (choosing_each x next (linear_of bounds e)) is.5
      ∙ between x next (linear_of bounds e) (value_rows bounds chosen_place e) is.2
  over_arcs (passes next) (Pass to) is = ap (λ t. passing t ∷ []) is
  over_arcs (tests head c then_to else_to) (Test is_head choice holds fails to other) is =
      ap (λ t. testing 0 t holds.items ++ testing 1 other fails.items) is.1
      ∙ ap (λ t. testing 0 then_to holds.items ++ testing 1 t fails.items) is.2
      ∙ ap (λ rows. testing 0 then_to rows ++ testing 1 else_to fails.items) is.4
      ∙ ap (λ rows. testing 0 then_to (spread_of bounds c true) ++ testing 1 else_to rows) is.5
  over_arcs action transition is = absurd is

  pub over_outcomes : (action : Action) (transition : Transition) → IsOver bounds action transition → (outcome : Bool)
      → outcome_arcs transition outcome ≡ arcs_of_outcome bounds action outcome
  over_outcomes ends End is outcome = refl
  over_outcomes (assigns x e next) (Assign place value to) is outcome = refl
  over_outcomes (assigns x e next) (Choose place range choice cases to) is outcome = refl
  over_outcomes (passes next) (Pass to) is outcome = refl
  over_outcomes (tests head c then_to else_to) (Test is_head choice holds fails to other) is true =
      ap (λ t. testing 0 t holds.items) is.1 ∙ ap (testing 0 then_to) is.4
  over_outcomes (tests head c then_to else_to) (Test is_head choice holds fails to other) is false =
      ap (λ t. testing 1 t fails.items) is.2 ∙ ap (testing 1 else_to) is.5
  over_outcomes action transition is outcome = absurd is

  pub over_values : (action : Action) (transition : Transition) → IsOver bounds action transition → (a : Affine)
      → value_arcs transition a ≡ arcs_putting action a
  over_values ends End is a = refl
  over_values (assigns x e next) (Assign place value to) is a = ap (λ p. putting p to a ∷ []) is.0 ∙ ap (λ t. putting x t a ∷ []) is.1
  over_values (assigns x e next) (Choose place range choice cases to) is a = ap (λ p. putting p to a ∷ []) is.0 ∙ ap (λ t. putting x t a ∷ []) is.1
  over_values (passes next) (Pass to) is a = refl
  over_values (tests head c then_to else_to) (Test is_head choice holds fails to other) is a = refl
  over_values action transition is a = absurd is
