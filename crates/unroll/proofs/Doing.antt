-- The transitions of a plain program whose numbers fit, over no bounds, do what its actions do; and which action a transition does.
use Rattle.std.proofs.Common.{◌≡◌, ℕ, ◌<◌, Bool, true, false, List, length, get_or, refl, sym, ap, subst, ◌∙◌}
use Rattle.std.proofs.lemmas.List.{get_or_default}
use Rattle.linear_cons.specs.declared.affine.Affine.{Affine}
use Rattle.linear_cons.specs.declared.bounds.Linear.{Linear}
use Rattle.linear_cons.specs.declared.row.Row.{Row}
use Rattle.step_meaning.specs.Countdown.{form_of}
use Rattle.step_meaning.specs.Syntax.{Expression, Statements}
use Rattle.linear_forms.specs.Linearising.{is_exact, linear_of}
use Rattle.linear_forms.proofs.Exactness.{linear_exact}
use Rattle.control_flow.specs.Fitting.{ActionFits, IsPlainAction}
use Rattle.control_flow.specs.Labels.{Action, ends, assigns, passes, tests, action_at, all_labels}
use Rattle.control_flow.specs.Measures.{anywhere}
use Rattle.control_flow.specs.Transitions.{IsOver, transition_in}
use Rattle.control_flow.specs.declared.transition.Transition.{Transition}
use Rattle.control_flow.specs.declared.transition.Transition.TheVariants.{Assign, Choose, Dead, End, Pass, Test}
use Rattle.unroll.specs.Doing.{AreDone, AreOf, Does}

pub does_over : (action : Action) (transition : Transition) → IsPlainAction action → ActionFits action → IsOver anywhere action transition → Does action transition
does_over ends End plain fits is = tt
does_over (assigns x e next) (Assign place value to) plain fits is =
    (is.0, is.1, is.3 ∙ ap (λ (l : Linear). l.affine) (linear_exact anywhere e plain fits))
does_over (assigns x e next) (Choose place range choice cases to) plain fits is =
    let exact : is_exact (linear_of anywhere e) ≡ true = ap is_exact (linear_exact anywhere e plain fits) in
    let not : true ≡ false = sym exact ∙ is.2 in absurd (cc)
does_over (passes next) (Pass to) plain fits is = is
does_over (tests head c then_to else_to) (Test is_head choice holds fails to other) plain fits is = (is.1, is.2, (is.4, is.5))
does_over action transition plain fits is = absurd is

-- the action is the assignment of an expression that is the function
pub record IsAssignment (action : Action) (x : ℕ) (value : Affine) (next : ℕ) : Type 0 where
  pub from : Expression
  pub is : assigns x from next ≡ action
  pub form : value ≡ form_of from

-- the action is a test whose outcomes are the conjunctions
pub record IsTesting (action : Action) (holds fails : List (List Row)) (then_to else_to : ℕ) : Type 0 where
  pub head : Bool
  pub test : Expression
  pub is : tests head test then_to else_to ≡ action
  pub are : AreOf test holds fails

-- which action the transition does
abbrev pub DoneBy : Action → Transition → Type 0
DoneBy action End = ends ≡ action
DoneBy action Dead = ⊥
DoneBy action (Pass to) = passes to ≡ action
DoneBy action (Assign place value to) = IsAssignment action place.number value to
DoneBy action (Choose place range choice cases to) = ⊥
DoneBy action (Test is_head choice holds fails to other) = IsTesting action holds.items fails.items to other

pub done_by : (action : Action) (transition : Transition) → Does action transition → DoneBy action transition
done_by ends End does = refl
done_by (assigns x e next) (Assign place value to) does =
    record { from = e; is = ap (λ p. assigns p e to) does.0 ∙ ap (assigns x e) does.1; form = does.2 }
done_by (passes next) (Pass to) does = ap passes does
done_by (tests head c then_to else_to) (Test is_head choice holds fails to other) does =
    record { head = head; test = c; is = ap (λ t. tests head c t other) does.0 ∙ ap (tests head c then_to) does.1; are = does.2 }
done_by action transition does = absurd does

-- which action the transition at a label does
pub done_at : (body : Statements) (steps : List Transition) → AreDone body steps → (label : ℕ) → label < length (all_labels body) → (read transition : Transition)
    → read ≡ get_or steps label read → read ≡ transition → DoneBy (action_at body label) transition
done_at body steps done label low read transition is same =
    let known : read ≡ transition_in steps label = is ∙ get_or_default steps label read End (subst (λ n. label < n) (sym done.count) low) in
    subst (DoneBy (action_at body label)) same (done_by (action_at body label) read (subst (Does (action_at body label)) (sym known) (done.each label low)))
