-- What is known of what a plain program does at a label.
use Rattle.std.proofs.Common.{◌≡◌, ℕ, ◌<◌, ◌≤◌, Bool, length, sym, subst, arith}
use Rattle.linear_forms.proofs.Naming.{number_names, test_names}
use Rattle.step_meaning.specs.AffineExpressions.{IsAffine}
use Rattle.step_meaning.specs.Naming.{NamesBelow}
use Rattle.step_meaning.specs.Plain.{IsPlain, IsPlainTest}
use Rattle.step_meaning.specs.Syntax.{Expression, Statements}
use Rattle.step_meaning.specs.Valid.{IsBody}
use Rattle.control_flow.specs.Actions.{IsSorted, LeadsBelow}
use Rattle.control_flow.specs.Fitting.{IsPlainAction}
use Rattle.control_flow.specs.Labels.{Action, assigns, passes, tests, action_at, all_labels}
use Rattle.control_flow.proofs.LabelLaws.{edges_lead_to_labels, labels_are_sorted}
use Rattle.control_flow.proofs.PlainLabels.{labels_are_plain}

-- an assignment at a label
pub record IsAssigned (x : ℕ) (e : Expression) (next labels : ℕ) : Type 0 where
  pub place : x < 16
  pub affine : IsAffine e
  pub names : NamesBelow 16 e
  pub inside : next < labels

-- a test at a label
pub record IsTested (c : Expression) (then_to else_to labels : ℕ) : Type 0 where
  pub plain : IsPlainTest c
  pub names : NamesBelow 16 c
  pub inside : then_to < labels
  pub also : else_to < labels

module _ (body : Statements) (vars : ℕ) (few : vars ≤ 15) (valid : IsBody vars body) (plain : IsPlain body) (l : ℕ) (low : l < length (all_labels body)) where
  pub sorted_as : (action : Action) → action ≡ action_at body l → IsSorted vars action
  sorted_as action is = subst (IsSorted vars) (sym is) (labels_are_sorted vars body valid l low)

  pub plain_as : (action : Action) → action ≡ action_at body l → IsPlainAction action
  plain_as action is = subst IsPlainAction (sym is) (labels_are_plain body plain l low)

  below_as : (action : Action) → action ≡ action_at body l → LeadsBelow (length (all_labels body)) action
  below_as action is = subst (LeadsBelow (length (all_labels body))) (sym is) (edges_lead_to_labels body l low)

  pub is_assigned : (x : ℕ) (e : Expression) (next : ℕ) → assigns x e next ≡ action_at body l → IsAssigned x e next (length (all_labels body))
  is_assigned x e next is =
      let sorted = sorted_as (assigns x e next) is in record {
        place = let below = sorted.0 in omega (arith, below, few);
        affine = plain_as (assigns x e next) is;
        names = number_names vars 16 (omega (arith, few)) e sorted.1;
        inside = below_as (assigns x e next) is;
      }

  pub is_passed : (next : ℕ) → passes next ≡ action_at body l → next < length (all_labels body)
  is_passed next is = below_as (passes next) is

  pub is_tested : (head : Bool) (c : Expression) (p q : ℕ) → tests head c p q ≡ action_at body l → IsTested c p q (length (all_labels body))
  is_tested head c p q is =
      let below = below_as (tests head c p q) is in record {
        plain = plain_as (tests head c p q) is;
        names = test_names vars 16 (omega (arith, few)) c (sorted_as (tests head c p q) is);
        inside = below.0;
        also = below.1;
      }
