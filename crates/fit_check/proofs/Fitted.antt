-- Where a family that was checked over safe trees is defined the runs fit.
use Rattle.std.proofs.Common.{◌≡◌, ℕ, pos, ◌<◌, ◌≤◌, true, inl, inr, sym, subst, arith}
use Rattle.std.proofs.lemmas.Int.{ints}
use Rattle.std.proofs.lemmas.List.{set-get_or}
use Rattle.step_meaning.proofs.Progress.{trichotomy}
use Rattle.linear_cons.specs.declared.bounds.Bounds.{Bounds}
use Rattle.linear_cons.specs.Bounds.{LiesIn}
use Rattle.linear_cons.specs.Ends.{exactly}
use Rattle.linear_cons.specs.Functions.{variable_at}
use Rattle.linear_cons.specs.Numbers.{number_at}
use Rattle.linear_cons.proofs.EndLaws.{exactly_covers}
use Rattle.linear_cons.proofs.Forms.{value_variable}
use Rattle.linear_forms.proofs.Naming.{number_names, test_names}
use Rattle.step_meaning.specs.Syntax.{Statements}
use Rattle.step_meaning.specs.Outcome.{Store}
use Rattle.step_meaning.specs.Step.{front}
use Rattle.step_meaning.specs.Valid.{IsBody}
use Rattle.control_flow.specs.Actions.{IsSorted}
use Rattle.control_flow.specs.Labels.{Action, ends, assigns, passes, tests, action_at}
use Rattle.control_flow.specs.States.{IsReachedState}
use Rattle.control_flow.specs.Told.{IsTrueOfReached, Told}
use Rattle.control_flow.proofs.LabelLaws.{labels_are_sorted}
use Rattle.control_flow.proofs.Reached.{reached_input, reached_label}
use Rattle.decision_tree.specs.declared.affine_rank.AffineRank.{AffineRank}
use Rattle.decision_tree.specs.Plans.{bottom}
use Rattle.ctl_formula.specs.Formulas.{Ctl, weak}
use Rattle.tree_support.specs.Certificates.{IsShown}
use Rattle.tree_support.specs.Setting.{Trees}
use Rattle.int_fit.specs.Fitting.{FitsInt, FitsNow, IsSmallAt}
use Rattle.fit_check.specs.Leading.{IsOfFront, IsTrueWhere}
use Rattle.fit_check.specs.Ranges.{NumbersStay, StaysIn}
use Rattle.fit_check.specs.Safety.{AreSafe, IsSafeAt, TellsFit}
use Rattle.fit_check.proofs.Fronts.{IsSmallBy, action_tells}
use Rattle.fit_check.proofs.Leads.{weak_leads_along}
use Rattle.fit_check.proofs.Rows.{number_small, stays_fits, test_small}

-- 0 is a number of 32 bits
nought_fits : FitsInt (pos 0)
nought_fits = record { sfits = omega arith }

of_front : IsOfFront FitsNow
of_front c d fronts stores fits = record {
  store = subst (λ s. (place : ℕ) → place < 16 → FitsInt (number_at s place)) stores fits.store;
  next = subst (λ todo. IsSmallAt todo d.store) fronts (subst (λ s. IsSmallAt (front c.todo) s) stores fits.next);
}

module _ (vars : ℕ) (body : Statements) (told : Told) (few : vars ≤ 15) (valid : IsBody vars body) (is_true : IsTrueOfReached vars body told) where
  variable_fits : (store : Store) (place : ℕ) → place < 16 → StaysIn store (exactly (variable_at place)) → FitsInt (number_at store place)
  variable_fits store place low stays =
      stays_fits store (exactly (variable_at place)) stays (number_at store place)
      (exactly_covers (variable_at place) store (number_at store place) (sym (value_variable place store low)))

  store_fits : (label : ℕ) (store : Store) → IsReachedState vars body label store → (bounds : Bounds) → IsSafeAt vars bounds (action_at body label) store
      → (place : ℕ) → place < 16 → FitsInt (number_at store place)
  store_fits label store reached bounds safe place low =
      let past = (reached_input vars body valid label store reached).zeros in
      elim (trichotomy (pos place) (pos vars)) [
        | inl below ↦ variable_fits store place low (safe.variables place (omega (arith, ints)))
        | inr (inl even) ↦ subst FitsInt (sym (past place (omega (arith, ints)))) nought_fits
        | inr (inr above) ↦ subst FitsInt (sym (past place (omega (arith, ints)))) nought_fits
      ]

  small_by : (bounds : Bounds) (store : Store) → LiesIn bounds store → (action : Action) → IsSorted vars action → NumbersStay bounds action store
      → IsSmallBy action store
  small_by bounds store inside ends sorted stay = tt
  small_by bounds store inside (assigns x e next) sorted stay = number_small bounds store inside e (number_names vars 16 (omega arith) e sorted.1) stay
  small_by bounds store inside (passes next) sorted stay = tt
  small_by bounds store inside (tests head c then_to else_to) sorted stay = test_small bounds store inside c (test_names vars 16 (omega arith) c sorted) stay

  own_bounds : (label : ℕ) (store : Store) → IsReachedState vars body label store → LiesIn (told.bounds label) store
  own_bounds label store reached =
      subst (λ s. LiesIn (told.bounds label) s) (set-get_or store 15 (pos 0)) (is_true.bounds label store (number_at store 15) reached)

  module _ (safe : Trees AffineRank) (are_safe : AreSafe vars body told.bounds safe) where
    fits_where : IsTrueWhere vars body safe FitsNow
    fits_where label store why rank reached is =
        let here = are_safe label store why rank is in
        let below = reached_label vars body label store reached in record {
          store = store_fits label store reached (told.bounds label) here;
          next = action_tells body label below store
              (small_by (told.bounds label) store (own_bounds label store reached) (action_at body label) (labels_are_sorted vars body valid label below) here.numbers);
        }

    pub family_fits : (f g : Ctl) (parts : ℕ → Trees AffineRank) → parts 0 ≡ safe → ((label : ℕ) → parts 1 label ≡ bottom)
        → (family : Trees AffineRank) → IsShown body told (weak true f g) parts family → TellsFit vars body family
    family_fits f g parts kept no_goal family shown =
        let along = weak_leads_along vars body told few valid is_true f g parts family shown no_goal FitsNow of_front
        (subst (λ trees. IsTrueWhere vars body trees FitsNow) (sym kept) fits_where) in record {
          states = along.states;
          inputs = along.inputs;
        }
