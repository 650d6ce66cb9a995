-- A plain program without loops, whose numbers fit: what each label does, and what follows it.
use Rattle.std.proofs.Common.{◌≡◌, ◌⊎◌, inl, inr, ⊎_elim, ℕ, zero, suc, ◌<◌, ◌≤◌, ℤ, true, false, List, [], ◌∷◌, get_or, length, refl, sym, ap, subst, ◌∙◌, arith}
use Rattle.std.proofs.lemmas.Bool.{false≢true}
use Rattle.step_meaning.specs.AffineExpressions.{TestFits}
use Rattle.step_meaning.specs.Counts.{HasNoLoop}
use Rattle.step_meaning.specs.Plain.{IsPlainTest}
use Rattle.step_meaning.specs.Step.{IsFinal}
use Rattle.step_meaning.specs.Syntax.{Expression, Statements, free, range, number, variable, truth, negative, negation, pair, divided}
use Rattle.step_meaning.specs.Valid.{IsBody, IsTest}
use Rattle.linear_cons.specs.declared.bounds.Bounds.{Bounds}
use Rattle.control_flow.specs.Actions.{IsBehind, LeadsBelow, LeadsOn as IsLedOn}
use Rattle.control_flow.specs.Edges.{configuration, is_head_by}
use Rattle.control_flow.specs.Fitting.{ActionFits, IsFitting}
use Rattle.control_flow.specs.Labels.{Action, Label, ends, assigns, passes, tests, action_at, all_labels, end}
use Rattle.control_flow.proofs.LabelLaws.{edges_lead_to_labels}
use Rattle.control_flow.proofs.Onward.{labels_lead_on}
use Rattle.control_flow.proofs.PlainActions.{is_assigned, plain_as, sorted_as}
use Rattle.control_flow.proofs.Steps.{edges_are_steps}
use Rattle.tree_support.specs.Arcs.{flow_of}
use Rattle.unroll.proofs.Ordering.{does, does_something}
use Rattle.exact_families.proofs.Acting.{IsFair, IsFittingAction, IsFreeOr, deed_of, deed_of_test}
use Rattle.exact_families.proofs.Complete.{AreAfter, LeadsOn}
use Rattle.exact_families.proofs.Deeds.{Deed, FlowsAs, finishes}
use Rattle.exact_families.proofs.Flowing.{flows_as}
use Rattle.exact_families.proofs.Following.{goes_as}
use Rattle.formula_measures.proofs.Loopless.{no_heads}
use Rattle.exact_families.proofs.Whole.{IsProgram}

-- something is done, so the deed isn't the end
test_done : (bounds : Bounds) (c : Expression) (p q : ℕ) → deed_of_test bounds c p q ≡ finishes → ⊥
test_done bounds free p q is = absurd (cc)
test_done bounds (number z) p q is = absurd (cc)
test_done bounds (variable x) p q is = absurd (cc)
test_done bounds (range lo hi) p q is = absurd (cc)
test_done bounds (truth b) p q is = absurd (cc)
test_done bounds (negative e) p q is = absurd (cc)
test_done bounds (negation c) p q is = absurd (cc)
test_done bounds (pair op l r) p q is = absurd (cc)
test_done bounds (divided division e b) p q is = absurd (cc)

done_goes_on : (bounds : Bounds) (action : Action) → does action ≡ true → deed_of bounds action ≡ finishes → ⊥
done_goes_on bounds ends something is = false≢true something
done_goes_on bounds (assigns x e next) something is = absurd (cc)
done_goes_on bounds (passes next) something is = absurd (cc)
done_goes_on bounds (tests head c p q) something is = test_done bounds c p q is

module _ (n l : ℕ) where
  test_after : (bounds : Bounds) (c : Expression) (p q : ℕ) → LeadsOn n l p → LeadsOn n l q → AreAfter n l (deed_of_test bounds c p q)
  test_after bounds free p q one two = (one, two)
  test_after bounds (number z) p q one two = (one, two)
  test_after bounds (variable x) p q one two = (one, two)
  test_after bounds (range lo hi) p q one two = (one, two)
  test_after bounds (truth b) p q one two = (one, two)
  test_after bounds (negative e) p q one two = (one, two)
  test_after bounds (negation c) p q one two = (one, two)
  test_after bounds (pair op a b) p q one two = (one, two)
  test_after bounds (divided division e b) p q one two = (one, two)

-- a plain test whose numbers fit is free, or an affine one
fair_test : (vars : ℕ) (c : Expression) → vars ≤ 16 → IsTest vars c → IsPlainTest c → TestFits c → IsFreeOr c (IsFair c)
fair_test vars free few sorted plain fits = tt
fair_test vars (number z) few sorted plain fits = (vars, sorted, plain, fits, few)
fair_test vars (variable x) few sorted plain fits = (vars, sorted, plain, fits, few)
fair_test vars (range lo hi) few sorted plain fits = (vars, sorted, plain, fits, few)
fair_test vars (truth b) few sorted plain fits = (vars, sorted, plain, fits, few)
fair_test vars (negative e) few sorted plain fits = (vars, sorted, plain, fits, few)
fair_test vars (negation c) few sorted plain fits = (vars, sorted, plain, fits, few)
fair_test vars (pair op a b) few sorted plain fits = (vars, sorted, plain, fits, few)
fair_test vars (divided division e b) few sorted plain fits = (vars, sorted, plain, fits, few)

-- past the labels nothing is done
past_end : (labels : List Label) (l : ℕ) → length labels ≤ l → get_or labels l end ≡ end
past_end [] l past = refl
past_end (x ∷ xs) zero past = absurd (omega arith)
past_end (x ∷ xs) (suc l) past = past_end xs l (omega arith)

module _ (body : Statements) (vars : ℕ) (few : vars ≤ 15) (valid : IsBody vars body) (fitting : IsFitting body) where
  abbrev pub count : ℕ
  count = length (all_labels body)

  fits_as : (l : ℕ) → l < count → (action : Action) → action ≡ action_at body l → IsFittingAction action
  fits_as l low ends is = tt
  fits_as l low (assigns x e next) is =
      let own = is_assigned body vars few valid fitting.plain l low x e next is in
      (own.place, own.affine, subst ActionFits (sym is) (fitting.fit l low), own.names)
  fits_as l low (passes next) is = tt
  fits_as l low (tests head c p q) is =
      fair_test vars c (omega (arith, few)) (sorted_as body vars few valid fitting.plain l low (tests head c p q) is)
      (plain_as body vars few valid fitting.plain l low (tests head c p q) is) (subst ActionFits (sym is) (fitting.fit l low))

  -- what is done at each label fits, past the labels too
  pub fits_at : (l : ℕ) → IsFittingAction (action_at body l)
  fits_at l =
      ⊎_elim (λ low. fits_as l low (action_at body l) refl)
      (λ past. subst (λ (x : Label). IsFittingAction x.action) (sym (past_end (all_labels body) l past)) tt)
      (below_or l count)
    where
      below_or : (a b : ℕ) → (a < b) ⊎ (b ≤ a)
      below_or a zero = inr (omega arith)
      below_or zero (suc b) = inl (omega arith)
      below_or (suc a) (suc b) = ⊎_elim (λ less. inl (omega (arith, less))) (λ more. inr (omega (arith, more))) (below_or a b)

  module _ (bounds : ℕ → Bounds) where
    abbrev pub deeds : ℕ → Deed
    deeds l = deed_of (bounds l) (action_at body l)

    -- the arcs are those of what is done
    pub flows : (l : ℕ) → FlowsAs (flow_of body bounds) l (deeds l)
    flows l = flows_as body bounds l (action_at body l) refl (fits_at l)

    module _ (loopless : HasNoLoop body) where
      on_target : (l k : ℕ) → k < count → IsBehind body (suc l) k → LeadsOn count l k
      on_target l k low (inl more) = (low, inr (omega (arith, more)))
      on_target l k low (inr (inl nought)) = (low, inl nought)
      on_target l k low (inr (inr head)) = absurd (false≢true (sym (no_heads body loopless k low) ∙ head))

      after_as : (l : ℕ) (action : Action) → is_head_by action ≡ false → LeadsBelow count action → IsLedOn body l action → AreAfter count l (deed_of (bounds l) action)
      after_as l ends plain below on = tt
      after_as l (assigns x e next) plain below on = on_target l next below on
      after_as l (passes next) plain below on = on_target l next below on
      after_as l (tests true c p q) plain below on = absurd (false≢true (sym plain))
      after_as l (tests false c p q) plain below on = test_after count l (bounds l) c p q (on_target l p below.0 on.0) (on_target l q below.1 on.1)

      ended : (l : ℕ) (s : List ℤ) → l < count → action_at body l ≡ ends → IsFinal (configuration body l s)
      ended zero s low is = refl
      ended (suc l) s low is = absurd (false≢true (sym (ap does is) ∙ does_something body (suc l) low (omega arith)))

      pub program : IsProgram (configuration body) count deeds
      program = record {
        ends = refl;
        goes_on = λ l low is. done_goes_on (bounds (suc l)) (action_at body (suc l)) (does_something body (suc l) low (omega arith)) is;
        goes = λ l s low long. goes_as body bounds l s (edges_are_steps body l low) (fits_at l) (ended l s low);
        after = λ l low. after_as l (action_at body l) (no_heads body loopless l low) (edges_lead_to_labels body l low) (labels_lead_on body l low);
        stores = λ l s. refl;
      }
