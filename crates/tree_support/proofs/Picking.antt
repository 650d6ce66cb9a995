-- An outcome or a value that is picked where it may be chosen is that of a successor, and the states that are reached move as the theorem on
-- supported families needs it.
use Rattle.std.proofs.Common.{◌≡◌, ℕ, ◌<◌, ◌≤◌, ℤ, pos, ◌≤ℤ◌, inl, inr, Bool, true, false, [], Option, Some, length, set, refl, sym, subst, ap, ◌∙◌, arith}
use Rattle.step_meaning.specs.Syntax.{Expression, Statements, free, range}
use Rattle.step_meaning.specs.Outcome.{Store, May, MayTest}
use Rattle.step_meaning.specs.Naming.{NamesBelow}
use Rattle.step_meaning.specs.Valid.{IsBody}
use Rattle.linear_cons.specs.declared.affine.Affine.{Affine}
use Rattle.linear_cons.specs.Bounds.{IsFrom, IsUpTo}
use Rattle.linear_cons.specs.Functions.{value_at}
use Rattle.linear_cons.specs.Numbers.{number_at}
use Rattle.linear_forms.proofs.Naming.{test_names}
use Rattle.linear_forms.specs.Spreading.{spread_of}
use Rattle.linear_forms.proofs.SpreadCovering.{spread_covers}
use Rattle.control_flow.specs.Actions.{IsSorted}
use Rattle.control_flow.specs.declared.edge.Choice.TheVariants.{Branch, Range}
use Rattle.control_flow.specs.Edges.{LandsAt, choice_by, choice_of_test, choice_of_value}
use Rattle.control_flow.specs.Labels.{Action, assigns, tests, action_at, all_labels}
use Rattle.control_flow.proofs.LabelLaws.{labels_are_sorted}
use Rattle.control_flow.proofs.Taken.{both_taken, value_taken}
use Rattle.control_flow.specs.States.{IsReachedState, followed}
use Rattle.control_flow.proofs.Reached.{Follows, reached_label, reached_places}
use Rattle.control_flow.proofs.Unstuck.{some_successor}
use Rattle.tree_support.specs.Arcs.{Arc, arcs_of_outcome, arcs_putting, testing}
use Rattle.constraint_stack.specs.Forming.{exact}
use Rattle.control_flow.specs.Told.{IsTrueOfReached, Told}
use Rattle.tree_support.proofs.Arcs.{busy, lies, over_arcs, put_back, same_store, tested}
use Rattle.tree_support.proofs.Lists.{all_none, contains_first}
use Rattle.tree_support.proofs.Moving.{LeadsOn, LeadsOver, Moves}

-- ---- where a choice may be made

free_test : (c : Expression) → choice_of_test c ≡ Branch → c ≡ free
free_test free chosen = refl
free_test other chosen = absurd (cc)

no_range : (c : Expression) (lo hi : Option ℤ) → choice_of_test c ≡ Range lo hi → ⊥
no_range free lo hi chosen = absurd (cc)
no_range other lo hi chosen = absurd (cc)

no_branch : (e : Expression) → choice_of_value e ≡ Branch → ⊥
no_branch free chosen = absurd (cc)
no_branch (range lo hi) chosen = absurd (cc)
no_branch other chosen = absurd (cc)

-- each outcome of a test that is free
outcome_may : (c : Expression) (store : Store) → choice_of_test c ≡ Branch → (outcome : Bool) → MayTest c store outcome
outcome_may free store chosen outcome = tt
outcome_may other store chosen outcome = absurd (cc)

-- each value of a range
value_may : (e : Expression) (store : Store) (lo hi : Option ℤ) (v : ℤ) → choice_of_value e ≡ Range lo hi → IsFrom lo v → IsUpTo hi v → May e store v
value_may free store lo hi v chosen from upto = tt
value_may (range l h) store lo hi v chosen from upto =
    let lower : lo ≡ l = cc in
    let upper : hi ≡ h = cc in
    (subst (λ o. IsFrom o v) lower from, subst (λ o. IsUpTo o v) upper upto)
value_may other store lo hi v chosen from upto = absurd (cc)

module _ (vars : ℕ) (few : vars ≤ 15) (body : Statements) (valid : IsBody vars body) (told : Told) (is_true : IsTrueOfReached vars body told) where
  module _ (label : ℕ) (store : Store) (reached : IsReachedState vars body label store) where
    low : label < length (all_labels body)
    low = reached_label vars body label store reached

    -- what the action leads to is reached
    abbrev Reaches : Action → Type 0
    Reaches action = (target : ℕ) (after : Store) → Follows label action store target after → IsReachedState vars body target after

    -- the successor over the edge of an outcome is led to over one of its arcs
    over_outcome : (edge to : ℕ) (c : Expression) (outcome : Bool) → NamesBelow 16 c → MayTest c store outcome
        → (lands : LandsAt body label store store to) → IsReachedState vars body to lands.0.store
        → LeadsOn vars body (testing edge to (spread_of (told.bounds label) c outcome)) label store
    over_outcome edge to c outcome named may lands there =
        let inside = lies vars few body valid told is_true label store reached in
        let met = spread_covers (told.bounds label) store inside c named outcome may in (
          lands.0,
          inl lands.1,
          tested vars few body (told.bounds label) store lands.0 (reached_places vars body label store reached) inside
              (λ z. is_true.bounds label store z reached) edge to (spread_of (told.bounds label) c outcome) met lands.2 lands.3 there,
        )

    of_test : (head : Bool) (c : Expression) (p q : ℕ) → action_at body label ≡ tests head c p q → Reaches (tests head c p q)
        → IsSorted vars (tests head c p q) → choice_of_test c ≡ Branch → (outcome : Bool)
        → LeadsOn vars body (arcs_of_outcome (told.bounds label) (tests head c p q) outcome) label store
    of_test head c p q is reach sorted chosen outcome =
        let named : NamesBelow 16 c = test_names vars 16 (omega arith) c sorted in
        let both = both_taken body label low head p q (is ∙ ap (λ e. tests head e p q) (free_test c chosen)) store in
        let may = outcome_may c store chosen in
        elim outcome as (λ t. LeadsOn vars body (arcs_of_outcome (told.bounds label) (tests head c p q) t) label store) [
          | true ↦ over_outcome 0 p c true named (may true) both.0 (reach p both.0.0.store (inl ((may true, both.0.2), refl)))
          | false ↦ over_outcome 1 q c false named (may false) both.1 (reach q both.1.0.store (inr (inl ((may false, both.1.2), refl))))
        ]

    of_assignment : (x : ℕ) (e : Expression) (to : ℕ) → action_at body label ≡ assigns x e to → Reaches (assigns x e to) → x < vars
        → (a : Affine) → May e store (value_at a store) → LeadsOn vars body (arcs_putting (assigns x e to) a) label store
    of_assignment x e to is reach below a may =
        let lands = value_taken body label low x e to is store (value_at a store) may in
        let own : value_at a (set store 15 (number_at store 15)) ≡ value_at a store = ap (value_at a) (same_store store) in
        let arc : Arc = record { edge = 0; target = to; asks = []; sets = Some (x, a) } in
        let leads : LeadsOver vars body arc store lands.0 = record {
          chosen = number_at store 15;
          variable = omega arith;
          asked = all_none (λ b. pos 0 ≤ℤ value_at (exact b) (set store 15 (number_at store 15)));
          after = lands.2 ∙ sym (ap (λ v. set (set (set store 15 (number_at store 15)) x v) 15 (number_at store 15)) own
              ∙ put_back store x (value_at a store) (number_at store 15) (omega arith));
          same_front = lands.3;
          reached = reach to lands.0.store (inl ((value_at a store, may, lands.2), refl));
        } in (
          lands.0,
          inl lands.1,
          (arc, contains_first arc [], leads),
        )

    outcome_at : (action : Action) → action_at body label ≡ action → Reaches action → IsSorted vars action → choice_by action ≡ Branch
        → (outcome : Bool) → LeadsOn vars body (arcs_of_outcome (told.bounds label) action outcome) label store
    outcome_at (tests head c p q) is reach sorted chosen outcome = of_test head c p q is reach sorted chosen outcome
    outcome_at (assigns x e to) is reach sorted chosen outcome = absurd (no_branch e chosen)
    outcome_at other is reach sorted chosen outcome = absurd (cc)

    value_put : (action : Action) → action_at body label ≡ action → Reaches action → IsSorted vars action → (lo hi : Option ℤ)
        → choice_by action ≡ Range lo hi → (a : Affine) → IsFrom lo (value_at a store) → IsUpTo hi (value_at a store)
        → LeadsOn vars body (arcs_putting action a) label store
    value_put (assigns x e to) is reach sorted lo hi chosen a from upto =
        of_assignment x e to is reach sorted.0 a (value_may e store lo hi (value_at a store) chosen from upto)
    value_put (tests head c p q) is reach sorted lo hi chosen a from upto = absurd (no_range c lo hi chosen)
    value_put other is reach sorted lo hi chosen a from upto = absurd (cc)

  pub moves : Moves vars body told
  moves = record {
    ends = refl;
    goes_on = busy vars few body valid told is_true;
    places = reached_places vars body;
    alive = is_true.dead;
    members = is_true.rows;
    each = over_arcs vars few body valid told is_true;
    some = some_successor vars body valid;
    outcomes = λ label store reached chosen outcome.
        outcome_at label store reached (action_at body label) refl (λ target after leads. followed label target store after reached leads)
        (labels_are_sorted vars body valid label (low label store reached)) chosen outcome;
    values = λ label store reached lo hi chosen a from upto.
        value_put label store reached (action_at body label) refl (λ target after leads. followed label target store after reached leads)
        (labels_are_sorted vars body valid label (low label store reached)) lo hi chosen a from upto;
  }
