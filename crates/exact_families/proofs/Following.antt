-- What follows a label and a store of a plain program, by what is done at the label.
use Rattle.std.proofs.Common.{◌≡◌, ◌⊎◌, inl, inr, ⊎_elim, ℕ, ℤ, Bool, true, false, List, [], ◌∷◌, Option, None, replicate, slice_set, refl, sym, ap, subst, ◌∙◌}
use Rattle.std.proofs.lemmas.List.{get_or-replicate}
use Rattle.step_meaning.specs.Countdown.{form_of}
use Rattle.step_meaning.specs.Naming.{NamesBelow}
use Rattle.step_meaning.specs.Outcome.{MayTest, Store}
use Rattle.step_meaning.specs.Step.{Configuration, IsFinal, Next, Step, StepsFrom, front}
use Rattle.step_meaning.specs.Syntax.{Expression, Statements, free, range, number, variable, truth, negative, negation, pair, divided}
use Rattle.linear_cons.specs.Bounds.{IsFrom, IsUpTo, LiesIn}
use Rattle.linear_cons.specs.Functions.{value_at}
use Rattle.linear_cons.specs.Numbers.{number_at}
use Rattle.linear_cons.specs.declared.bounds.Bounds.{Bounds}
use Rattle.linear_cons.specs.declared.row.Row.{Row}
use Rattle.linear_forms.specs.Duality.{AreDual}
use Rattle.linear_forms.specs.Meeting.{MeetsEach, MeetsOne}
use Rattle.linear_forms.specs.Spreading.{spread_of}
use Rattle.linear_forms.proofs.Exactness.{may_have_value, only_value}
use Rattle.linear_forms.proofs.Naming.{test_names}
use Rattle.linear_forms.proofs.SpreadCovering.{spread_covers}
use Rattle.linear_forms.proofs.SpreadExactness.{spread_exact}
use Rattle.control_flow.specs.Labels.{Action, ends, assigns, passes, tests, action_at, rest}
use Rattle.control_flow.specs.Edges.{EachEdge, EdgesAreSteps, Leads, SomeEdge, configuration, edges_from}
use Rattle.control_flow.specs.declared.edge.Edge.{Edge}
use Rattle.exact_families.proofs.Acting.{IsFair, IsFittingAction, deed_of}
use Rattle.exact_families.proofs.Deeds.{finishes}
use Rattle.exact_families.proofs.Judges.{GrantsOne, GrantsRows}
use Rattle.exact_families.proofs.Complete.{GoesAs}
use Rattle.exact_families.proofs.Completing.{Goes, GoesOnly, IsLike}
use Rattle.exact_families.proofs.Flowing.{asks_as}
use Rattle.exact_families.proofs.StoreJudges.{says_true, store_says, stores_judge, true_says}
use Rattle.exact_families.proofs.Testing.{not_both, one_of_both}

-- ---- tests

-- no end leaves a store out
anywhere : Bounds
anywhere = record { ends = replicate 16 (None, None) }

lies_anywhere : (s : Store) → LiesIn anywhere s
unfolding anywhere
lies_anywhere s = record {
  lower = λ i h. subst (λ (t : Option ℤ × Option ℤ). IsFrom t.0 (number_at s i)) (sym (get_or-replicate 16 i (None, None) (None, None) h)) tt;
  upper = λ i h. subst (λ (t : Option ℤ × Option ℤ). IsUpTo t.1 (number_at s i)) (sym (get_or-replicate 16 i (None, None) (None, None) h)) tt;
}

meets_each : (s : List ℤ) (rows : List Row) → GrantsRows (store_says s) rows → MeetsEach s rows
meets_each s [] own = tt
meets_each s (row ∷ rows) own = (true_says s row.affine own.0, meets_each s rows own.1)

meets_one : (s : List ℤ) (lists : List (List Row)) → GrantsOne (store_says s) lists → MeetsOne s lists
meets_one s [] own = own
meets_one s (rows ∷ more) own = ⊎_elim (λ here. inl (meets_each s rows here)) (λ there. inr (meets_one s more there)) own

grants_each : (s : List ℤ) (rows : List Row) → MeetsEach s rows → GrantsRows (store_says s) rows
grants_each s [] own = tt
grants_each s (row ∷ rows) own = (says_true s row.affine own.0, grants_each s rows own.1)

grants_one : (s : List ℤ) (lists : List (List Row)) → MeetsOne s lists → GrantsOne (store_says s) lists
grants_one s [] own = own
grants_one s (rows ∷ more) own = ⊎_elim (λ here. inl (grants_each s rows here)) (λ there. inr (grants_one s more there)) own

-- an affine test without `?` has one outcome
one_outcome : (s : List ℤ) (c : Expression) → IsFair c → MayTest c s true → MayTest c s false → ⊥
one_outcome s c fair first second =
    let names : NamesBelow 16 c = test_names fair.0 16 fair.4 c fair.1 in
    let dual : AreDual (spread_of anywhere c true) (spread_of anywhere c false) = asks_as anywhere c fair in
    not_both (store_says s) (stores_judge s) (spread_of anywhere c true) (spread_of anywhere c false) dual.exclude
    (grants_one s (spread_of anywhere c true) (spread_covers anywhere s (lies_anywhere s) c names true first))
    (grants_one s (spread_of anywhere c false) (spread_covers anywhere s (lies_anywhere s) c names false second))

may_have : (s : List ℤ) (bounds : Bounds) (c : Expression) → IsFair c → (t : Bool) → GrantsOne (store_says s) (spread_of bounds c t) → MayTest c s t
may_have s bounds c fair t own = spread_exact s fair.0 fair.4 bounds c fair.1 fair.2 fair.3 t (meets_one s (spread_of bounds c t) own)

-- ---- edges

-- the edges from a label at which this is done are its steps
record EdgesAre (body : Statements) (l : ℕ) (action : Action) : Type 0 where
  pub each_step : (s : Store) (d : Configuration) → Step (configuration body l s) d
      → SomeEdge (λ (edge : Edge). Leads action edge.kind s d.store × (front d.todo ≡ front (rest body edge.to))) (edges_from l action)
  pub each_edge : EachEdge
      (λ (edge : Edge). (s t : Store) → Leads action edge.kind s t
      → (d : Configuration) × Step (configuration body l s) d × (d.store ≡ t) × (front d.todo ≡ front (rest body edge.to)))
      (edges_from l action)

edges_are : (body : Statements) (l : ℕ) (action : Action) → action_at body l ≡ action → EdgesAreSteps body l → EdgesAre body l action
edges_are body l action is steps = record {
  each_step = subst
      (λ (a : Action). (s : Store) (d : Configuration) → Step (configuration body l s) d
      → SomeEdge (λ (edge : Edge). Leads a edge.kind s d.store × (front d.todo ≡ front (rest body edge.to))) (edges_from l a)) is steps.each_step;
  each_edge = subst
      (λ (a : Action). EachEdge
      (λ (edge : Edge). (s t : Store) → Leads a edge.kind s t
      → (d : Configuration) × Step (configuration body l s) d × (d.store ≡ t) × (front d.todo ≡ front (rest body edge.to)))
      (edges_from l a)) is steps.each_edge;
}

module _ (body : Statements) (l : ℕ) (s : Store) where
  abbrev here : Configuration
  here = configuration body l s

  -- where a step leads on nothing ends
  not_ended : (d : Configuration) → Step here d → IsFinal here → ⊥
  not_ended d step final = subst (λ t. StepsFrom t s d) final step

  -- a step to the store and front of a label's configuration
  goes_to : (t : Store) (to : ℕ) (d : Configuration) → Step here d → d.store ≡ t → front d.todo ≡ front (rest body to) → Goes here (configuration body to t)
  goes_to t to d step store todo = (d, inl step, (todo, store))

  only_steps : (P : Configuration → Type 0) → (IsFinal here → ⊥) → ((d : Configuration) → Step here d → P d) → (d : Configuration) → Next here d → P d
  only_steps P going each d (inl step) = each d step
  only_steps P going each d (inr stays) = absurd (going stays.0)

  module _ (action : Action) (edges : EdgesAre body l action) where
    abbrev Follows : Type 0
    Follows = (bounds : Bounds) → GoesAs (configuration body) l (deed_of bounds action) s

  end_goes : IsFinal here → (bounds : Bounds) → GoesAs (configuration body) l finishes s
  end_goes final bounds = (
    final,
    (here, inr (final, refl), (refl, refl)),
    λ d next. ⊎_elim {C = IsLike d here} (λ step. absurd (not_ended d step final)) (λ stays. (ap (λ (c : Configuration). front c.todo) stays.1, ap (λ (c : Configuration). c.store) stays.1)) next,
  )

  assign_goes : (x : ℕ) (e : Expression) (to : ℕ) → IsFittingAction (assigns x e to) → EdgesAre body l (assigns x e to) → (bounds : Bounds)
      → GoesAs (configuration body) l (deed_of bounds (assigns x e to)) s
  assign_goes x e to fitting edges bounds =
      let v : ℤ = value_at (form_of e) s in
      let found = edges.each_edge.0 s (slice_set s x v) (v, may_have_value s e fitting.3 fitting.1, refl) in
      let going : IsFinal here → ⊥ = not_ended found.0 found.1 in (
        going,
        fitting.0,
        goes_to (slice_set s x v) to found.0 found.1 found.2 found.3,
        only_steps (λ d. IsLike d (configuration body to (slice_set s x v))) going
            (λ d step. ⊎_elim {C = IsLike d (configuration body to (slice_set s x v))}
            (λ led. (led.1, led.0.2 ∙ ap (λ z. slice_set s x z) (only_value s e fitting.3 fitting.1 led.0.0 led.0.1)))
            (λ none. absurd none) (edges.each_step s d step)),
      )

  pass_goes : (to : ℕ) → EdgesAre body l (passes to) → (bounds : Bounds) → GoesAs (configuration body) l (deed_of bounds (passes to)) s
  pass_goes to edges bounds =
      let found = edges.each_edge.0 s s refl in
      let going : IsFinal here → ⊥ = not_ended found.0 found.1 in (
        going,
        goes_to s to found.0 found.1 found.2 found.3,
        only_steps (λ d. IsLike d (configuration body to s)) going
            (λ d step. ⊎_elim {C = IsLike d (configuration body to s)} (λ led. (led.1, led.0)) (λ none. absurd none) (edges.each_step s d step)),
      )

  free_goes : (head : Bool) (p q : ℕ) → EdgesAre body l (tests head free p q) → (bounds : Bounds) → GoesAs (configuration body) l (deed_of bounds (tests head free p q)) s
  free_goes head p q edges bounds =
      let first = edges.each_edge.0 s s (tt, refl) in
      let second = edges.each_edge.1.0 s s (tt, refl) in
      let going : IsFinal here → ⊥ = not_ended first.0 first.1 in (
        going,
        goes_to s p first.0 first.1 first.2 first.3,
        goes_to s q second.0 second.1 second.2 second.3,
        only_steps (λ d. IsLike d (configuration body p s) ⊎ IsLike d (configuration body q s)) going
            (λ d step. ⊎_elim {C = IsLike d (configuration body p s) ⊎ IsLike d (configuration body q s)}
            (λ led. inl (led.1, led.0.1))
            (λ more. ⊎_elim {C = IsLike d (configuration body p s) ⊎ IsLike d (configuration body q s)} (λ led. inr (led.1, led.0.1)) (λ none. absurd none) more)
            (edges.each_step s d step)),
      )

  -- an affine test without `?`: by the outcome that it has
  test_goes : (head : Bool) (c : Expression) (p q : ℕ) → IsFair c → EdgesAre body l (tests head c p q) → (bounds : Bounds)
      → (IsFinal here → ⊥) × AreDual (spread_of bounds c true) (spread_of bounds c false)
      × ((GrantsOne (store_says s) (spread_of bounds c true) × Goes here (configuration body p s) × GoesOnly here (configuration body p s))
      ⊎ (GrantsOne (store_says s) (spread_of bounds c false) × Goes here (configuration body q s) × GoesOnly here (configuration body q s)))
  test_goes head c p q fair edges bounds =
      let dual = asks_as bounds c fair in
      ⊎_elim
      (λ (own : GrantsOne (store_says s) (spread_of bounds c true)).
      let may : MayTest c s true = may_have s bounds c fair true own in
      let found = edges.each_edge.0 s s (may, refl) in
      let going : IsFinal here → ⊥ = not_ended found.0 found.1 in (
        going,
        dual,
        inl (
          own,
          goes_to s p found.0 found.1 found.2 found.3,
          only_steps (λ d. IsLike d (configuration body p s)) going
              (λ d step. ⊎_elim {C = IsLike d (configuration body p s)} (λ led. (led.1, led.0.1))
              (λ more. ⊎_elim {C = IsLike d (configuration body p s)} (λ led. absurd (one_outcome s c fair may led.0.0)) (λ none. absurd none) more) (edges.each_step s d step)),
        ),
      ))
      (λ (own : GrantsOne (store_says s) (spread_of bounds c false)).
      let may : MayTest c s false = may_have s bounds c fair false own in
      let found = edges.each_edge.1.0 s s (may, refl) in
      let going : IsFinal here → ⊥ = not_ended found.0 found.1 in (
        going,
        dual,
        inr (
          own,
          goes_to s q found.0 found.1 found.2 found.3,
          only_steps (λ d. IsLike d (configuration body q s)) going
              (λ d step. ⊎_elim {C = IsLike d (configuration body q s)} (λ led. absurd (one_outcome s c fair led.0.0 may))
              (λ more. ⊎_elim {C = IsLike d (configuration body q s)} (λ led. (led.1, led.0.1)) (λ none. absurd none) more) (edges.each_step s d step)),
        ),
      ))
      (one_of_both (store_says s) (stores_judge s) (spread_of bounds c true) (spread_of bounds c false) dual)

  by_action : (action : Action) → IsFittingAction action → EdgesAre body l action → (action ≡ ends → IsFinal here) → (bounds : Bounds)
      → GoesAs (configuration body) l (deed_of bounds action) s
  by_action ends fitting edges final bounds = end_goes (final refl) bounds
  by_action (assigns x e to) fitting edges final bounds = assign_goes x e to fitting edges bounds
  by_action (passes to) fitting edges final bounds = pass_goes to edges bounds
  by_action (tests head free p q) fitting edges final bounds = free_goes head p q edges bounds
  by_action (tests head (truth b) p q) fitting edges final bounds = test_goes head (truth b) p q fitting edges bounds
  by_action (tests head (negation c) p q) fitting edges final bounds = test_goes head (negation c) p q fitting edges bounds
  by_action (tests head (pair op a b) p q) fitting edges final bounds = test_goes head (pair op a b) p q fitting edges bounds
  by_action (tests head (divided division e b) p q) fitting edges final bounds = absurd (fitting.2)
  by_action (tests head (number z) p q) fitting edges final bounds = absurd (fitting.2)
  by_action (tests head (variable x) p q) fitting edges final bounds = absurd (fitting.2)
  by_action (tests head (range lo hi) p q) fitting edges final bounds = absurd (fitting.2)
  by_action (tests head (negative e) p q) fitting edges final bounds = absurd (fitting.2)

-- the program's configurations follow each other as its deeds say
pub goes_as : (body : Statements) (bounds : ℕ → Bounds) (l : ℕ) (s : Store) → EdgesAreSteps body l → IsFittingAction (action_at body l)
    → (action_at body l ≡ ends → IsFinal (configuration body l s)) → GoesAs (configuration body) l (deed_of (bounds l) (action_at body l)) s
goes_as body bounds l s steps fitting final = by_action body l s (action_at body l) fitting (edges_are body l (action_at body l) refl steps) final (bounds l)
