-- The configurations behind those of a label.
use Rattle.std.proofs.Common.{◌≡◌, ◌⊎◌, inl, inr, ℕ, ◌<◌, ℤ, Bool, true, false, length, set, refl, ap, subst, ◌∙◌, ⊎_elim}
use Rattle.step_meaning.specs.Outcome.{May, MayTest, Store}
use Rattle.step_meaning.specs.Step.{Configuration, Step, front}
use Rattle.step_meaning.specs.Syntax.{Expression, Statements}
use Rattle.control_flow.specs.Edges.{EachEdge, LandsAt, Leads, SomeEdge, configuration, edges_from}
use Rattle.control_flow.specs.Labels.{Action, assigns, passes, tests, action_at, all_labels, rest}
use Rattle.control_flow.proofs.LabelLaws.{only_end_is_final}
use Rattle.control_flow.proofs.Steps.{edges_are_steps}
use Rattle.unroll.proofs.LevelLaws.{Alike, TwoNext}

module _ (body : Statements) (l : ℕ) (low : l < length (all_labels body)) (some : l ≡ 0 → ⊥) (s : Store) where
  -- the configuration lands at the label with the store
  abbrev At : Configuration → Store → ℕ → Type 0
  At d t next = (d.store ≡ t) × (front d.todo ≡ front (rest body next))

  alike_at : (d : Configuration) (t : Store) (next : ℕ) → At d t next → Alike d (configuration body next t)
  alike_at d t next at = record { fronts = at.1; stores = at.0 }

  landed : (t : Store) (next : ℕ) → LandsAt body l s t next → (x : Configuration) × Step (configuration body l s) x × Alike x (configuration body next t)
  landed t next lands = (lands.0, lands.1, alike_at lands.0 t next (lands.2, lands.3))

  steps_by : (action : Action) → action_at body l ≡ action → (d : Configuration) → Step (configuration body l s) d
      → SomeEdge (λ edge. Leads action edge.kind s d.store × (front d.todo ≡ front (rest body edge.to))) (edges_from l action)
  steps_by action is d step =
      subst (λ a. SomeEdge (λ edge. Leads a edge.kind s d.store × (front d.todo ≡ front (rest body edge.to))) (edges_from l a)) is
      ((edges_are_steps body l low).each_step s d step)

  edges_by : (action : Action) → action_at body l ≡ action
      → EachEdge (λ edge. (s t : Store) → Leads action edge.kind s t → LandsAt body l s t edge.to) (edges_from l action)
  edges_by action is =
      subst (λ a. EachEdge (λ edge. (s t : Store) → Leads a edge.kind s t → LandsAt body l s t edge.to) (edges_from l a)) is (edges_are_steps body l low).each_edge

  pub assign_next : (x : ℕ) (e : Expression) (next : ℕ) → action_at body l ≡ assigns x e next → (v : ℤ) → May e s v → ((w : ℤ) → May e s w → w ≡ v)
      → TwoNext (configuration body l s) (configuration body next (set s x v)) (configuration body next (set s x v))
  assign_next x e next is v may one =
      let lands = landed (set s x v) next ((edges_by (assigns x e next) is).0 s (set s x v) (v, may, refl)) in
      record {
        goes = λ final. some (only_end_is_final body l low final);
        first = lands;
        second = lands;
        only = λ d step. ⊎_elim
            (λ edge. inl (alike_at d (set s x v) next (edge.0.2 ∙ ap (λ w. set s x w) (one edge.0.0 edge.0.1), edge.1)))
            (λ never. absurd never) (steps_by (assigns x e next) is d step);
      }

  pub pass_next : (next : ℕ) → action_at body l ≡ passes next → TwoNext (configuration body l s) (configuration body next s) (configuration body next s)
  pass_next next is =
      let lands = landed s next ((edges_by (passes next) is).0 s s refl) in
      record {
        goes = λ final. some (only_end_is_final body l low final);
        first = lands;
        second = lands;
        only = λ d step. ⊎_elim (λ edge. inl (alike_at d s next edge)) (λ never. absurd never) (steps_by (passes next) is d step);
      }

  module _ (head : Bool) (c : Expression) (p q : ℕ) (is : action_at body l ≡ tests head c p q) where
    outcomes : (d : Configuration) → Step (configuration body l s) d
        → (MayTest c s true × Alike d (configuration body p s)) ⊎ (MayTest c s false × Alike d (configuration body q s))
    outcomes d step =
        ⊎_elim (λ edge. inl (edge.0.0, alike_at d s p (edge.0.1, edge.1)))
        (λ rest. ⊎_elim (λ edge. inr (edge.0.0, alike_at d s q (edge.0.1, edge.1))) (λ never. absurd never) rest)
        (steps_by (tests head c p q) is d step)

    taken : MayTest c s true → (x : Configuration) × Step (configuration body l s) x × Alike x (configuration body p s)
    taken may = landed s p ((edges_by (tests head c p q) is).0 s s (may, refl))

    missed : MayTest c s false → (x : Configuration) × Step (configuration body l s) x × Alike x (configuration body q s)
    missed may = landed s q ((edges_by (tests head c p q) is).1.0 s s (may, refl))

    pub both_next : MayTest c s true → MayTest c s false → TwoNext (configuration body l s) (configuration body p s) (configuration body q s)
    both_next may may_not = record {
      goes = λ final. some (only_end_is_final body l low final);
      first = taken may;
      second = missed may_not;
      only = λ d step. ⊎_elim (λ there. inl there.1) (λ there. inr there.1) (outcomes d step);
    }

    pub true_next : MayTest c s true → (MayTest c s false → ⊥) → TwoNext (configuration body l s) (configuration body p s) (configuration body p s)
    true_next may never = record {
      goes = λ final. some (only_end_is_final body l low final);
      first = taken may;
      second = taken may;
      only = λ d step. ⊎_elim (λ there. inl there.1) (λ there. absurd (never there.0)) (outcomes d step);
    }

    pub false_next : (MayTest c s true → ⊥) → MayTest c s false → TwoNext (configuration body l s) (configuration body q s) (configuration body q s)
    false_next never may_not = record {
      goes = λ final. some (only_end_is_final body l low final);
      first = missed may_not;
      second = missed may_not;
      only = λ d step. ⊎_elim (λ there. absurd (never there.0)) (λ there. inl there.1) (outcomes d step);
    }
