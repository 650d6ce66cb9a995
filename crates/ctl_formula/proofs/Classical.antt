-- What holds of successors, of until and of weak until over any properties: they are stable, they grow with the properties, and the one
-- kind is what the other's failing is.
use Rattle.std.specs.Prelude.{ℕ, zero, suc, Bool, true, false, not}
use Rattle.std.proofs.Common.{inl, inr}
use Rattle.step_meaning.specs.Step.{Configuration}
use Rattle.ctl_formula.specs.Satisfaction.{Ahead, UntilIn, WeakIn}
use Rattle.ctl_formula.specs.Systems.{Classically}

abbrev pub Property : Type 1
Property = Configuration → Type 0

abbrev pub IsStable : Property → Type 0
IsStable P = (c : Configuration) → ¬ ¬ P c → P c

abbrev pub Excludes : Property → Property → Type 0
Excludes P Q = (c : Configuration) → P c → Q c → ⊥

abbrev pub Implies : Property → Property → Type 0
Implies P Q = (c : Configuration) → P c → Q c

pub classically : {A : Type 0} → A → Classically A
classically a = λ no. no a

-- what is said classically is stable
pub joined : {A : Type 0} → ¬ ¬ Classically A → Classically A
joined h = λ no. h (λ a. a no)

-- ---- successors

pub ahead_stable : (all : Bool) (P : Property) → IsStable P → IsStable (Ahead all P)
ahead_stable true P stable c h = λ d step. stable d (λ none. h (λ each. none (each d step)))
ahead_stable false P stable c h = joined h

pub ahead_map : (all : Bool) (P Q : Property) → Implies P Q → Implies (Ahead all P) (Ahead all Q)
ahead_map true P Q more c h = λ d step. more d (h d step)
ahead_map false P Q more c h = λ none. h (λ some. none (some.0, some.1, more some.0 some.2))

pub ahead_not : (all : Bool) (P : Property) (c : Configuration) → IsStable P → ¬ Ahead all P c → Ahead (not all) (λ d. ¬ P d) c
ahead_not true P c stable h = λ none. h (λ d step. stable d (λ fails. none (d, step, fails)))
ahead_not false P c stable h = λ d step holds. h (classically (d, step, holds))

pub ahead_apart : (all : Bool) (P Q : Property) → Excludes P Q → Excludes (Ahead all P) (Ahead (not all) Q)
ahead_apart true P Q apart c h k = k (λ some. apart some.0 (h some.0 some.1) some.2)
ahead_apart false P Q apart c h k = h (λ some. apart some.0 some.2 (k some.0 some.1))

module _ (all : Bool) where
  -- ---- until and weak until

  pub until_stable : (keep goal : Property) → IsStable goal → (n : ℕ) → IsStable (UntilIn n all keep goal)
  until_stable keep goal stable zero = stable
  until_stable keep goal stable (suc n) = λ c h. joined h

  pub weak_stable : (keep goal : Property) (n : ℕ) → IsStable (WeakIn n all keep goal)
  weak_stable keep goal zero = λ c h. tt
  weak_stable keep goal (suc n) = λ c h. joined h

  pub until_map : (keep goal keep' goal' : Property) → Implies keep keep' → Implies goal goal' → (n : ℕ)
      → Implies (UntilIn n all keep goal) (UntilIn n all keep' goal')
  until_map keep goal keep' goal' kept met zero c h = met c h
  until_map keep goal keep' goal' kept met (suc n) c h =
      λ none. h (λ cases. elim cases [
        | inl done ↦ none (inl (met c done))
        | inr on ↦ none (inr (
          kept c on.0,
          ahead_map all (UntilIn n all keep goal) (UntilIn n all keep' goal')
              (until_map keep goal keep' goal' kept met n) c on.1,
        ))
      ])

  pub weak_map : (keep goal keep' goal' : Property) → Implies keep keep' → Implies goal goal' → (n : ℕ)
      → Implies (WeakIn n all keep goal) (WeakIn n all keep' goal')
  weak_map keep goal keep' goal' kept met zero c h = tt
  weak_map keep goal keep' goal' kept met (suc n) c h =
      λ none. h (λ cases. elim cases [
        | inl done ↦ none (inl (met c done))
        | inr on ↦ none (inr (
          kept c on.0,
          ahead_map all (WeakIn n all keep goal) (WeakIn n all keep' goal')
              (weak_map keep goal keep' goal' kept met n) c on.1,
        ))
      ])

  -- where the goal holds nothing is left to do
  pub until_met : (keep goal : Property) (n : ℕ) → Implies goal (UntilIn n all keep goal)
  until_met keep goal zero c h = h
  until_met keep goal (suc n) c h = classically (inl h)

  -- ---- duality

  module _ (keep goal unkept unmet : Property) where
    abbrev pub Neither : Property
    Neither c = unkept c × unmet c

    module _ (kept_apart : Excludes keep unkept) (met_apart : Excludes goal unmet) where
      pub until_excludes : (n : ℕ) → Excludes (UntilIn n all keep goal) (WeakIn (suc n) (not all) unmet Neither)
      until_excludes zero c h k = k (λ cases. elim cases [
        | inl none ↦ met_apart c h none.1
        | inr on ↦ met_apart c h on.0
      ])
      until_excludes (suc n) c h k = h (λ one. k (λ other. elim one [
        | inl done ↦ elim other [ inl none ↦ met_apart c done none.1 | inr on ↦ met_apart c done on.0 ]
        | inr go ↦ elim other [
          | inl none ↦ kept_apart c go.0 none.0
          | inr on ↦ ahead_apart all (UntilIn n all keep goal) (WeakIn (suc n) (not all) unmet Neither) (until_excludes n) c go.1 on.1
        ]
      ]))

      pub weak_excludes : (n : ℕ) → Excludes (WeakIn (suc n) all keep goal) (UntilIn n (not all) unmet Neither)
      weak_excludes zero c h k = h (λ cases. elim cases [
        | inl done ↦ met_apart c done k.1
        | inr go ↦ kept_apart c go.0 k.0
      ])
      weak_excludes (suc n) c h k = h (λ one. k (λ other. elim one [
        | inl done ↦ elim other [ inl none ↦ met_apart c done none.1 | inr on ↦ met_apart c done on.0 ]
        | inr go ↦ elim other [
          | inl none ↦ kept_apart c go.0 none.0
          | inr on ↦ ahead_apart all (WeakIn (suc n) all keep goal) (UntilIn n (not all) unmet Neither) (weak_excludes n) c go.1 on.1
        ]
      ]))

    module _ (fails_keep : Implies (λ c. ¬ keep c) unkept) (fails_goal : Implies (λ c. ¬ goal c) unmet) where
      pub weak_of_not_until : IsStable goal → (n : ℕ) → Implies (λ c. ¬ UntilIn n all keep goal c) (WeakIn n (not all) unmet Neither)
      weak_of_not_until stable zero c h = tt
      weak_of_not_until stable (suc n) c h =
          let missed : unmet c = fails_goal c (λ done. h (classically (inl done))) in
          λ none. (λ (not_not_kept : ¬ ¬ keep c). not_not_kept (λ kept. none (inr (
            missed,
            ahead_map (not all) (λ d. ¬ UntilIn n all keep goal d) (WeakIn n (not all) unmet Neither) (weak_of_not_until stable n) c
                (ahead_not all (UntilIn n all keep goal) c (until_stable keep goal stable n) (λ on. h (classically (inr (kept, on))))),
          ))))
          (λ not_kept. none (inl (fails_keep c not_kept, missed)))

      pub until_of_not_weak : (n : ℕ) → Implies (λ c. ¬ WeakIn n all keep goal c) (UntilIn n (not all) unmet Neither)
      until_of_not_weak zero c h = absurd (h tt)
      until_of_not_weak (suc n) c h =
          let missed : unmet c = fails_goal c (λ done. h (classically (inl done))) in
          λ none. (λ (not_not_kept : ¬ ¬ keep c). not_not_kept (λ kept. none (inr (
            missed,
            ahead_map (not all) (λ d. ¬ WeakIn n all keep goal d) (UntilIn n (not all) unmet Neither) (until_of_not_weak n) c
                (ahead_not all (WeakIn n all keep goal) c (weak_stable keep goal n) (λ on. h (classically (inr (kept, on))))),
          ))))
          (λ not_kept. none (inl (fails_keep c not_kept, missed)))
