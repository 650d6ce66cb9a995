-- Why supported families of ordinal ranks bound ends: each step leads to a state whose rank is exceeded.
use Rattle.std.proofs.Common.{◌≡◌, ◌⊎◌, ℕ, zero, suc, ◌≤◌, inl, inr, true, refl, subst, ◌∙◌}
use Rattle.step_meaning.specs.Syntax.{Statements}
use Rattle.step_meaning.specs.Outcome.{Store}
use Rattle.step_meaning.specs.Run.{start}
use Rattle.step_meaning.specs.Step.{Configuration, IsFinal, Step as StepsTo}
use Rattle.step_meaning.specs.Valid.{IsBody}
use Rattle.control_flow.specs.Edges.{configuration}
use Rattle.control_flow.specs.Labels.{entry_of}
use Rattle.control_flow.specs.States.{IsReachedState, entered}
use Rattle.control_flow.specs.Told.{IsTrueOfReached, Told}
use Rattle.control_flow.proofs.Steps.{entry_is_start}
use Rattle.decision_tree.specs.declared.reason.Why.{Why}
use Rattle.decision_tree.specs.declared.reason.Why.TheVariants.{End, Now, Step as Stepping}
use Rattle.decision_tree.specs.Evaluation.{eval}
use Rattle.decision_tree.specs.Plans.{bottom, leaf}
use Rattle.ctl_formula.specs.Formulas.{af_exit, exit}
use Rattle.ctl_formula.specs.Satisfaction.{Sat}
use Rattle.ctl_formula.proofs.Alike.{Alike, Respects}
use Rattle.ctl_formula.proofs.Classical.{Property}
use Rattle.constraint_stack.specs.Claims.{HasNoStore, unnatural}
use Rattle.tree_support.specs.Setting.{Setting, Trees, setting_of}
use Rattle.tree_support.specs.Systems.{of_pick, of_why, undefined_at, unedged}
use Rattle.tree_support.proofs.Following.{ahead, descends}
use Rattle.tree_support.proofs.Leaves.{natural}
use Rattle.tree_support.proofs.Lists.{all_first, all_right}
use Rattle.tree_support.proofs.Moving.{Moves}
use Rattle.tree_support.proofs.Picking.{moves}
use Rattle.tree_support.proofs.Regions.{NoneMet, at_leaf, here, own_region_met}
use Rattle.tree_support.proofs.Temporal.{HoldsWhere, at_target, by_why, nowhere, part_holds}
use Rattle.ordinal_rank.specs.declared.ordinal.OrdinalRank.{OrdinalRank}
use Rattle.ordinal_rank.specs.Ends.{EndsUnder}
use Rattle.ordinal_rank.specs.Families.{IsBounded, IsRanked, ordinal_ranks}
use Rattle.ordinal_rank.specs.Ordinals.{numbers_at, parts_of}
use Rattle.ordinal_rank.specs.Parts.{AreNatural, Exceeds, Numbers, values_at}
use Rattle.ordinal_rank.specs.Laws.PartLaws.{at_least_nought}
use Rattle.ordinal_rank.proofs.Comings.{None, under_respects}
use Rattle.ordinal_rank.proofs.Descending.{Descends, under}
use Rattle.ordinal_rank.proofs.Lawful.{descent, ordinals_lawful}

module _ {vars : ℕ} {body : Statements} {told : Told} (m : Moves vars body told) (parts : ℕ → Trees OrdinalRank) (family : Trees OrdinalRank)
    (ranked : IsRanked body told parts family) where
  abbrev going : Setting OrdinalRank
  going = setting_of body told af_exit parts

  -- a leaf of the family at a state that is reached
  abbrev Stands : ℕ → Store → Why → OrdinalRank → Type 0
  Stands label store why rank = IsReachedState vars body label store × (eval (family label) store ≡ leaf why rank)

  natural_at : (label : ℕ) (store : Store) (why : Why) (rank : OrdinalRank) → Stands label store why rank
      → AreNatural 4 (values_at 4 (parts_of rank) store)
  natural_at label store why rank stands =
      let asks = here told family label store in
      at_least_nought 4 (values_at 4 (parts_of rank) store) (natural ordinal_ranks ordinals_lawful store unedged asks rank
      (all_first (HasNoStore ordinal_ranks) (record { edge = unedged; asks = asks; claim = unnatural rank }) (of_why going why family rank label asks)
      (at_leaf ordinal_ranks m af_exit parts family ranked.supported label store why rank stands.0 stands.1))
      (own_region_met ordinal_ranks m family label store stands.0))

  -- the goal's family is defined at the end alone
  goal_holds : HoldsWhere ordinal_ranks m (parts 1) (Sat exit)
  goal_holds zero store reached claim = m.ends
  goal_holds (suc label) store reached claim =
      let none : bottom ≡ leaf claim.0 claim.1 = subst (λ plan. eval plan store ≡ leaf claim.0 claim.1) (ranked.goal label) claim.2 in
      absurd (cc)

  end_met : (label : ℕ) (store : Store) (rank : OrdinalRank) → IsReachedState vars body label store
      → NoneMet ordinal_ranks (of_why going End family rank label (here told family label store)) → IsFinal (configuration body label store)
  end_met zero store rank reached none = m.ends
  end_met (suc label) store rank reached none = nowhere ordinal_ranks m family (suc label) store reached none

  -- a leaf at a state, where it stands, and the values of its rank
  abbrev State : Type 0
  State = ℕ × Store × Why × OrdinalRank

  abbrev place_of : State → Configuration
  place_of s = configuration body s.0 s.1

  abbrev IsThere : State → Type 0
  IsThere s = Stands s.0 s.1 s.2 s.3

  abbrev numbers_of : State → Numbers 4
  numbers_of s = values_at 4 (parts_of s.3) s.1

  -- a configuration is like that of a leaf whose rank these numbers exceed
  abbrev IsLower : Numbers 4 → Property
  IsLower numbers d = (t : State) × IsThere t × Exceeds 4 numbers (numbers_of t) × Alike (place_of t) d

  lower_respects : (numbers : Numbers 4) → Respects (IsLower numbers)
  lower_respects numbers c d alike h = (h.0, h.1, h.2, (h.3.0 ∙ alike.0, h.3.1 ∙ alike.1))

  lowered : (label : ℕ) (store : Store) (why : Why) (rank : OrdinalRank) → Stands label store why rank
      → NoneMet ordinal_ranks (of_why going why family rank label (here told family label store))
      → IsFinal (configuration body label store)
      ⊎ ((d : Configuration) → StepsTo (configuration body label store) d → IsLower (values_at 4 (parts_of rank) store) d)
  lowered label store End rank stands none = inl (end_met label store rank stands.0 none)
  lowered label store Now rank stands none =
      inl (part_holds ordinal_ranks m family (parts 1) (Sat exit) goal_holds label store stands.0 none)
  lowered label store (Stepping pick) rank stands none =
      let keep = undefined_at (parts 0 label) (here told family label store) in
      let step = of_pick going pick family rank label (here told family label store) in
      let numbers : Numbers 4 = values_at 4 (parts_of rank) store in
      let next = ahead ordinal_ranks ordinals_lawful m family ranked.spares label store stands.0 af_exit parts rank (IsLower numbers) true refl
      (λ arcs over after taken.
      let lower = descends ordinal_ranks ordinals_lawful m family ranked.spares label store stands.0 (Stepping pick) rank stands.1 arcs over after taken in
      let state : State = (taken.0.target, after.store, lower.0, lower.1) in
      at_target ordinal_ranks m (IsLower numbers) (lower_respects numbers) arcs store after taken
      (state, (taken.2.reached, lower.2), descent rank lower.1 store after.store lower.3, (refl, refl)))
      pick (all_right (HasNoStore ordinal_ranks) keep step none) in
      inr (λ d step. next d (inl step))
  lowered label store other rank stands none = nowhere ordinal_ranks m family label store stands.0 none

  states_descend : Descends place_of IsThere None 4 numbers_of
  states_descend s there =
      elim (lowered s.0 s.1 s.2 s.3 there
      (by_why ordinal_ranks m family af_exit parts ranked.supported s.0 s.1 s.2 s.3 there.0 there.1)) [
        | inl final ↦ inl final
        | inr ahead ↦ inr (λ d step. inr (ahead d step))
      ]

  ends_under : (label : ℕ) (store : Store) (why : Why) (rank : OrdinalRank) → Stands label store why rank
      → EndsUnder (numbers_at rank store) (configuration body label store)
  ends_under label store why rank stands =
      under place_of 3 IsThere numbers_of (λ s there. natural_at s.0 s.1 s.2 s.3 there) states_descend (label, store, why, rank) stands

pub bounded : (vars : ℕ) (body : Statements) (told : Told) → vars ≤ 15 → IsBody vars body → IsTrueOfReached vars body told
    → (parts : ℕ → Trees OrdinalRank) (family : Trees OrdinalRank) → IsRanked body told parts family → IsBounded vars body family
bounded vars body told few valid is_true parts family ranked =
    let m : Moves vars body told = moves vars few body valid told is_true in record {
      states = λ label store why rank reached is. ends_under m parts family ranked label store why rank (reached, is);
      inputs = λ input why rank is_input is.
          under_respects (numbers_at rank input) (configuration body (entry_of body) input) (start body input) (entry_is_start body, refl)
          (ends_under m parts family ranked (entry_of body) input why rank (entered input is_input, is));
    }
