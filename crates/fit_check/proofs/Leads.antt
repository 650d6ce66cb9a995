-- Runs stay where a family that shows a weak until for every run is defined.
use Rattle.std.proofs.Common.{◌≡◌, ℕ, ◌≤◌, inl, true, List, refl, sym, subst, ◌∙◌}
use Rattle.step_meaning.specs.Syntax.{Statements}
use Rattle.step_meaning.specs.Outcome.{Store}
use Rattle.step_meaning.specs.Step.{Configuration, Step, front}
use Rattle.step_meaning.specs.Run.{Reaches, here, by_step, start}
use Rattle.step_meaning.specs.Valid.{IsBody}
use Rattle.step_meaning.proofs.Front.{same_steps}
use Rattle.control_flow.specs.Edges.{configuration}
use Rattle.control_flow.specs.Labels.{entry_of, rest}
use Rattle.control_flow.proofs.Steps.{entry_is_start}
use Rattle.control_flow.specs.States.{IsReachedState, entered}
use Rattle.control_flow.specs.Told.{IsTrueOfReached, Told}
use Rattle.decision_tree.specs.declared.affine_rank.AffineRank.{AffineRank}
use Rattle.decision_tree.specs.declared.reason.Why.{Why}
use Rattle.decision_tree.specs.declared.reason.Why.TheVariants.{Now, Step as Stepping}
use Rattle.decision_tree.specs.Evaluation.{eval}
use Rattle.decision_tree.specs.Plans.{Plan, bottom, leaf}
use Rattle.ctl_formula.specs.Formulas.{Ctl, weak}
use Rattle.tree_support.specs.Certificates.{IsShown, affine_ranks}
use Rattle.tree_support.specs.Setting.{Setting, Trees, setting_of}
use Rattle.constraint_stack.specs.Claims.{HasNoStore}
use Rattle.constraint_stack.specs.Forming.{Formed}
use Rattle.tree_support.specs.Systems.{of_pick, of_why, undefined_at}
use Rattle.tree_support.proofs.AffineLawful.{affine_lawful}
use Rattle.tree_support.proofs.Following.{ahead, defined_ahead}
use Rattle.tree_support.proofs.Lists.{all_left, all_right}
use Rattle.tree_support.proofs.Moving.{Moves}
use Rattle.tree_support.proofs.Picking.{moves}
use Rattle.tree_support.proofs.Regions.{IsDefinedAt, NoneMet, defined_here, here as region, own_region_met}
use Rattle.tree_support.proofs.Temporal.{by_why, nowhere}
use Rattle.fit_check.specs.Leading.{IsOfFront, IsOnDefined, IsTrueAlong, IsTrueWhere}

-- nothing is defined where nothing stands
nothing_there : (tree : Plan AffineRank) (store : Store) → tree ≡ bottom → IsDefinedAt tree store → ⊥
nothing_there tree store e claim = let same : bottom ≡ leaf claim.0 claim.1 = subst (λ t. eval t store ≡ leaf claim.0 claim.1) e claim.2 in absurd (cc)

module _ {vars : ℕ} {body : Statements} {told : Told} (m : Moves vars body told) (f g : Ctl) (parts : ℕ → Trees AffineRank)
    (family : Trees AffineRank) (shown : IsShown body told (weak true f g) parts family) (no_goal : (label : ℕ) → parts 1 label ≡ bottom)
    (P : Configuration → Type 0) (respects : IsOfFront P) (holds : IsTrueWhere vars body (parts 0) P) where
  abbrev weakly : Setting AffineRank
  weakly = setting_of body told (weak true f g) parts

  -- the configuration is that of a state that is reached where the family is defined
  abbrev IsOn : Configuration → Type 0
  IsOn c = (label : ℕ) × IsReachedState vars body label c.store × IsDefinedAt (family label) c.store × (front c.todo ≡ front (rest body label))

  abbrev asks_at : ℕ → Store → List Formed
  asks_at label store = region told family label store

  -- there the property holds, and each successor is such
  abbrev Leads : ℕ → Store → Type 0
  Leads label store = P (configuration body label store) × ((d : Configuration) → Step (configuration body label store) d → IsOn d)

  leads_by : (why : Why) (rank : AffineRank) (label : ℕ) (store : Store) → IsReachedState vars body label store
      → NoneMet affine_ranks (of_why weakly why family rank label (asks_at label store)) → Leads label store
  leads_by Now rank label store reached none =
      absurd (nothing_there (parts 1 label) store (no_goal label)
      (defined_here affine_ranks (parts 1 label) store (asks_at label store) none (own_region_met affine_ranks m family label store reached)))
  leads_by (Stepping pick) rank label store reached none =
      let keep = undefined_at (parts 0 label) (asks_at label store) in
      let step = of_pick weakly pick family rank label (asks_at label store) in
      let kept : IsDefinedAt (parts 0 label) store =
      defined_here affine_ranks (parts 0 label) store (asks_at label store) (all_left (HasNoStore affine_ranks) keep step none)
      (own_region_met affine_ranks m family label store reached) in
      let each = ahead affine_ranks affine_lawful m family shown.spares label store reached (weak true f g) parts rank IsOn true refl
      (λ arcs none after taken.
      (taken.0.target, taken.2.reached, defined_ahead affine_ranks affine_lawful m family shown.spares label store reached family shown.spares arcs none after taken, taken.2.same_front))
      pick (all_right (HasNoStore affine_ranks) keep step none) in
      (holds label store kept.0 kept.1 reached kept.2, λ d taken. each d (inl taken))
  leads_by other rank label store reached none = nowhere affine_ranks m family label store reached none

  leads : (label : ℕ) (store : Store) → IsReachedState vars body label store → IsDefinedAt (family label) store → Leads label store
  leads label store reached claim =
      leads_by claim.0 claim.1 label store reached
      (by_why affine_ranks m family (weak true f g) parts shown.supported label store claim.0 claim.1 reached claim.2)

  along : {c d : Configuration} → IsOn c → Reaches c d → P d
  along {c} on here =
      let state : Configuration = configuration body on.0 c.store in
      respects state c (sym on.3) refl (leads on.0 c.store on.1 on.2).0
  along {c} on (by_step {d = next} step more) =
      let state : Configuration = configuration body on.0 c.store in
      along ((leads on.0 c.store on.1 on.2).1 next (same_steps c state on.3 refl next step)) more

  pub leads_along : IsTrueAlong vars body family P
  leads_along = record {
    states = λ label store why rank reached is d run. along (label, reached, (why, rank, is), refl) run;
    inputs = λ input why rank is_input is d run.
        along {c = start body input} (entry_of body, entered input is_input, (why, rank, is), sym (entry_is_start body)) run;
  }

pub leads_to_kept : (vars : ℕ) (body : Statements) (told : Told) → vars ≤ 15 → IsBody vars body → IsTrueOfReached vars body told
    → (f g : Ctl) (parts : ℕ → Trees AffineRank) (family : Trees AffineRank) → IsShown body told (weak true f g) parts family
    → ((label : ℕ) → parts 1 label ≡ bottom) → IsTrueAlong vars body family (IsOnDefined vars body (parts 0))
leads_to_kept vars body told few valid is_true f g parts family shown no_goal =
    leads_along (moves vars few body valid told is_true) f g parts family shown no_goal (IsOnDefined vars body (parts 0))
    (λ c d fronts stores on. (
      on.0,
      subst (IsReachedState vars body on.0) stores on.1,
      on.2,
      on.3,
      subst (λ s. eval (parts 0 on.0) s ≡ leaf on.2 on.3) stores on.4,
      sym fronts ∙ on.5,
    ))
    (λ label store why rank reached is. (label, reached, why, rank, is, refl))

-- the same for a property of whatever stands where the kept family is defined
pub weak_leads_along : (vars : ℕ) (body : Statements) (told : Told) → vars ≤ 15 → IsBody vars body → IsTrueOfReached vars body told
    → (f g : Ctl) (parts : ℕ → Trees AffineRank) (family : Trees AffineRank) → IsShown body told (weak true f g) parts family
    → ((label : ℕ) → parts 1 label ≡ bottom)
    → (P : Configuration → Type 0) → IsOfFront P → IsTrueWhere vars body (parts 0) P → IsTrueAlong vars body family P
weak_leads_along vars body told few valid is_true f g parts family shown no_goal P respects holds =
    leads_along (moves vars few body valid told is_true) f g parts family shown no_goal P respects holds
