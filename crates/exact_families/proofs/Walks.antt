-- Untils, weak untils and nexts are shut where each leaf of the tree before a step leads, by its pick, to leaves that serve.
use Rattle.std.specs.Prelude.{⊤}
use Rattle.std.proofs.Common.{◌≡◌, ◌⊎◌, inl, inr, ⊎_elim, ℕ, Bool, true, false, cond, List, Option, All, Contains, refl, sym, ap, subst, ◌∙◌}
use Rattle.std.proofs.lemmas.Bool.{false≢true}
use Rattle.std.proofs.lemmas.List.Elements.{All-append}
use Rattle.linear_cons.specs.declared.affine.Affine.{Affine}
use Rattle.linear_cons.specs.declared.row.Row.{Row}
use Rattle.decision_tree.specs.Plans.{Plan, bottom, branch, is_defined, leaf, top}
use Rattle.decision_tree.specs.declared.affine_rank.AffineRank.{AffineRank}
use Rattle.decision_tree.specs.declared.reason.Pick.{Pick}
use Rattle.decision_tree.specs.declared.reason.Pick.TheVariants.{All as Every, Yes, No, Value}
use Rattle.decision_tree.specs.declared.reason.Why.{Why}
use Rattle.decision_tree.specs.declared.reason.Why.TheVariants.{End, Atom, Both, Left, Right, Now, Dead, Step}
use Rattle.control_flow.specs.declared.edge.Choice.{Choice}
use Rattle.control_flow.specs.declared.edge.Choice.TheVariants.{None as NoChoice, Branch, Range}
use Rattle.ctl_formula.specs.Formulas.{Ctl, next, until, weak}
use Rattle.tree_support.specs.Arcs.{Arc, Flow}
use Rattle.constraint_stack.specs.Forming.{Formed, given}
use Rattle.tree_support.specs.Setting.{Setting, Trees}
use Rattle.tree_support.specs.Systems.{is_existential, moved_by, of_arcs, of_outcome, of_pick, of_rank, of_why, plain, systems, unedged, undefined_at}
use Rattle.backward_sweeps.specs.Claiming.{claimed, reranked}
use Rattle.exact_families.proofs.Judges.{Granted, IsJudge, judged}
use Rattle.exact_families.specs.Shut.{IsShut}
use Rattle.exact_families.proofs.Leaves.{IsNatural, nought_natural, equal_rank, equal_why}
use Rattle.exact_families.proofs.Hopeless.{Hopeless, why_hopeless}
use Rattle.exact_families.proofs.Making.{IsStep, claim_found, made_leaf, rerank_defined, rank_alike}
use Rattle.exact_families.proofs.Parts.{apart, mark}
use Rattle.exact_families.proofs.Shutting.{IsLess, given_turns, natural_shut, says_moved, undefined_shut}
use Rattle.exact_families.proofs.Whys.{SetsPlace, asked_here, leaf_shut, next_arcs, until_arcs, weak_arcs}
use Rattle.backward_sweeps.specs.Moving.{nought}
use Rattle.backward_sweeps.specs.Remaking.{made}
use Rattle.backward_transfer.specs.AffineShapes.{same_rank, affine_ranks}

-- a leaf that serves a weak until or a next: a defined one
abbrev pub IsThere : Option (ℕ × Affine) → AffineRank → Plan AffineRank → Type 0
IsThere sets rank end = is_defined end ≡ true

pub less_there : (sets : Option (ℕ × Affine)) (rank : AffineRank) (end : Plan AffineRank) → IsLess sets rank end → is_defined end ≡ true
less_there sets rank bottom less = absurd less
less_there sets rank (top cause) less = absurd less
less_there sets rank (leaf why other) less = refl
less_there sets rank (branch row this that) less = absurd less

module _ (flow : Flow) (all : Bool) (label : ℕ) where
  abbrev pub picked_arcs : Pick → List Arc
  picked_arcs Every = flow.arcs label
  picked_arcs Yes = flow.arcs_of label true
  picked_arcs No = flow.arcs_of label false
  picked_arcs (Value a) = flow.arcs_with label a

  abbrev pub MayPick : Pick → Type 0
  MayPick Every = ⊤
  MayPick Yes = (all ≡ false) × (flow.choice label ≡ Branch)
  MayPick No = (all ≡ false) × (flow.choice label ≡ Branch)
  MayPick (Value a) = ⊥

  -- Each leaf of the tree is a step by a pick that is allowed, and each arc of the pick that the judge grants leads to a leaf that serves.
  pub record Leads (Serves : Option (ℕ × Affine) → AffineRank → Plan AffineRank → Type 0) (trees : Trees AffineRank) (step : Plan AffineRank) : Type 0 where
    pub why_is : (v : Affine → Bool) → IsJudge v → (why : Why) (rank : AffineRank) → judged v step ≡ leaf why rank → (pick : Pick) × (why ≡ Step pick) × MayPick pick
    pub sets : (pick : Pick) → MayPick pick → (arc : Arc) → Contains (picked_arcs pick) arc → SetsPlace arc.sets
    pub serves : (v : Affine → Bool) → IsJudge v → (pick : Pick) (rank : AffineRank) → judged v step ≡ leaf (Step pick) rank
        → (arc : Arc) → Contains (picked_arcs pick) arc → Granted v arc.asks → Serves arc.sets rank (judged (says_moved v (moved_by arc.sets)) (trees arc.target))

  -- what leads to less leads to something
  pub leads_there : (trees : Trees AffineRank) (step : Plan AffineRank) → Leads IsLess trees step → Leads IsThere trees step
  leads_there trees step leads = record {
    why_is = leads.why_is;
    sets = leads.sets;
    serves = λ v j pick rank own arc inside more.
        less_there arc.sets rank (judged (says_moved v (moved_by arc.sets)) (trees arc.target)) (leads.serves v j pick rank own arc inside more);
  }

pick_of : Why → Pick → Pick
pick_of (Step pick) d = pick
pick_of End d = d
pick_of Atom d = d
pick_of Both d = d
pick_of Left d = d
pick_of Right d = d
pick_of Now d = d
pick_of Dead d = d

pub same_pick : (pick other : Pick) → Step pick ≡ Step other → pick ≡ other
unfolding pick_of
same_pick pick other is = ap (λ w. pick_of w pick) is

branch_or_not : (t : Bool) (choice : Choice) → ((t ≡ false) × (choice ≡ Branch)) ⊎ ((t ≡ false) × (choice ≡ Branch) → ⊥)
branch_or_not true choice = inr (λ may. false≢true (sym may.0))
branch_or_not false Branch = inl (refl, refl)
branch_or_not false NoChoice = inr (λ may. cc)
branch_or_not false (Range lo hi) = inr (λ may. cc)

-- a step is no other why
abbrev steps : Why → Bool
steps (Step pick) = true
steps End = false
steps Atom = false
steps Both = false
steps Left = false
steps Right = false
steps Now = false
steps Dead = false

not_step : (why : Why) (pick : Pick) → steps why ≡ false → why ≡ Step pick → ⊥
not_step why pick none is = false≢true (sym none ∙ ap steps is)

module _ (flow : Flow) (dead : ℕ → Bool) (rows : ℕ → List Row) (parts : ℕ → Trees AffineRank) (all : Bool) (family : Trees AffineRank) (label place : ℕ) where
  abbrev setting : Ctl → Setting AffineRank
  setting formula = record { flow = flow; dead = dead; rows = rows; formula = formula; parts = parts }

  abbrev asks : Ctl → List Formed
  asks formula = asked_here (setting formula) family label place

  abbrev Stands : Ctl → Why → AffineRank → Type 0
  Stands formula why rank = (v : Affine → Bool) → IsJudge v → Granted v (asks formula) → judged v (family label) ≡ leaf why rank

  -- the systems of a pick that is allowed are those of its arcs
  picks_shut : (formula : Ctl) (rank : AffineRank) (pick : Pick) → MayPick flow all label pick → (all ≡ false → is_existential (setting formula) formula ≡ true)
      → All IsShut (of_arcs (setting formula) formula family rank (picked_arcs flow all label pick) (asks formula))
      → All IsShut (of_pick (setting formula) pick family rank label (asks formula))
  picks_shut formula rank Every may some shut = shut
  picks_shut formula rank Yes may some shut =
      subst (λ t. All IsShut (cond t (of_outcome (setting formula) (flow.choice label) true family rank label (asks formula)) (plain unedged (asks formula)))) (sym (some may.0))
      (subst (λ c. All IsShut (of_outcome (setting formula) c true family rank label (asks formula))) (sym may.1) shut)
  picks_shut formula rank No may some shut =
      subst (λ t. All IsShut (cond t (of_outcome (setting formula) (flow.choice label) false family rank label (asks formula)) (plain unedged (asks formula)))) (sym (some may.0))
      (subst (λ c. All IsShut (of_outcome (setting formula) c false family rank label (asks formula))) (sym may.1) shut)
  picks_shut formula rank (Value a) may some shut = absurd may

  may_or_not : (pick : Pick) → MayPick flow all label pick ⊎ (MayPick flow all label pick → ⊥)
  may_or_not Every = inl tt
  may_or_not Yes = branch_or_not all (flow.choice label)
  may_or_not No = branch_or_not all (flow.choice label)
  may_or_not (Value a) = inr (λ may. may)

  elsewhere : (formula : Ctl) (why : Why) (rank : AffineRank) → Hopeless (asks formula) → All IsShut (of_why (setting formula) why family rank label (asks formula))
  elsewhere formula why rank none = why_hopeless (setting formula) family rank (asks formula) none why label

  -- ---- now, or kept and a step: until and weak until

  module _ (step : Plan AffineRank) where
    abbrev now : Plan AffineRank
    now = claimed Now (parts 1 label)

    abbrev keep : Plan AffineRank
    keep = reranked (parts 0 label)

    module _ (tree : family label ≡ made now keep step) where
      -- what a judge that stands at the leaf found
      found : (v : Affine → Bool) (j : IsJudge v) (why : Why) (rank : AffineRank) → judged v (family label) ≡ leaf why rank
          → ((Now ≡ why) × (nought ≡ rank) × (is_defined (judged v (parts 1 label)) ≡ true))
          ⊎ ((is_defined (judged v (parts 0 label)) ≡ true) × (judged v step ≡ leaf why rank))
      found v j why rank own =
          ⊎_elim
          (λ (here : judged v now ≡ leaf why rank).
          let claim = claim_found v Now (parts 1 label) why rank here in
          inl (equal_why Now why nought rank claim.1, equal_rank Now why nought rank claim.1, claim.0))
          (λ (there : IsStep same_rank rank_alike v j affine_ranks.where_greater affine_ranks.greater_fits now keep step why rank).
          inr (sym (rerank_defined v (parts 0 label)) ∙ there.kept, there.found))
          (made_leaf same_rank rank_alike v j affine_ranks.where_greater affine_ranks.greater_fits now keep step why rank (sym (ap (judged v) tree) ∙ own))

      module _ (Serves : Option (ℕ × Affine) → AffineRank → Plan AffineRank → Type 0) (leads : Leads flow all label Serves family step) where
        goal_met : (v : Affine → Bool) (j : IsJudge v) (rank : AffineRank) → judged v (family label) ≡ leaf Now rank → is_defined (judged v (parts 1 label)) ≡ true
        goal_met v j rank own =
            ⊎_elim (λ here. here.2) (λ there. let s = leads.why_is v j Now rank there.1 in absurd (not_step Now s.0 refl s.1)) (found v j Now rank own)

        step_met : (v : Affine → Bool) (j : IsJudge v) (pick : Pick) (rank : AffineRank) → judged v (family label) ≡ leaf (Step pick) rank
            → (is_defined (judged v (parts 0 label)) ≡ true) × (judged v step ≡ leaf (Step pick) rank)
        step_met v j pick rank own =
            ⊎_elim (λ here. absurd (not_step Now pick refl here.0)) (λ there. there) (found v j (Step pick) rank own)

        neither : (v : Affine → Bool) (j : IsJudge v) (why : Why) (rank : AffineRank) → steps why ≡ false → (mark Now ≡ mark why → ⊥) → judged v (family label) ≡ leaf why rank → ⊥
        neither v j why rank none one own =
            ⊎_elim (λ here. apart Now why one here.0) (λ there. let s = leads.why_is v j why rank there.1 in not_step why s.0 none s.1) (found v j why rank own)

        may_here : (v : Affine → Bool) (j : IsJudge v) (pick : Pick) (rank : AffineRank) → judged v (family label) ≡ leaf (Step pick) rank → MayPick flow all label pick
        may_here v j pick rank own =
            let s = leads.why_is v j (Step pick) rank (step_met v j pick rank own).1 in subst (MayPick flow all label) (sym (same_pick pick s.0 s.1)) s.2

      -- ---- until

      module _ (f g : Ctl) (leads : Leads flow all label IsLess family step)
          (natural : (v : Affine → Bool) → IsJudge v → (why : Why) (rank : AffineRank) → judged v step ≡ leaf why rank → IsNatural rank) where
        until_ranks : (why : Why) (rank : AffineRank) → Stands (until all f g) why rank → All IsShut (of_rank (setting (until all f g)) (until all f g) rank (asks (until all f g)))
        until_ranks why rank stands =
            natural_shut unedged rank (asks (until all f g))
            (λ v j own. ⊎_elim (λ here. subst IsNatural here.1 nought_natural) (λ there. natural v j why rank there.1) (found v j why rank (stands v j own)))

        until_else : (why : Why) (rank : AffineRank) → steps why ≡ false → (mark Now ≡ mark why → ⊥) → Stands (until all f g) why rank
            → All IsShut (of_why (setting (until all f g)) why family rank label (asks (until all f g)))
        until_else why rank none one stands = elsewhere (until all f g) why rank (λ v j own. neither IsLess leads v j why rank none one (stands v j own))

        until_whys : (why : Why) (rank : AffineRank) → Stands (until all f g) why rank → All IsShut (of_why (setting (until all f g)) why family rank label (asks (until all f g)))
        until_whys Now rank stands =
            undefined_shut given given_turns unedged (parts 1 label) (asks (until all f g)) (λ v j own. goal_met IsLess leads v j rank (stands v j own))
        until_whys (Step pick) rank stands =
            ⊎_elim
            (λ may. All-append IsShut (undefined_at (parts 0 label) (asks (until all f g))) (of_pick (setting (until all f g)) pick family rank label (asks (until all f g)))
            (undefined_shut given given_turns unedged (parts 0 label) (asks (until all f g)) (λ v j own. (step_met IsLess leads v j pick rank (stands v j own)).0))
            (picks_shut (until all f g) rank pick may (λ some. ap (λ t. cond t false true) some)
            (until_arcs (setting (until all f g)) family rank (picked_arcs flow all label pick) (asks (until all f g)) (leads.sets pick may) all f g
            (λ arc inside v j own more. leads.serves v j pick rank (step_met IsLess leads v j pick rank (stands v j own)).1 arc inside more))))
            (λ none. elsewhere (until all f g) (Step pick) rank (λ v j own. none (may_here IsLess leads v j pick rank (stands v j own))))
            (may_or_not pick)
        until_whys End rank stands = until_else End rank refl (λ e. cc) stands
        until_whys Atom rank stands = until_else Atom rank refl (λ e. cc) stands
        until_whys Both rank stands = until_else Both rank refl (λ e. cc) stands
        until_whys Left rank stands = until_else Left rank refl (λ e. cc) stands
        until_whys Right rank stands = until_else Right rank refl (λ e. cc) stands
        until_whys Dead rank stands = until_else Dead rank refl (λ e. cc) stands

        pub until_shut : All IsShut (systems (setting (until all f g)) family label place)
        until_shut =
            leaf_shut (setting (until all f g)) family label place
            (λ why rank stands. All-append IsShut (of_rank (setting (until all f g)) (until all f g) rank (asks (until all f g))) (of_why (setting (until all f g)) why family rank label (asks (until all f g)))
            (until_ranks why rank stands) (until_whys why rank stands))

      -- ---- weak until

      module _ (f g : Ctl) (leads : Leads flow all label IsThere family step) where
        weak_else : (why : Why) (rank : AffineRank) → steps why ≡ false → (mark Now ≡ mark why → ⊥) → Stands (weak all f g) why rank
            → All IsShut (of_why (setting (weak all f g)) why family rank label (asks (weak all f g)))
        weak_else why rank none one stands = elsewhere (weak all f g) why rank (λ v j own. neither IsThere leads v j why rank none one (stands v j own))

        weak_whys : (why : Why) (rank : AffineRank) → Stands (weak all f g) why rank → All IsShut (of_why (setting (weak all f g)) why family rank label (asks (weak all f g)))
        weak_whys Now rank stands =
            undefined_shut given given_turns unedged (parts 1 label) (asks (weak all f g)) (λ v j own. goal_met IsThere leads v j rank (stands v j own))
        weak_whys (Step pick) rank stands =
            ⊎_elim
            (λ may. All-append IsShut (undefined_at (parts 0 label) (asks (weak all f g))) (of_pick (setting (weak all f g)) pick family rank label (asks (weak all f g)))
            (undefined_shut given given_turns unedged (parts 0 label) (asks (weak all f g)) (λ v j own. (step_met IsThere leads v j pick rank (stands v j own)).0))
            (picks_shut (weak all f g) rank pick may (λ some. ap (λ t. cond t false true) some)
            (weak_arcs (setting (weak all f g)) family rank (picked_arcs flow all label pick) (asks (weak all f g)) (leads.sets pick may) all f g
            (λ arc inside v j own more. leads.serves v j pick rank (step_met IsThere leads v j pick rank (stands v j own)).1 arc inside more))))
            (λ none. elsewhere (weak all f g) (Step pick) rank (λ v j own. none (may_here IsThere leads v j pick rank (stands v j own))))
            (may_or_not pick)
        weak_whys End rank stands = weak_else End rank refl (λ e. cc) stands
        weak_whys Atom rank stands = weak_else Atom rank refl (λ e. cc) stands
        weak_whys Both rank stands = weak_else Both rank refl (λ e. cc) stands
        weak_whys Left rank stands = weak_else Left rank refl (λ e. cc) stands
        weak_whys Right rank stands = weak_else Right rank refl (λ e. cc) stands
        weak_whys Dead rank stands = weak_else Dead rank refl (λ e. cc) stands

        pub weak_shut : All IsShut (systems (setting (weak all f g)) family label place)
        weak_shut = leaf_shut (setting (weak all f g)) family label place (λ why rank stands. weak_whys why rank stands)

    -- ---- next, before the end

    module _ (f : Ctl) (tree : family label ≡ step) (leads : Leads flow all label IsThere (parts 0) step) where
      next_step : (v : Affine → Bool) (j : IsJudge v) (why : Why) (rank : AffineRank) → judged v (family label) ≡ leaf why rank → judged v step ≡ leaf why rank
      next_step v j why rank own = sym (ap (judged v) tree) ∙ own

      next_else : (why : Why) (rank : AffineRank) → steps why ≡ false → Stands (next all f) why rank → All IsShut (of_why (setting (next all f)) why family rank label (asks (next all f)))
      next_else why rank none stands =
          elsewhere (next all f) why rank (λ v j own. let s = leads.why_is v j why rank (next_step v j why rank (stands v j own)) in not_step why s.0 none s.1)

      next_whys : (why : Why) (rank : AffineRank) → Stands (next all f) why rank → All IsShut (of_why (setting (next all f)) why family rank label (asks (next all f)))
      next_whys (Step pick) rank stands =
          ⊎_elim
          (λ may. picks_shut (next all f) rank pick may (λ some. ap (λ t. cond t false true) some)
          (next_arcs (setting (next all f)) family rank (picked_arcs flow all label pick) (asks (next all f)) (leads.sets pick may) all f
          (λ arc inside v j own more. leads.serves v j pick rank (next_step v j (Step pick) rank (stands v j own)) arc inside more)))
          (λ none. elsewhere (next all f) (Step pick) rank
          (λ v j own.
          let s = leads.why_is v j (Step pick) rank (next_step v j (Step pick) rank (stands v j own)) in
          none (subst (MayPick flow all label) (sym (same_pick pick s.0 s.1)) s.2)))
          (may_or_not pick)
      next_whys Now rank stands = next_else Now rank refl stands
      next_whys End rank stands = next_else End rank refl stands
      next_whys Atom rank stands = next_else Atom rank refl stands
      next_whys Both rank stands = next_else Both rank refl stands
      next_whys Left rank stands = next_else Left rank refl stands
      next_whys Right rank stands = next_else Right rank refl stands
      next_whys Dead rank stands = next_else Dead rank refl stands

      pub next_shut : All IsShut (systems (setting (next all f)) family label place)
      next_shut = leaf_shut (setting (next all f)) family label place (λ why rank stands. next_whys why rank stands)
