-- Where no store meets the systems of a step, the successors over its arcs stand at leaves that are defined, and for an until have a lower rank.
use Rattle.std.proofs.Common.{◌≡◌, ℕ, ℤ, pos, ◌≤ℤ◌, inl, inr, Bool, true, false, if◌then◌else◌, List, [], ◌∷◌, ◌++◌, Option, None, Some, length, set, refl, sym, subst, ap, ◌∙◌, arith}
use Rattle.std.specs.List.{flat_map}
use Rattle.std.proofs.lemmas.Int.{ints}
use Rattle.std.proofs.lemmas.List.{length-set}
use Rattle.std.proofs.lemmas.List.Elements.{All-append}
use Rattle.step_meaning.specs.Syntax.{Statements}
use Rattle.step_meaning.specs.Outcome.{Store}
use Rattle.step_meaning.specs.Step.{Configuration}
use Rattle.step_meaning.proofs.Progress.{trichotomy}
use Rattle.linear_cons.specs.declared.affine.Affine.{Affine}
use Rattle.linear_cons.specs.Bounds.{IsFrom, IsUpTo}
use Rattle.linear_cons.specs.Functions.{constant_of, difference_of, value_at}
use Rattle.linear_cons.specs.Numbers.{number_at}
use Rattle.linear_cons.proofs.Forms.{value_constant, value_difference, value_substituted}
use Rattle.control_flow.specs.declared.edge.Choice.{Choice}
use Rattle.control_flow.specs.declared.edge.Choice.TheVariants.{None as NoChoice, Branch, Range}
use Rattle.control_flow.specs.Edges.{configuration}
use Rattle.decision_tree.specs.declared.rank.Rank.{Ghosts as Ranks}
use Rattle.decision_tree.specs.declared.reason.Pick.{Pick}
use Rattle.decision_tree.specs.declared.reason.Pick.TheVariants.{All as Every, Yes, No, Value}
use Rattle.decision_tree.specs.declared.reason.Why.{Why}
use Rattle.decision_tree.specs.Evaluation.{eval}
use Rattle.decision_tree.specs.Plans.{Plan, leaf}
use Rattle.ctl_formula.specs.Formulas.{Ctl}
use Rattle.ctl_formula.specs.Satisfaction.{Ahead}
use Rattle.ctl_formula.proofs.Classical.{Property, classically}
use Rattle.control_flow.specs.States.{IsReachedState}
use Rattle.tree_support.specs.Certificates.{Spares}
use Rattle.tree_support.proofs.Lawful.{AreLawful}
use Rattle.tree_support.specs.Arcs.{Arc, Flow, flow_of}
use Rattle.constraint_stack.specs.Forming.{Formed, exact, given, minus}
use Rattle.tree_support.specs.Setting.{Setting, Trees, setting_of}
use Rattle.constraint_stack.specs.Claims.{HasNoStore, moved_rank, System}
use Rattle.tree_support.specs.Systems.{above_range, at_leaves, below_range, if_undefined, is_existential, moved_by, of_arcs, of_outcome, of_pick, of_value, plain, unedged, unless_less}
use Rattle.control_flow.specs.Told.{Told}
use Rattle.tree_support.proofs.Leaves.{defined_there, less, less_there, not_plain, stands}
use Rattle.tree_support.proofs.Lists.{all_left, all_of_one, all_one, all_right}
use Rattle.tree_support.proofs.Moving.{LeadsOn, Moves, SetsVariable, StoreMeets, Taken, store_after}
use Rattle.tree_support.proofs.Regions.{IsDefinedAt, NoneMet, here, own_region_met, region_met}
use Rattle.tree_support.proofs.Sparing.{same_leaf, spared_rank}

-- ---- what an arc sets

moved_value : (sets : Option (ℕ × Affine)) (store : Store) → SetsVariable sets → length store ≡ 16 → (a : Affine)
    → value_at (exact (moved_by sets a)) store ≡ value_at a (store_after sets store)
moved_value None store variable long a = refl
moved_value (Some (place, by)) store variable long a = value_substituted a place by store (omega arith) (omega arith)

length_after : (sets : Option (ℕ × Affine)) (store : Store) → length store ≡ 16 → length (store_after sets store) ≡ 16
length_after None store long = long
length_after (Some (place, by)) store long = length-set store place (value_at by store) ∙ long

pub with_one : (store : Store) (asks : List Formed) (a : Formed) → StoreMeets store asks → pos 0 ≤ℤ value_at (exact a) store
    → StoreMeets store (asks ++ a ∷ [])
with_one store asks a met at_least =
    All-append (λ b. pos 0 ≤ℤ value_at (exact b) store) asks (a ∷ []) met (all_one (λ b. pos 0 ≤ℤ value_at (exact b) store) a at_least)

-- what refutes at the leaves of the trees to which the arcs lead
abbrev pub Endings : Type 0 → Type 0
Endings R = Arc → Plan R → List Formed → List (System R)

abbrev pub at_targets : {R : Type 0} → Endings R → Trees R → List Formed → List Arc → List (System R)
at_targets endings trees asks arcs =
    flat_map (λ (arc : Arc). at_leaves (moved_by arc.sets) (endings arc) (trees arc.target) (asks ++ arc.asks)) arcs

module _ {R : Type 0} (ranks : Ranks R) {IsFree : R → Type 0} (lawful : AreLawful ranks IsFree) where
  -- what is put at a place changes a rank, with one more, as putting it into the rank does
  moved_at_least : (sets : Option (ℕ × Affine)) (store : Store) → SetsVariable sets → length store ≡ 16 → (rank : R)
      → ranks.exceeds (ranks.rank_value (ranks.one_more rank) (store_after sets store))
      (ranks.rank_value (ranks.one_more (moved_rank ranks sets rank)) store) → ⊥
  moved_at_least None store variable long rank more = lawful.one_way _ _ more more
  moved_at_least (Some (place, by)) store variable long rank more =
      let less = (lawful.keeps_order rank (ranks.substituted rank place by) (set store place (value_at by store)) store).0 more in
      let same = lawful.substitutes rank place by store (omega arith) long in
      let own = subst (λ v. ranks.exceeds (ranks.rank_value rank (set store place (value_at by store))) v) same less in
      lawful.one_way _ _ own own

module _ {R : Type 0} (ranks : Ranks R) {IsFree : R → Type 0} (lawful : AreLawful ranks IsFree) {vars : ℕ} {body : Statements} {told : Told}
    (m : Moves vars body told) (family : Trees R) (spared : (label : ℕ) → Spares IsFree 15 (family label)) (label : ℕ) (store : Store)
    (reached : IsReachedState vars body label store) where
  abbrev asks : List Formed
  asks = here told family label store

  abbrev flow : Flow
  flow = flow_of body told.bounds

  -- ---- over an arc

  long : (z : ℤ) → length (set store 15 z) ≡ 16
  long z = length-set store 15 z ∙ m.places label store reached

  -- of the systems at a target those of the leaf where the successor stands: the state meets what they ask, with some number at place 15
  at_successor : (endings : Endings R) (trees : Trees R) → ((target : ℕ) → Spares IsFree 15 (trees target)) → (arcs : List Arc)
      → NoneMet ranks (at_targets endings trees asks arcs) → (after : Configuration) → (taken : Taken vars body arcs store after)
      → (asked : List Formed) × StoreMeets (set store 15 taken.2.chosen) asked × NoneMet ranks (endings taken.0 (eval (trees taken.0.target) after.store) asked)
  at_successor endings trees free arcs none after taken =
      let arc : Arc = taken.0 in
      let leads = taken.2 in
      let before : Store = set store 15 leads.chosen in
      let behind : Store = store_after arc.sets before in
      let long_behind : length behind ≡ 16 = length_after arc.sets before (long leads.chosen) in
      let asked : StoreMeets before (asks ++ arc.asks) =
      All-append (λ a. pos 0 ≤ℤ value_at (exact a) before) asks arc.asks
      (region_met ranks m IsFree family label store leads.chosen (spared label) reached) leads.asked in
      let at_arc : NoneMet ranks (at_leaves (moved_by arc.sets) (endings arc) (trees arc.target) (asks ++ arc.asks)) =
      all_of_one (HasNoStore ranks)
      (λ (arc : Arc). at_leaves (moved_by arc.sets) (endings arc) (trees arc.target) (asks ++ arc.asks)) arcs arc taken.1 none in
      let there = stands (HasNoStore ranks) (moved_by arc.sets) (endings arc) before behind
      (moved_value arc.sets before leads.variable (long leads.chosen)) (trees arc.target) (asks ++ arc.asks) asked at_arc in
      let same : eval (trees arc.target) after.store ≡ eval (trees arc.target) behind =
      ap (eval (trees arc.target)) leads.after ∙ same_leaf behind 15 (number_at store 15) (omega arith) IsFree (trees arc.target) (free arc.target) in
      (there.0, there.1, subst (λ end. NoneMet ranks (endings arc end there.0)) (sym same) there.2)

  -- where an undefined leaf would refute the successor's is defined
  pub defined_ahead : (trees : Trees R) → ((target : ℕ) → Spares IsFree 15 (trees target)) → (arcs : List Arc)
      → NoneMet ranks (at_targets (λ arc. if_undefined arc.edge) trees asks arcs) → (after : Configuration)
      → (taken : Taken vars body arcs store after) → IsDefinedAt (trees taken.0.target) after.store
  defined_ahead trees free arcs none after taken =
      let there = at_successor (λ arc. if_undefined arc.edge) trees free arcs none after taken in
      defined_there ranks (set store 15 taken.2.chosen) taken.0.edge (eval (trees taken.0.target) after.store) there.0 there.2 there.1

  -- and where a rank that isn't less would refute, its rank and one more doesn't exceed this one
  pub descends : (why : Why) (rank : R) → eval (family label) store ≡ leaf why rank → (arcs : List Arc)
      → NoneMet ranks (at_targets (λ arc. unless_less arc.edge arc.sets rank) family asks arcs) → (after : Configuration)
      → (taken : Taken vars body arcs store after)
      → (reason : Why) × (other : R) × (eval (family taken.0.target) after.store ≡ leaf reason other)
      × (ranks.exceeds (ranks.rank_value (ranks.one_more other) after.store) (ranks.rank_value rank store) → ⊥)
  descends why rank is arcs none after taken =
      let arc : Arc = taken.0 in
      let leads = taken.2 in
      let before : Store = set store 15 leads.chosen in
      let behind : Store = store_after arc.sets before in
      let long_behind : length behind ≡ 16 = length_after arc.sets before (long leads.chosen) in
      let long_store : length store ≡ 16 = m.places label store reached in
      let there = at_successor (λ arc. unless_less arc.edge arc.sets rank) family spared arcs none after taken in
      let lower = less_there ranks before arc.edge arc.sets rank (eval (family arc.target) after.store) there.0 there.2 there.1 in
      let fewer = less ranks lawful before arc.edge there.0 lower.1 rank arc.sets lower.3 there.1 in
      let unchanged : ranks.rank_value rank before ≡ ranks.rank_value rank store =
      lawful.spared rank (spared_rank IsFree 15 (family label) store why rank (spared label) is) store leads.chosen long_store in
      let own = subst (λ v. ranks.exceeds (ranks.rank_value (ranks.one_more (moved_rank ranks arc.sets lower.1)) before) v → ⊥) unchanged fewer in
      let other_same : ranks.rank_value lower.1 after.store ≡ ranks.rank_value lower.1 behind =
      ap (ranks.rank_value lower.1) leads.after
      ∙ lawful.spared lower.1 (spared_rank IsFree 15 (family arc.target) after.store lower.0 lower.1 (spared arc.target) lower.2) behind (number_at store 15) long_behind in (
        lower.0,
        lower.1,
        lower.2,
        lawful.chains _ _ _ (λ more.
            let at_behind = (lawful.keeps_order lower.1 lower.1 after.store behind).0 more in
            let same = subst (λ v. ranks.exceeds v (ranks.rank_value lower.1 behind)) other_same at_behind in
            lawful.one_way _ _ same same)
            (lawful.chains _ _ _ (moved_at_least ranks lawful arc.sets before leads.variable (long leads.chosen) lower.1) own),
      )

  -- ---- a step by its pick

  module _ (formula : Ctl) (parts : ℕ → Trees R) (rank : R) where
    abbrev goes : Setting R
    goes = setting_of body told formula parts

    abbrev NoneOver : List Arc → Type 0
    NoneOver arcs = NoneMet ranks (of_arcs goes formula family rank arcs asks)

    -- the property holds of whatever an arc leads to
    abbrev pub LeadsTo : Property → Type 0
    LeadsTo P = (arcs : List Arc) → NoneOver arcs → (after : Configuration) → Taken vars body arcs store after → P after

    met : StoreMeets store asks
    met = own_region_met ranks m family label store reached

    against : {A : Type 0} → NoneMet ranks (plain unedged asks) → A
    against none = absurd (not_plain ranks store unedged asks none met)

    over_some : (P : Property) → LeadsTo P → (arcs : List Arc) → LeadsOn vars body arcs label store → NoneOver arcs
        → Ahead false P (configuration body label store)
    over_some P leads arcs next none = classically (next.0, next.1, leads arcs none next.0 next.2)

    by_outcome : (P : Property) → LeadsTo P → (outcome : Bool) (choice : Choice) → flow.choice label ≡ choice
        → NoneMet ranks (of_outcome goes choice outcome family rank label asks) → Ahead false P (configuration body label store)
    by_outcome P leads outcome Branch is none =
        over_some P leads (flow.arcs_of label outcome) (m.outcomes label store reached is outcome) none
    by_outcome P leads outcome NoChoice is none = against none
    by_outcome P leads outcome (Range lo hi) is none = against none

    from_lower : (lo : Option ℤ) (a : Affine) → NoneMet ranks (below_range goes lo a asks) → IsFrom lo (value_at a store)
    from_lower None a none = tt
    from_lower (Some lo) a none =
        let past : Formed = minus (minus (given (constant_of lo)) (given a)) (given (constant_of (pos 1))) in
        let outer = value_difference (difference_of (constant_of lo) a) (constant_of (pos 1)) store in
        let inner = value_difference (constant_of lo) a store in
        let end = value_constant lo store in
        let one = value_constant (pos 1) store in
        elim (trichotomy (value_at a store) lo) [
          | inl below ↦ absurd (not_plain ranks store unedged (asks ++ past ∷ []) none (with_one store asks past met (omega (arith, ints))))
          | inr (inl even) ↦ omega (arith, ints)
          | inr (inr above) ↦ omega (arith, ints)
        ]

    to_upper : (hi : Option ℤ) (a : Affine) → NoneMet ranks (above_range goes hi a asks) → IsUpTo hi (value_at a store)
    to_upper None a none = tt
    to_upper (Some hi) a none =
        let past : Formed = minus (minus (given a) (given (constant_of hi))) (given (constant_of (pos 1))) in
        let outer = value_difference (difference_of a (constant_of hi)) (constant_of (pos 1)) store in
        let inner = value_difference a (constant_of hi) store in
        let end = value_constant hi store in
        let one = value_constant (pos 1) store in
        elim (trichotomy (value_at a store) hi) [
          | inl below ↦ omega (arith, ints)
          | inr (inl even) ↦ omega (arith, ints)
          | inr (inr above) ↦
              absurd (not_plain ranks store unedged (asks ++ past ∷ []) none (with_one store asks past met (omega (arith, ints))))
        ]

    by_value : (P : Property) → LeadsTo P → (a : Affine) (choice : Choice) → flow.choice label ≡ choice
        → NoneMet ranks (of_value goes choice a family rank label asks) → Ahead false P (configuration body label store)
    by_value P leads a (Range lo hi) is none =
        let below = below_range goes lo a asks in
        let above = above_range goes hi a asks in
        let arcs = of_arcs goes formula family rank (flow.arcs_with label a) asks in
        let rest : NoneMet ranks (above ++ arcs) = all_right (HasNoStore ranks) below (above ++ arcs) none in
        over_some P leads (flow.arcs_with label a)
        (m.values label store reached lo hi is a
        (from_lower lo a (all_left (HasNoStore ranks) below (above ++ arcs) none))
        (to_upper hi a (all_left (HasNoStore ranks) above arcs rest)))
        (all_right (HasNoStore ranks) above arcs rest)
    by_value P leads a NoChoice is none = against none
    by_value P leads a Branch is none = against none

    -- where one outcome or value is picked the formula speaks of some successor
    by_one : (P : Property) (all : Bool) → is_existential goes formula ≡ (if all then false else true) → (systems : List (System R))
        → (NoneMet ranks systems → Ahead false P (configuration body label store))
        → NoneMet ranks (if is_existential goes formula then systems else plain unedged asks) → Ahead all P (configuration body label store)
    by_one P true kind systems one none =
        against (subst (λ (t : Bool). NoneMet ranks (if t then systems else plain unedged asks)) kind none)
    by_one P false kind systems one none =
        one (subst (λ (t : Bool). NoneMet ranks (if t then systems else plain unedged asks)) kind none)

    by_each : (P : Property) (all : Bool) → LeadsTo P → NoneOver (flow.arcs label) → Ahead all P (configuration body label store)
    by_each P true leads none = λ after taken. leads (flow.arcs label) none after (m.each label store reached after taken)
    by_each P false leads none =
        let some = m.some label store reached in
        over_some P leads (flow.arcs label) (some.0, some.1, m.each label store reached some.0 some.1) none

    -- of all or of some successors the property holds, as the formula speaks of them
    pub ahead : (P : Property) (all : Bool) → is_existential goes formula ≡ (if all then false else true) → LeadsTo P → (pick : Pick)
        → NoneMet ranks (of_pick goes pick family rank label asks) → Ahead all P (configuration body label store)
    ahead P all kind leads Every none = by_each P all leads none
    ahead P all kind leads Yes none =
        by_one P all kind (of_outcome goes (flow.choice label) true family rank label asks) (by_outcome P leads true (flow.choice label) refl) none
    ahead P all kind leads No none =
        by_one P all kind (of_outcome goes (flow.choice label) false family rank label asks) (by_outcome P leads false (flow.choice label) refl) none
    ahead P all kind leads (Value a) none =
        by_one P all kind (of_value goes (flow.choice label) a family rank label asks) (by_value P leads a (flow.choice label) refl) none

  -- a state has a successor, so not all and not some can be impossible
  pub no_dead_end : (all : Bool) → Ahead all (λ d. ⊥) (configuration body label store) → ⊥
  no_dead_end true none = let some = m.some label store reached in none some.0 some.1
  no_dead_end false none = none (λ some. some.2)
