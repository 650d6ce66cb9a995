-- What a set of leaves shows of itself keeps it whole in each elimination whose reasons would refute it.
use Rattle.std.proofs.Common.{◌≡◌, ℕ, ◌+◌, ◌<◌, ℤ, pos, ◌<ℤ◌, inl, inr, Bool, true, false, cond, if◌then◌else◌, List, [], ◌∷◌, ◌++◌, get_or, map, Option, All, refl, sym, subst, ap, ◌∙◌, arith, ⊎_elim}
use Rattle.std.specs.List.{flat_map}
use Rattle.std.proofs.Math.Path.{fun_ext}
use Rattle.std.proofs.lemmas.Bool.{false≢true}
use Rattle.std.proofs.lemmas.List.Concat.{flat_map-cons}
use Rattle.std.proofs.lemmas.List.Elements.{All-append, All-cons, All-contains, All-nil, All-tail}
use Rattle.linear_cons.specs.declared.affine.Affine.{Affine}
use Rattle.linear_cons.specs.declared.row.RowKind.{RowKind}
use Rattle.linear_cons.specs.Functions.{complement_of}
use Rattle.linear_cons.specs.Rows.{MeetsKind, PointMeetsKind, row_kind_of}
use Rattle.decision_tree.specs.declared.rank.Rank.{Ghosts as Ranks}
use Rattle.decision_tree.specs.declared.reason.Pick.{Pick}
use Rattle.decision_tree.specs.declared.reason.Pick.TheVariants.{All as Every, Yes, No, Value}
use Rattle.decision_tree.specs.declared.reason.Why.{Why}
use Rattle.decision_tree.specs.declared.reason.Why.TheVariants.{Step}
use Rattle.decision_tree.specs.Paths.{leaf_numbered, path_of}
use Rattle.decision_tree.specs.Plans.{Plan, bottom, branch, leaf, leaves_of, top}
use Rattle.control_flow.specs.declared.edge.Choice.{Choice}
use Rattle.control_flow.specs.declared.edge.Choice.TheVariants.{Branch, Range}
use Rattle.ctl_formula.specs.Formulas.{Ctl, until, weak}
use Rattle.tree_support.specs.declared.dropped.Dropped.{Dropped}
use Rattle.constraint_stack.specs.declared.reason.Reason.TheVariants.{Point}
use Rattle.tree_support.specs.Elimination.{EachOfSet, Eliminates, AreTold, IsByPoint, IsByStore, IsDrop, IsElsewhere, IsTold, KeepsSet, cause_of, restricted, within, without_dropped}
use Rattle.constraint_stack.specs.Reasons.{Justifies}
use Rattle.tree_support.specs.Arcs.{Arc, rows_given}
use Rattle.constraint_stack.specs.Forming.{Formed, exact, given}
use Rattle.tree_support.specs.Setting.{Setting, Trees}
use Rattle.constraint_stack.specs.Claims.{HasNoPoint, HasNoStore, choices, kinds_of, Claim, System, exceeding, nothing}
use Rattle.tree_support.specs.Support.{IsFirm, IsSupported}
use Rattle.tree_support.specs.Systems.{above_range, at_leaves, below_range, if_undefined, is_existential, moved_by, of_arcs, of_keep, of_leaf, of_outcome, of_pick, of_rank, of_value, of_why, systems, unless_less}
use Rattle.tree_support.proofs.Dropping.{changes, same_count, unchanged}
use Rattle.tree_support.proofs.Lists.{all_first, all_left, all_none, all_one, all_right}
use Rattle.tree_support.proofs.Restricting.{dropped_leaf, kept_leaf, same_leaves, same_path}

module _ {X : Type 0} (P : X → Type 0) where
  -- lists that are put together, of which each holds where another does
  flat_map_more : {Y : Type 0} (f g : Y → List X) → ((y : Y) → All P (f y) → All P (g y)) → (ys : List Y) → All P (flat_map f ys)
      → All P (flat_map g ys)
  flat_map_more f g more [] all = all_none P
  flat_map_more f g more (y ∷ ys) all =
      let both : All P (f y ++ flat_map f ys) = subst (All P) (flat_map-cons f y ys) all in
      subst (All P) (sym (flat_map-cons g y ys))
      (All-append P (g y) (flat_map g ys) (more y (all_left P (f y) (flat_map f ys) both))
      (flat_map_more f g more ys (all_right P (f y) (flat_map f ys) both)))

  -- a choice of two lists
  choice_more : (t : Bool) (xs ys zs : List X) → (All P xs → All P ys) → All P (cond t xs zs) → All P (cond t ys zs)
  choice_more true xs ys zs more all = more all
  choice_more false xs ys zs more all = all

  other_choice_more : (t : Bool) (xs ys zs : List X) → (All P xs → All P ys) → All P (cond t zs xs) → All P (cond t zs ys)
  other_choice_more true xs ys zs more all = all
  other_choice_more false xs ys zs more all = more all

-- ---- the fewer leaves are defined, the more systems there are

-- what holds of a system without a claim does so of one with a claim
module _ {R : Type 0} (P : System R → Type 0)
    (loosens : (edge : ℕ) (asks : List Formed) (claim : Claim R) → P (record { edge = edge; asks = asks; claim = nothing })
    → P (record { edge = edge; asks = asks; claim = claim })) where
  abbrev Weakens : (Plan R → List Formed → List (System R)) → Type 0
  Weakens ending = (end : Plan R) (asks : List Formed) → All P (ending bottom asks) → All P (ending end asks)

  undefined_weakens : (edge : ℕ) → Weakens (if_undefined edge)
  undefined_weakens edge bottom asks all = all
  undefined_weakens edge (top cause) asks all = all
  undefined_weakens edge (leaf why rank) asks all = all_none P
  undefined_weakens edge (branch row this that) asks all = all

  less_weakens : (edge : ℕ) (sets : Option (ℕ × Affine)) (rank : R) → Weakens (unless_less edge sets rank)
  less_weakens edge sets rank bottom asks all = all
  less_weakens edge sets rank (top cause) asks all = all
  less_weakens edge sets rank (leaf why other) asks all =
      all_one P (record { edge = edge; asks = asks; claim = exceeding other sets rank })
      (loosens edge asks (exceeding other sets rank) (all_first P (record { edge = edge; asks = asks; claim = nothing }) [] all))
  less_weakens edge sets rank (branch row this that) asks all = all

  module _ (moved : Affine → Formed) (ending : Plan R → List Formed → List (System R)) (weakens : Weakens ending) where
    end_more : (t : Bool) (end : Plan R) (asks : List Formed) → (All P (at_leaves moved ending end asks) → All P (ending end asks))
        → All P (at_leaves moved ending (cond t end bottom) asks) → All P (ending end asks)
    end_more true end asks is all = is all
    end_more false end asks is all = weakens end asks all

    leaves_more : (keeps : ℕ → Bool) (plan : Plan R) (asks : List Formed) → All P (at_leaves moved ending (restricted keeps plan) asks)
        → All P (at_leaves moved ending plan asks)
    leaves_more keeps bottom asks all = all
    leaves_more keeps (top cause) asks all = end_more (keeps 0) (top cause) asks (λ same. same) all
    leaves_more keeps (leaf why rank) asks all = end_more (keeps 0) (leaf why rank) asks (λ same. same) all
    leaves_more keeps (branch row this that) asks all =
        let beyond : ℕ → Bool = λ place. keeps (leaves_of this + place) in
        let here : List Formed = asks ++ moved row.affine ∷ [] in
        let there : List Formed = asks ++ moved (complement_of row.affine) ∷ [] in
        All-append P (at_leaves moved ending this here) (at_leaves moved ending that there)
        (leaves_more keeps this here
        (all_left P (at_leaves moved ending (restricted keeps this) here) (at_leaves moved ending (restricted beyond that) there) all))
        (leaves_more beyond that there
        (all_right P (at_leaves moved ending (restricted keeps this) here) (at_leaves moved ending (restricted beyond that) there) all))

  module _ (base : Setting R) (set : ℕ → ℕ → Bool) (family : Trees R) where
    abbrev fewer : Trees R
    fewer = within set family

    arcs_more : (formula : Ctl) (rank : R) (arcs : List Arc) (asks : List Formed) → All P (of_arcs base formula fewer rank arcs asks)
        → All P (of_arcs base formula family rank arcs asks)
    arcs_more (until all f g) rank arcs asks held =
        flat_map_more P
        (λ (arc : Arc). at_leaves (moved_by arc.sets) (unless_less arc.edge arc.sets rank) (fewer arc.target) (asks ++ arc.asks))
        (λ (arc : Arc). at_leaves (moved_by arc.sets) (unless_less arc.edge arc.sets rank) (family arc.target) (asks ++ arc.asks))
        (λ arc. leaves_more (moved_by arc.sets) (unless_less arc.edge arc.sets rank) (less_weakens arc.edge arc.sets rank) (set arc.target)
        (family arc.target) (asks ++ arc.asks))
        arcs held
    arcs_more (weak all f g) rank arcs asks held =
        flat_map_more P
        (λ (arc : Arc). at_leaves (moved_by arc.sets) (if_undefined arc.edge) (fewer arc.target) (asks ++ arc.asks))
        (λ (arc : Arc). at_leaves (moved_by arc.sets) (if_undefined arc.edge) (family arc.target) (asks ++ arc.asks))
        (λ arc. leaves_more (moved_by arc.sets) (if_undefined arc.edge) (undefined_weakens arc.edge) (set arc.target) (family arc.target)
        (asks ++ arc.asks))
        arcs held
    arcs_more other rank arcs asks held = held

    outcome_more : (choice : Choice) (outcome : Bool) (rank : R) (label : ℕ) (asks : List Formed)
        → All P (of_outcome base choice outcome fewer rank label asks) → All P (of_outcome base choice outcome family rank label asks)
    outcome_more Branch outcome rank label asks held = arcs_more base.formula rank (base.flow.arcs_of label outcome) asks held
    outcome_more other outcome rank label asks held = held

    value_more : (choice : Choice) (a : Affine) (rank : R) (label : ℕ) (asks : List Formed) → All P (of_value base choice a fewer rank label asks)
        → All P (of_value base choice a family rank label asks)
    value_more (Range lo hi) a rank label asks held =
        let below = below_range base lo a asks in
        let above = above_range base hi a asks in
        let arcs = base.flow.arcs_with label a in
        let behind = of_arcs base base.formula fewer rank arcs asks in
        let rest = all_right P below (above ++ behind) held in
        All-append P below _ (all_left P below (above ++ behind) held)
        (All-append P above _ (all_left P above behind rest) (arcs_more base.formula rank arcs asks (all_right P above behind rest)))
    value_more other a rank label asks held = held

    pick_more : (pick : Pick) (rank : R) (label : ℕ) (asks : List Formed) → All P (of_pick base pick fewer rank label asks)
        → All P (of_pick base pick family rank label asks)
    pick_more Every rank label asks held = arcs_more base.formula rank (base.flow.arcs label) asks held
    pick_more Yes rank label asks held =
        choice_more P (is_existential base base.formula) _ _ _ (outcome_more (base.flow.choice label) true rank label asks) held
    pick_more No rank label asks held =
        choice_more P (is_existential base base.formula) _ _ _ (outcome_more (base.flow.choice label) false rank label asks) held
    pick_more (Value a) rank label asks held =
        choice_more P (is_existential base base.formula) _ _ _ (value_more (base.flow.choice label) a rank label asks) held

    why_more : (why : Why) (rank : R) (label : ℕ) (asks : List Formed) → All P (of_why base why fewer rank label asks)
        → All P (of_why base why family rank label asks)
    why_more (Step pick) rank label asks held =
        let keep = of_keep base base.formula label asks in
        let picked = of_pick base pick fewer rank label asks in
        All-append P keep _ (all_left P keep picked held) (pick_more pick rank label asks (all_right P keep picked held))
    why_more other rank label asks held = held

    leaf_more : (end : Plan R) (label : ℕ) (asks : List Formed) → All P (of_leaf base end fewer label asks) → All P (of_leaf base end family label asks)
    leaf_more (leaf why rank) label asks held =
        let ranked = of_rank base base.formula rank asks in
        let others = of_why base why fewer rank label asks in
        All-append P ranked _ (all_left P ranked others held) (why_more why rank label asks (all_right P ranked others held))
    leaf_more other label asks held = held

    systems_more : (label place : ℕ) → place < leaves_of (family label) → set label place ≡ true → All P (systems base fewer label place)
        → All P (systems base family label place)
    systems_more label place low inside held =
        let asks : List Affine → List Formed = λ path. rows_given (base.rows label) ++ map given path in
        let own : List Formed = asks (path_of (family label) place) in
        let on_path : All P (if base.dead label then [] else of_leaf base (leaf_numbered (fewer label) place) fewer label own) =
        subst (λ path. All P (if base.dead label then [] else of_leaf base (leaf_numbered (fewer label) place) fewer label (asks path)))
        (same_path (set label) (family label) place) held in
        let at_end : All P (if base.dead label then [] else of_leaf base (leaf_numbered (family label) place) fewer label own) =
        subst (λ end. All P (if base.dead label then [] else of_leaf base end fewer label own)) (kept_leaf (set label) (family label) place low inside)
        on_path in
        other_choice_more P (base.dead label) _ _ [] (leaf_more (leaf_numbered (family label) place) label own) at_end

-- ---- a set that shows P of itself, where reasons that refute P are given

module _ {R : Type 0} (ranks : Ranks R) (P : System R → Type 0)
    (loosens : (edge : ℕ) (asks : List Formed) (claim : Claim R) → P (record { edge = edge; asks = asks; claim = nothing })
    → P (record { edge = edge; asks = asks; claim = claim }))
    (Refuting : Dropped → Type 0)
    (refutes : (dropped : Dropped) → Refuting dropped → (system : System R) → Justifies ranks dropped.reason system → P system → ⊥)
    (base : Setting R) (set : ℕ → ℕ → Bool) where
  -- each leaf of the set shows it, where those outside are undefined
  abbrev Shows : Trees R → Type 0
  Shows family = (label place : ℕ) → place < leaves_of (within set family label) → All P (systems base (within set family) label place)

  outside : (family : Trees R) (dropped : Dropped) → Shows family → IsDrop ranks base family dropped
      → (set dropped.label dropped.leaf ≡ true → Refuting dropped) → (t : Bool) → set dropped.label dropped.leaf ≡ t → set dropped.label dropped.leaf ≡ false
  outside family dropped shows drop refuting false is = is
  outside family dropped shows drop refuting true is =
      let low = drop.leaf_in in
      let same = same_leaves (set dropped.label) (family dropped.label) in
      let held = systems_more P loosens base set family dropped.label dropped.leaf low is (shows dropped.label dropped.leaf (omega arith)) in
      absurd (refutes dropped (refuting is) drop.system drop.justified (All-contains P _ drop.system held drop.system_in))

  -- a drop outside the set changes neither the leaves of the set nor what is undefined outside
  same_within : (family : Trees R) (dropped : Dropped) → dropped.leaf < leaves_of (family dropped.label) → set dropped.label dropped.leaf ≡ false
      → (label : ℕ) → within set (without_dropped family dropped) label ≡ within set family label
  same_within family dropped low out label = elim (changes family dropped label) [
    | inl here ↦
        ap (restricted (set label)) here.1
        ∙ dropped_leaf (set label) (family label) dropped.leaf (cause_of dropped.reason)
        (subst (λ l. dropped.leaf < leaves_of (family l)) (sym here.0) low)
        (subst (λ l. set l dropped.leaf ≡ false) (sym here.0) out)
    | inr apart ↦ ap (restricted (set label)) apart.1
  ]

  -- no leaf of the set is that of a drop outside it
  apart : (dropped : Dropped) → set dropped.label dropped.leaf ≡ false → (label place : ℕ) → set label place ≡ true
      → IsElsewhere label place dropped
  apart dropped out label place inside same =
      false≢true (sym out ∙ ap (λ l. set l dropped.leaf) same.0 ∙ ap (set label) same.1 ∙ inside)

  pub kept : (drops : List Dropped) (old new : Trees R) → Eliminates ranks base old drops new → EachOfSet set Refuting drops → Shows old
      → KeepsSet set old new
  kept [] old new same refuting shows label place low inside = ap (λ (plan : Plan R). leaf_numbered plan place) (same label)
  kept (dropped ∷ rest) old new legal refuting shows label place low inside =
      let after : Trees R = without_dropped old dropped in
      let out : set dropped.label dropped.leaf ≡ false =
      outside old dropped shows legal.0 (all_first (λ d. set d.label d.leaf ≡ true → Refuting d) dropped rest refuting) (set dropped.label dropped.leaf) refl in
      let same : within set old ≡ within set after = fun_ext (λ at_label. sym (same_within old dropped legal.0.leaf_in out at_label)) in
      let shows_after : Shows after =
      subst (λ (family : Trees R). (label place : ℕ) → place < leaves_of (family label) → All P (systems base family label place)) same shows in
      let count = same_count old dropped label in
      kept rest after new legal.1 (All-tail (λ d. set d.label d.leaf ≡ true → Refuting d) dropped rest refuting) shows_after label place (omega arith) inside
      ∙ unchanged old dropped legal.0.leaf_in label place low (apart dropped out label place inside)

-- ---- firm support, against drops by points; support, against drops by stores

module _ {R : Type 0} (ranks : Ranks R) where
  -- rows that no point meets, by themselves, are met by none together with others
  fewer_asks : (P : RowKind → Type 0) (asks : List Formed) (choice : List RowKind)
      → (All P (map (λ a. row_kind_of (exact a)) asks ++ []) → ⊥) → All P (map (λ a. row_kind_of (exact a)) asks ++ choice) → ⊥
  fewer_asks P asks choice none all =
      none (All-append P (map (λ a. row_kind_of (exact a)) asks) [] (all_left P (map (λ a. row_kind_of (exact a)) asks) choice all) (all_none P))

  no_point_loosens : (edge : ℕ) (asks : List Formed) (claim : Claim R) → HasNoPoint ranks (record { edge = edge; asks = asks; claim = nothing })
      → HasNoPoint ranks (record { edge = edge; asks = asks; claim = claim })
  no_point_loosens edge asks claim none k d low num den positive =
      fewer_asks (λ kind. PointMeetsKind num den kind) asks (get_or (choices ranks claim) k d) (none 0 [] (omega arith) num den positive)

  no_store_loosens : (edge : ℕ) (asks : List Formed) (claim : Claim R) → HasNoStore ranks (record { edge = edge; asks = asks; claim = nothing })
      → HasNoStore ranks (record { edge = edge; asks = asks; claim = claim })
  no_store_loosens edge asks claim none k d low store =
      fewer_asks (λ kind. MeetsKind store kind) asks (get_or (choices ranks claim) k d) (none 0 [] (omega arith) store)

  point_refutes : (dropped : Dropped) → IsByPoint dropped → (system : System R) → Justifies ranks dropped.reason system → HasNoPoint ranks system → ⊥
  point_refutes dropped by system justified none =
      let met : Justifies ranks (Point by.0 by.1) system = subst (λ reason. Justifies ranks reason system) by.2 justified in
      All-contains
      (λ choice. (num : List ℤ) (den : ℤ) → pos 0 <ℤ den → All (λ kind. PointMeetsKind num den kind) (kinds_of ranks system choice) → ⊥)
      (choices ranks system.claim) met.1.0 none met.1.1 by.0 by.1 met.0 met.1.2

  store_refutes : (dropped : Dropped) → IsByStore dropped → (system : System R) → Justifies ranks dropped.reason system → HasNoStore ranks system → ⊥
  store_refutes dropped by system justified none =
      let met : Justifies ranks (Point by.0 (pos 1)) system = subst (λ reason. Justifies ranks reason system) by.1 justified in
      All-contains
      (λ choice. (store : List ℤ) → All (λ kind. MeetsKind store kind) (kinds_of ranks system choice) → ⊥)
      (choices ranks system.claim) met.1.0 none met.1.1 by.0 met.1.2

  module _ (base : Setting R) (set : ℕ → ℕ → Bool) (old new : Trees R) (drops : List Dropped) (legal : Eliminates ranks base old drops new) where
    pub firm_sets_are_kept : EachOfSet set IsByPoint drops → IsFirm ranks base (within set old) → KeepsSet set old new
    firm_sets_are_kept by firm = kept ranks (HasNoPoint ranks) no_point_loosens IsByPoint point_refutes base set drops old new legal by firm

    pub supported_sets_are_kept : EachOfSet set IsByStore drops → IsSupported ranks base (within set old) → KeepsSet set old new
    supported_sets_are_kept by supported = kept ranks (HasNoStore ranks) no_store_loosens IsByStore store_refutes base set drops old new legal by supported

  -- where splits tell of the leaf's systems, a drop by a point shows a store
  told_shows : (at : Setting R) (family : Trees R) (dropped : Dropped) → IsDrop ranks at family dropped → IsByPoint dropped → IsTold ranks at family dropped.label dropped.leaf → IsByStore dropped
  told_shows at family dropped drop by told =
      let met : Justifies ranks (Point by.0 by.1) drop.system = subst (λ reason. Justifies ranks reason drop.system) by.2 drop.justified in
      ⊎_elim
      (λ whole. (by.0, subst (λ den. dropped.reason ≡ Point by.0 den) whole by.2))
      (λ hard. absurd (told drop.system drop.system_in met.1.0 met.1.1 hard))
      met.1.3

  told_by_stores : (at : Setting R) (set : ℕ → ℕ → Bool) (old new : Trees R) (drops : List Dropped) → Eliminates ranks at old drops new → AreTold ranks at set old drops → EachOfSet set IsByStore drops
  told_by_stores at set old new [] legal told = All-nil (λ dropped. set dropped.label dropped.leaf ≡ true → IsByStore dropped)
  told_by_stores at set old new (dropped ∷ rest) legal told =
      All-cons (λ dropped. set dropped.label dropped.leaf ≡ true → IsByStore dropped) dropped rest
      (λ inside. let by = told.0 inside in told_shows at old dropped legal.0 by.0 by.1)
      (told_by_stores at set (without_dropped old dropped) new rest legal.1 told.1)

  pub told_sets_are_kept : (at : Setting R) (set : ℕ → ℕ → Bool) (old new : Trees R) (drops : List Dropped) → Eliminates ranks at old drops new → AreTold ranks at set old drops
      → IsSupported ranks at (within set old) → KeepsSet set old new
  told_sets_are_kept at set old new drops legal told supported =
      supported_sets_are_kept at set old new drops legal (told_by_stores at set old new drops legal told) supported
