-- What a drop makes new: at each arc that leads to its label, the one system that says that the leaf is undefined there. Any property of systems
-- that all had before, and that these new ones have, all have afterwards.
use Rattle.std.proofs.Common.{◌≡◌, inl, inr, ℕ, ◌-◌, ◌<◌, Bool, true, false, cond, nat_lt, if◌then◌else◌, List, [], ◌∷◌, ◌++◌, map, All, Contains, refl, sym, ap, subst, ◌∙◌, append_assoc, append-nil}
use Rattle.std.specs.List.{flat_map}
use Rattle.std.proofs.lemmas.List.Concat.{flat_map-cons}
use Rattle.std.proofs.lemmas.Bool.Decides.{eqb_tells}
use Rattle.std.proofs.lemmas.List.Elements.{All-append}
use Rattle.linear_cons.specs.declared.affine.Affine.{Affine}
use Rattle.linear_cons.specs.declared.row.Row.{Row}
use Rattle.linear_cons.specs.Functions.{complement_of}
use Rattle.decision_tree.specs.declared.reason.Cause.{Cause}
use Rattle.decision_tree.specs.declared.reason.Pick.{Pick}
use Rattle.decision_tree.specs.declared.reason.Pick.TheVariants.{All as Every, Yes, No, Value}
use Rattle.decision_tree.specs.declared.reason.Why.{Why}
use Rattle.decision_tree.specs.declared.reason.Why.TheVariants.{Step}
use Rattle.decision_tree.specs.Paths.{leaf_numbered, path_of, with_leaf}
use Rattle.decision_tree.specs.Plans.{Plan, bottom, branch, leaf, leaves_of, top}
use Rattle.control_flow.specs.declared.edge.Choice.{Choice}
use Rattle.control_flow.specs.declared.edge.Choice.TheVariants.{Branch, Range}
use Rattle.ctl_formula.specs.Formulas.{Ctl, until, weak}
use Rattle.tree_support.specs.declared.dropped.Dropped.{Dropped}
use Rattle.tree_support.specs.Elimination.{IsElsewhere, cause_of, without_dropped}
use Rattle.tree_support.specs.Arcs.{Arc, rows_given}
use Rattle.constraint_stack.specs.Forming.{Formed, given}
use Rattle.tree_support.specs.Setting.{Setting, Trees}
use Rattle.constraint_stack.specs.Claims.{System, nothing}
use Rattle.tree_support.specs.Systems.{above_range, at_leaves, below_range, if_undefined, is_existential, moved_by, of_arcs, of_keep, of_leaf, of_outcome, of_pick, of_rank, of_value, of_why, plain, region, systems, unedged, unless_less}
use Rattle.decision_tree.proofs.Replacing.{here, paths_kept}
use Rattle.tree_support.proofs.Dropping.{changes, unchanged}
use Rattle.tree_support.proofs.Lists.{all_left, all_none, all_one, all_right, contains_first, contains_later}
use Rattle.tree_check.specs.Telling.{arcs_followed, arcs_picked, arcs_ranged, renewed}

module _ {R : Type 0} (P : System R → Type 0) (moved : Affine → Formed) (ending : Plan R → List Formed → List (System R)) (cause : Cause) where
  renewed_side : (row : Row) (this that first second : Plan R) (t : Bool) (asks ahead back : List Formed)
      → All P (at_leaves moved ending this (asks ++ moved row.affine ∷ []))
      → All P (at_leaves moved ending that (asks ++ moved (complement_of row.affine) ∷ []))
      → All P (ending (top cause) (asks ++ cond t (moved row.affine ∷ ahead) (moved (complement_of row.affine) ∷ back)))
      → (All P (ending (top cause) ((asks ++ moved row.affine ∷ []) ++ ahead)) → All P (at_leaves moved ending first (asks ++ moved row.affine ∷ [])))
      → (All P (ending (top cause) ((asks ++ moved (complement_of row.affine) ∷ []) ++ back))
      → All P (at_leaves moved ending second (asks ++ moved (complement_of row.affine) ∷ [])))
      → All P (at_leaves moved ending (cond t (branch row first that) (branch row this second)) asks)
  renewed_side row this that first second true asks ahead back one two new near far =
      All-append P _ _
      (near (subst (λ all. All P (ending (top cause) all)) (sym (append_assoc asks (moved row.affine ∷ []) ahead)) new)) two
  renewed_side row this that first second false asks ahead back one two new near far =
      All-append P _ _ one
      (far (subst (λ all. All P (ending (top cause) all)) (sym (append_assoc asks (moved (complement_of row.affine) ∷ []) back)) new))

  moved_side : (row : Row) (t : Bool) (ahead back : List Affine)
      → map moved (cond t (row.affine ∷ ahead) (complement_of row.affine ∷ back))
      ≡ cond t (moved row.affine ∷ map moved ahead) (moved (complement_of row.affine) ∷ map moved back)
  moved_side row true ahead back = refl
  moved_side row false ahead back = refl

  here_alone : (asks : List Formed) → All P (ending (top cause) (asks ++ [])) → All P (ending (top cause) asks)
  here_alone asks new = subst (λ all. All P (ending (top cause) all)) (append-nil asks) new

  -- the leaves of a tree, one of which is given up
  pub renewed_leaves : (plan : Plan R) (place : ℕ) (asks : List Formed) → All P (at_leaves moved ending plan asks)
      → All P (ending (top cause) (asks ++ map moved (path_of plan place)))
      → All P (at_leaves moved ending (with_leaf plan place (top cause)) asks)
  renewed_leaves bottom place asks all new = here_alone asks new
  renewed_leaves (top reason) place asks all new = here_alone asks new
  renewed_leaves (leaf why rank) place asks all new = here_alone asks new
  renewed_leaves (branch row this that) place asks all new =
      renewed_side row this that (with_leaf this place (top cause)) (with_leaf that (place - leaves_of this) (top cause)) (nat_lt place (leaves_of this)) asks
      (map moved (path_of this place)) (map moved (path_of that (place - leaves_of this)))
      (all_left P (at_leaves moved ending this (asks ++ moved row.affine ∷ [])) _ all)
      (all_right P (at_leaves moved ending this (asks ++ moved row.affine ∷ [])) _ all)
      (subst (λ path. All P (ending (top cause) (asks ++ path)))
      (moved_side row (nat_lt place (leaves_of this)) (path_of this place) (path_of that (place - leaves_of this))) new)
      (renewed_leaves this place (asks ++ moved row.affine ∷ []) (all_left P (at_leaves moved ending this (asks ++ moved row.affine ∷ [])) _ all))
      (renewed_leaves that (place - leaves_of this) (asks ++ moved (complement_of row.affine) ∷ [])
      (all_right P (at_leaves moved ending this (asks ++ moved row.affine ∷ [])) _ all))

module _ {X : Type 0} (P : X → Type 0) where
  -- lists that are put together, of which each holds where another does, for the elements of the list
  flat_map_where : {Y : Type 0} (f g : Y → List X) (ys : List Y) → ((y : Y) → Contains ys y → All P (f y) → All P (g y)) → All P (flat_map f ys)
      → All P (flat_map g ys)
  flat_map_where f g [] more all = all_none P
  flat_map_where f g (y ∷ ys) more all =
      let both : All P (f y ++ flat_map f ys) = subst (All P) (flat_map-cons f y ys) all in
      subst (All P) (sym (flat_map-cons g y ys))
      (All-append P (g y) (flat_map g ys) (more y (contains_first y ys) (all_left P (f y) (flat_map f ys) both))
      (flat_map_where f g ys (λ z inside. more z (contains_later y z ys inside)) (all_right P (f y) (flat_map f ys) both)))

  choose_more : (t : Bool) (xs ys zs : List X) → (All P xs → All P ys) → All P (cond t xs zs) → All P (cond t ys zs)
  choose_more true xs ys zs more all = more all
  choose_more false xs ys zs more all = all

  choose_other : (t : Bool) (xs ys zs : List X) → (All P xs → All P ys) → All P (cond t zs xs) → All P (cond t zs ys)
  choose_other true xs ys zs more all = all
  choose_other false xs ys zs more all = more all

  where_alive : (dead t : Bool) (xs ys : List X) → dead ≡ t → (dead ≡ false → All P xs → All P ys) → All P (cond t [] xs) → All P (cond t [] ys)
  where_alive dead true xs ys is more all = all
  where_alive dead false xs ys is more all = more is all

module _ {R : Type 0} (family : Trees R) (dropped : Dropped) where
  pub path_stays : (label place : ℕ) → path_of (without_dropped family dropped label) place ≡ path_of (family label) place
  path_stays label place = elim (changes family dropped label) [
    | inl same ↦
        ap (λ (plan : Plan R). path_of plan place) same.1 ∙ paths_kept (family label) (top (cause_of dropped.reason)) dropped.leaf place tt
    | inr apart ↦ ap (λ (plan : Plan R). path_of plan place) apart.1
  ]

  pub leaf_gone : leaf_numbered (without_dropped family dropped dropped.label) dropped.leaf ≡ top (cause_of dropped.reason)
  leaf_gone = elim (changes family dropped dropped.label) [
    | inl same ↦ ap (λ (plan : Plan R). leaf_numbered plan dropped.leaf) same.1 ∙ here (family dropped.label) (top (cause_of dropped.reason)) dropped.leaf tt
    | inr apart ↦ absurd (apart.0 refl)
  ]

module _ {R : Type 0} (P : System R → Type 0) (at : Setting R) (family : Trees R) (dropped : Dropped) where
  abbrev now : Trees R
  now = without_dropped family dropped

  -- what is new has it too
  abbrev pub AreNew : List Formed → List Arc → Type 0
  AreNew asks arcs = (arc : Arc) → Contains arcs arc → arc.target ≡ dropped.label → P (renewed asks (path_of (family arc.target) dropped.leaf) arc)

  target_renewed : (ending : Plan R → List Formed → List (System R)) (asks : List Formed) (arc : Arc)
      → ((held : List Formed) → All P (ending (top (cause_of dropped.reason)) held) ≡ All P (record { edge = arc.edge; asks = held; claim = nothing } ∷ []))
      → (arc.target ≡ dropped.label → P (renewed asks (path_of (family arc.target) dropped.leaf) arc))
      → All P (at_leaves (moved_by arc.sets) ending (family arc.target) (asks ++ arc.asks))
      → All P (at_leaves (moved_by arc.sets) ending (now arc.target) (asks ++ arc.asks))
  target_renewed ending asks arc plain_there new all = elim (changes family dropped arc.target) [
    | inl same ↦
        subst (λ (plan : Plan R). All P (at_leaves (moved_by arc.sets) ending plan (asks ++ arc.asks))) (sym same.1)
        (renewed_leaves P (moved_by arc.sets) ending (cause_of dropped.reason) (family arc.target) dropped.leaf (asks ++ arc.asks) all
        (subst (λ T. T) (sym (plain_there ((asks ++ arc.asks) ++ map (moved_by arc.sets) (path_of (family arc.target) dropped.leaf))))
        (all_one P (renewed asks (path_of (family arc.target) dropped.leaf) arc) (new same.0))))
    | inr apart ↦ subst (λ (plan : Plan R). All P (at_leaves (moved_by arc.sets) ending plan (asks ++ arc.asks))) (sym apart.1) all
  ]

  arcs_renewed : (formula : Ctl) (rank : R) (arcs : List Arc) (asks : List Formed) → AreNew asks arcs → All P (of_arcs at formula family rank arcs asks)
      → All P (of_arcs at formula now rank arcs asks)
  arcs_renewed (until all f g) rank arcs asks new held =
      flat_map_where P
      (λ (arc : Arc). at_leaves (moved_by arc.sets) (unless_less arc.edge arc.sets rank) (family arc.target) (asks ++ arc.asks))
      (λ (arc : Arc). at_leaves (moved_by arc.sets) (unless_less arc.edge arc.sets rank) (now arc.target) (asks ++ arc.asks))
      arcs (λ arc inside. target_renewed (unless_less arc.edge arc.sets rank) asks arc (λ held. refl) (new arc inside)) held
  arcs_renewed (weak all f g) rank arcs asks new held =
      flat_map_where P
      (λ (arc : Arc). at_leaves (moved_by arc.sets) (if_undefined arc.edge) (family arc.target) (asks ++ arc.asks))
      (λ (arc : Arc). at_leaves (moved_by arc.sets) (if_undefined arc.edge) (now arc.target) (asks ++ arc.asks))
      arcs (λ arc inside. target_renewed (if_undefined arc.edge) asks arc (λ held. refl) (new arc inside)) held
  arcs_renewed other rank arcs asks new held = held

  outcome_renewed : (choice : Choice) (outcome : Bool) (rank : R) (label : ℕ) (asks : List Formed) → AreNew asks (at.flow.arcs_of label outcome)
      → All P (of_outcome at choice outcome family rank label asks) → All P (of_outcome at choice outcome now rank label asks)
  outcome_renewed Branch outcome rank label asks new held = arcs_renewed at.formula rank (at.flow.arcs_of label outcome) asks new held
  outcome_renewed other outcome rank label asks new held = held

  value_renewed : (choice : Choice) (a : Affine) (rank : R) (label : ℕ) (asks : List Formed) → AreNew asks (arcs_ranged choice (at.flow.arcs_with label a))
      → All P (of_value at choice a family rank label asks) → All P (of_value at choice a now rank label asks)
  value_renewed (Range lo hi) a rank label asks new held =
      let below = below_range at lo a asks in
      let above = above_range at hi a asks in
      let arcs = at.flow.arcs_with label a in
      let behind = of_arcs at at.formula family rank arcs asks in
      let rest = all_right P below (above ++ behind) held in
      All-append P below _ (all_left P below (above ++ behind) held)
      (All-append P above _ (all_left P above behind rest) (arcs_renewed at.formula rank arcs asks new (all_right P above behind rest)))
  value_renewed other a rank label asks new held = held

  valued : (some : Bool) (choice : Choice) (a : Affine) (rank : R) (label : ℕ) (asks : List Formed)
      → AreNew asks (if some then arcs_ranged choice (at.flow.arcs_with label a) else [])
      → All P (if some then of_value at choice a family rank label asks else plain unedged asks)
      → All P (if some then of_value at choice a now rank label asks else plain unedged asks)
  valued true choice a rank label asks new held = value_renewed choice a rank label asks new held
  valued false choice a rank label asks new held = held

  pick_renewed : (pick : Pick) (rank : R) (label : ℕ) (asks : List Formed) → AreNew asks (arcs_picked at pick label)
      → All P (of_pick at pick family rank label asks) → All P (of_pick at pick now rank label asks)
  pick_renewed Every rank label asks new held = arcs_renewed at.formula rank (at.flow.arcs label) asks new held
  pick_renewed Yes rank label asks new held =
      choose_more P (is_existential at at.formula) _ _ _ (outcome_renewed (at.flow.choice label) true rank label asks new) held
  pick_renewed No rank label asks new held =
      choose_more P (is_existential at at.formula) _ _ _ (outcome_renewed (at.flow.choice label) false rank label asks new) held
  pick_renewed (Value a) rank label asks new held = valued (is_existential at at.formula) (at.flow.choice label) a rank label asks new held

  why_renewed : (why : Why) (rank : R) (label : ℕ) (asks : List Formed) → AreNew asks (arcs_followed at (leaf why rank) label)
      → All P (of_why at why family rank label asks) → All P (of_why at why now rank label asks)
  why_renewed (Step pick) rank label asks new held =
      let keep = of_keep at at.formula label asks in
      let picked = of_pick at pick family rank label asks in
      All-append P keep _ (all_left P keep picked held) (pick_renewed pick rank label asks new (all_right P keep picked held))
  why_renewed other rank label asks new held = held

  pub leaf_renewed : (end : Plan R) (label : ℕ) (asks : List Formed) → AreNew asks (arcs_followed at end label)
      → All P (of_leaf at end family label asks) → All P (of_leaf at end now label asks)
  leaf_renewed (leaf why rank) label asks new held =
      let ranked = of_rank at at.formula rank asks in
      let others = of_why at why family rank label asks in
      All-append P ranked _ (all_left P ranked others held) (why_renewed why rank label asks new (all_right P ranked others held))
  leaf_renewed other label asks new held = held

  -- the leaf that is given up has no systems any more
  pub gone : (dead : Bool) (end : Plan R) (trees : Trees R) (cause : Cause) (label : ℕ) (asks : List Formed) → end ≡ top cause
      → All P (if dead then [] else of_leaf at end trees label asks)
  gone true end trees cause label asks is = all_none P
  gone false end trees cause label asks is = subst (λ (e : Plan R). All P (of_leaf at e trees label asks)) (sym is) (all_none P)

  abbrev Within : ℕ → ℕ → Trees R → Plan R → List Formed → Type 0
  Within label place trees end asks = All P (if at.dead label then [] else of_leaf at end trees label asks)

  as_before : dropped.leaf < leaves_of (family dropped.label) → (label place : ℕ) → place < leaves_of (family label)
      → (at.dead label ≡ false → AreNew (region at (family label) label place) (arcs_followed at (leaf_numbered (family label) place) label))
      → All P (systems at family label place) → IsElsewhere label place dropped → All P (systems at now label place)
  as_before low label place below new held other =
      let asks : List Affine → List Formed = λ path. rows_given (at.rows label) ++ map given path in
      let behind : Within label place now (leaf_numbered (family label) place) (region at (family label) label place) =
      where_alive P (at.dead label) (at.dead label) _ _ refl (λ alive. leaf_renewed (leaf_numbered (family label) place) label (region at (family label) label place) (new alive)) held in
      subst (λ path. Within label place now (leaf_numbered (now label) place) (asks path)) (sym (path_stays family dropped label place))
      (subst (λ end. Within label place now end (asks (path_of (family label) place))) (sym (unchanged family dropped low label place below other)) behind)

  -- the systems of a leaf behind a drop, its own or another's
  pub systems_renewed : dropped.leaf < leaves_of (family dropped.label) → (label place : ℕ) → place < leaves_of (family label)
      → (at.dead label ≡ false → AreNew (region at (family label) label place) (arcs_followed at (leaf_numbered (family label) place) label))
      → All P (systems at family label place) → All P (systems at now label place)
  systems_renewed low label place below new held = elim (eqb_tells label dropped.label) [
    | inl here ↦ elim (eqb_tells place dropped.leaf) [
      | inl same ↦
          gone (at.dead label) (leaf_numbered (now label) place) now (cause_of dropped.reason) label (region at (now label) label place)
          (ap (λ l. leaf_numbered (now l) place) here.1 ∙ ap (leaf_numbered (now dropped.label)) same.1 ∙ leaf_gone family dropped)
      | inr apart ↦ as_before low label place below new held (λ both. apart.1 (sym both.1))
    ]
    | inr apart ↦ as_before low label place below new held (λ both. apart.1 (sym both.0))
  ]
