-- What a legal elimination does to a family: it gives up the leaves that it lists, each once, and nothing else changes.
use Rattle.std.proofs.Common.{◌≡◌, ◌≢◌, ◌⊎◌, ℕ, ◌<◌, inl, inr, Bool, true, false, cond, if◌then◌else◌, List, [], ◌∷◌, All, AllPairs, Contains, refl, sym, subst, ap, ◌∙◌, arith}
use Rattle.std.proofs.lemmas.Bool.Decides.{eqb_tells}
use Rattle.std.proofs.lemmas.List.Elements.{All-cons, All-tail}
use Rattle.std.proofs.lemmas.List.Kept.{AllPairs-cons}
use Rattle.decision_tree.specs.declared.rank.Rank.{Ghosts as Ranks}
use Rattle.decision_tree.specs.declared.reason.Cause.{Cause}
use Rattle.decision_tree.specs.Paths.{leaf_numbered, path_of, with_leaf}
use Rattle.decision_tree.specs.Plans.{Plan, leaves_of, top}
use Rattle.decision_tree.proofs.Replacing.{elsewhere, here, leaves_kept, paths_kept}
use Rattle.tree_support.specs.declared.dropped.Dropped.{Dropped}
use Rattle.tree_support.specs.Elimination.{Eliminates, IsDrop, IsElsewhere, cause_of, without_dropped}
use Rattle.tree_support.specs.Setting.{Setting, Trees}
use Rattle.constraint_stack.specs.Claims.{System}
use Rattle.tree_support.specs.Systems.{of_leaf, region, systems}
use Rattle.tree_support.proofs.Lists.{all_first, all_none}

module _ {R : Type 0} where
  -- ---- one drop

  -- it changes its leaf at its label and nothing else
  pub changes : (family : Trees R) (dropped : Dropped) (label : ℕ)
      → ((label ≡ dropped.label)
      × (without_dropped family dropped label ≡ with_leaf (family label) dropped.leaf (top (cause_of dropped.reason))))
      ⊎ ((label ≢ dropped.label) × (without_dropped family dropped label ≡ family label))
  changes family dropped label = elim (eqb_tells label dropped.label) [
    | inl same ↦ inl (same.1, ap (λ t. cond t (with_leaf (family label) dropped.leaf (top (cause_of dropped.reason))) (family label)) same.0)
    | inr apart ↦ inr (apart.1, ap (λ t. cond t (with_leaf (family label) dropped.leaf (top (cause_of dropped.reason))) (family label)) apart.0)
  ]

  pub same_count : (family : Trees R) (dropped : Dropped) (label : ℕ) → leaves_of (without_dropped family dropped label) ≡ leaves_of (family label)
  same_count family dropped label = elim (changes family dropped label) [
    | inl same ↦ ap leaves_of same.1 ∙ leaves_kept (family label) (top (cause_of dropped.reason)) dropped.leaf tt
    | inr apart ↦ ap leaves_of apart.1
  ]

  same_path : (family : Trees R) (dropped : Dropped) (label place : ℕ)
      → path_of (without_dropped family dropped label) place ≡ path_of (family label) place
  same_path family dropped label place = elim (changes family dropped label) [
    | inl same ↦
        ap (λ (plan : Plan R). path_of plan place) same.1
        ∙ paths_kept (family label) (top (cause_of dropped.reason)) dropped.leaf place tt
    | inr apart ↦ ap (λ (plan : Plan R). path_of plan place) apart.1
  ]

  given_up : (family : Trees R) (dropped : Dropped)
      → leaf_numbered (without_dropped family dropped dropped.label) dropped.leaf ≡ top (cause_of dropped.reason)
  given_up family dropped = elim (changes family dropped dropped.label) [
    | inl same ↦
        ap (λ (plan : Plan R). leaf_numbered plan dropped.leaf) same.1
        ∙ here (family dropped.label) (top (cause_of dropped.reason)) dropped.leaf tt
    | inr apart ↦ absurd (apart.0 refl)
  ]

  pub unchanged : (family : Trees R) (dropped : Dropped) → dropped.leaf < leaves_of (family dropped.label) → (label place : ℕ)
      → place < leaves_of (family label) → IsElsewhere label place dropped
      → leaf_numbered (without_dropped family dropped label) place ≡ leaf_numbered (family label) place
  unchanged family dropped low label place below other = elim (changes family dropped label) [
    | inl same ↦
        ap (λ (plan : Plan R). leaf_numbered plan place) same.1
        ∙ elsewhere (family label) (top (cause_of dropped.reason)) dropped.leaf place tt
        (subst (λ l. dropped.leaf < leaves_of (family l)) (sym same.0) low) below (λ is. other (sym same.0, sym is))
    | inr apart ↦ ap (λ (plan : Plan R). leaf_numbered plan place) apart.1
  ]

  -- ---- one after the other

  module _ (ranks : Ranks R) (base : Setting R) where
    same_either : (t : Bool) (all : List (System R)) → cond t all all ≡ all
    same_either true all = refl
    same_either false all = refl

    -- a leaf that was given up has no systems
    no_systems : (family : Trees R) (label place : ℕ) (cause : Cause) → leaf_numbered (family label) place ≡ top cause
        → systems base family label place ≡ []
    no_systems family label place cause is =
        subst (λ end. (if base.dead label then [] else of_leaf base end family label (region base (family label) label place)) ≡ []) (sym is)
        (same_either (base.dead label) [])

    not_again : (family : Trees R) (dropped : Dropped) (label place : ℕ) (cause : Cause) → IsDrop ranks base family dropped
        → leaf_numbered (family label) place ≡ top cause → IsElsewhere label place dropped
    not_again family dropped label place cause drop is same =
        let here : leaf_numbered (family dropped.label) dropped.leaf ≡ top cause =
        subst (λ l. leaf_numbered (family l) dropped.leaf ≡ top cause) (sym same.0)
        (subst (λ n. leaf_numbered (family label) n ≡ top cause) (sym same.1) is) in
        let inside = subst (λ all. Contains all drop.system) (no_systems family dropped.label dropped.leaf cause here) drop.system_in in
        let low = inside.1 in
        absurd (omega arith)

    stays : (drops : List Dropped) (old new : Trees R) → Eliminates ranks base old drops new → (label place : ℕ) (cause : Cause)
        → place < leaves_of (old label) → leaf_numbered (old label) place ≡ top cause
        → All (λ dropped. IsElsewhere label place dropped) drops × (leaf_numbered (new label) place ≡ top cause)
    stays [] old new same label place cause low is =
        (all_none (λ dropped. IsElsewhere label place dropped), ap (λ (plan : Plan R). leaf_numbered plan place) (same label) ∙ is)
    stays (dropped ∷ rest) old new legal label place cause low is =
        let other : IsElsewhere label place dropped = not_again old dropped label place cause legal.0 is in
        let count = same_count old dropped label in
        let later = stays rest (without_dropped old dropped) new legal.1 label place cause (omega arith)
        (unchanged old dropped legal.0.leaf_in label place low other ∙ is) in
        (All-cons (λ dropped. IsElsewhere label place dropped) dropped rest other later.0, later.1)

    -- each leaf that is listed was given up, for its reason, and is listed once
    pub listed : (drops : List Dropped) (old new : Trees R) → Eliminates ranks base old drops new
        → All (λ dropped. leaf_numbered (new dropped.label) dropped.leaf ≡ top (cause_of dropped.reason)) drops
        × AllPairs (λ dropped later. IsElsewhere dropped.label dropped.leaf later) drops
    listed [] old new same =
        (all_none (λ dropped. leaf_numbered (new dropped.label) dropped.leaf ≡ top (cause_of dropped.reason)), λ i j d before low. absurd (omega arith))
    listed (dropped ∷ rest) old new legal =
        let after : Trees R = without_dropped old dropped in
        let count = same_count old dropped dropped.label in
        let low = legal.0.leaf_in in
        let here = stays rest after new legal.1 dropped.label dropped.leaf (cause_of dropped.reason) (omega arith) (given_up old dropped) in
        let others = listed rest after new legal.1 in (
          All-cons (λ dropped. leaf_numbered (new dropped.label) dropped.leaf ≡ top (cause_of dropped.reason)) dropped rest here.1 others.0,
          AllPairs-cons (λ dropped later. IsElsewhere dropped.label dropped.leaf later) dropped rest here.0 others.1,
        )

    -- each other leaf is as it was
    pub unlisted : (drops : List Dropped) (old new : Trees R) → Eliminates ranks base old drops new → (label place : ℕ) → place < leaves_of (old label)
        → All (λ dropped. IsElsewhere label place dropped) drops → leaf_numbered (new label) place ≡ leaf_numbered (old label) place
    unlisted [] old new same label place low others = ap (λ (plan : Plan R). leaf_numbered plan place) (same label)
    unlisted (dropped ∷ rest) old new legal label place low others =
        let count = same_count old dropped label in
        unlisted rest (without_dropped old dropped) new legal.1 label place (omega arith)
        (All-tail (λ dropped. IsElsewhere label place dropped) dropped rest others)
        ∙ unchanged old dropped legal.0.leaf_in label place low (all_first (λ dropped. IsElsewhere label place dropped) dropped rest others)

    -- and so is each path, and the number of leaves
    pub same_paths : (drops : List Dropped) (old new : Trees R) → Eliminates ranks base old drops new → (label place : ℕ)
        → path_of (new label) place ≡ path_of (old label) place
    same_paths [] old new same label place = ap (λ (plan : Plan R). path_of plan place) (same label)
    same_paths (dropped ∷ rest) old new legal label place =
        same_paths rest (without_dropped old dropped) new legal.1 label place ∙ same_path old dropped label place

    pub same_counts : (drops : List Dropped) (old new : Trees R) → Eliminates ranks base old drops new → (label : ℕ)
        → leaves_of (new label) ≡ leaves_of (old label)
    same_counts [] old new same label = ap leaves_of (same label)
    same_counts (dropped ∷ rest) old new legal label =
        same_counts rest (without_dropped old dropped) new legal.1 label ∙ same_count old dropped label
