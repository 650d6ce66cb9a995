-- The leaves that one survey found, given up one after the other where no arc leads from the label to itself: what was found of the others stands.
use Rattle.std.proofs.Common.{◌≡◌, ◌≢◌, inl, inr, ℕ, zero, suc, ◌+◌, ◌<◌, ◌≤◌, Bool, true, false, if◌then◌else◌, List, [], ◌∷◌, ◌++◌, length, map, slice_index_or, All, Contains, Option, None, Some, refl, sym, ap, subst, ◌∙◌, arith}
use Rattle.std.proofs.Math.Path.{fun_ext}
use Rattle.std.proofs.lemmas.Bool.Decides.{eqb_tells}
use Rattle.decision_tree.specs.declared.rank.Rank.{Ghosts as Ranks}
use Rattle.decision_tree.specs.declared.reason.Cause.{Cause}
use Rattle.decision_tree.specs.Paths.{leaf_numbered, path_of}
use Rattle.decision_tree.specs.Plans.{Plan, leaves_of, top}
use Rattle.tree_support.specs.declared.dropped.Dropped.{Dropped}
use Rattle.tree_support.specs.Elimination.{Eliminates, cause_of, without_dropped}
use Rattle.tree_support.specs.Arcs.{Arc, rows_given}
use Rattle.constraint_stack.specs.Forming.{Formed, given}
use Rattle.tree_support.specs.Setting.{Setting, Trees, trees_in}
use Rattle.constraint_stack.specs.Claims.{HasNoStore, System}
use Rattle.tree_support.specs.Systems.{of_leaf, region, systems}
use Rattle.tree_support.proofs.Dropping.{changes, listed, same_counts, same_paths, unchanged}
use Rattle.tree_support.proofs.Lists.{all_first, all_none}
use Rattle.tree_support.proofs.Readers.{IsSameAhead, leaf_same}
use Rattle.constraint_stack.specs.Searches.{Finds}
use Rattle.tree_check.specs.declared.survey.Refuted.{Refuted}
use Rattle.tree_check.specs.declared.survey.Span.{Span}
use Rattle.tree_check.specs.Rounds.{Advances, IsSupportedAt, LeadsElsewhere, dropped_by, without_refuted}
use Rattle.tree_check.specs.Surveys.{AreApart, IsAside, IsFound, IsReviewed}
use Rattle.tree_check.specs.Telling.{AreCleared, IsCleared, IsRenewed, arcs_followed, renewed}
use Rattle.tree_check.proofs.Renewing.{path_stays}
use Rattle.tree_check.proofs.Settling.{advances_more, dropped_tree}
use Rattle.tree_check.proofs.Surveying.{not_beyond}

-- what stands in a list stands there whatever stands past its end
pub same_default : {X : Type 0} (found : List X) (from : ℕ) (d e : X) → from < length found → slice_index_or found from d ≡ slice_index_or found from e
same_default [] from d e low = absurd (omega (arith, low))
same_default (first ∷ rest) zero d e low = refl
same_default (first ∷ rest) (suc from) d e low = same_default rest from d e (omega (arith, low))

module _ {R : Type 0} (ranks : Ranks R) (at : Setting R) (label : ℕ) where
  -- ---- one leaf is given up

  module _ (elsewhere : LeadsElsewhere at label label) (family : Trees R) (refuted : Refuted) (found : IsFound ranks at family label refuted) where
    abbrev now : Trees R
    now = without_dropped family (dropped_by label refuted)

    legal : Eliminates ranks at family (dropped_by label refuted ∷ []) now
    legal = (
      record {
        leaf_in = found.0;
        system = found.1.system;
        system_in = found.1.system_in;
        edge = found.1.edge;
        justified = found.1.justified;
      },
      λ l. refl,
    )

    same_count : leaves_of (now label) ≡ leaves_of (family label)
    same_count = same_counts ranks at (dropped_by label refuted ∷ []) family now legal label

    same_target : (arc : Arc) → arc.target ≢ label → now arc.target ≡ family arc.target
    same_target arc apart = elim (changes family (dropped_by label refuted) arc.target) [
      | inl same ↦ absurd (apart same.0)
      | inr other ↦ other.1
    ]

    ahead : IsSameAhead at family now label
    ahead = record {
      every = λ arc inside. same_target arc (elsewhere.every arc inside);
      outcomes = λ outcome arc inside. same_target arc (elsewhere.outcomes outcome arc inside);
      values = λ a arc inside. same_target arc (elsewhere.values a arc inside);
    }

    -- the systems of the label's other leaves are as they were
    systems_same : (place : ℕ) → place < leaves_of (family label) → place ≢ refuted.leaf → systems at now label place ≡ systems at family label place
    systems_same place below apart =
        ap (λ path. if at.dead label then [] else of_leaf at (leaf_numbered (now label) place) now label (rows_given (at.rows label) ++ map (λ a. given a) path))
        (same_paths ranks at (dropped_by label refuted ∷ []) family now legal label place)
        ∙ ap (λ (end : Plan R). if at.dead label then [] else of_leaf at end now label (region at (family label) label place))
        (unchanged family (dropped_by label refuted) found.0 label place below (λ both. apart (sym both.1)))
        ∙ ap (λ (all : List (System R)). if at.dead label then [] else all)
        (leaf_same at family now (leaf_numbered (family label) place) label (region at (family label) label place) ahead)

    found_still : (other : Refuted) → other.leaf ≢ refuted.leaf → IsFound ranks at family label other → IsFound ranks at now label other
    found_still other apart before = (
      (let count = same_count in let low = before.0 in omega (arith, count, low)),
      subst (λ all. Finds ranks all other.finding) (sym (systems_same other.leaf before.0 apart)) before.1,
    )

    -- the leaf that is given up has no systems any more
    without_systems : (dead : Bool) (end : Plan R) (cause : Cause) (asks : List Formed) → end ≡ top cause
        → All (HasNoStore ranks) (if dead then [] else of_leaf at end now label asks)
    without_systems true end cause asks is = all_none (HasNoStore ranks)
    without_systems false end cause asks is = subst (λ (e : Plan R). All (HasNoStore ranks) (of_leaf at e now label asks)) (sym is) (all_none (HasNoStore ranks))

    given_up : leaf_numbered (now label) refuted.leaf ≡ top (cause_of refuted.finding.reason)
    given_up =
        all_first (λ dropped. leaf_numbered (now dropped.label) dropped.leaf ≡ top (cause_of dropped.reason)) (dropped_by label refuted) []
        (listed ranks at (dropped_by label refuted ∷ []) family now legal).0

    renewed_still : (d : Dropped) (place : ℕ) → place < leaves_of (family label) → place ≢ refuted.leaf → IsRenewed ranks at family d label place
        → IsRenewed ranks at now d label place
    renewed_still d place below apart before = λ arc inside leads.
        subst (λ path. HasNoStore ranks (renewed (region at (now label) label place) path arc)) (sym (path_stays family (dropped_by label refuted) arc.target d.leaf))
        (subst (λ path. HasNoStore ranks (renewed (rows_given (at.rows label) ++ map (λ a. given a) path) (path_of (family arc.target) d.leaf) arc))
        (sym (path_stays family (dropped_by label refuted) label place))
        (before arc
        (subst (λ (end : Plan R). Contains (arcs_followed at end label) arc)
        (unchanged family (dropped_by label refuted) found.0 label place below (λ both. apart (sym both.1))) inside) leads))

    none_here : (place : ℕ) → place ≡ refuted.leaf → All (HasNoStore ranks) (systems at now label place)
    none_here place same =
        subst (λ p. All (HasNoStore ranks) (systems at now label p)) (sym same)
        (without_systems (at.dead label) (leaf_numbered (now label) refuted.leaf) (cause_of refuted.finding.reason) (region at (now label) label refuted.leaf) given_up)

    none_still : (place : ℕ) → place < leaves_of (family label) → place ≢ refuted.leaf → All (HasNoStore ranks) (systems at family label place)
        → All (HasNoStore ranks) (systems at now label place)
    none_still place below apart before = subst (All (HasNoStore ranks)) (sym (systems_same place below apart)) before

    either_still : (d : Dropped) (place : ℕ) → place < leaves_of (family label) → place ≢ refuted.leaf
        → IsCleared ranks at family (Some d) label place → IsCleared ranks at now (Some d) label place
    either_still d place below apart (inl none) = inl (none_still place below apart none)
    either_still d place below apart (inr renewed_before) = inr (renewed_still d place below apart renewed_before)

    cleared_still : (told : Option Dropped) (place : ℕ) → place < leaves_of (family label)
        → (place ≢ refuted.leaf → IsCleared ranks at family told label place) → IsCleared ranks at now told label place
    cleared_still None place below before = elim (eqb_tells place refuted.leaf) [
      | inl same ↦ none_here place same.1
      | inr apart ↦ none_still place below apart.1 (before apart.1)
    ]
    cleared_still (Some d) place below before = elim (eqb_tells place refuted.leaf) [
      | inl same ↦ inl (none_here place same.1)
      | inr apart ↦ either_still d place below apart.1 (before apart.1)
    ]

  -- ---- all of them, one after the other

  -- from one of the found leaves on there is a reason against each, and the leaves that aren't among these are clear, where those of the family
  -- at first were that aren't among all
  pub record AreLeft (first family : Trees R) (from : ℕ) (found : List Refuted) : Type 0 where
    pub each : (k : ℕ) (d : Refuted) → from ≤ k → k < length found → IsFound ranks at family label (slice_index_or found k d)
    pub others : (told : Option Dropped) → AreCleared ranks at first told label found → (place : ℕ) → place < leaves_of (family label)
        → ((k : ℕ) (d : Refuted) → from ≤ k → k < length found → (slice_index_or found k d).leaf ≢ place)
        → IsCleared ranks at family told label place

  pub left_first : (family : Trees R) (found : List Refuted) → All (λ refuted. IsFound ranks at family label refuted) found → AreLeft family family 0 found
  left_first family found each = record {
    each = λ k d from low. each k d low;
    others = λ told cleared place low aside. cleared place low (λ k d below. aside k d (omega arith) below);
  }

  left_after : LeadsElsewhere at label label → (first family : Trees R) (found : List Refuted) (from : ℕ) (refuted : Refuted) → from < length found
      → ((d : Refuted) → slice_index_or found from d ≡ refuted) → AreApart found → AreLeft first family from found
      → AreLeft first (without_dropped family (dropped_by label refuted)) (from + 1) found
  left_after elsewhere first family found from refuted low is apart left =
      let here : IsFound ranks at family label refuted = subst (IsFound ranks at family label) (is refuted) (left.each from refuted (omega arith) low) in
      let count = same_count elsewhere family refuted here in
      record {
        each = λ k d later below.
            found_still elsewhere family refuted here (slice_index_or found k d)
            (subst (λ (r : Refuted). (slice_index_or found k d).leaf ≢ r.leaf) (is d)
            (let less = apart from k d (omega (arith, later)) below in λ same. omega (arith, less, same)))
            (left.each k d (omega (arith, later)) below);
        others = λ told cleared place less aside.
            let inside : place < leaves_of (family label) = omega (arith, count, less) in
            cleared_still elsewhere family refuted here told place inside (λ other. left.others told cleared place inside (λ k d later below.
            elim (eqb_tells k from) [
              | inl same ↦ λ equal. other (sym equal ∙ ap (λ (r : Refuted). r.leaf) (ap (λ n. slice_index_or found n d) same.1 ∙ is d))
              | inr beyond ↦ aside k d (let differ = beyond.1 in omega (arith, later, differ)) below
            ]));
      }

  -- the trees behind one more of them
  left_next : LeadsElsewhere at label label → (first now new : List (Plan R)) (found : List Refuted) (from : ℕ) (refuted : Refuted) → label < length now
      → from < length found → refuted ≡ slice_index_or found from refuted → AreApart found → new ≡ without_refuted now label refuted
      → AreLeft (trees_in first) (trees_in now) from found → AreLeft (trees_in first) (trees_in new) (from + 1) found
  left_next elsewhere first now new found from refuted inside low is apart given_is left =
      subst (λ (family : Trees R). AreLeft (trees_in first) family (from + 1) found)
      (fun_ext (λ l. sym (dropped_tree now label refuted inside l)) ∙ ap (λ plans. trees_in plans) (sym given_is))
      (left_after elsewhere (trees_in first) (trees_in now) found from refuted low (λ d. same_default found from d refuted low ∙ sym is) apart left)

  left_found : (first family : Trees R) (found : List Refuted) (from : ℕ) (refuted : Refuted) → from < length found
      → refuted ≡ slice_index_or found from refuted → AreLeft first family from found → IsFound ranks at family label refuted
  left_found first family found from refuted low is left = subst (IsFound ranks at family label) (sym is) (left.each from refuted (omega arith) low)

  pub one_more : LeadsElsewhere at label label → (old now new : List (Plan R)) (drops listed longer : List Dropped) (found : List Refuted) (from : ℕ)
      (refuted : Refuted) → label < length old → from < length found → refuted ≡ slice_index_or found from refuted → AreApart found
      → Advances ranks at old drops now listed → AreLeft (trees_in old) (trees_in now) from found
      → longer ≡ listed ++ dropped_by label refuted ∷ [] → new ≡ without_refuted now label refuted
      → Advances ranks at old drops new longer × AreLeft (trees_in old) (trees_in new) (from + 1) found
  one_more elsewhere old now new drops listed longer found from refuted inside low is apart advances left longer_is given_is =
      let labels = advances.labels in (
        advances_more ranks at old now new drops listed longer label refuted advances inside
            (left_found (trees_in old) (trees_in now) found from refuted low is left) longer_is given_is,
        left_next elsewhere old now new found from refuted (omega (arith, inside, labels)) low is apart given_is left,
      )

  -- behind the last each leaf of the label is clear
  pub left_none : (first family : Trees R) (found : List Refuted) (from : ℕ) → length found ≤ from → AreLeft first family from found
      → (told : Option Dropped) → AreCleared ranks at first told label found → AreCleared ranks at family told label []
  left_none first family found from end left told cleared = λ place low aside.
      left.others told cleared place low (λ k d later below. absurd (omega (arith, end, later, below)))

  -- ---- what a survey found

  pub reviewed_wholly : (family : Trees R) (span : Span) (within : List Formed) (found : List Refuted) → span.first ≡ 0 → span.collects ≡ true
      → span.narrows ≡ false → IsReviewed ranks at family label span within found → AreCleared ranks at family None label found
  reviewed_wholly family span within found start all whole reviewed = λ place low aside.
      not_beyond span.narrows within (path_of (family label) place) whole (reviewed.others (inl all) place low (omega (arith, start)) aside)

  pub cleared_supported : (family : Trees R) → AreCleared ranks at family None label [] → IsSupportedAt ranks at family label
  cleared_supported family cleared = λ place low. cleared place low (all_none (IsAside place))
