-- Refuted leaves given up, one after the other, are a legal elimination; each leaves one defined leaf fewer.
use Rattle.std.proofs.Common.{◌≡◌, ◌≢◌, inl, inr, ℕ, zero, suc, ◌+◌, ◌-◌, ◌<◌, ◌≤◌, Bool, true, false, cond, nat_lt, if◌then◌else◌, List, [], ◌∷◌, ◌++◌, length, map, take, drop, get_or, slice_set, All, Contains, None, Some, Result, Ok, Err, OnErr, refl, sym, ap, subst, ◌∙◌, arith}
use Rattle.std.proofs.Math.Path.{fun_ext}
use Rattle.std.proofs.Math.Nat.{eq-or-lt_of_le}
use Rattle.std.proofs.lemmas.Bool.{ltb-false, ltb-true}
use Rattle.std.proofs.lemmas.List.{append_assoc, append-nil, drop_all, ext_get_or, get_or-set_other, get_or-set_same, length-append, length-map, length-set, map-set, nil_from_length, take_all}
use Rattle.std.proofs.lemmas.List.Elements.{All-nil}
use Rattle.std.proofs.lemmas.List.Sums.{sum_by-set}
use Rattle.linear_cons.specs.declared.row.Row.{Row}
use Rattle.decision_tree.specs.declared.rank.Rank.{Ghosts as Ranks}
use Rattle.decision_tree.specs.declared.reason.Cause.{Cause}
use Rattle.decision_tree.specs.declared.tree.Tree.{Tree}
use Rattle.decision_tree.specs.Paths.{leaf_numbered, path_of, with_leaf}
use Rattle.decision_tree.specs.Plans.{Plan, bottom, branch, is_defined, leaf, leaves_of, plan_of, top}
use Rattle.tree_support.specs.declared.dropped.Dropped.{Dropped}
use Rattle.tree_support.specs.Elimination.{Eliminates, cause_of, without_dropped}
use Rattle.constraint_stack.specs.Forming.{Formed}
use Rattle.tree_support.specs.Setting.{Setting, Trees, trees_in}
use Rattle.constraint_stack.specs.Claims.{HasNoStore, System}
use Rattle.tree_support.specs.Systems.{of_leaf, region, systems}
use Rattle.tree_support.proofs.Dropping.{changes, same_counts}
use Rattle.tree_check.specs.Checking.{WasCutShort}
use Rattle.tree_check.specs.declared.survey.Refuted.{Refuted}
use Rattle.tree_check.specs.declared.survey.Span.{Span}
use Rattle.tree_check.specs.Rounds.{Advances, IsSupportedAt, defined_in, defined_of, dropped_by, without_refuted}
use Rattle.constraint_stack.specs.Searches.{Finds}
use Rattle.tree_check.proofs.Surveying.{not_beyond}
use Rattle.tree_check.specs.Surveys.{IsAside, IsFirst, IsFound, IsReviewed}

module _ {R : Type 0} where
  -- ---- one defined leaf fewer

  fewer_side : (row : Row) (this that first second : Plan R) (t : Bool) (n m : ℕ)
      → (t ≡ true → defined_of first + 1 ≡ defined_of this) → (t ≡ false → defined_of second + 1 ≡ defined_of that)
      → defined_of (cond t (branch row first that) (branch row this second)) + 1 ≡ defined_of this + defined_of that
  fewer_side row this that first second true n m near far = let here = near refl in omega (arith, here)
  fewer_side row this that first second false n m near far = let there = far refl in omega (arith, there)

  one_fewer : (plan : Plan R) (place : ℕ) (cause : Cause) → place < leaves_of plan → is_defined (leaf_numbered plan place) ≡ true
      → defined_of (with_leaf plan place (top cause)) + 1 ≡ defined_of plan
  one_fewer bottom place cause low defined = absurd (cc)
  one_fewer (top reason) place cause low defined = absurd (cc)
  one_fewer (leaf why rank) place cause low defined = refl
  one_fewer (branch row this that) place cause low defined =
      fewer_side row this that (with_leaf this place (top cause)) (with_leaf that (place - leaves_of this) (top cause)) (nat_lt place (leaves_of this)) 0 0
      (λ is. one_fewer this place cause (ltb-true place (leaves_of this) is) (rw is at defined))
      (λ is. let from = ltb-false place (leaves_of this) is in one_fewer that (place - leaves_of this) cause (omega (arith, low, from)) (rw is at defined))

  -- ---- the list of the trees

  pub plan_at : (trees : List (Tree R)) (label : ℕ) (tree : Tree R) → label < length trees → plan_of (get_or trees label tree) ≡ trees_in (map plan_of trees) label
  plan_at [] label tree low = absurd (omega arith)
  plan_at (first ∷ trees) zero tree low = refl
  plan_at (first ∷ trees) (suc label) tree low = plan_at trees label tree (omega (arith, low))

  pub plan_got : (trees : List (Tree R)) (label : ℕ) (tree : Tree R) → label < length trees → tree ≡ get_or trees label tree
      → plan_of tree ≡ trees_in (map plan_of trees) label
  plan_got trees label tree low is = ap plan_of is ∙ plan_at trees label tree low

  pub plans_given : (trees : List (Tree R)) (label : ℕ) (refuted : Refuted) (was tree : Tree R) (cause : Cause) → label < length trees
      → cause ≡ cause_of refuted.finding.reason → plan_of tree ≡ with_leaf (plan_of (get_or trees label was)) refuted.leaf (top cause)
      → map plan_of (slice_set trees label tree) ≡ without_refuted (map plan_of trees) label refuted
  plans_given trees label refuted was tree cause low is given =
      map-set plan_of trees label tree
      ∙ ap (λ plan. slice_set (map plan_of trees) label plan)
      (given ∙ ap (λ c. with_leaf (plan_of (get_or trees label was)) refuted.leaf (top c)) is
      ∙ ap (λ plan. with_leaf plan refuted.leaf (top (cause_of refuted.finding.reason))) (plan_at trees label was low))

  -- the trees without the leaf are the family without the drop
  pub dropped_tree : (plans : List (Plan R)) (label : ℕ) (refuted : Refuted) → label < length plans → (l : ℕ)
      → trees_in (without_refuted plans label refuted) l ≡ without_dropped (trees_in plans) (dropped_by label refuted) l
  dropped_tree plans label refuted low l = elim (changes (trees_in plans) (dropped_by label refuted) l) [
    | inl same ↦
        subst (λ k. trees_in (without_refuted plans label refuted) k ≡ with_leaf (trees_in plans k) refuted.leaf (top (cause_of refuted.finding.reason)))
        (sym same.0)
        (get_or-set_same plans label (with_leaf (trees_in plans label) refuted.leaf (top (cause_of refuted.finding.reason))) bottom low)
        ∙ sym same.1
    | inr apart ↦
        get_or-set_other plans label l (with_leaf (trees_in plans label) refuted.leaf (top (cause_of refuted.finding.reason))) bottom apart.0
        ∙ sym apart.1
  ]

  past_bottom : (plans : List (Plan R)) (label : ℕ) → length plans ≤ label → trees_in plans label ≡ bottom
  past_bottom [] label past = refl
  past_bottom (plan ∷ plans) zero past = absurd (omega (arith, past))
  past_bottom (plan ∷ plans) (suc label) past = past_bottom plans label (omega (arith, past))

  pub mapped_low : (trees : List (Tree R)) (label : ℕ) → label < length trees → label < length (map plan_of trees)
  mapped_low trees label low = rw (length-map trees plan_of) low

module _ {R : Type 0} (ranks : Ranks R) (at : Setting R) where
  -- a leaf with a system is defined
  defined_end : (dead : Bool) (end : Plan R) (family : Trees R) (label : ℕ) (asks : List Formed) (s : System R)
      → Contains (if dead then [] else of_leaf at end family label asks) s → is_defined end ≡ true
  defined_end true end family label asks s member = absurd (let low = member.1 in omega arith)
  defined_end false bottom family label asks s member = absurd (let low = member.1 in omega arith)
  defined_end false (top cause) family label asks s member = absurd (let low = member.1 in omega arith)
  defined_end false (branch row this that) family label asks s member = absurd (let low = member.1 in omega arith)
  defined_end false (leaf why rank) family label asks s member = refl

  one_less : (plans : List (Plan R)) (label : ℕ) (refuted : Refuted) → label < length plans → refuted.leaf < leaves_of (trees_in plans label)
      → Finds ranks (systems at (trees_in plans) label refuted.leaf) refuted.finding
      → defined_in (without_refuted plans label refuted) + 1 ≡ defined_in plans
  one_less plans label refuted low leaf_low finds =
      let defined = defined_end (at.dead label) (leaf_numbered (trees_in plans label) refuted.leaf) (trees_in plans) label
      (region at (trees_in plans label) label refuted.leaf) finds.system finds.system_in in
      let here = one_fewer (trees_in plans label) refuted.leaf (cause_of refuted.finding.reason) leaf_low defined in
      let all = sum_by-set defined_of plans label (with_leaf (trees_in plans label) refuted.leaf (top (cause_of refuted.finding.reason))) bottom low in
      omega (arith, here, all)

  -- ---- legal eliminations, one after the other

  pub advances_none : (plans : List (Plan R)) (drops : List Dropped) → Advances ranks at plans drops plans drops
  advances_none plans drops = record {
    more = [];
    listed = sym (append-nil drops);
    legal = λ label. refl;
    labels = refl;
    fewer = omega arith;
  }

  pub advances_one : (plans : List (Plan R)) (drops : List Dropped) (label : ℕ) (refuted : Refuted) → label < length plans
      → refuted.leaf < leaves_of (trees_in plans label) → Finds ranks (systems at (trees_in plans) label refuted.leaf) refuted.finding
      → Advances ranks at plans drops (without_refuted plans label refuted) (drops ++ dropped_by label refuted ∷ [])
  advances_one plans drops label refuted low leaf_low finds = record {
    more = dropped_by label refuted ∷ [];
    listed = refl;
    legal = (
      record { leaf_in = leaf_low; system = finds.system; system_in = finds.system_in; edge = finds.edge; justified = finds.justified },
      dropped_tree plans label refuted low,
    );
    labels = length-set plans label (with_leaf (trees_in plans label) refuted.leaf (top (cause_of refuted.finding.reason)));
    fewer = one_less plans label refuted low leaf_low finds;
  }

  eliminates_then : (drops more : List Dropped) (old mid new : Trees R) → Eliminates ranks at old drops mid → Eliminates ranks at mid more new
      → Eliminates ranks at old (drops ++ more) new
  eliminates_then [] more old mid new same legal = subst (λ family. Eliminates ranks at family more new) (fun_ext same) legal
  eliminates_then (dropped ∷ drops) more old mid new first legal =
      (first.0, eliminates_then drops more (without_dropped old dropped) mid new first.1 legal)

  pub advances_then : (old mid new : List (Plan R)) (drops dropped listed : List Dropped) → Advances ranks at old drops mid dropped
      → Advances ranks at mid dropped new listed → Advances ranks at old drops new listed
  advances_then old mid new drops dropped listed first second = record {
    more = first.more ++ second.more;
    listed = second.listed ∙ ap (λ front. front ++ second.more) first.listed ∙ append_assoc drops first.more second.more;
    legal = eliminates_then first.more second.more (trees_in old) (trees_in mid) (trees_in new) first.legal second.legal;
    labels = second.labels ∙ first.labels;
    fewer =
        let count = length-append first.more second.more in
        let here = first.fewer in
        let there = second.fewer in
        omega (arith, count, here, there);
  }

  -- the number of leaves stays
  pub leaves_stay : (old new : List (Plan R)) (drops dropped : List Dropped) → Advances ranks at old drops new dropped → (label : ℕ)
      → leaves_of (trees_in new label) ≡ leaves_of (trees_in old label)
  leaves_stay old new drops dropped advances label =
      same_counts ranks at advances.more (trees_in old) (trees_in new) advances.legal label

  -- where nothing was listed nothing has changed
  none_more : (drops more : List Dropped) → drops ≡ drops ++ more → more ≡ []
  none_more drops [] is = refl
  none_more drops (d ∷ more) is =
      absurd (let count = ap length is ∙ length-append drops (d ∷ more) in omega (arith, count))

  pub unchanged : (old new : List (Plan R)) (drops dropped : List Dropped) → Advances ranks at old drops new dropped → dropped ≡ drops → new ≡ old
  unchanged old new drops dropped advances is =
      let none : advances.more ≡ [] = none_more drops advances.more (sym is ∙ advances.listed) in
      let same : Eliminates ranks at (trees_in old) [] (trees_in new) =
      subst (λ more. Eliminates ranks at (trees_in old) more (trees_in new)) none advances.legal in
      ext_get_or bottom new old advances.labels (λ label low. same label)

  -- ---- the leaves at a label

  pub advances_more : (old now new : List (Plan R)) (drops listed longer : List Dropped) (label : ℕ) (refuted : Refuted)
      → Advances ranks at old drops now listed → label < length old → IsFound ranks at (trees_in now) label refuted
      → longer ≡ listed ++ dropped_by label refuted ∷ [] → new ≡ without_refuted now label refuted → Advances ranks at old drops new longer
  advances_more old now new drops listed longer label refuted advances low found is given =
      let labels = advances.labels in
      subst (λ all. Advances ranks at old drops new all) (sym is)
      (subst (λ plans. Advances ranks at old drops plans (listed ++ dropped_by label refuted ∷ [])) (sym given)
      (advances_then old now (without_refuted now label refuted) drops listed (listed ++ dropped_by label refuted ∷ []) advances
      (advances_one now listed label refuted (omega (arith, labels, low)) found.0 found.1)))

  pub fewer_defined : (old now new : List (Plan R)) (drops listed : List Dropped) (label : ℕ) (refuted : Refuted)
      → Advances ranks at old drops now listed → label < length old → IsFound ranks at (trees_in now) label refuted
      → new ≡ without_refuted now label refuted → defined_in new < defined_in now
  fewer_defined old now new drops listed label refuted advances low found given =
      let labels = advances.labels in
      let fewer = one_less now label refuted (omega (arith, labels, low)) found.0 found.1 in
      subst (λ plans. defined_in plans < defined_in now) (sym given) (omega (arith, fewer))

  pub not_same : (drops more listed longer : List Dropped) (d : Dropped) → listed ≡ drops ++ more → longer ≡ listed ++ d ∷ [] → longer ≢ drops
  not_same drops more listed longer d is longer_is same =
      let here = ap length is ∙ length-append drops more in
      let there = ap length longer_is ∙ length-append listed (d ∷ []) in
      let count = ap length same in
      omega (arith, here, there, count)

  pub supported_from_start : (family : Trees R) (label first : ℕ) → first ≡ 0 → IsFirst ranks at family label first None → IsSupportedAt ranks at family label
  supported_from_start family label first start reviewed = λ place low. reviewed place low (omega (arith, start))

  -- the first of the leaves that a survey found, which stopped there
  pub first_some : (family : Trees R) (label : ℕ) (span : Span) (within : List Formed) (found : List Refuted) (refuted : Refuted) → 0 < length found
      → refuted ≡ get_or found 0 refuted → IsReviewed ranks at family label span within found → IsFirst ranks at family label span.first (Some refuted)
  first_some family label span within found refuted low is reviewed = subst (IsFound ranks at family label) (sym is) (reviewed.each 0 refuted low)

  pub first_none : (family : Trees R) (label : ℕ) (span : Span) (within : List Formed) (found : List Refuted) → found ≡ [] → span.narrows ≡ false
      → IsReviewed ranks at family label span within found → IsFirst ranks at family label span.first None
  first_none family label span within found none whole reviewed = λ place low from.
      not_beyond span.narrows within (path_of (family label) place) whole
      (reviewed.others (inr none) place low from (subst (All (IsAside place)) (sym none) (All-nil (IsAside place))))

  -- ---- the labels

  pub dead_supported : (family : Trees R) (label : ℕ) → at.dead label ≡ true → IsSupportedAt ranks at family label
  dead_supported family label dead = λ place low.
      subst (λ d. All (HasNoStore ranks) (if d then [] else of_leaf at (leaf_numbered (family label) place) family label (region at (family label) label place)))
      (sym dead) (All-nil (HasNoStore ranks))

  no_systems : (dead : Bool) → All (HasNoStore ranks) (if dead then [] else [])
  no_systems true = All-nil (HasNoStore ranks)
  no_systems false = All-nil (HasNoStore ranks)

  -- past the last label no leaf is defined
  pub past_supported : (plans : List (Plan R)) (label : ℕ) → length plans ≤ label → IsSupportedAt ranks at (trees_in plans) label
  past_supported plans label past =
      subst (λ plan. (place : ℕ) → place < leaves_of plan → All (HasNoStore ranks) (if at.dead label then [] else of_leaf at (leaf_numbered plan place) (trees_in plans) label (region at plan label place)))
      (sym (past_bottom plans label past)) (λ place low. no_systems (at.dead label))

  pub listed_same : (drops listed longer more rest : List Dropped) → listed ≡ drops ++ more → longer ≡ listed ++ rest → longer ≡ drops → listed ≡ drops
  listed_same drops listed longer more rest is longer_is same =
      let here = ap length is ∙ length-append drops more in
      let there = ap length longer_is ∙ length-append listed rest in
      let count = ap length same in
      is ∙ ap (λ m. drops ++ m) (nil_from_length more (omega (arith, here, there, count))) ∙ append-nil drops

  -- what is supported behind the first of two eliminations that lists nothing, and the second's
  pub supported_still : (old now new : List (Plan R)) (drops listed longer : List Dropped) (label : ℕ) → Advances ranks at old drops now listed
      → Advances ranks at now listed new longer → longer ≡ drops → (listed ≡ drops → IsSupportedAt ranks at (trees_in now) label)
      → IsSupportedAt ranks at (trees_in new) label
  supported_still old now new drops listed longer label first second same supported =
      let is : listed ≡ drops = listed_same drops listed longer first.more second.more first.listed second.listed same in
      subst (λ plans. IsSupportedAt ranks at (trees_in plans) label) (sym (unchanged now new listed longer second (same ∙ sym is))) (supported is)

  -- one label more
  pub supported_more : (old now new : List (Plan R)) (drops listed longer : List Dropped) (from to : ℕ) → from ≤ to + 1
      → Advances ranks at old drops now listed → Advances ranks at now listed new longer → longer ≡ drops
      → (listed ≡ drops → (label : ℕ) → from ≤ label → IsSupportedAt ranks at (trees_in now) label)
      → (longer ≡ listed → IsSupportedAt ranks at (trees_in new) to) → (label : ℕ) → to ≤ label → IsSupportedAt ranks at (trees_in new) label
  supported_more old now new drops listed longer from to next first second same before here label low =
      elim (eq-or-lt_of_le low) [
        | inl is ↦
            subst (λ l. IsSupportedAt ranks at (trees_in new) l) is
            (here (same ∙ sym (listed_same drops listed longer first.more second.more first.listed second.listed same)))
        | inr above ↦ supported_still old now new drops listed longer label first second same (λ none. before none label (omega (arith, next, above)))
      ]

  pub same_length : (old new : List (Plan R)) (drops dropped : List Dropped) → Advances ranks at old drops new dropped
      → length dropped ≡ length drops → dropped ≡ drops
  same_length old new drops dropped advances is =
      let all = ap length advances.listed ∙ length-append drops advances.more in
      advances.listed ∙ ap (λ more. drops ++ more) (nil_from_length advances.more (omega (arith, all, is))) ∙ append-nil drops

  pub cut_short : (old new begun left : List (Plan R)) (drops dropped : List Dropped) → old ≡ begun → new ≡ left
      → Advances ranks at old drops new dropped → WasCutShort ranks at (trees_in begun) (trees_in left)
  cut_short old new begun left drops dropped first last advances = (
    advances.more,
    subst (λ plans. Eliminates ranks at (trees_in plans) advances.more (trees_in left)) first
        (subst (λ plans. Eliminates ranks at (trees_in old) advances.more (trees_in plans)) last advances.legal),
  )

pub on_err : {T E : Type 0} (P : Type 0) (result : Result T E) → P → OnErr result P
on_err P (Ok value) holds = tt
on_err P (Err error) holds = holds

-- a vector is what was written to all of it
pub written_back : {X : Type 0} (new old : List X) (count : ℕ) → length new ≡ length old → count ≡ length old
    → take count (new ++ drop (length new) old) ≡ new
written_back new old count same is =
    ap (λ rest. take count (new ++ rest)) (drop_all (length new) old (omega (arith, same)))
    ∙ ap (take count) (append-nil new)
    ∙ take_all count new (omega (arith, same, is))
