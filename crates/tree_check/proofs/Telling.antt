-- What a label was told of the drops: it stays so behind each further drop, and a label that was told of all is supported.
use Rattle.std.proofs.Common.{◌≡◌, inl, inr, ℕ, zero, suc, ◌+◌, ◌<◌, ◌≤◌, List, [], ◌∷◌, ◌++◌, map, length, slice_index_or, slice_set, All, Contains, Option, None, Some, refl, sym, ap, subst, ◌∙◌, arith}
use Rattle.std.proofs.Math.Path.{fun_ext}
use Rattle.std.proofs.lemmas.Bool.Decides.{eqb_tells}
use Rattle.std.proofs.lemmas.List.{append_assoc, append-nil, get_or-set_other, get_or-set_same, length-append}
use Rattle.std.proofs.lemmas.List.Elements.{All-weaker}
use Rattle.std.proofs.lemmas.Option.{same_Some}
use Rattle.linear_cons.specs.declared.affine.Affine.{Affine}
use Rattle.decision_tree.specs.declared.rank.Rank.{Ghosts as Ranks}
use Rattle.decision_tree.specs.Paths.{leaf_numbered}
use Rattle.decision_tree.specs.Plans.{Plan, leaves_of}
use Rattle.tree_support.specs.declared.dropped.Dropped.{Dropped}
use Rattle.tree_support.specs.Elimination.{Eliminates, IsElsewhere, cause_of, without_dropped}
use Rattle.tree_support.specs.Arcs.{Arc, rows_given}
use Rattle.constraint_stack.specs.Forming.{Formed, given}
use Rattle.tree_support.specs.Setting.{Setting, Trees, trees_in}
use Rattle.constraint_stack.specs.Claims.{HasNoStore, System}
use Rattle.tree_support.specs.Systems.{region, systems}
use Rattle.tree_support.proofs.Dropping.{same_count, unchanged}
use Rattle.tree_support.proofs.Lists.{all_none}
use Rattle.tree_check.specs.Rounds.{Advances, AreElsewhere, IsSupportedAt, LeadsElsewhere}
use Rattle.tree_check.specs.Surveys.{IsAside}
use Rattle.tree_check.specs.Telling.{AreCleared, AreTold, IsLeafTold, IsSettled, IsTold, arcs_followed, paths_in, renewed}
use Rattle.tree_check.proofs.Collecting.{same_default}
use Rattle.tree_check.proofs.Narrowing.{followed_elsewhere}
use Rattle.tree_check.proofs.Renewing.{gone, leaf_gone, path_stays, systems_renewed}

module _ {X : Type 0} where
  -- what stands in a list stands there when others come behind it
  pub still_numbered : (xs ys : List X) (k : ℕ) (d : X) → k < length xs → slice_index_or (xs ++ ys) k d ≡ slice_index_or xs k d
  still_numbered [] ys k d low = absurd (omega (arith, low))
  still_numbered (x ∷ xs) ys zero d low = refl
  still_numbered (x ∷ xs) ys (suc k) d low = still_numbered xs ys k d (omega (arith, low))

  pub last_numbered : (xs : List X) (y d : X) → slice_index_or (xs ++ y ∷ []) (length xs) d ≡ y
  last_numbered [] y d = refl
  last_numbered (x ∷ xs) y d = last_numbered xs y d

module _ {R : Type 0} (ranks : Ranks R) (at : Setting R) where
  settled_more : (drops : List Dropped) (d : Dropped) (from : ℕ) (arcs : List Arc) (asks : List Formed) (paths : ℕ → ℕ → List Affine) (s : System R)
      → IsSettled ranks at drops from arcs asks paths s → IsSettled ranks at (drops ++ d ∷ []) from arcs asks paths s
  settled_more drops d from arcs asks paths s (inl none) = inl none
  settled_more drops d from arcs asks paths s (inr owed) = inr (record {
    number = owed.number;
    later = owed.later;
    listed = (let count = length-append drops (d ∷ []) in let low = owed.listed in omega (arith, count, low));
    drop_of = owed.drop_of;
    numbered = λ e. still_numbered drops (d ∷ []) owed.number e owed.listed ∙ owed.numbered e;
    arc = owed.arc;
    follows = owed.follows;
    leads = owed.leads;
    is = owed.is;
  })

  -- ---- a leaf is given up

  paths_stay : (family : Trees R) (d : Dropped) → paths_in ranks at (without_dropped family d) ≡ paths_in ranks at family
  paths_stay family d = fun_ext (λ label. fun_ext (λ place. path_stays family d label place))

  told_elsewhere : (family : Trees R) (drops : List Dropped) (d : Dropped) (from label place : ℕ) → d.leaf < leaves_of (family d.label)
      → from ≤ length drops → place < leaves_of (family label) → IsElsewhere label place d → IsLeafTold ranks at family drops from label place
      → IsLeafTold ranks at (without_dropped family d) (drops ++ d ∷ []) from label place
  told_elsewhere family drops d from label place low count below other told =
      let longer = drops ++ d ∷ [] in
      let arcs = arcs_followed at (leaf_numbered (family label) place) label in
      let asks = region at (family label) label place in
      let now = without_dropped family d in
      let Is : System R → Type 0 = IsSettled ranks at longer from arcs asks (paths_in ranks at family) in
      let before : All Is (systems at family label place) =
      All-weaker (IsSettled ranks at drops from arcs asks (paths_in ranks at family)) Is
      (settled_more drops d from arcs asks (paths_in ranks at family)) (systems at family label place) told in
      let after : All Is (systems at now label place) =
      systems_renewed Is at family d low label place below
      (λ alive arc inside leads. inr (record {
        number = length drops;
        later = count;
        listed = (let more = length-append drops (d ∷ []) in omega (arith, more));
        drop_of = d;
        numbered = λ e. last_numbered drops d e;
        arc = arc;
        follows = inside;
        leads = leads;
        is = refl;
      })) before in
      subst (λ paths. All (IsSettled ranks at longer from (arcs_followed at (leaf_numbered (now label) place) label) (region at (now label) label place) paths) (systems at now label place))
      (sym (paths_stay family d))
      (subst (λ end. All (IsSettled ranks at longer from (arcs_followed at end label) (region at (now label) label place) (paths_in ranks at family)) (systems at now label place))
      (sym (unchanged family d low label place below other))
      (subst (λ path. All (IsSettled ranks at longer from arcs (rows_given (at.rows label) ++ map given path) (paths_in ranks at family)) (systems at now label place))
      (sym (path_stays family d label place)) after))

  told_here : (family : Trees R) (drops : List Dropped) (from : ℕ) (d : Dropped) → IsLeafTold ranks at (without_dropped family d) drops from d.label d.leaf
  told_here family drops from d =
      let now = without_dropped family d in
      gone
      (IsSettled ranks at drops from (arcs_followed at (leaf_numbered (now d.label) d.leaf) d.label) (region at (now d.label) d.label d.leaf) (paths_in ranks at now))
      at family d (at.dead d.label) (leaf_numbered (now d.label) d.leaf) now (cause_of d.reason) d.label (region at (now d.label) d.label d.leaf) (leaf_gone family d)

  told_behind_drop : (family : Trees R) (drops : List Dropped) (d : Dropped) (from label : ℕ) → d.leaf < leaves_of (family d.label)
      → IsTold ranks at family drops from label → IsTold ranks at (without_dropped family d) (drops ++ d ∷ []) from label
  told_behind_drop family drops d from label low told = (
    (let count = length-append drops (d ∷ []) in let few = told.0 in omega (arith, count, few)),
    λ place below_now.
        let same = same_count family d label in
        let below : place < leaves_of (family label) = omega (arith, same, below_now) in
        elim (eqb_tells label d.label) [
          | inl here ↦ elim (eqb_tells place d.leaf) [
            | inl leaf_is ↦
                subst (λ l. IsLeafTold ranks at (without_dropped family d) (drops ++ d ∷ []) from l place) (sym here.1)
                (subst (λ p. IsLeafTold ranks at (without_dropped family d) (drops ++ d ∷ []) from d.label p) (sym leaf_is.1)
                (told_here family (drops ++ d ∷ []) from d))
            | inr apart ↦ told_elsewhere family drops d from label place low told.0 below (λ both. apart.1 (sym both.1)) (told.1 place below)
          ]
          | inr apart ↦ told_elsewhere family drops d from label place low told.0 below (λ both. apart.1 (sym both.0)) (told.1 place below)
        ],
  )

  -- a legal elimination keeps what was told of all labels
  pub told_behind : (more drops : List Dropped) (old new : Trees R) (from label : ℕ) → Eliminates ranks at old more new
      → IsTold ranks at old drops from label → IsTold ranks at new (drops ++ more) from label
  told_behind [] drops old new from label same told =
      subst (λ family. IsTold ranks at family (drops ++ []) from label) (sym (fun_ext same))
      (subst (λ list. IsTold ranks at old list from label) (sym (append-nil drops)) told)
  told_behind (d ∷ rest) drops old new from label legal told =
      subst (λ list. IsTold ranks at new list from label) (append_assoc drops (d ∷ []) rest)
      (told_behind rest (drops ++ d ∷ []) (without_dropped old d) new from label legal.1
      (told_behind_drop old drops d from label legal.0.leaf_in told))

  -- ---- a label is surveyed

  pub told_by_survey : (family : Trees R) (drops : List Dropped) (label : ℕ) → IsSupportedAt ranks at family label
      → IsTold ranks at family drops (length drops) label
  told_by_survey family drops label supported = (
    omega arith,
    λ place below. All-weaker (HasNoStore ranks)
        (IsSettled ranks at drops (length drops) (arcs_followed at (leaf_numbered (family label) place) label) (region at (family label) label place) (paths_in ranks at family))
        (λ s none. inl none) (systems at family label place) (supported place below),
  )

  -- ---- a label is told of the next drop: what it made new was looked at

  settled_next : (drops : List Dropped) (d : Dropped) (from : ℕ) → ((e : Dropped) → slice_index_or drops from e ≡ d) → (arcs : List Arc)
      (asks : List Formed) (paths : ℕ → ℕ → List Affine)
      → ((arc : Arc) → Contains arcs arc → arc.target ≡ d.label → HasNoStore ranks (renewed asks (paths arc.target d.leaf) arc))
      → (s : System R) → IsSettled ranks at drops from arcs asks paths s → IsSettled ranks at drops (from + 1) arcs asks paths s
  settled_next drops d from is arcs asks paths seen s (inl none) = inl none
  settled_next drops d from is arcs asks paths seen s (inr owed) = elim (eqb_tells owed.number from) [
    | inl same ↦
        let here : owed.drop_of ≡ d = sym (owed.numbered d) ∙ ap (λ k. slice_index_or drops k d) same.1 ∙ is d in
        inl (subst (HasNoStore ranks) (sym owed.is)
        (subst (λ (x : Dropped). HasNoStore ranks (renewed asks (paths owed.arc.target x.leaf) owed.arc)) (sym here)
        (seen owed.arc owed.follows (owed.leads ∙ ap (λ (x : Dropped). x.label) here))))
    | inr apart ↦ inr (record {
      number = owed.number;
      later = (let later = owed.later in let differ = apart.1 in omega (arith, later, differ));
      listed = owed.listed;
      drop_of = owed.drop_of;
      numbered = owed.numbered;
      arc = owed.arc;
      follows = owed.follows;
      leads = owed.leads;
      is = owed.is;
    })
  ]

  pub told_next : (family : Trees R) (drops : List Dropped) (d : Dropped) (from label : ℕ) → from < length drops
      → ((e : Dropped) → slice_index_or drops from e ≡ d)
      → AreCleared ranks at family (Some d) label [] → IsTold ranks at family drops from label → IsTold ranks at family drops (from + 1) label
  told_next family drops d from label low is seen told = (
    omega (arith, low),
    λ place below.
        let arcs = arcs_followed at (leaf_numbered (family label) place) label in
        let asks = region at (family label) label place in
        elim (seen place below (all_none (IsAside place))) [
          | inl none ↦
              All-weaker (HasNoStore ranks) (IsSettled ranks at drops (from + 1) arcs asks (paths_in ranks at family)) (λ s held. inl held)
              (systems at family label place) none
          | inr renewed_seen ↦
              All-weaker (IsSettled ranks at drops from arcs asks (paths_in ranks at family)) (IsSettled ranks at drops (from + 1) arcs asks (paths_in ranks at family))
              (settled_next drops d from is arcs asks (paths_in ranks at family) renewed_seen) (systems at family label place) (told.1 place below)
        ],
  )

  -- ---- all drops were told

  nothing_owed : (drops : List Dropped) (from : ℕ) → length drops ≤ from → (arcs : List Arc) (asks : List Formed) (paths : ℕ → ℕ → List Affine)
      (s : System R) → IsSettled ranks at drops from arcs asks paths s → HasNoStore ranks s
  nothing_owed drops from end arcs asks paths s (inl none) = none
  nothing_owed drops from end arcs asks paths s (inr owed) = absurd (let later = owed.later in let low = owed.listed in omega (arith, end, later, low))

  pub told_of_all : (family : Trees R) (drops : List Dropped) (from label : ℕ) → length drops ≤ from → IsTold ranks at family drops from label
      → IsSupportedAt ranks at family label
  told_of_all family drops from label end told = λ place below.
      All-weaker
      (IsSettled ranks at drops from (arcs_followed at (leaf_numbered (family label) place) label) (region at (family label) label place) (paths_in ranks at family))
      (HasNoStore ranks)
      (nothing_owed drops from end (arcs_followed at (leaf_numbered (family label) place) label) (region at (family label) label place) (paths_in ranks at family))
      (systems at family label place) (told.1 place below)

  -- or those that weren't make nothing new at the label
  elsewhere_settled : (drops : List Dropped) (from label : ℕ) → AreElsewhere at label from drops → (end : Plan R) (asks : List Formed)
      (paths : ℕ → ℕ → List Affine) (s : System R) → IsSettled ranks at drops from (arcs_followed at end label) asks paths s → HasNoStore ranks s
  elsewhere_settled drops from label elsewhere end asks paths s (inl none) = none
  elsewhere_settled drops from label elsewhere end asks paths s (inr owed) =
      absurd (followed_elsewhere at label (slice_index_or drops owed.number owed.drop_of).label (elsewhere owed.number owed.drop_of owed.later owed.listed)
      end owed.arc owed.follows (owed.leads ∙ ap (λ (d : Dropped). d.label) (sym (owed.numbered owed.drop_of))))

  pub elsewhere_supported : (family : Trees R) (drops : List Dropped) (from label : ℕ) → AreElsewhere at label from drops
      → IsTold ranks at family drops from label → IsSupportedAt ranks at family label
  elsewhere_supported family drops from label elsewhere told = λ place below.
      All-weaker
      (IsSettled ranks at drops from (arcs_followed at (leaf_numbered (family label) place) label) (region at (family label) label place) (paths_in ranks at family))
      (HasNoStore ranks)
      (elsewhere_settled drops from label elsewhere (leaf_numbered (family label) place) (region at (family label) label place) (paths_in ranks at family))
      (systems at family label place) (told.1 place below)

  pub elsewhere_next : (drops : List Dropped) (from n label : ℕ) (e : Dropped) → n < length drops → LeadsElsewhere at label (slice_index_or drops n e).label
      → ((number : ℕ) (d : Dropped) → from ≤ number → number < n → LeadsElsewhere at label (slice_index_or drops number d).label)
      → (number : ℕ) (d : Dropped) → from ≤ number → number < n + 1 → LeadsElsewhere at label (slice_index_or drops number d).label
  elsewhere_next drops from n label e low here before number d later below = elim (eqb_tells number n) [
    | inl same ↦
        subst (λ k. LeadsElsewhere at label (slice_index_or drops k d).label) (sym same.1)
        (subst (λ (x : Dropped). LeadsElsewhere at label x.label) (same_default drops n e d low) here)
    | inr apart ↦ before number d later (let differ = apart.1 in omega (arith, below, differ))
  ]

  -- ---- all labels

  pub still_told : (old new : List (Plan R)) (drops dropped : List Dropped) (from label : ℕ) → Advances ranks at old drops new dropped
      → IsTold ranks at (trees_in old) drops from label → IsTold ranks at (trees_in new) dropped from label
  still_told old new drops dropped from label advances told =
      subst (λ list. IsTold ranks at (trees_in new) list from label) (sym advances.listed)
      (told_behind advances.more drops (trees_in old) (trees_in new) from label advances.legal told)

  -- the same behind what was given up by then: the drop stands in the longer list where it stood
  pub next_told : (old new : List (Plan R)) (drops dropped : List Dropped) (d e : Dropped) (from label : ℕ) → Advances ranks at old drops new dropped
      → from < length drops → d ≡ slice_index_or drops from e → AreCleared ranks at (trees_in new) (Some d) label []
      → IsTold ranks at (trees_in old) drops from label → IsTold ranks at (trees_in new) dropped (from + 1) label
  next_told old new drops dropped d e from label advances low is seen told =
      let count = ap length advances.listed ∙ length-append drops advances.more in
      told_next (trees_in new) dropped d from label (omega (arith, count, low))
      (λ x. ap (λ list. slice_index_or list from x) advances.listed ∙ still_numbered drops advances.more from x low
      ∙ same_default drops from x e low ∙ sym is)
      seen (still_told old new drops dropped from label advances told)

  pub all_still_told : (old new : List (Plan R)) (drops dropped : List Dropped) (told : List (Option ℕ)) → Advances ranks at old drops new dropped
      → AreTold ranks at (trees_in old) drops told → AreTold ranks at (trees_in new) dropped told
  all_still_told old new drops dropped told advances are label from is = still_told old new drops dropped from label advances (are label from is)

  told_set : (family : Trees R) (drops : List Dropped) (told : List (Option ℕ)) (label : ℕ) (heard : Option ℕ) → label < length told
      → AreTold ranks at family drops told → ((from : ℕ) → heard ≡ Some from → IsTold ranks at family drops from label)
      → AreTold ranks at family drops (slice_set told label heard)
  told_set family drops told label heard low are here = λ other from is. elim (eqb_tells other label) [
    | inl same ↦
        subst (λ l. IsTold ranks at family drops from l) (sym same.1)
        (here from (sym (get_or-set_same told label heard None low) ∙ ap (λ l. slice_index_or (slice_set told label heard) l None) (sym same.1) ∙ is))
    | inr apart ↦ are other from (sym (get_or-set_other told label other heard None apart.1) ∙ is)
  ]

  pub told_none : (family : Trees R) (drops : List Dropped) (told : List (Option ℕ)) (label : ℕ) → label < length told
      → AreTold ranks at family drops told → AreTold ranks at family drops (slice_set told label None)
  told_none family drops told label low are = told_set family drops told label None low are (λ from is. absurd (cc))

  pub told_some : (family : Trees R) (drops : List Dropped) (told : List (Option ℕ)) (label from : ℕ) → label < length told
      → AreTold ranks at family drops told → IsTold ranks at family drops from label → AreTold ranks at family drops (slice_set told label (Some from))
  told_some family drops told label from low are here =
      told_set family drops told label (Some from) low are (λ number is. subst (λ n. IsTold ranks at family drops n label) (same_Some from number is) here)

  pub told_nothing : (family : Trees R) (drops : List Dropped) (told : List (Option ℕ)) → ((label : ℕ) → slice_index_or told label None ≡ None)
      → AreTold ranks at family drops told
  told_nothing family drops told none label from is = absurd (let both : None ≡ Some from = sym (none label) ∙ is in cc)

pub untold_more : (told : List (Option ℕ)) (label : ℕ) → ((label : ℕ) → slice_index_or told label None ≡ None)
    → slice_index_or (told ++ None ∷ []) label None ≡ None
untold_more [] zero none = refl
untold_more [] (suc label) none = refl
untold_more (first ∷ told) zero none = none 0
untold_more (first ∷ told) (suc label) none = untold_more told label (λ l. none (suc l))
