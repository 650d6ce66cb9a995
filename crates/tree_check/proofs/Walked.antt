-- A walk over a tree that gives up the found leaves as it comes to them leaves the tree without each of them, as they are given up one after the other.
use Rattle.std.proofs.Common.{◌≡◌, ◌≢◌, inl, inr, ℕ, zero, suc, ◌+◌, ◌-◌, ◌<◌, ◌≤◌, true, false, cond, nat_lt, List, [], ◌∷◌, ◌++◌, length, map, drop, slice_index_or, slice_set, get_or, All, Option, refl, sym, ap, subst, ◌∙◌, arith}
use Rattle.std.proofs.lemmas.Bool.{cases_lt, le-ltb, lt-ltb}
use Rattle.std.proofs.lemmas.List.{append_assoc, append-nil, drop_all, drop_more, get_or-set_same, length-append, map-append, map-set, set-get_or, set-set}
use Rattle.std.proofs.lemmas.List.Elements.{All-append, All-nil, All-tail, All-weaker}
use Rattle.linear_cons.specs.declared.row.Row.{Row}
use Rattle.decision_tree.specs.declared.rank.Rank.{Ghosts as Ranks}
use Rattle.decision_tree.specs.declared.tree.Tree.{Tree}
use Rattle.decision_tree.specs.Paths.{with_leaf}
use Rattle.decision_tree.specs.Plans.{IsEnd, Plan, bottom, branch, leaf, leaves_of, plan_of, top}
use Rattle.decision_tree.proofs.Replacing.{leaves_kept}
use Rattle.tree_support.specs.declared.dropped.Dropped.{Dropped}
use Rattle.tree_support.specs.Elimination.{cause_of}
use Rattle.tree_support.specs.Setting.{Setting, trees_in}
use Rattle.tree_support.proofs.Lists.{all_first, all_one}
use Rattle.tree_check.specs.declared.survey.Refuted.{Refuted}
use Rattle.tree_check.specs.Giving.{AreToCome, IsAmong, IsWalked, without_each}
use Rattle.tree_check.specs.Rounds.{Advances, LeadsElsewhere, dropped_by, without_refuted}
use Rattle.tree_check.specs.Surveys.{AreApart, IsFound}
use Rattle.tree_check.specs.Telling.{AreCleared}
use Rattle.tree_check.proofs.Collecting.{AreLeft, left_first, left_none, one_more, same_default}
use Rattle.tree_check.proofs.Settling.{advances_none, mapped_low, plan_at}

-- what a list that is long enough begins with
element : (found : List Refuted) (next : ℕ) → next < length found → Refuted
element [] next low = absurd (omega (arith, low))
element (first ∷ found) next low = first

among_more : (passed first second : ℕ) (refuted : Refuted) → IsAmong passed first refuted → IsAmong passed (first + second) refuted
among_more passed first second refuted among = (among.0, (let high = among.1 in omega (arith, high)))

among_behind : (passed mid first second : ℕ) (refuted : Refuted) → mid ≡ passed + first → IsAmong mid second refuted → IsAmong passed (first + second) refuted
among_behind passed mid first second refuted counted among =
    ((let low = among.0 in omega (arith, low, counted)), (let high = among.1 in omega (arith, high, counted)))

-- ---- what is to come

pub to_come_next : (found : List Refuted) (passed next : ℕ) (refuted : Refuted) → AreApart found → next < length found
    → refuted ≡ slice_index_or found next refuted → refuted.leaf ≡ passed → AreToCome found (passed + 1) (next + 1)
to_come_next found passed next refuted apart low is here = λ d below.
    let less : (slice_index_or found next d).leaf < (slice_index_or found (next + 1) d).leaf = apart next (next + 1) d (omega arith) below in
    let same : (slice_index_or found next d).leaf ≡ refuted.leaf =
    ap (λ (r : Refuted). r.leaf) (same_default found next d refuted low ∙ sym is) in
    omega (arith, less, same, here)

pub to_come_beyond : (found : List Refuted) (passed next : ℕ) (refuted : Refuted) → next < length found
    → refuted ≡ slice_index_or found next refuted → refuted.leaf ≢ passed → AreToCome found passed next → AreToCome found (passed + 1) next
to_come_beyond found passed next refuted low is apart to_come = λ d below.
    let from : passed ≤ (slice_index_or found next d).leaf = to_come d below in
    let same : (slice_index_or found next d).leaf ≡ refuted.leaf =
    ap (λ (r : Refuted). r.leaf) (same_default found next d refuted low ∙ sym is) in
    omega (arith, from, same, apart)

pub to_come_first : (found : List Refuted) → AreToCome found 0 0
to_come_first found = λ d below. omega arith

-- what becomes of a refuted leaf
abbrev given_top : {R : Type 0} → Refuted → Plan R
given_top refuted = top (cause_of refuted.finding.reason)

module _ {R : Type 0} where
  -- ---- the leaves of one side

  without_first : (row : Row) (this that : Plan R) (passed : ℕ) (given : List Refuted) → All (IsAmong passed (leaves_of this)) given
      → without_each (branch row this that) passed given ≡ branch row (without_each this passed given) that
  without_first row this that passed [] among = refl
  without_first row this that passed (refuted ∷ more) among =
      let here = all_first (IsAmong passed (leaves_of this)) refuted more among in
      let next : Plan R = with_leaf this (refuted.leaf - passed) (given_top refuted) in
      let other : Plan R = branch row this (with_leaf that ((refuted.leaf - passed) - leaves_of this) (given_top refuted)) in
      let lower : nat_lt (refuted.leaf - passed) (leaves_of this) ≡ true =
      lt-ltb (refuted.leaf - passed) (leaves_of this) (let low = here.0 in let high = here.1 in omega (arith, low, high)) in
      ap (λ t. without_each (cond t (branch row next that) other) passed more) lower
      ∙ without_first row next that passed more
      (subst (λ n. All (IsAmong passed n) more) (sym (leaves_kept this (given_top refuted) (refuted.leaf - passed) tt))
      (All-tail (IsAmong passed (leaves_of this)) refuted more among))

  without_second : (row : Row) (this that : Plan R) (passed mid count : ℕ) (given : List Refuted) → mid ≡ passed + leaves_of this
      → All (IsAmong mid count) given → without_each (branch row this that) passed given ≡ branch row this (without_each that mid given)
  without_second row this that passed mid count [] counted among = refl
  without_second row this that passed mid count (refuted ∷ more) counted among =
      let here = all_first (IsAmong mid count) refuted more among in
      let next : Plan R = with_leaf that (refuted.leaf - mid) (given_top refuted) in
      let first : Plan R = branch row (with_leaf this (refuted.leaf - passed) (given_top refuted)) that in
      let higher : nat_lt (refuted.leaf - passed) (leaves_of this) ≡ false =
      le-ltb (refuted.leaf - passed) (leaves_of this) (let low = here.0 in omega (arith, low, counted)) in
      let number : (refuted.leaf - passed) - leaves_of this ≡ refuted.leaf - mid = omega (arith, counted) in
      ap (λ t. without_each (cond t first (branch row this (with_leaf that ((refuted.leaf - passed) - leaves_of this) (given_top refuted)))) passed more) higher
      ∙ ap (λ n. without_each (branch row this (with_leaf that n (given_top refuted))) passed more) number
      ∙ without_second row this next passed mid count more counted (All-tail (IsAmong mid count) refuted more among)

  without_append : (plan : Plan R) (passed : ℕ) (given more : List Refuted)
      → without_each plan passed (given ++ more) ≡ without_each (without_each plan passed given) passed more
  without_append plan passed [] more = refl
  without_append plan passed (refuted ∷ given) more = without_append (with_leaf plan (refuted.leaf - passed) (given_top refuted)) passed given more

  leaves_each : (plan : Plan R) (passed : ℕ) (given : List Refuted) → leaves_of (without_each plan passed given) ≡ leaves_of plan
  leaves_each plan passed [] = refl
  leaves_each plan passed (refuted ∷ given) =
      leaves_each (with_leaf plan (refuted.leaf - passed) (given_top refuted)) passed given ∙ leaves_kept plan (given_top refuted) (refuted.leaf - passed) tt

  -- ---- the walk

  one_leaf : (end : Plan R) → IsEnd end → leaves_of end ≡ 1
  one_leaf bottom is = refl
  one_leaf (top cause) is = refl
  one_leaf (leaf why rank) is = refl
  one_leaf (branch row this that) is = absurd is

  module _ (label : ℕ) (found : List Refuted) where
    pub walked_none : (passed : ℕ) (plan : Plan R) (next : ℕ) (drops : List Dropped) → IsWalked label found passed plan plan next next drops drops
    walked_none passed plan next drops = record {
      given = [];
      parted = refl;
      among = All-nil (IsAmong passed (leaves_of plan));
      without = refl;
      listed = sym (append-nil drops);
    }

    -- of a branch the first side alone, and both
    pub walked_first : (row : Row) (this that new : Plan R) (passed next to : ℕ) (drops longer : List Dropped)
        → IsWalked label found passed this new next to drops longer
        → IsWalked label found passed (branch row this that) (branch row new that) next to drops longer
    walked_first row this that new passed next to drops longer walked = record {
      given = walked.given;
      parted = walked.parted;
      among = All-weaker (IsAmong passed (leaves_of this)) (IsAmong passed (leaves_of this + leaves_of that))
          (among_more passed (leaves_of this) (leaves_of that)) walked.given walked.among;
      without = ap (λ side. branch row side that) walked.without ∙ sym (without_first row this that passed walked.given walked.among);
      listed = walked.listed;
    }

    pub walked_both : (row : Row) (this that first second : Plan R) (passed mid next then_next to : ℕ) (drops now longer : List Dropped)
        → mid ≡ passed + leaves_of this → IsWalked label found passed this first next then_next drops now
        → IsWalked label found mid that second then_next to now longer
        → IsWalked label found passed (branch row this that) (branch row first second) next to drops longer
    walked_both row this that first second passed mid next then_next to drops now longer counted near far = record {
      given = near.given ++ far.given;
      parted = near.parted ∙ ap (λ rest. near.given ++ rest) far.parted ∙ sym (append_assoc near.given far.given (drop to found));
      among = All-append (IsAmong passed (leaves_of this + leaves_of that)) near.given far.given
          (All-weaker (IsAmong passed (leaves_of this)) (IsAmong passed (leaves_of this + leaves_of that))
          (among_more passed (leaves_of this) (leaves_of that)) near.given near.among)
          (All-weaker (IsAmong mid (leaves_of that)) (IsAmong passed (leaves_of this + leaves_of that))
          (λ refuted. among_behind passed mid (leaves_of this) (leaves_of that) refuted counted) far.given far.among);
      without =
          ap (λ side. branch row side second) near.without
          ∙ ap (branch row (without_each this passed near.given)) far.without
          ∙ sym (without_second row (without_each this passed near.given) that passed mid (leaves_of that) far.given
          (counted ∙ ap (λ n. passed + n) (sym (leaves_each this passed near.given))) far.among)
          ∙ ap (λ plan. without_each plan passed far.given) (sym (without_first row this that passed near.given near.among))
          ∙ sym (without_append (branch row this that) passed near.given far.given);
      listed = far.listed ∙ ap (λ front. front ++ map (dropped_by label) far.given) near.listed
          ∙ append_assoc drops (map (dropped_by label) near.given) (map (dropped_by label) far.given)
          ∙ ap (λ more. drops ++ more) (sym (map-append (dropped_by label) near.given far.given));
    }

    -- a leaf that was found
    pub walked_found : (passed : ℕ) (end new : Plan R) (next : ℕ) (refuted : Refuted) (drops longer : List Dropped) → IsEnd end → next < length found
        → refuted ≡ slice_index_or found next refuted → refuted.leaf ≡ passed → new ≡ with_leaf end 0 (given_top refuted)
        → longer ≡ drops ++ dropped_by label refuted ∷ [] → IsWalked label found passed end new next (next + 1) drops longer
    walked_found passed end new next refuted drops longer is_end low is here given_is listed_is = record {
      given = refuted ∷ [];
      parted = drop_more found next refuted low ∙ ap (λ r. r ∷ drop (next + 1) found) (sym is);
      among = all_one (IsAmong passed (leaves_of end)) refuted (omega (arith, here), (let one = one_leaf end is_end in omega (arith, here, one)));
      without = given_is ∙ ap (λ n. with_leaf end n (given_top refuted)) (let none : 0 ≡ refuted.leaf - passed = omega (arith, here) in none);
      listed = listed_is;
    }

-- ---- the label's trees behind the walk

module _ {R : Type 0} (ranks : Ranks R) (at : Setting R) (label : ℕ) (elsewhere : LeadsElsewhere at label label) (old : List (Plan R)) (drops : List Dropped)
    (found : List Refuted) (inside : label < length old) (apart : AreApart found) where
  first_of : (found given rest : List Refuted) (from : ℕ) (refuted : Refuted) → drop from found ≡ refuted ∷ given ++ rest
      → (from < length found) × (refuted ≡ slice_index_or found from refuted) × (drop (suc from) found ≡ given ++ rest)
  first_of [] given rest zero refuted is = absurd (let both = ap length is in omega (arith, both))
  first_of [] given rest (suc from) refuted is = absurd (let both = ap length is in omega (arith, both))
  first_of (first ∷ found) given rest zero refuted is = (omega arith, ap (λ list. slice_index_or list 0 refuted) (sym is), ap (drop 1) is)
  first_of (first ∷ found) given rest (suc from) refuted is =
      let behind = first_of found given rest from refuted is in
      ((let low = behind.0 in omega (arith, low)), behind.1, behind.2)

  each_given : (now : List (Plan R)) (listed : List Dropped) (given rest : List Refuted) (from : ℕ) → drop from found ≡ given ++ rest
      → Advances ranks at old drops now listed → AreLeft ranks at label (trees_in old) (trees_in now) from found
      → Advances ranks at old drops (slice_set now label (without_each (trees_in now label) 0 given)) (listed ++ map (dropped_by label) given)
      × AreLeft ranks at label (trees_in old) (trees_in (slice_set now label (without_each (trees_in now label) 0 given))) (from + length given) found
  each_given now listed [] rest from parted advances left =
      let same : slice_set now label (trees_in now label) ≡ now = set-get_or now label bottom in
      let count : from ≡ from + 0 = omega arith in (
        subst (λ plans. Advances ranks at old drops plans (listed ++ [])) (sym same)
            (subst (Advances ranks at old drops now) (sym (append-nil listed)) advances),
        subst (λ plans. AreLeft ranks at label (trees_in old) (trees_in plans) (from + 0) found) (sym same)
            (subst (λ n. AreLeft ranks at label (trees_in old) (trees_in now) n found) count left),
      )
  each_given now listed (refuted ∷ given) rest from parted advances left =
      let first = first_of found given rest from refuted parted in
      let labels = advances.labels in
      let next : List (Plan R) = without_refuted now label refuted in
      let longer : List Dropped = listed ++ dropped_by label refuted ∷ [] in
      let step = one_more ranks at label elsewhere old now next drops listed longer found from refuted inside first.0 first.1 apart advances left refl refl in
      let one : suc from ≡ from + 1 = omega arith in
      let behind = each_given next longer given rest (from + 1) (ap (λ n. drop n found) (sym one) ∙ first.2) step.0 step.1 in
      let whole : from + 1 + length given ≡ from + length (refuted ∷ given) = omega arith in
      let number : refuted.leaf ≡ refuted.leaf - 0 = omega arith in
      let tree : trees_in next label ≡ with_leaf (trees_in now label) (refuted.leaf - 0) (given_top refuted) =
      get_or-set_same now label (with_leaf (trees_in now label) refuted.leaf (given_top refuted)) bottom (omega (arith, inside, labels))
      ∙ ap (λ n. with_leaf (trees_in now label) n (given_top refuted)) number in
      let is : slice_set next label (without_each (trees_in next label) 0 given)
      ≡ slice_set now label (without_each (trees_in now label) 0 (refuted ∷ given)) =
      ap (λ plan. slice_set next label (without_each plan 0 given)) tree
      ∙ set-set now label (with_leaf (trees_in now label) refuted.leaf (given_top refuted)) (without_each (trees_in now label) 0 (refuted ∷ given)) in
      let list : longer ++ map (dropped_by label) given ≡ listed ++ map (dropped_by label) (refuted ∷ given) =
      append_assoc listed (dropped_by label refuted ∷ []) (map (dropped_by label) given) in (
        subst (λ plans. Advances ranks at old drops plans (listed ++ map (dropped_by label) (refuted ∷ given))) is
            (subst (Advances ranks at old drops (slice_set next label (without_each (trees_in next label) 0 given))) list behind.0),
        subst (λ plans. AreLeft ranks at label (trees_in old) (trees_in plans) (from + length (refuted ∷ given)) found) is
            (subst (λ n. AreLeft ranks at label (trees_in old) (trees_in (slice_set next label (without_each (trees_in next label) 0 given))) n found) whole behind.1),
      )

  -- where each leaf that was found is one of the tree's, a walk that goes on as long as one is to come gives each up
  all_given : (given : List Refuted) (passed next : ℕ) → All (λ refuted. IsFound ranks at (trees_in old) label refuted) found
      → drop 0 found ≡ given ++ drop next found → (next < length found → passed ≡ 0 + leaves_of (trees_in old label)) → AreToCome found passed next
      → length found ≤ 0 + length given
  all_given given passed next are parted counted to_come = elim (cases_lt next (length found)) [
    | inl low ↦
        let d = element found next low in
        let from = to_come d low in
        let below = (are next d low).0 in
        let count = counted low in
        absurd (omega (arith, from, below, count))
    | inr end ↦
        let count = ap length parted ∙ length-append given (drop next found) in
        let none = ap length (drop_all next found end) in
        omega (arith, count, none)
  ]

module _ {R : Type 0} (ranks : Ranks R) (at : Setting R) (label : ℕ) (elsewhere : LeadsElsewhere at label label) (trees : List (Tree R)) (was tree : Tree R)
    (drops longer : List Dropped) (found : List Refuted) (to : ℕ) (inside : label < length trees) (apart : AreApart found)
    (are : All (λ refuted. IsFound ranks at (trees_in (map plan_of trees)) label refuted) found)
    (walked : IsWalked label found 0 (plan_of (get_or trees label was)) (plan_of tree) 0 to drops longer) where
  abbrev old : List (Plan R)
  old = map plan_of trees

  plans_are : map plan_of (slice_set trees label tree) ≡ slice_set old label (without_each (trees_in old label) 0 walked.given)
  plans_are =
      map-set plan_of trees label tree
      ∙ ap (slice_set old label) (walked.without ∙ ap (λ (plan : Plan R). without_each plan 0 walked.given) (plan_at trees label was inside))

  both_given : Advances ranks at old drops (slice_set old label (without_each (trees_in old label) 0 walked.given)) (drops ++ map (dropped_by label) walked.given)
      × AreLeft ranks at label (trees_in old) (trees_in (slice_set old label (without_each (trees_in old label) 0 walked.given))) (0 + length walked.given) found
  both_given =
      each_given ranks at label elsewhere old drops found (mapped_low trees label inside) apart old drops walked.given (drop to found) 0 walked.parted
      (advances_none ranks at old drops) (left_first ranks at label (trees_in old) found are)

  pub walk_advances : Advances ranks at old drops (map plan_of (slice_set trees label tree)) longer
  walk_advances =
      subst (λ plans. Advances ranks at old drops plans longer) (sym plans_are)
      (subst (Advances ranks at old drops (slice_set old label (without_each (trees_in old label) 0 walked.given))) (sym walked.listed) both_given.0)

  pub walk_clears : (passed : ℕ) → (to < length found → passed ≡ 0 + leaves_of (plan_of (get_or trees label was))) → AreToCome found passed to
      → (told : Option Dropped) → AreCleared ranks at (trees_in old) told label found
      → AreCleared ranks at (trees_in (map plan_of (slice_set trees label tree))) told label []
  walk_clears passed counted to_come told cleared =
      let end = all_given ranks at label elsewhere old drops found (mapped_low trees label inside) apart walked.given passed to are walked.parted
      (λ low. counted low ∙ ap (λ (plan : Plan R). 0 + leaves_of plan) (plan_at trees label was inside)) to_come in
      subst (λ plans. AreCleared ranks at (trees_in plans) told label []) (sym plans_are)
      (left_none ranks at label (trees_in old) (trees_in (slice_set old label (without_each (trees_in old label) 0 walked.given))) found
      (0 + length walked.given) end both_given.1 told cleared)
