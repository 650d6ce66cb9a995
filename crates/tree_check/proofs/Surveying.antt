-- The leaves of a label's tree, one after the other.
use Rattle.std.proofs.Common.{◌≡◌, ◌⊎◌, ℕ, zero, suc, ◌+◌, ◌-◌, ◌<◌, ◌≤◌, inl, inr, Bool, true, false, nat_lt, List, [], ◌∷◌, ◌++◌, length, map, take, get_or, All, AllPairs, Option, None, refl, sym, ap, subst, ◌∙◌, arith}
use Rattle.std.proofs.lemmas.Bool.{cases_lt, le-ltb, lt-ltb}
use Rattle.std.proofs.lemmas.List.{append_assoc, append-nil, length-append, nil_from_length}
use Rattle.std.proofs.lemmas.List.Elements.{All-append, All-nil, All-tail, All-weaker}
use Rattle.std.proofs.lemmas.List.Kept.{AllPairs-cons}
use Rattle.std.proofs.lemmas.Simd.{map-map}
use Rattle.linear_cons.specs.Functions.{complement_of}
use Rattle.linear_cons.specs.declared.affine.Affine.{Affine}
use Rattle.linear_cons.specs.declared.exact.Wide.{Wide}
use Rattle.linear_cons.specs.declared.row.Row.{Row}
use Rattle.linear_cons.specs.Rows.{MeetsKind}
use Rattle.decision_tree.specs.declared.rank.Rank.{Ghosts as Ranks}
use Rattle.decision_tree.specs.declared.reason.Why.{Why}
use Rattle.decision_tree.specs.Paths.{leaf_numbered, path_of}
use Rattle.decision_tree.specs.Plans.{Plan, branch, leaf, leaves_of, plan_of}
use Rattle.decision_tree.specs.declared.tree.Tree.{Tree}
use Rattle.tree_support.specs.Arcs.{rows_given}
use Rattle.constraint_stack.specs.Forming.{Formed, given}
use Rattle.tree_support.specs.Setting.{Setting, Trees, trees_in}
use Rattle.constraint_stack.specs.Claims.{HasNoStore, System}
use Rattle.tree_support.specs.Systems.{of_leaf, systems}
use Rattle.constraint_stack.specs.declared.finding.Finding.{Finding}
use Rattle.constraint_stack.specs.Stacks.{Held, IsMetNowhere, all_asked, asked, kind_of}
use Rattle.constraint_stack.specs.Searches.{Finds}
use Rattle.tree_check.specs.declared.survey.Refuted.{Refuted}
use Rattle.tree_check.specs.declared.survey.Span.{Span}
use Rattle.tree_check.specs.Surveys.{AreApart, IsAside, IsFound, IsFoundWithin, IsReviewed, IsBeyond, IsSurveyed, LooksOn, systems_within}
use Rattle.tree_support.proofs.Lists.{all_first, all_left, all_one, all_right}
use Rattle.leaf_search.specs.Ahead.{IsAhead, aims, put_by, target_of}
use Rattle.leaf_search.specs.declared.ahead.Ahead.{Ahead}
use Rattle.leaf_search.specs.declared.leaf.Stand.{Stand}
use Rattle.leaf_search.specs.Operands.{families_of}
use Rattle.leaf_search.proofs.Leading.{told_longer}
use Rattle.leaf_search.specs.Walks.{side_of}
use Rattle.tree_support.proofs.Nowhere.{leaf_nowhere}
use Rattle.leaf_search.proofs.Following.{nowhere_more}

module _ {X : Type 0} (Rel : X → X → Type 0) where
  no_pairs : AllPairs Rel []
  no_pairs i j d before low = absurd (omega (arith, low))

  no_two : (x : X) → AllPairs Rel (x ∷ [])
  no_two x = AllPairs-cons Rel x [] (All-nil (Rel x)) no_pairs

  pairs_first : (x : X) (xs : List X) → AllPairs Rel (x ∷ xs) → All (Rel x) xs
  pairs_first x xs pairs k d low = pairs 0 (suc k) d (omega arith) (omega (arith, low))

  pairs_rest : (x : X) (xs : List X) → AllPairs Rel (x ∷ xs) → AllPairs Rel xs
  pairs_rest x xs pairs i j d before low = pairs (suc i) (suc j) d (omega (arith, before)) (omega (arith, low))

  pairs_append : (xs ys : List X) → AllPairs Rel xs → AllPairs Rel ys → All (λ x. All (Rel x) ys) xs → AllPairs Rel (xs ++ ys)
  pairs_append [] ys first second across = second
  pairs_append (x ∷ xs) ys first second across =
      AllPairs-cons Rel x (xs ++ ys) (All-append (Rel x) xs ys (pairs_first x xs first) (all_first (λ z. All (Rel z) ys) x xs across))
      (pairs_append xs ys (pairs_rest x xs first) second (All-tail (λ z. All (Rel z) ys) x xs across))

-- a survey that goes on behind more went on before
looked_on : (span : Span) (now more new : List Refuted) → new ≡ now ++ more → LooksOn span new → LooksOn span now
looked_on span now more new is (inl all) = inl all
looked_on span now more new is (inr none) =
    inr (nil_from_length now (let count = sym (length-append now more) ∙ ap length (sym is ∙ none) in omega (arith, count)))

-- a row of the path may be asked within as well
beyond_more : (narrows : Bool) (within : List Formed) (a : Affine) (path : List Affine) → IsBeyond narrows (within ++ given a ∷ []) path
    → IsBeyond narrows within (a ∷ path)
beyond_more false within a path beyond = beyond
beyond_more true within a path beyond =
    subst (λ asks. IsMetNowhere (all_asked asks)) (append_assoc within (given a ∷ []) (map (λ b. given b) path)) beyond

-- one that isn't narrowed looks at all leaves
pub not_beyond : {P : Type 0} (narrows : Bool) (within : List Formed) (path : List Affine) → narrows ≡ false → P ⊎ IsBeyond narrows within path → P
not_beyond narrows within path whole (inl holds) = holds
not_beyond narrows within path whole (inr beyond) = absurd (subst (λ t. IsBeyond t within path) whole beyond)

-- a leaf of the second side comes behind one of the first
further : (earlier later : Refuted) (passed mid count : ℕ) → mid ≡ passed + count → (near : ℕ) → earlier.leaf ≡ passed + near → near < count
    → (far : ℕ) → later.leaf ≡ mid + far → earlier.leaf < later.leaf
further earlier later passed mid count counted near here low far there = omega (arith, counted, here, low, there)

module _ {R : Type 0} (ranks : Ranks R) where
  module _ (at : Setting R) (family : Trees R) (label : ℕ) where
    -- ---- a side's leaves are the tree's

    on_first : (row : Row) (this that : Plan R) (asks : List Formed) (place : ℕ) → place < leaves_of this
        → systems_within ranks at family label this (asks ++ given row.affine ∷ []) place ≡ systems_within ranks at family label (branch row this that) asks place
    on_first row this that asks place low =
        let lower : nat_lt place (leaves_of this) ≡ true = lt-ltb place (leaves_of this) low in
        rw (lower, append_assoc asks (given row.affine ∷ []) (map (λ a. given a) (path_of this place))) refl

    on_second : (row : Row) (this that : Plan R) (asks : List Formed) (place : ℕ)
        → systems_within ranks at family label that (asks ++ given (complement_of row.affine) ∷ []) place
        ≡ systems_within ranks at family label (branch row this that) asks (leaves_of this + place)
    on_second row this that asks place =
        let higher : nat_lt (leaves_of this + place) (leaves_of this) ≡ false = le-ltb (leaves_of this + place) (leaves_of this) (omega arith) in
        let rest : (leaves_of this + place) - leaves_of this ≡ place = omega arith in
        rw (higher, rest, append_assoc asks (given (complement_of row.affine) ∷ []) (map (λ a. given a) (path_of that place))) refl

    moved_finds : (systems others : List (System R)) (f : Finding) → systems ≡ others → Finds ranks systems f → Finds ranks others f
    moved_finds systems others f is finds = subst (λ all. Finds ranks all f) is finds

    moved_none : (systems others : List (System R)) → systems ≡ others → All (HasNoStore ranks) systems → All (HasNoStore ranks) others
    moved_none systems others is none = subst (All (HasNoStore ranks)) is none

    within_first : (row : Row) (this that : Plan R) (asks : List Formed) (passed : ℕ) (refuted : Refuted)
        → IsFoundWithin ranks at family label this (asks ++ given row.affine ∷ []) passed refuted
        → IsFoundWithin ranks at family label (branch row this that) asks passed refuted
    within_first row this that asks passed refuted found = (
      found.0,
      found.1,
      (let low = found.2 in omega (arith, low)),
      moved_finds (systems_within ranks at family label this (asks ++ given row.affine ∷ []) found.0)
          (systems_within ranks at family label (branch row this that) asks found.0) refuted.finding (on_first row this that asks found.0 found.2) found.3,
    )

    within_second : (row : Row) (this that : Plan R) (asks : List Formed) (passed mid : ℕ) → mid ≡ passed + leaves_of this → (refuted : Refuted)
        → IsFoundWithin ranks at family label that (asks ++ given (complement_of row.affine) ∷ []) mid refuted
        → IsFoundWithin ranks at family label (branch row this that) asks passed refuted
    within_second row this that asks passed mid count refuted found = (
      leaves_of this + found.0,
      (let is = found.1 in omega (arith, is, count)),
      (let low = found.2 in omega (arith, low)),
      moved_finds (systems_within ranks at family label that (asks ++ given (complement_of row.affine) ∷ []) found.0)
          (systems_within ranks at family label (branch row this that) asks (leaves_of this + found.0)) refuted.finding
          (on_second row this that asks found.0) found.3,
    )

    -- ---- what a survey doesn't look at

    -- no store meets a system of the leaf, or a narrowed survey doesn't look there
    abbrev Clear : Span → Plan R → List Formed → List Formed → ℕ → Type 0
    Clear span plan asks within place =
        All (HasNoStore ranks) (systems_within ranks at family label plan asks place) ⊎ IsBeyond span.narrows within (path_of plan place)

    clear_first : (span : Span) (row : Row) (this that : Plan R) (asks within : List Formed) (place : ℕ) → place < leaves_of this
        → Clear span this (asks ++ given row.affine ∷ []) (within ++ given row.affine ∷ []) place → Clear span (branch row this that) asks within place
    clear_first span row this that asks within place low (inl none) =
        inl (moved_none (systems_within ranks at family label this (asks ++ given row.affine ∷ []) place)
        (systems_within ranks at family label (branch row this that) asks place) (on_first row this that asks place low) none)
    clear_first span row this that asks within place low (inr beyond) =
        let lower : nat_lt place (leaves_of this) ≡ true = lt-ltb place (leaves_of this) low in
        inr (rw lower (beyond_more span.narrows within row.affine (path_of this place) beyond))

    clear_second : (span : Span) (row : Row) (this that : Plan R) (asks within : List Formed) (place : ℕ)
        → Clear span that (asks ++ given (complement_of row.affine) ∷ []) (within ++ given (complement_of row.affine) ∷ []) place
        → Clear span (branch row this that) asks within (leaves_of this + place)
    clear_second span row this that asks within place (inl none) =
        inl (moved_none (systems_within ranks at family label that (asks ++ given (complement_of row.affine) ∷ []) place)
        (systems_within ranks at family label (branch row this that) asks (leaves_of this + place)) (on_second row this that asks place) none)
    clear_second span row this that asks within place (inr beyond) =
        let higher : nat_lt (leaves_of this + place) (leaves_of this) ≡ false = le-ltb (leaves_of this + place) (leaves_of this) (omega arith) in
        let rest : (leaves_of this + place) - leaves_of this ≡ place = omega arith in
        inr (rw (higher, rest) (beyond_more span.narrows within (complement_of row.affine) (path_of that place) beyond))

    -- ---- what a survey finds

    surveyed_none : (span : Span) (plan : Plan R) (asks within : List Formed) (passed : ℕ) (old : List Refuted)
        → (LooksOn span old → (place : ℕ) → place < leaves_of plan → span.first ≤ passed + place → Clear span plan asks within place)
        → IsSurveyed ranks at family label span plan asks within passed old old
    surveyed_none span plan asks within passed old clear = record {
      more = [];
      listed = sym (append-nil old);
      each = All-nil (IsFoundWithin ranks at family label plan asks passed);
      apart = no_pairs (λ earlier later. earlier.leaf < later.leaf);
      others = λ looks place low from aside. clear looks place low from;
    }

    -- of a branch's leaves those of both sides
    pub surveyed_both : (span : Span) (row : Row) (this that : Plan R) (asks within : List Formed) (passed mid : ℕ) (old now new : List Refuted)
        → mid ≡ passed + leaves_of this
        → IsSurveyed ranks at family label span this (asks ++ given (side_of row.affine true) ∷ []) (within ++ given (side_of row.affine true) ∷ []) passed old now
        → IsSurveyed ranks at family label span that (asks ++ given (side_of row.affine false) ∷ []) (within ++ given (side_of row.affine false) ∷ []) mid now new
        → IsSurveyed ranks at family label span (branch row this that) asks within passed old new
    surveyed_both span row this that asks within passed mid old now new count near far =
        let asks_near : List Formed = asks ++ given row.affine ∷ [] in
        let asks_far : List Formed = asks ++ given (complement_of row.affine) ∷ [] in
        let Near : Refuted → Type 0 = IsFoundWithin ranks at family label this asks_near passed in
        let Far : Refuted → Type 0 = IsFoundWithin ranks at family label that asks_far mid in
        let Both : Refuted → Type 0 = IsFoundWithin ranks at family label (branch row this that) asks passed in
        record {
          more = near.more ++ far.more;
          listed = far.listed ∙ ap (λ front. front ++ far.more) near.listed ∙ append_assoc old near.more far.more;
          each = All-append Both near.more far.more (All-weaker Near Both (within_first row this that asks passed) near.more near.each)
              (All-weaker Far Both (within_second row this that asks passed mid count) far.more far.each);
          apart = pairs_append (λ earlier later. earlier.leaf < later.leaf) near.more far.more near.apart far.apart
              (All-weaker Near (λ earlier. All (λ later. earlier.leaf < later.leaf) far.more)
              (λ earlier here. All-weaker Far (λ later. earlier.leaf < later.leaf)
              (λ later there. further earlier later passed mid (leaves_of this) count here.0 here.1 here.2 there.0 there.1) far.more far.each)
              near.more near.each);
          others = λ looks place low from aside. elim (cases_lt place (leaves_of this)) [
            | inl here ↦
                clear_first span row this that asks within place here
                (near.others (looked_on span now far.more new far.listed looks) place here from (all_left (IsAside (passed + place)) near.more far.more aside))
            | inr there ↦
                let behind : leaves_of this + (place - leaves_of this) ≡ place = omega (arith, there) in
                let number : passed + place ≡ mid + (place - leaves_of this) = omega (arith, there, count) in
                subst (Clear span (branch row this that) asks within) behind
                (clear_second span row this that asks within (place - leaves_of this)
                (far.others looks (place - leaves_of this) (omega (arith, low, there)) (omega (arith, from, number))
                (subst (λ n. All (IsAside n) far.more) number (all_right (IsAside (passed + place)) near.more far.more aside))))
          ];
        }

    -- ---- one leaf

    pub surveyed_undefined : (span : Span) (end : Plan R) (asks within : List Formed) (passed : ℕ) (old : List Refuted) → leaves_of end ≡ 1
        → All (HasNoStore ranks) (of_leaf at (leaf_numbered end 0) family label (asks ++ map (λ a. given a) (path_of end 0)))
        → IsSurveyed ranks at family label span end asks within passed old old
    surveyed_undefined span end asks within passed old one none =
        surveyed_none span end asks within passed old (λ looks place low from.
        let is : place ≡ 0 = omega (arith, low, one) in
        inl (subst (λ p. All (HasNoStore ranks) (systems_within ranks at family label end asks p)) (sym is) none))

    pub surveyed_leaf : (span : Span) (why : Why) (rank : R) (asks within : List Formed) (passed : ℕ) (old : List Refuted)
        → All (HasNoStore ranks) (of_leaf at (leaf why rank) family label asks)
        → IsSurveyed ranks at family label span (leaf why rank) asks within passed old old
    surveyed_leaf span why rank asks within passed old none =
        surveyed_undefined span (leaf why rank) asks within passed old refl
        (subst (λ all. All (HasNoStore ranks) (of_leaf at (leaf why rank) family label all)) (sym (append-nil asks)) none)

    pub surveyed_refuted : (span : Span) (why : Why) (rank : R) (asks within : List Formed) (passed : ℕ) (old new : List Refuted) (f : Finding)
        → new ≡ old ++ record { leaf = passed; finding = f } ∷ [] → Finds ranks (of_leaf at (leaf why rank) family label asks) f
        → IsSurveyed ranks at family label span (leaf why rank) asks within passed old new
    surveyed_refuted span why rank asks within passed old new f is finds =
        let found : Refuted = record { leaf = passed; finding = f } in
        record {
          more = found ∷ [];
          listed = is;
          each = all_one (IsFoundWithin ranks at family label (leaf why rank) asks passed) found
              (0, omega arith, omega arith, subst (λ all. Finds ranks (of_leaf at (leaf why rank) family label all) f) (sym (append-nil asks)) finds);
          apart = no_two (λ earlier later. earlier.leaf < later.leaf) found;
          others = λ looks place low from aside.
              absurd (all_first (IsAside (passed + place)) found [] aside (let is : place ≡ 0 = omega (arith, low) in omega (arith, is)));
        }

    pub surveyed_before : (span : Span) (plan : Plan R) (asks within : List Formed) (passed : ℕ) (old : List Refuted)
        → (LooksOn span old → passed + leaves_of plan ≤ span.first) → IsSurveyed ranks at family label span plan asks within passed old old
    surveyed_before span plan asks within passed old before =
        surveyed_none span plan asks within passed old
        (λ looks place low from. absurd (let all = before looks in omega (arith, all, low, from)))

    -- behind what is met nowhere no leaf has a system with a store
    pub surveyed_nowhere : (span : Span) (plan : Plan R) (asks within : List Formed) (passed : ℕ) (old : List Refuted)
        → IsMetNowhere (all_asked asks) → IsSurveyed ranks at family label span plan asks within passed old old
    surveyed_nowhere span plan asks within passed old none = surveyed_none span plan asks within passed old (λ looks place low from.
        let more : List Formed = asks ++ map (λ a. given a) (path_of plan place) in
        inl (leaf_nowhere ranks at (leaf_numbered plan place) family label more (λ store met.
        nowhere_more asks (map (λ a. given a) (path_of plan place)) none store
        (subst (All (λ kind. MeetsKind store kind)) (sym (map-map kind_of (λ a. asked a) more)) met))))

    -- a narrowed survey doesn't look behind what is met nowhere within
    pub surveyed_beyond : (span : Span) (plan : Plan R) (asks within : List Formed) (passed : ℕ) (old : List Refuted) → span.narrows ≡ true
        → IsMetNowhere (all_asked within) → IsSurveyed ranks at family label span plan asks within passed old old
    surveyed_beyond span plan asks within passed old narrows none = surveyed_none span plan asks within passed old (λ looks place low from.
        inr (subst (λ t. IsBeyond t within (path_of plan place)) (sym narrows) (nowhere_more within (map (λ a. given a) (path_of plan place)) none)))

    -- what is asked within is nothing to one that isn't narrowed
    pub surveyed_wholly : (span : Span) (plan : Plan R) (asks within other : List Formed) (passed : ℕ) (old new : List Refuted) → span.narrows ≡ false
        → IsSurveyed ranks at family label span plan asks within passed old new → IsSurveyed ranks at family label span plan asks other passed old new
    surveyed_wholly span plan asks within other passed old new whole surveyed = record {
      more = surveyed.more;
      listed = surveyed.listed;
      each = surveyed.each;
      apart = surveyed.apart;
      others = λ looks place low from aside. inl (not_beyond span.narrows within (path_of plan place) whole (surveyed.others looks place low from aside));
    }

    -- ---- the label's own tree

    systems_are : (at.dead label ≡ false) → (place : ℕ)
        → systems_within ranks at family label (family label) (rows_given (at.rows label)) place ≡ systems at family label place
    systems_are alive place = rw alive refl

    found_is : at.dead label ≡ false → (refuted : Refuted) → IsFoundWithin ranks at family label (family label) (rows_given (at.rows label)) 0 refuted
        → IsFound ranks at family label refuted
    found_is alive refuted within =
        let is : refuted.leaf ≡ within.0 = (let number = within.1 in omega (arith, number)) in
        subst (λ place. (place < leaves_of (family label)) × Finds ranks (systems at family label place) refuted.finding) (sym is) (
          within.2,
          moved_finds (systems_within ranks at family label (family label) (rows_given (at.rows label)) within.0) (systems at family label within.0) refuted.finding
              (systems_are alive within.0) within.3,
        )

    clear_is : at.dead label ≡ false → (span : Span) (within : List Formed) (place : ℕ) → Clear span (family label) (rows_given (at.rows label)) within place
        → All (HasNoStore ranks) (systems at family label place) ⊎ IsBeyond span.narrows within (path_of (family label) place)
    clear_is alive span within place (inl none) =
        inl (moved_none (systems_within ranks at family label (family label) (rows_given (at.rows label)) place) (systems at family label place)
        (systems_are alive place) none)
    clear_is alive span within place (inr beyond) = inr beyond

    pub reviewed : (span : Span) (within : List Formed) (refuted : List Refuted) → at.dead label ≡ false
        → IsSurveyed ranks at family label span (family label) (rows_given (at.rows label)) within 0 [] refuted
        → IsReviewed ranks at family label span within refuted
    reviewed span within refuted alive surveyed = record {
      each = subst (All (IsFound ranks at family label)) (sym surveyed.listed)
          (All-weaker (IsFoundWithin ranks at family label (family label) (rows_given (at.rows label)) 0) (IsFound ranks at family label) (found_is alive)
          surveyed.more surveyed.each);
      apart = subst AreApart (sym surveyed.listed) surveyed.apart;
      others = λ looks place low from aside.
          let these : All (IsAside place) surveyed.more = subst (All (IsAside place)) surveyed.listed aside in
          let from_none : place ≡ 0 + place = omega arith in
          clear_is alive span within place (surveyed.others looks place low (omega (arith, from)) (subst (λ n. All (IsAside n) surveyed.more) from_none these));
    }

-- nothing is on the stack for nothing
pub held_empty : (rows : List Row) (wide : Option Wide) → rows ≡ [] → wide ≡ None → Held [] rows wide
held_empty rows wide empty none =
    rw (empty, none) (record {
      among = λ k d low. absurd (omega arith);
      shown = λ item row member. absurd (let low = member.1 in omega arith);
      there = λ item member. absurd (let low = member.1 in omega arith);
      whole = λ is. (record { among = λ k d low. absurd (omega arith); covers = λ k d low. absurd (omega arith); few = omega arith }, λ k d low. absurd (omega arith));
      apart = λ two. absurd (let low = two.row_in.1 in omega arith);
      missing = λ item member. absurd (let low = member.1 in omega arith);
      outside = tt;
    })

pub tree_at : {R : Type 0} (trees : List (Tree R)) (label : ℕ) (tree : Tree R) → label < length trees → tree ≡ get_or trees label tree
    → trees_in (map plan_of trees) label ≡ plan_of tree
tree_at [] label tree low is = absurd (omega (arith, low))
tree_at (first ∷ trees) zero tree low is = ap plan_of (sym is)
tree_at (first ∷ trees) (suc label) tree low is = tree_at trees label tree (omega (arith, low)) is

-- ---- the trees ahead

module _ {R : Type 0} (stand : Stand R) (ahead : Ahead R) where
  -- where rows lead, more rows lead
  pub ahead_longer : (old new : List Row) → take (length old) new ≡ old → IsAhead stand old ahead → IsAhead stand new ahead
  ahead_longer old new longer is = record {
    kept = told_longer (λ part. plan_of part.now) None (families_of stand.parts.now 0 stand.label) old new ahead.kept longer is.kept;
    behind = record {
      first = told_longer (λ part. plan_of part.now) (put_by stand.transition.now) (aims stand (target_of stand.transition.now true)) old new ahead.first longer is.behind.first;
      second = told_longer (λ part. plan_of part.now) (put_by stand.transition.now) (aims stand (target_of stand.transition.now false)) old new ahead.second longer is.behind.second;
    };
  }
