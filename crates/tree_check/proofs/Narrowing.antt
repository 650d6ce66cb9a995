-- Where a drop makes nothing new that a store meets: beyond the path of the dropped leaf, moved back, whichever of its rows are on the stack and in
-- whichever order.
use Rattle.std.proofs.Common.{◌≡◌, ◌≢◌, ◌⊎◌, inl, inr, ℕ, zero, suc, ◌+◌, ◌-◌, ◌<◌, ℤ, Bool, true, false, nat_lt, if◌then◌else◌, List, [], ◌∷◌, ◌++◌, map, get_or, All, Contains, Option, None, Some, refl, sym, ap, subst, arith}
use Rattle.std.proofs.lemmas.Bool.{le-ltb, lt-ltb}
use Rattle.std.proofs.lemmas.List.Elements.{All-append, All-cons, All-contains, All-tail, All-weaker, Contains-append_cases, Contains-append_left, Contains-append_right}
use Rattle.std.proofs.lemmas.Simd.{map-map}
use Rattle.linear_cons.specs.declared.affine.Affine.{Affine}
use Rattle.linear_cons.specs.declared.bounds.Linear.{Linear}
use Rattle.linear_cons.specs.declared.row.Row.{Row}
use Rattle.linear_cons.specs.Functions.{complement_of, variable_at}
use Rattle.linear_cons.specs.Rows.{MeetsKind, row_kind_of}
use Rattle.control_flow.specs.declared.edge.Choice.{Choice}
use Rattle.control_flow.specs.declared.edge.Choice.TheVariants.{Branch, None as NoChoice, Range}
use Rattle.ctl_formula.specs.Formulas.{Ctl, next, until, weak}
use Rattle.decision_tree.specs.declared.rank.Rank.{Ghosts as Ranks}
use Rattle.decision_tree.specs.declared.reason.Pick.{Pick}
use Rattle.decision_tree.specs.declared.reason.Pick.TheVariants.{All as Every, No, Value, Yes}
use Rattle.decision_tree.specs.declared.reason.Why.{Why}
use Rattle.decision_tree.specs.declared.reason.Why.TheVariants.{Step}
use Rattle.decision_tree.specs.Paths.{leaf_numbered, path_of}
use Rattle.decision_tree.specs.Plans.{Plan, branch, leaf, leaves_of}
use Rattle.tree_support.specs.declared.dropped.Dropped.{Dropped}
use Rattle.tree_support.specs.Arcs.{Arc, choosing_each, passing, putting, rows_given, testing, arcs_of, outcome_arcs}
use Rattle.constraint_stack.specs.Forming.{Formed, exact, given}
use Rattle.tree_support.specs.Setting.{Setting, Trees}
use Rattle.constraint_stack.specs.Claims.{HasNoStore, choices}
use Rattle.tree_support.specs.Systems.{is_existential, moved_by, region, systems}
use Rattle.tree_support.proofs.Lists.{all_first, all_left, all_none, all_one, contains_first, contains_later}
use Rattle.constraint_stack.specs.declared.stack.ConstraintStack.{ConstraintStack}
use Rattle.constraint_stack.specs.Stacks.{IsMetNowhere, all_asked, asked, kind_of}
use Rattle.constraint_stack.specs.Searches.{Holds, IsSame}
use Rattle.constraint_stack.proofs.Choosing.{held_same}
use Rattle.control_flow.specs.declared.transition.Transition.{Transition}
use Rattle.control_flow.specs.declared.transition.Transition.TheVariants.{Assign, Choose, Dead, End, Pass, Test}
use Rattle.leaf_search.specs.Arcs.{IsTransitionAt}
use Rattle.leaf_search.specs.Walks.{side_of}
use Rattle.tree_check.specs.declared.survey.Refuted.{Refuted}
use Rattle.tree_check.specs.declared.survey.Span.{Span}
use Rattle.tree_check.specs.Narrowing.{HoldsAmong, HoldsPath, PicksNoValue, sets_of, speaks_of_some}
use Rattle.tree_check.specs.Rounds.{LeadsElsewhere}
use Rattle.tree_check.specs.Surveys.{IsBeyond, IsReviewed}
use Rattle.tree_check.specs.Telling.{AreCleared, IsCleared, IsRenewed, arcs_followed, arcs_picked, arcs_ranged, renewed}

-- ---- more rows are met by fewer stores

among : {X : Type 0} (P : X → Type 0) (xs ys : List X) → ((x : X) → Contains xs x → Contains ys x) → All P ys → All P xs
among P [] ys inside all = all_none P
among P (x ∷ xs) ys inside all =
    All-cons P x xs (All-contains P ys x all (inside x (contains_first x xs))) (among P xs ys (λ z member. inside z (contains_later x z xs member)) all)

asked_by : (store : List ℤ) (asks : List Formed) → All (λ kind. MeetsKind store kind) (map (λ a. row_kind_of (exact a)) asks)
    → All (λ a. MeetsKind store (row_kind_of (exact a))) asks
asked_by store [] all = all_none (λ a. MeetsKind store (row_kind_of (exact a)))
asked_by store (a ∷ asks) all =
    All-cons (λ a. MeetsKind store (row_kind_of (exact a))) a asks
    (all_first (λ kind. MeetsKind store kind) (row_kind_of (exact a)) (map (λ a. row_kind_of (exact a)) asks) all)
    (asked_by store asks (All-tail (λ kind. MeetsKind store kind) (row_kind_of (exact a)) (map (λ a. row_kind_of (exact a)) asks) all))

met_by : (store : List ℤ) (asks : List Formed) → All (λ a. MeetsKind store (row_kind_of (exact a))) asks
    → All (λ kind. MeetsKind store kind) (map (λ a. row_kind_of (exact a)) asks)
met_by store [] all = all_none (λ kind. MeetsKind store kind)
met_by store (a ∷ asks) all =
    All-cons (λ kind. MeetsKind store kind) (row_kind_of (exact a)) (map (λ a. row_kind_of (exact a)) asks)
    (all_first (λ a. MeetsKind store (row_kind_of (exact a))) a asks all)
    (met_by store asks (All-tail (λ a. MeetsKind store (row_kind_of (exact a))) a asks all))

no_arc : {A : Type 0} (arc : Arc) → Contains [] arc → A
no_arc arc member = absurd (let low = member.1 in omega (arith, low))

ranged_among : (some : Bool) (choice : Choice) (arcs : List Arc) (arc : Arc) → Contains (if some then arcs_ranged choice arcs else []) arc → Contains arcs arc
ranged_among false choice arcs arc member = no_arc arc member
ranged_among true (Range lo hi) arcs arc member = member
ranged_among true NoChoice arcs arc member = no_arc arc member
ranged_among true Branch arcs arc member = no_arc arc member

-- the arcs that a leaf follows lead nowhere where none of its label does
pub followed_elsewhere : {R : Type 0} (at : Setting R) (label other : ℕ) → LeadsElsewhere at label other → (end : Plan R) (arc : Arc)
    → Contains (arcs_followed at end label) arc → arc.target ≢ other
followed_elsewhere at label other elsewhere (leaf (Step Every) rank) arc inside = elsewhere.every arc inside
followed_elsewhere at label other elsewhere (leaf (Step Yes) rank) arc inside = elsewhere.outcomes true arc inside
followed_elsewhere at label other elsewhere (leaf (Step No) rank) arc inside = elsewhere.outcomes false arc inside
followed_elsewhere at label other elsewhere (leaf (Step (Value a)) rank) arc inside =
    elsewhere.values a arc (ranged_among (is_existential at at.formula) (at.flow.choice label) (at.flow.arcs_with label a) arc inside)
followed_elsewhere at label other elsewhere other_end arc inside = no_arc arc inside

module _ {R : Type 0} (ranks : Ranks R) where
  -- of a leaf's path and the rows of the dropped leaf's that were looked at
  renewed_beyond : (asks : List Formed) (path : List Affine) (arc : Arc) (sets : Option (ℕ × Affine)) → arc.sets ≡ sets → (narrow own : List Formed)
      → ((a : Formed) → Contains narrow a → Contains (map (moved_by sets) path) a) → ((a : Formed) → Contains own a → Contains asks a)
      → IsMetNowhere (all_asked (narrow ++ own)) → HasNoStore ranks (renewed asks path arc)
  renewed_beyond asks path arc sets same narrow own moved regional none =
      let all : List Formed = (asks ++ arc.asks) ++ map (moved_by arc.sets) path in
      let inside : (a : Formed) → Contains (narrow ++ own) a → Contains all a =
      λ a member. elim (Contains-append_cases narrow own a member) [
        | inl first ↦
            Contains-append_right (asks ++ arc.asks) (map (moved_by arc.sets) path) a
            (subst (λ s. Contains (map (moved_by s) path) a) (sym same) (moved a first))
        | inr second ↦
            Contains-append_left (asks ++ arc.asks) (map (moved_by arc.sets) path) a (Contains-append_left asks arc.asks a (regional a second))
      ] in
      λ k choice low store met.
      none store
      (subst (All (λ kind. MeetsKind store kind)) (sym (map-map kind_of (λ a. asked a) (narrow ++ own)))
      (met_by store (narrow ++ own)
      (among (λ a. MeetsKind store (row_kind_of (exact a))) (narrow ++ own) all inside
      (asked_by store all
      (all_left (λ kind. MeetsKind store kind) (map (λ a. row_kind_of (exact a)) all)
      (get_or (choices ranks (renewed asks path arc).claim) k choice) met)))))

  -- no store meets what a drop made new at the leaf that a narrowed survey doesn't look at, where the rows of the dropped leaf's path are on the stack
  pub beyond_renewed : (at : Setting R) (family : Trees R) (d : Dropped) (label place : ℕ) (within : List Formed)
      → ((end : Plan R) (arc : Arc) → Contains (arcs_followed at end label) arc
      → All (λ a. Contains (map (moved_by arc.sets) (path_of (family d.label) d.leaf)) a) within)
      → IsBeyond true within (path_of (family label) place) → IsRenewed ranks at family d label place
  beyond_renewed at family d label place within held beyond = λ arc inside leads.
      let moved : All (λ a. Contains (map (moved_by arc.sets) (path_of (family d.label) d.leaf)) a) within = held (leaf_numbered (family label) place) arc inside in
      renewed_beyond (region at (family label) label place) (path_of (family arc.target) d.leaf) arc arc.sets refl within
      (map (λ a. given a) (path_of (family label) place))
      (λ a member.
      subst (λ l. Contains (map (moved_by arc.sets) (path_of (family l) d.leaf)) a) (sym leads)
      (All-contains (λ b. Contains (map (moved_by arc.sets) (path_of (family d.label) d.leaf)) b) within a moved member))
      (λ a member. Contains-append_right (rows_given (at.rows label)) (map (λ b. given b) (path_of (family label) place)) a member)
      beyond

  -- of a narrowed survey
  pub reviewed_narrowly : (at : Setting R) (family : Trees R) (d : Dropped) (label : ℕ) (span : Span) (within : List Formed) (found : List Refuted)
      → span.first ≡ 0 → span.collects ≡ true → span.narrows ≡ true
      → ((end : Plan R) (arc : Arc) → Contains (arcs_followed at end label) arc
      → All (λ a. Contains (map (moved_by arc.sets) (path_of (family d.label) d.leaf)) a) within)
      → IsReviewed ranks at family label span within found → AreCleared ranks at family (Some d) label found
  reviewed_narrowly at family d label span within found start all narrows held reviewed = λ place low aside.
      either place (reviewed.others (inl all) place low (omega (arith, start)) aside) where
        either : (place : ℕ) → All (HasNoStore ranks) (systems at family label place) ⊎ IsBeyond span.narrows within (path_of (family label) place)
            → IsCleared ranks at family (Some d) label place
        either place (inl none) = inl none
        either place (inr beyond) =
            inr (beyond_renewed at family d label place within held (subst (λ t. IsBeyond t within (path_of (family label) place)) narrows beyond))

  -- a drop that no arc leads to makes nothing new
  pub elsewhere_cleared : (at : Setting R) (family : Trees R) (d : Dropped) (label : ℕ) → LeadsElsewhere at label d.label
      → AreCleared ranks at family (Some d) label []
  elsewhere_cleared at family d label elsewhere = λ place low aside.
      inr (λ arc inside leads. absurd (followed_elsewhere at label d.label elsewhere (leaf_numbered (family label) place) arc inside leads))

-- ---- the arcs that a leaf follows set what is set at the label

sets_tested : (edge target : ℕ) (conjunctions : List (List Row)) (arc : Arc) → Contains (testing edge target conjunctions) arc → arc.sets ≡ None
sets_tested edge target [] arc member = absurd (let low = member.1 in omega (arith, low))
sets_tested edge target (rows ∷ more) arc (zero, low, same) = ap (λ (a : Arc). a.sets) (sym same)
sets_tested edge target (rows ∷ more) arc (suc k, low, same) = sets_tested edge target more arc (k, omega (arith, low), same)

sets_chosen : (x to : ℕ) (value : Linear) (cases : List (List Row)) (arc : Arc) → Contains (choosing_each x to value cases) arc → arc.sets ≡ Some (x, variable_at 15)
sets_chosen x to value [] arc member = absurd (let low = member.1 in omega (arith, low))
sets_chosen x to value (rows ∷ more) arc (zero, low, same) = ap (λ (a : Arc). a.sets) (sym same)
sets_chosen x to value (rows ∷ more) arc (suc k, low, same) = sets_chosen x to value more arc (k, omega (arith, low), same)

only : (x arc : Arc) → Contains (x ∷ []) arc → arc.sets ≡ x.sets
only x arc (zero, low, same) = ap (λ (a : Arc). a.sets) (sym same)
only x arc (suc k, low, same) = absurd (omega (arith, low))

sets_all : (transition : Transition) (arc : Arc) → Contains (arcs_of transition) arc → arc.sets ≡ sets_of transition
sets_all End arc member = only (passing 0) arc member
sets_all Dead arc member = no_arc arc member
sets_all (Assign place value to) arc member = only (putting place.number to value) arc member
sets_all (Choose place range choice cases to) arc member = sets_chosen place.number to range cases.items arc member
sets_all (Pass to) arc member = only (passing to) arc member
sets_all (Test head choice holds fails to other) arc member =
    elim (Contains-append_cases (testing 0 to holds.items) (testing 1 other fails.items) arc member) [
      | inl first ↦ sets_tested 0 to holds.items arc first
      | inr second ↦ sets_tested 1 other fails.items arc second
    ]

sets_outcome : (transition : Transition) (outcome : Bool) (arc : Arc) → Contains (outcome_arcs transition outcome) arc → arc.sets ≡ sets_of transition
sets_outcome (Test head choice holds fails to other) true arc member = sets_tested 0 to holds.items arc member
sets_outcome (Test head choice holds fails to other) false arc member = sets_tested 1 other fails.items arc member
sets_outcome End outcome arc member = no_arc arc member
sets_outcome Dead outcome arc member = no_arc arc member
sets_outcome (Pass to) outcome arc member = no_arc arc member
sets_outcome (Assign place value to) outcome arc member = no_arc arc member
sets_outcome (Choose place range choice cases to) outcome arc member = no_arc arc member

unranged : (some : Bool) (choice : Choice) (arcs : List Arc) (arc : Arc) → (some ≡ false) ⊎ ((lo hi : Option ℤ) → choice ≢ Range lo hi)
    → Contains (if some then arcs_ranged choice arcs else []) arc → ⊥
unranged false choice arcs arc only member = no_arc arc member
unranged true NoChoice arcs arc only member = no_arc arc member
unranged true Branch arcs arc only member = no_arc arc member
unranged true (Range lo hi) arcs arc (inl is) member = absurd (cc)
unranged true (Range lo hi) arcs arc (inr apart) member = apart lo hi refl

module _ {R : Type 0} (at : Setting R) where
  pub some_is : (f : Ctl) → is_existential at f ≡ speaks_of_some f
  some_is (next true f) = refl
  some_is (next false f) = refl
  some_is (until true f g) = refl
  some_is (until false f g) = refl
  some_is (weak true f g) = refl
  some_is (weak false f g) = refl
  some_is other = refl

module _ {R : Type 0} (at : Setting R) (label : ℕ) (transition : Transition) (follows : IsTransitionAt at label transition) (none : PicksNoValue at label) where
  picked_sets : (pick : Pick) (arc : Arc) → Contains (arcs_picked at pick label) arc → arc.sets ≡ sets_of transition
  picked_sets Every arc member = sets_all transition arc (subst (λ arcs. Contains arcs arc) follows.arcs member)
  picked_sets Yes arc member = sets_outcome transition true arc (subst (λ arcs. Contains arcs arc) (follows.outcomes true) member)
  picked_sets No arc member = sets_outcome transition false arc (subst (λ arcs. Contains arcs arc) (follows.outcomes false) member)
  picked_sets (Value a) arc member = absurd (unranged (is_existential at at.formula) (at.flow.choice label) (at.flow.arcs_with label a) arc none member)

  why_sets : (why : Why) (rank : R) (arc : Arc) → Contains (arcs_followed at (leaf why rank) label) arc → arc.sets ≡ sets_of transition
  why_sets (Step pick) rank arc member = picked_sets pick arc member
  why_sets other rank arc member = no_arc arc member

  followed_sets : (end : Plan R) (arc : Arc) → Contains (arcs_followed at end label) arc → arc.sets ≡ sets_of transition
  followed_sets (leaf why rank) arc member = why_sets why rank arc member
  followed_sets other arc member = no_arc arc member

  -- what is on the stack of the path moved back over what the label sets
  pub path_held : (stack : ConstraintStack) (path : List Affine) → HoldsAmong stack (map (moved_by (sets_of transition)) path) → HoldsPath at label stack path
  path_held stack path held = (
    held.0,
    held.1,
    λ end arc inside. subst (λ s. All (λ a. Contains (map (moved_by s) path) a) held.0) (sym (followed_sets end arc inside)) held.2,
  )

pub path_empty : {R : Type 0} (at : Setting R) (label : ℕ) (stack : ConstraintStack) (path : List Affine) → Holds stack [] → HoldsPath at label stack path
path_empty at label stack path empty = ([], empty, λ end arc inside. all_none (λ a. Contains (map (moved_by arc.sets) path) a))

-- ---- the rows of a path, the last one first

among_none : (stack : ConstraintStack) (asks : List Formed) → Holds stack [] → HoldsAmong stack asks
among_none stack asks empty = ([], empty, all_none (λ a. Contains asks a))

among_more : (mid new : ConstraintStack) (a : Formed) (path : List Formed) (entered : Bool) → (entered ≡ false → IsSame mid new)
    → (entered ≡ true → (asks : List Formed) → Holds mid (all_asked asks) → Holds new (all_asked (asks ++ a ∷ [])))
    → HoldsAmong mid path → HoldsAmong new (a ∷ path)
among_more mid new a path true same held among = (
  among.0 ++ a ∷ [],
  held refl among.0 among.1,
  All-append (λ b. Contains (a ∷ path) b) among.0 (a ∷ [])
      (All-weaker (λ b. Contains path b) (λ b. Contains (a ∷ path) b) (λ b inside. contains_later a b path inside) among.0 among.2)
      (all_one (λ b. Contains (a ∷ path) b) a (contains_first a path)),
)
among_more mid new a path false same held among = (
  among.0,
  held_same (all_asked among.0) mid new (same refl) among.1,
  All-weaker (λ b. Contains path b) (λ b. Contains (a ∷ path) b) (λ b inside. contains_later a b path inside) among.0 among.2,
)

-- of the rows of a path that was looked for: where there is none nothing is on the stack
pub found_among : (stack new : ConstraintStack) (asks : List Formed) (found : Bool) → Holds stack [] → (found ≡ false → IsSame stack new)
    → (found ≡ true → Holds stack [] → HoldsAmong new asks) → HoldsAmong new asks
found_among stack new asks true empty same held = held refl empty
found_among stack new asks false empty same held = among_none new asks (held_same [] stack new (same refl) empty)

module _ {R : Type 0} (sets : Option (ℕ × Affine)) (row : Row) (this that : Plan R) (mid new : ConstraintStack) (entered : Bool) (same : entered ≡ false → IsSame mid new) where
  pub among_first : (left : ℕ) → left < leaves_of this
      → (entered ≡ true → (asks : List Formed) → Holds mid (all_asked asks) → Holds new (all_asked (asks ++ moved_by sets (side_of row.affine true) ∷ [])))
      → HoldsAmong mid (map (moved_by sets) (path_of this left)) → HoldsAmong new (map (moved_by sets) (path_of (branch row this that) left))
  among_first left low held before =
      let lower : nat_lt left (leaves_of this) ≡ true = lt-ltb left (leaves_of this) low in
      rw lower (among_more mid new (moved_by sets row.affine) (map (moved_by sets) (path_of this left)) entered same held before)

  pub among_second : (left rest : ℕ) → left ≡ rest + leaves_of this
      → (entered ≡ true → (asks : List Formed) → Holds mid (all_asked asks) → Holds new (all_asked (asks ++ moved_by sets (side_of row.affine false) ∷ [])))
      → HoldsAmong mid (map (moved_by sets) (path_of that rest)) → HoldsAmong new (map (moved_by sets) (path_of (branch row this that) left))
  among_second left rest is held before =
      let higher : nat_lt left (leaves_of this) ≡ false = le-ltb left (leaves_of this) (omega (arith, is)) in
      let behind : rest ≡ left - leaves_of this = omega (arith, is) in
      rw higher (subst (λ n. HoldsAmong new (map (moved_by sets) (complement_of row.affine ∷ path_of that n))) behind (among_more mid new (moved_by sets (complement_of row.affine)) (map (moved_by sets) (path_of that rest)) entered same held before))
