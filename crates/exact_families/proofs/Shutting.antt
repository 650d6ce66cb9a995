-- Systems are shut where no judge grants what they ask; then no point meets them, and no legal elimination goes by them.
use Rattle.std.proofs.Common.{◌≡◌, ◌⊎◌, inl, inr, ⊎_elim, ℕ, zero, suc, ◌-◌, ◌<◌, nat_lt, ℤ, pos, ◌<ℤ◌, Bool, true, false, cond, List, [], ◌∷◌, ◌++◌, map, Option, length, get_or, All, Contains, refl, sym, ap, subst, ◌∙◌, arith}
use Rattle.std.proofs.lemmas.Bool.{false≢true}
use Rattle.std.proofs.lemmas.List.Elements.{All-append, All-contains, Contains-append_left, Contains-append_right}
use Rattle.linear_cons.specs.declared.affine.Affine.{Affine}
use Rattle.linear_cons.specs.declared.row.Row.{Row}
use Rattle.linear_cons.specs.declared.row.RowKind.{RowKind}
use Rattle.linear_cons.specs.declared.row.RowKind.TheVariants.{Never, Row as Kept}
use Rattle.linear_cons.specs.Functions.{complement_of}
use Rattle.linear_cons.specs.Rows.{PointMeetsKind, row_kind_of}
use Rattle.linear_cons.proofs.RowLaws.{opposed_never}
use Rattle.decision_tree.specs.AffineRanks.{excess_of}
use Rattle.decision_tree.specs.Paths.{leaf_numbered, path_of}
use Rattle.decision_tree.specs.Plans.{IsEnd, Plan, bottom, branch, is_defined, leaf, leaves_of, top}
use Rattle.decision_tree.specs.declared.affine_rank.AffineRank.{AffineRank}
use Rattle.tree_support.specs.Certificates.{affine_ranks}
use Rattle.tree_support.specs.declared.dropped.Dropped.{Dropped}
use Rattle.constraint_stack.specs.declared.reason.Reason.{Reason}
use Rattle.constraint_stack.specs.declared.reason.Reason.TheVariants.{Point, Wide as TooWide, Rows}
use Rattle.tree_support.specs.Elimination.{Eliminates}
use Rattle.constraint_stack.specs.Reasons.{IsOpen, IsWhole, Justifies, Shows}
use Rattle.constraint_stack.specs.Forming.{Formed, FormsWhole, exact, given}
use Rattle.tree_support.specs.Setting.{Setting, Trees}
use Rattle.constraint_stack.specs.Claims.{HasNoPoint, choices, kinds_of, moved_rank, System, exceeding, nothing, unnatural}
use Rattle.tree_support.specs.Support.{IsFirm}
use Rattle.tree_support.specs.Systems.{at_leaves, if_undefined, plain, systems, unless_less}
use Rattle.tree_support.proofs.Lists.{all_none, all_one, contains_first, contains_later}
use Rattle.exact_families.proofs.Judges.{Granted, IsJudge, judged}
use Rattle.exact_families.specs.Shut.{AllShut, AllWhole, IsConsistent, IsShut}
use Rattle.exact_families.proofs.Judging.{on_no, on_yes, turned_true}
use Rattle.exact_families.proofs.Opening.{Opens, opening}

-- ---- lists

contains_map : {A B : Type 0} (f : A → B) (xs : List A) (x : A) → Contains xs x → Contains (map f xs) (f x)
contains_map f [] x inside = absurd (let low = inside.1 in omega arith)
contains_map f (y ∷ ys) x (zero, low, is) = (0, omega arith, ap f is)
contains_map f (y ∷ ys) x (suc k, low, is) = contains_later (f y) (f x) (map f ys) (contains_map f ys x (k, omega arith, is))

pub map_contains : {A B : Type 0} (f : A → B) (xs : List A) (y : B) → Contains (map f xs) y → (x : A) × Contains xs x × (f x ≡ y)
map_contains f [] y inside = absurd (let low = inside.1 in omega arith)
map_contains f (x ∷ xs) y (zero, low, is) = (x, contains_first x xs, is)
map_contains f (x ∷ xs) y (suc k, low, is) = let found = map_contains f xs y (k, omega arith, is) in (found.0, contains_later x found.0 xs found.1, found.2)

pub append_contains : {A : Type 0} (xs ys : List A) (x : A) → Contains (xs ++ ys) x → Contains xs x ⊎ Contains ys x
append_contains [] ys x inside = inr inside
append_contains (y ∷ xs) ys x (zero, low, is) = inl (0, omega arith, is)
append_contains (y ∷ xs) ys x (suc k, low, is) =
    ⊎_elim (λ here. inl (contains_later y x xs here)) (λ there. inr there) (append_contains xs ys x (k, omega arith, is))

pub only_one : {A : Type 0} (x y : A) → Contains (x ∷ []) y → x ≡ y
only_one x y (zero, low, is) = is
only_one x y (suc k, low, is) = absurd (omega arith)

pub all_of : {A : Type 0} (P : A → Type 0) (xs : List A) → ((x : A) → Contains xs x → P x) → All P xs
all_of P xs each k d low = each (get_or xs k d) (k, low, get_or_any xs k (get_or xs k d) d low)
  where
    get_or_any : {A : Type 0} (xs : List A) (k : ℕ) (d e : A) → k < length xs → get_or xs k d ≡ get_or xs k e
    get_or_any [] k d e low = absurd (omega arith)
    get_or_any (x ∷ xs) zero d e low = refl
    get_or_any (x ∷ xs) (suc k) d e low = get_or_any xs k d e (omega arith)

-- ---- what is granted

granted_all : (v : Affine → Bool) (asks : List Formed) → ((f : Formed) → Contains asks f → v (exact f) ≡ true) → Granted v asks
granted_all v [] each = tt
granted_all v (f ∷ rest) each = (each f (contains_first f rest), granted_all v rest (λ g inside. each g (contains_later f g rest inside)))

pub granted_left : (v : Affine → Bool) (asks more : List Formed) → Granted v (asks ++ more) → Granted v asks
granted_left v [] more own = tt
granted_left v (f ∷ rest) more own = (own.0, granted_left v rest more own.1)

pub granted_right : (v : Affine → Bool) (asks more : List Formed) → Granted v (asks ++ more) → Granted v more
granted_right v [] more own = own
granted_right v (f ∷ rest) more own = granted_right v rest more own.1

pub granted_both : (v : Affine → Bool) (asks more : List Formed) → Granted v asks → Granted v more → Granted v (asks ++ more)
granted_both v [] more first second = second
granted_both v (f ∷ rest) more first second = (first.0, granted_both v rest more first.1 second)

-- ---- one system

module _ (system : System AffineRank) where
  fewer : (choice : List RowKind) → IsConsistent (kinds_of affine_ranks system choice) → Contains choice Never → ⊥
  fewer choice fair never = fair.possible (Contains-append_right (map (λ a. row_kind_of (exact a)) system.asks) choice Never never)

  -- no judge grants what it asks, but where an alternative of its claim is impossible
  pub shut_by : ((v : Affine → Bool) → IsJudge v → Granted v system.asks → (choice : List RowKind) → Contains (choices affine_ranks system.claim) choice
      → (Contains choice Never → ⊥) → ⊥) → IsShut system
  shut_by none choice inside fair =
      let opens : Opens (kinds_of affine_ranks system choice) = opening (kinds_of affine_ranks system choice) fair in
      none opens.says opens.judges
      (granted_all opens.says system.asks (λ f here. opens.grants (exact f)
      (Contains-append_left (map (λ a. row_kind_of (exact a)) system.asks) choice (row_kind_of (exact f)) (contains_map (λ a. row_kind_of (exact a)) system.asks f here))))
      choice inside (fewer choice fair)

  -- what is seen of its claim is one of its alternatives, as all is formed
  shown : (choice : List RowKind) → IsWhole affine_ranks system → (kind : RowKind) → Contains (kinds_of affine_ranks system choice) kind → Shows affine_ranks system choice kind
  shown choice whole kind inside =
      ⊎_elim
      (λ here. let found = map_contains (λ a. row_kind_of (exact a)) system.asks kind here in inl (found.0, found.1, All-contains FormsWhole system.asks found.0 whole.0 found.1, found.2))
      (λ there. inr (whole.1, there))
      (append_contains (map (λ a. row_kind_of (exact a)) system.asks) choice kind inside)

  pub open_fair : (choice : List RowKind) → IsWhole affine_ranks system → IsOpen affine_ranks system choice → IsConsistent (kinds_of affine_ranks system choice)
  open_fair choice whole is_open = record {
    possible = λ inside. is_open.there (shown choice whole Never inside);
    apart = λ row other here there opposed. is_open.apart row other (shown choice whole (Kept row) here) (shown choice whole (Kept other) there) opposed;
  }

  pub point_fair : (kinds : List RowKind) (num : List ℤ) (den : ℤ) → pos 0 <ℤ den → All (λ kind. PointMeetsKind num den kind) kinds → IsConsistent kinds
  point_fair kinds num den some met = record {
    possible = λ inside. All-contains (λ kind. PointMeetsKind num den kind) kinds Never met inside;
    apart = λ row other here there opposed.
        opposed_never row other opposed num den some
        (All-contains (λ kind. PointMeetsKind num den kind) kinds (Kept row) met here)
        (All-contains (λ kind. PointMeetsKind num den kind) kinds (Kept other) met there);
  }

  -- no point meets a shut system
  pub shut_firm : IsShut system → HasNoPoint affine_ranks system
  shut_firm shut = all_of
      (λ choice. (num : List ℤ) (den : ℤ) → pos 0 <ℤ den → All (λ kind. PointMeetsKind num den kind) (kinds_of affine_ranks system choice) → ⊥)
      (choices affine_ranks system.claim)
      (λ choice inside num den some met. shut choice inside (point_fair (kinds_of affine_ranks system choice) num den some met))

-- and no reason to give a leaf up holds for one that is formed whole
pub shut_reasonless : (reason : Reason) (system : System AffineRank) → IsShut system → IsWhole affine_ranks system → Justifies affine_ranks reason system → ⊥
shut_reasonless (Point num den) system shut whole holds =
    shut holds.1.0 holds.1.1 (point_fair system (kinds_of affine_ranks system holds.1.0) num den holds.0 holds.1.2)
shut_reasonless (TooWide operands) system shut whole holds =
    shut holds.1.0 (holds.1.1.one_of whole.1) (open_fair system holds.1.0 whole holds.1.2)
shut_reasonless (Rows count) system shut whole holds =
    shut holds.1.0 holds.1.1 (open_fair system holds.1.0 whole holds.1.2)

-- ---- families

pub shut_is_firm : (at : Setting AffineRank) (family : Trees AffineRank) → AllShut at family → IsFirm affine_ranks at family
shut_is_firm at family shut label place low =
    all_of (HasNoPoint affine_ranks) (systems at family label place)
    (λ system inside. shut_firm system (All-contains IsShut (systems at family label place) system (shut label place) inside))

pub shut_keeps : (at : Setting AffineRank) (family new : Trees AffineRank) (drops : List Dropped) → AllShut at family → AllWhole at family
    → Eliminates affine_ranks at family drops new → drops ≡ []
shut_keeps at family new [] shut whole eliminates = refl
shut_keeps at family new (dropped ∷ rest) shut whole eliminates =
    let drop = eliminates.0 in
    absurd (shut_reasonless dropped.reason drop.system
    (All-contains IsShut (systems at family dropped.label dropped.leaf) drop.system (shut dropped.label dropped.leaf) drop.system_in)
    (All-contains (IsWhole affine_ranks) (systems at family dropped.label dropped.leaf) drop.system (whole dropped.label dropped.leaf) drop.system_in)
    drop.justified)

-- ---- the leaves of another tree

pub plain_shut : (edge : ℕ) (asks : List Formed) → ((v : Affine → Bool) → IsJudge v → Granted v asks → ⊥) → All IsShut (plain edge asks)
plain_shut edge asks none =
    all_one IsShut (record { edge = edge; asks = asks; claim = nothing })
    (shut_by (record { edge = edge; asks = asks; claim = nothing }) (λ v is own choice inside possible. none v is own))

-- what a judge says of a moved function
abbrev pub says_moved : (Affine → Bool) → (Affine → Formed) → Affine → Bool
says_moved v moved a = v (exact (moved a))

-- the complement of a moved function is moved to the complement
abbrev pub Turns : (Affine → Formed) → Type 0
Turns moved = (a : Affine) → exact (moved (complement_of a)) ≡ complement_of (exact (moved a))

module _ (moved : Affine → Formed) (turns : Turns moved) (ending : Plan AffineRank → List Formed → List (System AffineRank)) where
  -- where a judge grants all that is asked it grants this, and the leaf is the tree's
  abbrev pub Leads : Plan AffineRank → List Formed → Plan AffineRank → List Formed → Type 0
  Leads plan asks end more = (v : Affine → Bool) → IsJudge v → Granted v more → Granted v asks × (judged (says_moved v moved) plan ≡ end)

  pub leaves_all : (P : System AffineRank → Type 0) (plan : Plan AffineRank) (asks : List Formed)
      → ((end : Plan AffineRank) (more : List Formed) → IsEnd end → Leads plan asks end more → All P (ending end more))
      → All P (at_leaves moved ending plan asks)
  leaves_all P bottom asks each = each bottom asks tt (λ v is own. (own, refl))
  leaves_all P (top cause) asks each = each (top cause) asks tt (λ v is own. (own, refl))
  leaves_all P (leaf why rank) asks each = each (leaf why rank) asks tt (λ v is own. (own, refl))
  leaves_all P (branch row this that) asks each =
      let here : List Formed = asks ++ moved row.affine ∷ [] in
      let there : List Formed = asks ++ moved (complement_of row.affine) ∷ [] in
      All-append P (at_leaves moved ending this here) (at_leaves moved ending that there)
      (leaves_all P this here (λ end more ends leads. each end more ends (λ v is own.
      let found = leads v is own in
      let held : v (exact (moved row.affine)) ≡ true = (granted_right v asks (moved row.affine ∷ []) found.0).0 in
      (granted_left v asks (moved row.affine ∷ []) found.0, on_yes (says_moved v moved) row this that held ∙ found.1))))
      (leaves_all P that there (λ end more ends leads. each end more ends (λ v is own.
      let found = leads v is own in
      let turned : v (exact (moved (complement_of row.affine))) ≡ true = (granted_right v asks (moved (complement_of row.affine) ∷ []) found.0).0 in
      let lost : v (exact (moved row.affine)) ≡ false = turned_true v is (exact (moved row.affine)) (ap v (sym (turns row.affine)) ∙ turned) in
      (granted_left v asks (moved (complement_of row.affine) ∷ []) found.0, on_no (says_moved v moved) row this that lost ∙ found.1))))

undefined_end : (edge : ℕ) (end : Plan AffineRank) (asks : List Formed) → ((v : Affine → Bool) → IsJudge v → Granted v asks → is_defined end ≡ true)
    → All IsShut (if_undefined edge end asks)
undefined_end edge bottom asks each = plain_shut edge asks (λ v is own. false≢true (each v is own))
undefined_end edge (top cause) asks each = plain_shut edge asks (λ v is own. false≢true (each v is own))
undefined_end edge (leaf why rank) asks each = all_none IsShut
undefined_end edge (branch row this that) asks each = plain_shut edge asks (λ v is own. false≢true (each v is own))

-- where each judge that grants what is asked stands at a defined leaf, the undefined ones make shut systems
pub undefined_shut : (moved : Affine → Formed) → Turns moved → (edge : ℕ) (plan : Plan AffineRank) (asks : List Formed)
    → ((v : Affine → Bool) → IsJudge v → Granted v asks → is_defined (judged (says_moved v moved) plan) ≡ true)
    → All IsShut (at_leaves moved (if_undefined edge) plan asks)
undefined_shut moved turns edge plan asks each =
    leaves_all moved turns (if_undefined edge) IsShut plan asks
    (λ end more ends leads. undefined_end edge end more (λ v is own. let found = leads v is own in ap is_defined (sym found.1) ∙ each v is found.0))

-- ---- ranks

-- the first rank, moved, is seen to be below the second
abbrev pub IsSeenBelow : Option (ℕ × Affine) → AffineRank → AffineRank → Type 0
IsSeenBelow sets other rank = row_kind_of (excess_of (affine_ranks.one_more (moved_rank affine_ranks sets other)).value rank.value) ≡ Never

-- a defined leaf whose rank is
abbrev pub IsLess : Option (ℕ × Affine) → AffineRank → Plan AffineRank → Type 0
IsLess sets rank (leaf why other) = IsSeenBelow sets other rank
IsLess sets rank end = ⊥

less_end : (edge : ℕ) (sets : Option (ℕ × Affine)) (rank : AffineRank) (end : Plan AffineRank) (asks : List Formed)
    → ((v : Affine → Bool) → IsJudge v → Granted v asks → IsLess sets rank end) → All IsShut (unless_less edge sets rank end asks)
less_end edge sets rank bottom asks each = plain_shut edge asks each
less_end edge sets rank (top cause) asks each = plain_shut edge asks each
less_end edge sets rank (branch row this that) asks each = plain_shut edge asks each
less_end edge sets rank (leaf why other) asks each =
    all_one IsShut (record { edge = edge; asks = asks; claim = exceeding other sets rank })
    (shut_by (record { edge = edge; asks = asks; claim = exceeding other sets rank })
    (λ v is own choice inside possible.
    possible (subst (λ (c : List RowKind). Contains c Never) (only_one _ choice inside) (0, omega arith, each v is own))))

pub less_shut : (moved : Affine → Formed) → Turns moved → (edge : ℕ) (sets : Option (ℕ × Affine)) (rank : AffineRank) (plan : Plan AffineRank) (asks : List Formed)
    → ((v : Affine → Bool) → IsJudge v → Granted v asks → IsLess sets rank (judged (says_moved v moved) plan))
    → All IsShut (at_leaves moved (unless_less edge sets rank) plan asks)
less_shut moved turns edge sets rank plan asks each =
    leaves_all moved turns (unless_less edge sets rank) IsShut plan asks
    (λ end more ends leads. less_end edge sets rank end more (λ v is own. let found = leads v is own in subst (IsLess sets rank) found.1 (each v is found.0)))

-- a rank that is seen to be no negative number
pub natural_shut : (edge : ℕ) (rank : AffineRank) (asks : List Formed) → ((v : Affine → Bool) → IsJudge v → Granted v asks → row_kind_of (complement_of rank.value) ≡ Never)
    → All IsShut (record { edge = edge; asks = asks; claim = unnatural rank } ∷ [])
natural_shut edge rank asks each =
    all_one IsShut (record { edge = edge; asks = asks; claim = unnatural rank })
    (shut_by (record { edge = edge; asks = asks; claim = unnatural rank })
    (λ v is own choice inside possible. possible (subst (λ (c : List RowKind). Contains c Never) (only_one _ choice inside) (0, omega arith, each v is own))))

-- ---- moving

pub given_turns : Turns given
given_turns a = refl

-- ---- the leaf's own region

path_at : (v : Affine → Bool) → IsJudge v → (row : Row) (this that : Plan AffineRank) (place : ℕ) (t : Bool)
    → (Granted v (map given (path_of this place)) → judged v this ≡ leaf_numbered this place)
    → (Granted v (map given (path_of that (place - leaves_of this))) → judged v that ≡ leaf_numbered that (place - leaves_of this))
    → Granted v (map given (cond t (row.affine ∷ path_of this place) (complement_of row.affine ∷ path_of that (place - leaves_of this))))
    → judged v (branch row this that) ≡ cond t (leaf_numbered this place) (leaf_numbered that (place - leaves_of this))
path_at v is row this that place true first second own = on_yes v row this that own.0 ∙ first own.1
path_at v is row this that place false first second own = on_no v row this that (turned_true v is row.affine own.0) ∙ second own.1

-- a judge that grants the path stands at its leaf
pub path_judged : (v : Affine → Bool) → IsJudge v → (plan : Plan AffineRank) (place : ℕ) → Granted v (map given (path_of plan place)) → judged v plan ≡ leaf_numbered plan place
path_judged v is bottom place own = refl
path_judged v is (top cause) place own = refl
path_judged v is (leaf why rank) place own = refl
path_judged v is (branch row this that) place own =
    path_at v is row this that place (nat_lt place (leaves_of this)) (λ own. path_judged v is this place own) (λ own. path_judged v is that (place - leaves_of this) own) own
