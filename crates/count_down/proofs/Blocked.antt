-- Blocked systems are met by no point, and no legal elimination gives their leaves up.
use Rattle.std.proofs.Common.{◌≡◌, ℕ, zero, suc, get_or, ◌<◌, ◌≤◌, ℤ, pos, ◌<ℤ◌, inl, inr, List, [], ◌∷◌, map, length, All, Contains, ⊎_elim, refl, ap, subst, arith}
use Rattle.std.proofs.lemmas.Bool.{cases_lt}
use Rattle.std.proofs.lemmas.Int.{ints}
use Rattle.std.proofs.lemmas.List.Elements.{All-contains, Contains-append_left, Contains-append_right}
use Rattle.linear_cons.specs.declared.affine.Affine.{Affine}
use Rattle.linear_cons.specs.declared.row.RowKind.{RowKind}
use Rattle.linear_cons.specs.declared.row.RowKind.TheVariants.{Always, Never, Row as Kept}
use Rattle.linear_cons.specs.Rows.{MeetsKind, PointMeetsKind, row_kind_of}
use Rattle.linear_cons.proofs.RowLaws.{opposed_never}
use Rattle.decision_tree.specs.declared.affine_rank.AffineRank.{AffineRank}
use Rattle.tree_support.specs.declared.dropped.Dropped.{Dropped}
use Rattle.constraint_stack.specs.declared.reason.Reason.{Reason}
use Rattle.constraint_stack.specs.declared.reason.Reason.TheVariants.{Point, Wide as TooWide, Rows}
use Rattle.tree_support.specs.Certificates.{affine_ranks}
use Rattle.tree_support.specs.Elimination.{Eliminates}
use Rattle.constraint_stack.specs.Reasons.{IsOpen, IsSeen, Justifies, Shows, rows_in}
use Rattle.constraint_stack.specs.Forming.{Formed, exact}
use Rattle.tree_support.specs.Setting.{Setting, Trees}
use Rattle.constraint_stack.specs.Claims.{ClaimFits, HasNoStore, choices, kinds_of, Claim, nothing, unnatural, exceeding, System}
use Rattle.tree_support.specs.Support.{IsSupported}
use Rattle.tree_support.specs.Systems.{systems}
use Rattle.count_down.specs.Blocking.{AllBlocked, AsksFor, ClaimAsks, IsBlocked}
use Rattle.count_down.specs.Cancelling.{Clash}
use Rattle.count_down.proofs.Clashing.{clash}

-- ---- lists

contains_map : {A B : Type 0} (f : A → B) (xs : List A) (x : A) → Contains xs x → Contains (map f xs) (f x)
contains_map f [] x inside = absurd (let low = inside.1 in omega arith)
contains_map f (y ∷ ys) x (zero, low, is) = (0, omega arith, ap f is)
contains_map f (y ∷ ys) x (suc k, low, is) = let later = contains_map f ys x (k, omega arith, is) in (suc later.0, let l = later.1 in omega arith, later.2)

few_kept : (kinds : List RowKind) → length (rows_in kinds) ≤ length kinds
few_kept [] = omega arith
few_kept (Always ∷ more) = let later = few_kept more in omega arith
few_kept (Never ∷ more) = let later = few_kept more in omega arith
few_kept (Kept row ∷ more) = let later = few_kept more in omega arith

all_of : {A : Type 0} (P : A → Type 0) (xs : List A) → ((x : A) → Contains xs x → P x) → All P xs
all_of P xs each k d low = each (get_or xs k d) (k, low, get_or_any xs k (get_or xs k d) d low)
  where
    get_or_any : {A : Type 0} (xs : List A) (k : ℕ) (d e : A) → k < length xs → get_or xs k d ≡ get_or xs k e
    get_or_any [] k d e low = absurd (omega arith)
    get_or_any (x ∷ xs) zero d e low = refl
    get_or_any (x ∷ xs) (suc k) d e low = get_or_any xs k d e (omega arith)

only_one : {A : Type 0} (x y : A) → Contains (x ∷ []) y → x ≡ y
only_one x y (zero, low, is) = is
only_one x y (suc k, low, is) = absurd (omega arith)

-- ---- claims

-- an alternative of a claim is the row of its function
choice_has : (claim : Claim AffineRank) (choice : List RowKind) (a : Affine) → Contains (choices affine_ranks claim) choice → ClaimAsks claim a
    → Contains choice (row_kind_of a)
choice_has nothing choice a inside is = absurd is
choice_has (unnatural rank) choice a inside is = subst (λ c. Contains c (row_kind_of a)) (only_one _ choice inside) (0, omega arith, ap row_kind_of is)
choice_has (exceeding other sets rank) choice a inside is = subst (λ c. Contains c (row_kind_of a)) (only_one _ choice inside) (0, omega arith, ap row_kind_of is)

choice_short : (claim : Claim AffineRank) (choice : List RowKind) → Contains (choices affine_ranks claim) choice → length choice ≤ 1
choice_short nothing choice inside = rw (← only_one [] choice inside) (omega arith)
choice_short (unnatural rank) choice inside = subst (λ (c : List RowKind). length c ≤ 1) (only_one _ choice inside) (omega arith)
choice_short (exceeding other sets rank) choice inside = subst (λ (c : List RowKind). length c ≤ 1) (only_one _ choice inside) (omega arith)

-- ---- one system
module _ (system : System AffineRank) (choice : List RowKind) where
  shows : (a : Affine) → (ClaimFits affine_ranks system.claim → Contains (choices affine_ranks system.claim) choice) → AsksFor system a
      → Shows affine_ranks system choice (row_kind_of a)
  shows a one_of (inl asked) = inl (asked.0, asked.1, asked.2, ap row_kind_of asked.3)
  shows a one_of (inr asked) = inr (asked.0, choice_has system.claim choice a (one_of asked.0) asked.1)

  shown_inside : (kind : RowKind) → Shows affine_ranks system choice kind → Contains (kinds_of affine_ranks system choice) kind
  shown_inside kind (inl asked) =
      let own = contains_map (λ (a : Formed). row_kind_of (exact a)) system.asks asked.0 asked.1 in
      subst (Contains (kinds_of affine_ranks system choice)) asked.3
      (Contains-append_left (map (λ (a : Formed). row_kind_of (exact a)) system.asks) choice (row_kind_of (exact asked.0)) own)
  shown_inside kind (inr asked) = Contains-append_right (map (λ (a : Formed). row_kind_of (exact a)) system.asks) choice kind asked.1

-- kinds that clash aren't both met by a point
clash_unmet : (kind other : RowKind) → Clash kind other → (num : List ℤ) (den : ℤ) → pos 0 <ℤ den → PointMeetsKind num den kind → PointMeetsKind num den other → ⊥
clash_unmet Never other clashes num den some met too = met
clash_unmet Always Never clashes num den some met too = too
clash_unmet (Kept row) Never clashes num den some met too = too
clash_unmet (Kept row) (Kept other) clashes num den some met too = opposed_never row other clashes num den some met too
clash_unmet Always Always clashes num den some met too = clashes
clash_unmet Always (Kept other) clashes num den some met too = clashes
clash_unmet (Kept row) Always clashes num den some met too = clashes

-- a system that shows kinds that clash isn't open
clash_shut : (system : System AffineRank) (choice : List RowKind) (kind other : RowKind) → Clash kind other
    → Shows affine_ranks system choice kind → Shows affine_ranks system choice other → IsOpen affine_ranks system choice → ⊥
clash_shut system choice Never other clashes one two is_open = is_open.there one
clash_shut system choice Always Never clashes one two is_open = is_open.there two
clash_shut system choice (Kept row) Never clashes one two is_open = is_open.there two
clash_shut system choice (Kept row) (Kept other) clashes one two is_open = is_open.apart row other one two clashes
clash_shut system choice Always Always clashes one two is_open = clashes
clash_shut system choice Always (Kept other) clashes one two is_open = clashes
clash_shut system choice (Kept row) Always clashes one two is_open = clashes

-- what is seen of a claim is at most one row
seen_short : (system : System AffineRank) (choice : List RowKind) → IsSeen affine_ranks system choice → length choice ≤ 1
seen_short system choice seen = ⊎_elim
    (λ (more : 1 < length choice).
    let none : choice ≡ [] = seen.unseen (λ fits. let short = choice_short system.claim choice (seen.one_of fits) in omega arith) in
    let short : length choice ≡ 0 = rw none refl in
    absurd (omega arith))
    (λ (short : length choice ≤ 1). short)
    (cases_lt 1 (length choice))

-- no point meets a blocked system
pub blocked_unmet : (system : System AffineRank) → IsBlocked system → (choice : List RowKind) → Contains (choices affine_ranks system.claim) choice
    → (num : List ℤ) (den : ℤ) → pos 0 <ℤ den → All (λ kind. PointMeetsKind num den kind) (kinds_of affine_ranks system choice) → ⊥
blocked_unmet system blocked choice inside num den some met =
    let one = shown_inside system choice (row_kind_of blocked.one) (shows system choice blocked.one (λ fits. inside) blocked.asks_one) in
    let two = shown_inside system choice (row_kind_of blocked.two) (shows system choice blocked.two (λ fits. inside) blocked.asks_two) in
    clash_unmet (row_kind_of blocked.one) (row_kind_of blocked.two) (clash blocked.one blocked.two blocked.cancels) num den some
    (All-contains (λ kind. PointMeetsKind num den kind) (kinds_of affine_ranks system choice) (row_kind_of blocked.one) met one)
    (All-contains (λ kind. PointMeetsKind num den kind) (kinds_of affine_ranks system choice) (row_kind_of blocked.two) met two)

-- none of its alternatives is open
shut : (system : System AffineRank) → IsBlocked system → (choice : List RowKind)
    → (ClaimFits affine_ranks system.claim → Contains (choices affine_ranks system.claim) choice) → length choice ≤ 1 → IsOpen affine_ranks system choice → ⊥
shut system blocked choice one_of short is_open =
    clash_shut system choice (row_kind_of blocked.one) (row_kind_of blocked.two)
    (clash blocked.one blocked.two blocked.cancels) (shows system choice blocked.one one_of blocked.asks_one)
    (shows system choice blocked.two one_of blocked.asks_two) is_open

-- so no reason to give a leaf up holds for it
pub no_reason : (reason : Reason) (system : System AffineRank) → IsBlocked system → Justifies affine_ranks reason system → ⊥
no_reason (Point num den) system blocked holds = blocked_unmet system blocked holds.1.0 holds.1.1 num den holds.0 holds.1.2
no_reason (TooWide operands) system blocked holds =
    shut system blocked holds.1.0 holds.1.1.one_of (seen_short system holds.1.0 holds.1.1) holds.1.2
no_reason (Rows count) system blocked holds =
    shut system blocked holds.1.0 (λ fits. holds.1.1) (choice_short system.claim holds.1.0 holds.1.1) holds.1.2

-- ---- families

-- a family all of whose systems are blocked is supported
pub blocked_supports : (at : Setting AffineRank) (family : Trees AffineRank) → AllBlocked at family → IsSupported affine_ranks at family
blocked_supports at family blocked label place low =
    all_of (λ (system : System AffineRank). HasNoStore affine_ranks system) (systems at family label place)
    (λ system inside. all_of
    (λ (choice : List RowKind). (store : List ℤ) → All (λ kind. MeetsKind store kind) (kinds_of affine_ranks system choice) → ⊥) (choices affine_ranks system.claim)
    (λ choice there store met.
    blocked_unmet system (All-contains IsBlocked (systems at family label place) system (blocked label place) inside) choice there store (pos 1)
    (omega (arith, ints)) met))

-- and loses no leaf in a legal elimination
pub blocked_keeps : (at : Setting AffineRank) (family new : Trees AffineRank) (drops : List Dropped) → AllBlocked at family
    → Eliminates affine_ranks at family drops new → drops ≡ []
blocked_keeps at family new [] blocked eliminates = refl
blocked_keeps at family new (dropped ∷ rest) blocked eliminates =
    let drop = eliminates.0 in
    absurd (no_reason dropped.reason drop.system
    (All-contains IsBlocked (systems at family dropped.label dropped.leaf) drop.system (blocked dropped.label dropped.leaf) drop.system_in)
    drop.justified)
