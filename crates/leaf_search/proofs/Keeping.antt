-- Rows that are moved back to themselves, and sides that the rows on the stack exclude.
use Rattle.std.proofs.Common.{◌≡◌, ℕ, ℤ, pos, negsuc, neg_ℤ, ◌+ℤ◌, ◌-ℤ◌, ◌*ℤ◌, ◌≤ℤ◌, ◌↔◌, ◌<◌, Bool, true, false, not, List, [], ◌∷◌, ◌++◌, length, All, Contains, Option, None, Some, Ok, Err, IfSome, refl, sym, ap, subst, ◌∙◌, arith}
use Rattle.std.specs.Option.{is_some}
use Rattle.std.proofs.lemmas.Int.{ints}
use Rattle.std.proofs.lemmas.List.Elements.{All-append, Contains-push}
use Rattle.linear_cons.specs.declared.affine.Affine.{Affine}
use Rattle.linear_cons.specs.declared.exact.Wide.{Wide}
use Rattle.linear_cons.specs.declared.row.Row.{Row}
use Rattle.linear_cons.specs.declared.row.RowKind.{RowKind}
use Rattle.linear_cons.specs.declared.row.RowKind.TheVariants.{Always, Never, Row as Kept}
use Rattle.linear_cons.specs.Exact.{IsOutside}
use Rattle.linear_cons.specs.Functions.{NumbersFit, coefficient, complement_of, constant_of, multiple_of, substituted, value_at, without}
use Rattle.linear_cons.specs.Numbers.{number_at}
use Rattle.linear_cons.specs.Rows.{Meets, MeetsAll, MeetsKind, row_kind_of}
use Rattle.linear_cons.specs.Settling.{settles}
use Rattle.linear_cons.proofs.Forms.{form_apart, value_complement, value_multiple, value_sum}
use Rattle.linear_cons.proofs.KindLaws.{primitive_kind, row_kind_is}
use Rattle.linear_cons.proofs.Parts.{kept_is}
use Rattle.linear_cons.proofs.Places.{length-at_places, number_at_places}
use Rattle.linear_cons.proofs.Ring.{neg_mul}
use Rattle.linear_cons.proofs.Telling.{settled_row_fails, settled_row_holds, told_holds}
use Rattle.decision_tree.specs.Laws.AffineLaws.{kind_met}
use Rattle.decision_tree.specs.declared.rank.Rank.{Ghosts as Ranks}
use Rattle.decision_tree.specs.Plans.{Plan, branch}
use Rattle.constraint_stack.specs.Forming.{Formed, exact}
use Rattle.linear_solve.proofs.Lists.{all_of, in_map, member_of}
use Rattle.constraint_stack.specs.Claims.{HasNoStore}
use Rattle.tree_support.specs.Systems.{moved_by}
use Rattle.constraint_stack.specs.Stacks.{Forms, Held, IsMetNowhere, IsToldByOne, all_asked, asked, kind_of, kinds}
use Rattle.constraint_stack.specs.Searches.{IsSearched}
use Rattle.constraint_stack.specs.declared.finding.Finding.{Finding}
use Rattle.constraint_stack.proofs.Holding.{among_more}
use Rattle.leaf_search.specs.Walks.{Excludes, IsKept, WhereAmong, side_of, systems_behind}
use Rattle.leaf_search.proofs.Walking.{asked_more, nowhere_behind}

-- ---- a row that is moved back to itself

negative_coefficient : (a : Affine) (i : ℕ) → i < 16 → coefficient (complement_of a) i ≡ neg_ℤ (coefficient a i)
negative_coefficient a i low = simp number_at_places (omega (arith, ints))

kept_exact : (sets : Option (ℕ × Affine)) (a : Affine) → length a.coef ≡ 16 → IsKept sets a → exact (moved_by sets a) ≡ a
kept_exact None a long kept = refl
kept_exact (Some (place, by)) a long kept = sym (kept_is a place by kept long)

kept_complement : (sets : Option (ℕ × Affine)) (a : Affine) → IfSome sets (λ s. s.0 < 16) → IsKept sets a → IsKept sets (complement_of a)
kept_complement None a low kept = tt
kept_complement (Some (place, by)) a low kept = rw (negative_coefficient a place low, kept) refl

-- it forms what is asked of it
pub kept_forms : (sets : Option (ℕ × Affine)) (row : Row) → length row.affine.coef ≡ 16 → IsKept sets row.affine → Forms (asked (moved_by sets row.affine)) (Ok (Kept row))
kept_forms sets row long kept = (sym (ap row_kind_of (kept_exact sets row.affine long kept) ∙ primitive_kind row.affine row.primitive long), refl)

pub complement_forms : (sets : Option (ℕ × Affine)) (a : Affine) (complement : Row) → complement.affine ≡ complement_of a → IfSome sets (λ s. s.0 < 16) → IsKept sets a → Forms (asked (moved_by sets (complement_of a))) (Ok (Kept complement))
complement_forms sets a complement is low kept =
    subst (λ b. Forms (asked (moved_by sets b)) (Ok (Kept complement))) is
    (kept_forms sets complement (ap (λ (b : Affine). length b.coef) is ∙ length-at_places (λ i. coefficient (constant_of (negsuc 0)) i -ℤ coefficient a i)) (subst (IsKept sets) (sym is) (kept_complement sets a low kept)))

pub unformed_complement : (sets : Option (ℕ × Affine)) (a : Affine) (wide : Wide) → IsOutside wide → (NumbersFit (complement_of a) → ⊥) → Forms (asked (moved_by sets (complement_of a))) (Err wide)
unformed_complement None a wide outside unfit = (outside, unfit)
unformed_complement (Some (place, by)) a wide outside unfit = (outside, λ fits. unfit fits.0)

-- ---- sides that rows exclude

-- what rows exclude is met nowhere behind functions that ask for them
pub excluded_nowhere : (rows : List Row) (asks : List Formed) (a : Formed) → All (λ row. Contains (kinds (all_asked asks)) (Kept row)) rows → Excludes rows a → IsMetNowhere (all_asked (asks ++ a ∷ []))
excluded_nowhere rows asks a among excludes = subst IsMetNowhere (sym (asked_more asks a)) (λ store met.
    excludes store
    (all_of (λ (row : Row). Meets store row) rows (λ row member.
    member_of (λ (kind : RowKind). MeetsKind store kind) (kinds (all_asked asks ++ asked a ∷ [])) (Kept row) met
    (member_of (λ (r : Row). Contains (kinds (all_asked asks ++ asked a ∷ [])) (Kept r)) rows row (among_more (all_asked asks) (asked a) rows among) member)))
    (member_of (λ (kind : RowKind). MeetsKind store kind) (kinds (all_asked asks ++ asked a ∷ [])) (row_kind_of (exact a)) met
    (in_map kind_of (all_asked asks ++ asked a ∷ []) (asked a) (Contains-push (all_asked asks) (asked a)))))

-- the same functions are asked with one more
pub among_asked : (rows : List Row) (asks : List Formed) (a : Formed) → All (λ row. Contains (kinds (all_asked asks)) (Kept row)) rows → All (λ row. Contains (kinds (all_asked (asks ++ a ∷ []))) (Kept row)) rows
among_asked rows asks a among = subst (λ items. All (λ row. Contains (kinds items) (Kept row)) rows) (sym (asked_more asks a)) (among_more (all_asked asks) (asked a) rows among)

-- the value of a function and of its complement, both moved back
moved_value : (a : Affine) (place : ℕ) (by : Affine) (store : List ℤ) → value_at (substituted a place by) store ≡ value_at (without a place) store +ℤ coefficient a place *ℤ value_at by store
moved_value a place by store =
    value_sum (without a place) (multiple_of by (coefficient a place)) store ∙ ap (λ t. value_at (without a place) store +ℤ t) (value_multiple by (coefficient a place) store)

complement_moved : (a : Affine) (place : ℕ) (by : Affine) (store : List ℤ) → place < 16 → value_at (substituted (complement_of a) place by) store ≡ negsuc 0 -ℤ value_at (substituted a place by) store
complement_moved a place by store low =
    let own = form_apart a place store (pos 1) low in
    let other = form_apart (complement_of a) place store (pos 1) low in
    let turned = value_complement a store in
    let moved = moved_value a place by store in
    let also = moved_value (complement_of a) place by store in
    let here : coefficient (complement_of a) place *ℤ number_at store place ≡ neg_ℤ (coefficient a place *ℤ number_at store place) = ap (λ t. t *ℤ number_at store place) (negative_coefficient a place low) ∙ neg_mul (coefficient a place) (number_at store place) in
    let there : coefficient (complement_of a) place *ℤ value_at by store ≡ neg_ℤ (coefficient a place *ℤ value_at by store) = ap (λ t. t *ℤ value_at by store) (negative_coefficient a place low) ∙ neg_mul (coefficient a place) (value_at by store) in
    omega (arith, ints)

turned_value : (sets : Option (ℕ × Affine)) (a : Affine) (store : List ℤ) → IfSome sets (λ s. s.0 < 16) → value_at (exact (moved_by sets (complement_of a))) store ≡ negsuc 0 -ℤ value_at (exact (moved_by sets a)) store
turned_value None a store low = value_complement a store
turned_value (Some (place, by)) a store low = complement_moved a place by store low

asked_value : (a : Affine) (store : List ℤ) → MeetsKind store (row_kind_of a) ↔ (pos 0 ≤ℤ value_at a store)
asked_value a store = kind_met a (row_kind_of a) (row_kind_is a) store

-- where a row holds its complement isn't met, and where it fails it isn't itself
pub excludes_complement : (sets : Option (ℕ × Affine)) (a : Affine) (rows : List Row) → IfSome sets (λ s. s.0 < 16) → ((store : List ℤ) → MeetsAll store rows → MeetsKind store (row_kind_of (exact (moved_by sets a)))) → Excludes rows (moved_by sets (complement_of a))
excludes_complement sets a rows low holds store met missed =
    let here : pos 0 ≤ℤ value_at (exact (moved_by sets a)) store = (asked_value (exact (moved_by sets a)) store).0 (holds store met) in
    let there : pos 0 ≤ℤ value_at (exact (moved_by sets (complement_of a))) store = (asked_value (exact (moved_by sets (complement_of a))) store).0 missed in
    let turned = turned_value sets a store low in
    omega (arith, ints)

-- what rows settle of what a side's row comes to, they exclude the other side
pub settled_excludes : (sets : Option (ℕ × Affine)) (a : Affine) (row : Row) (rows : List Row) (holds : Bool) → IfSome sets (λ s. s.0 < 16) → Forms (asked (moved_by sets a)) (Ok (Kept row)) → settles rows row ≡ Some holds → Excludes rows (moved_by sets (side_of a (not holds)))
settled_excludes sets a row rows true low forms settled =
    excludes_complement sets a rows low (λ store met. subst (λ kind. MeetsKind store kind) forms.0 (settled_row_holds rows row store settled met))
settled_excludes sets a row rows false low forms settled = λ store met here.
    settled_row_fails rows row store settled met (subst (λ kind. MeetsKind store kind) (sym forms.0) here)

pub always_excludes : (sets : Option (ℕ × Affine)) (a : Affine) (rows : List Row) → IfSome sets (λ s. s.0 < 16) → Forms (asked (moved_by sets a)) (Ok Always) → Excludes rows (moved_by sets (side_of a false))
always_excludes sets a rows low forms = excludes_complement sets a rows low (λ store met. subst (λ kind. MeetsKind store kind) forms.0 tt)

pub never_excludes : (sets : Option (ℕ × Affine)) (a : Affine) (rows : List Row) → Forms (asked (moved_by sets a)) (Ok Never) → Excludes rows (moved_by sets (side_of a true))
never_excludes sets a rows forms store met here = subst (λ kind. MeetsKind store kind) (sym forms.0) here

-- where a row on the stack tells the row, its complement is met nowhere
pub told_nowhere : (sets : Option (ℕ × Affine)) (row : Row) (rows : List Row) (asks : List Formed) → length row.affine.coef ≡ 16 → IfSome sets (λ s. s.0 < 16) → IsKept sets row.affine → All (λ r. Contains (kinds (all_asked asks)) (Kept r)) rows → IsToldByOne row rows → IsMetNowhere (all_asked (asks ++ moved_by sets (complement_of row.affine) ∷ []))
told_nowhere sets row rows asks long low kept among told =
    excluded_nowhere rows asks (moved_by sets (complement_of row.affine)) among
    (excludes_complement sets row.affine rows low (λ store met.
    (asked_value (exact (moved_by sets row.affine)) store).1 (subst (λ b. pos 0 ≤ℤ value_at b store) (sym (kept_exact sets row.affine long kept))
    (told_holds told.given.affine row.affine store told.tells_it (member_of (λ (r : Row). Meets store r) rows told.given met told.given_in)))))

-- ---- the leaves of a tree, seen without adding a row

module _ {R : Type 0} (ranks : Ranks R) (edge : ℕ) (sets : Option (ℕ × Affine)) (rows : List Row) where
  -- no system of the tree's leaves has a store, behind whatever functions the rows are among the rows of
  abbrev IsClear : Plan R → Type 0
  IsClear plan = WhereAmong rows (λ asks. All (HasNoStore ranks) (systems_behind edge sets None plan asks))

  -- behind a side that the rows exclude
  excluded_clear : (plan : Plan R) (a : Formed) (asks : List Formed) → All (λ row. Contains (kinds (all_asked asks)) (Kept row)) rows → Excludes rows a → All (HasNoStore ranks) (systems_behind edge sets None plan (asks ++ a ∷ []))
  excluded_clear plan a asks among excludes = nowhere_behind ranks edge sets None plan (asks ++ a ∷ []) (excluded_nowhere rows asks a among excludes)

  pub both_clear : (row : Row) (this that : Plan R) → IsClear this → IsClear that → IsClear (branch row this that)
  both_clear row this that yes_clear no_clear asks among =
      All-append (HasNoStore ranks) (systems_behind edge sets None this (asks ++ moved_by sets row.affine ∷ [])) (systems_behind edge sets None that (asks ++ moved_by sets (complement_of row.affine) ∷ []))
      (yes_clear (asks ++ moved_by sets row.affine ∷ []) (among_asked rows asks (moved_by sets row.affine) among))
      (no_clear (asks ++ moved_by sets (complement_of row.affine) ∷ []) (among_asked rows asks (moved_by sets (complement_of row.affine)) among))

  pub this_clear : (row : Row) (this that : Plan R) → Excludes rows (moved_by sets (complement_of row.affine)) → IsClear this → IsClear (branch row this that)
  this_clear row this that excludes yes_clear asks among =
      All-append (HasNoStore ranks) (systems_behind edge sets None this (asks ++ moved_by sets row.affine ∷ [])) (systems_behind edge sets None that (asks ++ moved_by sets (complement_of row.affine) ∷ []))
      (yes_clear (asks ++ moved_by sets row.affine ∷ []) (among_asked rows asks (moved_by sets row.affine) among))
      (excluded_clear that (moved_by sets (complement_of row.affine)) asks among excludes)

  pub that_clear : (row : Row) (this that : Plan R) → Excludes rows (moved_by sets row.affine) → IsClear that → IsClear (branch row this that)
  that_clear row this that excludes no_clear asks among =
      All-append (HasNoStore ranks) (systems_behind edge sets None this (asks ++ moved_by sets row.affine ∷ [])) (systems_behind edge sets None that (asks ++ moved_by sets (complement_of row.affine) ∷ []))
      (excluded_clear this (moved_by sets row.affine) asks among excludes)
      (no_clear (asks ++ moved_by sets (complement_of row.affine) ∷ []) (among_asked rows asks (moved_by sets (complement_of row.affine)) among))

  -- the rows on the stack are among those of the functions that they are of
  pub clear_searched : (limit : Option R) (plan : Plan R) (asks : List Formed) (wide : Option Wide) (found : Option Finding) → is_some limit ≡ false → Held (all_asked asks) rows wide → IsClear plan → IsSearched ranks (systems_behind edge sets limit plan asks) false found
  clear_searched None plan asks wide found none held clear = clear asks held.among
  clear_searched (Some limit) plan asks wide found none held clear = absurd (cc)
