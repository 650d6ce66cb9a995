-- What a widened tree has of the old one.
use Rattle.std.proofs.Common.{◌≡◌, ◌↔◌, ◌⊎◌, inl, inr, ◌+◌, ◌≤◌, ℤ, pos, int_le, Bool, true, false, cond, List, [], ◌∷◌, ◌++◌, Option, Some, None, IsTrue, refl, sym, ap, ◌∙◌, subst, ⊎_elim, arith}
use Rattle.std.proofs.lemmas.Int.{ints}
use Rattle.std.proofs.lemmas.List.{append-nil}
use Rattle.std.proofs.lemmas.List.Elements.{All-cons}
use Rattle.std.proofs.Math.Seq.{append_snoc}
use Rattle.linear_cons.specs.Functions.{value_at}
use Rattle.linear_cons.specs.Rows.{Meets, MeetsAll, complement}
use Rattle.linear_cons.specs.Settling.{settles}
use Rattle.linear_cons.specs.declared.row.Row.{Row}
use Rattle.linear_cons.proofs.RowLaws.{complement_met}
use Rattle.linear_cons.proofs.Telling.{settled_row_holds, settled_row_fails}
use Rattle.decision_tree.specs.Equality.{same_plan}
use Rattle.decision_tree.specs.Evaluation.{eval}
use Rattle.decision_tree.specs.Laws.EqualityLaws.{plan_eq-Decides}
use Rattle.decision_tree.specs.Nodes.{node}
use Rattle.decision_tree.specs.Plans.{IsEnd, Plan, bottom, branch, leaf, size_of, top}
use Rattle.decision_tree.specs.declared.rank.Rank.{Ghosts as Ranks}
use Rattle.decision_tree.specs.declared.reason.Cause.{Cause}
use Rattle.decision_tree.specs.declared.reason.Cause.TheVariants.{Given}
use Rattle.decision_tree.specs.declared.reason.Why.{Why}
use Rattle.tree_unify.specs.Pruned.{HasRow}
use Rattle.tree_unify.specs.Shapes.{OnSide, on_side, trimmed}
use Rattle.tree_unify.proofs.Meeting.{eval_end, eval_met, eval_missed, meets_more, meets_or_not, node_eval}
use Rattle.tree_widening.specs.Leaves.{AtEach, AtOne, first_claim, first_left, first_of}
use Rattle.tree_widening.specs.Places.{IsAtMost, rows_to}
use Rattle.tree_widening.specs.Meeting.{MayBeMetWithOne}
use Rattle.tree_widening.specs.Widening.{BearsOut, IsAgainst, IsHeld, IsWidened, extrapolated, grown}

module _ {R : Type 0} (same : R → R → Bool) (alike : (rank other : R) → IsTrue (same rank other) ↔ (rank ≡ other)) (ranks : Ranks R)
    (raised : Row → R → R → R) where
  -- ---- rows and size

  no_row : (row : Row) (end : Plan R) → IsEnd end → HasRow row end → ⊥
  no_row row bottom ends has = has
  no_row row (top cause) ends has = has
  no_row row (leaf why rank) ends has = has
  no_row row (branch given this that) ends has = ends

  one_node : (end : Plan R) → IsEnd end → size_of end ≡ 1
  one_node bottom ends = refl
  one_node (top cause) ends = refl
  one_node (leaf why rank) ends = refl
  one_node (branch given this that) ends = absurd ends

  extrapolated_ends : (row : Row) (beside first : Plan R) → IsEnd (extrapolated raised row beside first)
  extrapolated_ends row beside bottom = tt
  extrapolated_ends row beside (top cause) = tt
  extrapolated_ends row beside (leaf why rank) = tt
  extrapolated_ends row beside (branch given this that) = tt

  grown_ends : (above : Plan R) (holds : Bool) (path : List Row) (new : Plan R) → IsEnd (grown raised above holds path new)
  grown_ends bottom holds path new = tt
  grown_ends (top cause) holds path new = tt
  grown_ends (leaf why rank) holds path new = tt
  grown_ends (branch row this that) true path new = extrapolated_ends row (first_claim that) (first_left path new)
  grown_ends (branch row this that) false path new = extrapolated_ends (complement row) (first_claim this) (first_left path new)

  held_ends : (why : Why) (rank : R) (path : List Row) (new made : Plan R) → IsHeld ranks why rank path new made → IsEnd made
  held_ends why rank path new made held = ⊎_elim (λ stays. rw stays.0 tt) (λ gone. rw gone.0 tt) held

  node_rows : (row given : Row) (this that : Plan R) → HasRow row (node same given this that)
      → (row ≡ given) ⊎ (HasRow row this ⊎ HasRow row that)
  node_rows row given this that = at (same_plan same this that)
    where
      at : (t : Bool) → HasRow row (cond t this (branch given this that)) → (row ≡ given) ⊎ (HasRow row this ⊎ HasRow row that)
      at true has = inr (inl has)
      at false has = has

  pub widened_rows : (new above : Plan R) (holds : Bool) (path : List Row) (old made : Plan R) → IsWidened same ranks raised new above holds path old made
      → (row : Row) → HasRow row made → HasRow row old
  widened_rows new above holds path bottom made is row has = no_row row made (rw is (grown_ends above holds path new)) has
  widened_rows new above holds path (top cause) made is row has = no_row row made (rw is tt) has
  widened_rows new above holds path (leaf why rank) made is row has = no_row row made (held_ends why rank path new made is) has
  widened_rows new above holds path (branch given this that) made is row has =
      ⊎_elim (λ own. inl own) (λ sides. ⊎_elim
      (λ here. inr (inl (widened_rows new (branch given this that) true (path ++ given ∷ []) this is.0 is.1.1.0 row here)))
      (λ there. inr (inr (widened_rows new (branch given this that) false (path ++ complement given ∷ []) that is.1.0 is.1.1.1 row there)))
      sides) (node_rows row given is.0 is.1.0 (rw is.1.1.2 at has))

  node_size : (given : Row) (this that : Plan R) → size_of (node same given this that) ≤ size_of this + size_of that + 1
  node_size given this that = at (same_plan same this that)
    where
      at : (t : Bool) → size_of (cond t this (branch given this that)) ≤ size_of this + size_of that + 1
      at true = omega arith
      at false = omega arith

  some_nodes : (plan : Plan R) → 1 ≤ size_of plan
  some_nodes bottom = omega arith
  some_nodes (top cause) = omega arith
  some_nodes (leaf why rank) = omega arith
  some_nodes (branch given this that) = omega arith

  pub widened_size : (new above : Plan R) (holds : Bool) (path : List Row) (old made : Plan R) → IsWidened same ranks raised new above holds path old made
      → size_of made ≤ size_of old
  widened_size new above holds path bottom made is = let one = one_node made (rw is (grown_ends above holds path new)) in omega (arith, one)
  widened_size new above holds path (top cause) made is = let one = one_node made (rw is tt) in omega (arith, one)
  widened_size new above holds path (leaf why rank) made is = let one = one_node made (held_ends why rank path new made is) in omega (arith, one)
  widened_size new above holds path (branch given this that) made is =
      let here = widened_size new (branch given this that) true (path ++ given ∷ []) this is.0 is.1.1.0 in
      let there = widened_size new (branch given this that) false (path ++ complement given ∷ []) that is.1.0 is.1.1.1 in
      let whole = node_size given is.0 is.1.0 in
      rw is.1.1.2 (omega (arith, here, there, whole))

  module _ (never : (path : List Row) (rank : R) → MayBeMetWithOne path (ranks.where_greater rank rank) → ⊥) where
    -- ---- a claim that the newer tree makes too

    -- sides that make one leaf are that leaf
    node_leaf : (given : Row) (this that : Plan R) (why : Why) (rank : R) → node same given this that ≡ leaf why rank
        → (this ≡ leaf why rank) × (that ≡ leaf why rank)
    node_leaf given this that why rank = at (same_plan same this that) (plan_eq-Decides same alike this that).0
      where
        at : (t : Bool) → (IsTrue t → this ≡ that) → cond t this (branch given this that) ≡ leaf why rank → (this ≡ leaf why rank) × (that ≡ leaf why rank)
        at true equal is = (is, sym (equal refl) ∙ is)
        at false equal is = absurd (cc)

    against_at : (why : Why) (rank : R) (path : List Row) (row : Row) (this that : Plan R) (side : Option Bool)
        → ((way : List Row) → trimmed same way this ≡ leaf why rank → AtOne (IsAgainst ranks rank) way this → ⊥)
        → ((way : List Row) → trimmed same way that ≡ leaf why rank → AtOne (IsAgainst ranks rank) way that → ⊥)
        → on_side side (trimmed same path this) (trimmed same path that) (node same row (trimmed same (path ++ row ∷ []) this) (trimmed same (path ++ complement row ∷ []) that)) ≡ leaf why rank
        → OnSide side (AtOne (IsAgainst ranks rank) path this) (AtOne (IsAgainst ranks rank) path that) (AtOne (IsAgainst ranks rank) (path ++ row ∷ []) this ⊎ AtOne (IsAgainst ranks rank) (path ++ complement row ∷ []) that)
        → ⊥
    against_at why rank path row this that (Some true) first second is against = first path is against
    against_at why rank path row this that (Some false) first second is against = second path is against
    against_at why rank path row this that None first second is against =
        let both = node_leaf row (trimmed same (path ++ row ∷ []) this) (trimmed same (path ++ complement row ∷ []) that) why rank is in
        ⊎_elim (λ here. first (path ++ row ∷ []) both.0 here) (λ there. second (path ++ complement row ∷ []) both.1 there) against

    against_itself : (why : Why) (rank : R) (path : List Row) (new : Plan R) → trimmed same path new ≡ leaf why rank
        → AtOne (IsAgainst ranks rank) path new → ⊥
    against_itself why rank path bottom is against = absurd (cc)
    against_itself why rank path (top cause) is against = absurd (cc)
    against_itself why rank path (leaf other next) is against =
        let same_one : next ≡ rank = cc in
        never path rank (subst (λ r. MayBeMetWithOne path (ranks.where_greater r rank)) same_one against)
    against_itself why rank path (branch row this that) is against =
        against_at why rank path row this that (settles path row) (λ way. against_itself why rank way this) (λ way. against_itself why rank way that) is against

    pub stays_the_same : (why : Why) (rank : R) (path : List Row) (new made : Plan R) → IsHeld ranks why rank path new made
        → trimmed same path new ≡ leaf why rank → made ≡ leaf why rank
    stays_the_same why rank path new made held is =
        ⊎_elim (λ stays. stays.0) (λ gone. absurd (against_itself why rank path new is gone.1)) held

  -- ---- what stands at a store

  rows_yes : (row : Row) (this that : Plan R) (store : List ℤ) → Meets store row → rows_to (branch row this that) store ≡ row ∷ rows_to this store
  rows_yes row this that store met = at (int_le (pos 0) (value_at row.affine store)) refl
    where
      at : (t : Bool) → int_le (pos 0) (value_at row.affine store) ≡ t → cond t (row ∷ rows_to this store) (complement row ∷ rows_to that store) ≡ row ∷ rows_to this store
      at true is = refl
      at false is = absurd (omega (arith, ints, met))

  rows_no : (row : Row) (this that : Plan R) (store : List ℤ) → (Meets store row → ⊥) → rows_to (branch row this that) store ≡ complement row ∷ rows_to that store
  rows_no row this that store missed = at (int_le (pos 0) (value_at row.affine store)) refl
    where
      at : (t : Bool) → int_le (pos 0) (value_at row.affine store) ≡ t → cond t (row ∷ rows_to this store) (complement row ∷ rows_to that store) ≡ complement row ∷ rows_to that store
      at true is = absurd (missed (omega (arith, ints)))
      at false is = refl

  -- the store meets the rows on its way
  way_met : (plan : Plan R) (store : List ℤ) → MeetsAll store (rows_to plan store)
  way_met bottom store = λ k d h. absurd (omega arith)
  way_met (top cause) store = λ k d h. absurd (omega arith)
  way_met (leaf why rank) store = λ k d h. absurd (omega arith)
  way_met (branch row this that) store =
      ⊎_elim
      (λ met. subst (λ t. MeetsAll store t) (sym (rows_yes row this that store met)) (All-cons (λ row. Meets store row) row (rows_to this store) met (way_met this store)))
      (λ missed. subst (λ t. MeetsAll store t) (sym (rows_no row this that store missed)) (All-cons (λ row. Meets store row) (complement row) (rows_to that store) ((complement_met row.affine store).1 missed) (way_met that store)))
      (meets_or_not row store)

  held_same : (why : Why) (rank : R) (new : Plan R) (path way : List Row) (made end : Plan R) → path ≡ way → made ≡ end
      → IsHeld ranks why rank path new made → IsHeld ranks why rank way new end
  held_same why rank new path way made end here there held = subst (λ t. IsHeld ranks why rank t new end) here (subst (λ t. IsHeld ranks why rank path new t) there held)

  -- the leaf on the side that the store meets, of a tree that is a node or its equal sides
  made_met : (row : Row) (yes_side no_side made : Plan R) (store : List ℤ) → made ≡ node same row yes_side no_side → Meets store row → eval yes_side store ≡ eval made store
  made_met row yes_side no_side made store is met = sym (ap (λ t. eval t store) is ∙ node_eval same alike row yes_side no_side store ∙ eval_met row yes_side no_side store met)

  made_missed : (row : Row) (yes_side no_side made : Plan R) (store : List ℤ) → made ≡ node same row yes_side no_side → (Meets store row → ⊥) → eval no_side store ≡ eval made store
  made_missed row yes_side no_side made store is missed = sym (ap (λ t. eval t store) is ∙ node_eval same alike row yes_side no_side store ∙ eval_missed row yes_side no_side store missed)

  pub held_at : (new above : Plan R) (holds : Bool) (path : List Row) (old made : Plan R) (store : List ℤ) (why : Why) (rank : R)
      → IsWidened same ranks raised new above holds path old made → eval old store ≡ leaf why rank → IsHeld ranks why rank (path ++ rows_to old store) new (eval made store)
  held_at new above holds path bottom made store why rank is stands = absurd (cc)
  held_at new above holds path (top cause) made store why rank is stands = absurd (cc)
  held_at new above holds path (leaf other next) made store why rank is stands =
      let own : other ≡ why = cc in
      let value : next ≡ rank = cc in
      let held : IsHeld ranks why rank path new made = subst (λ t. IsHeld ranks t rank path new made) own (subst (λ t. IsHeld ranks other t path new made) value is) in
      held_same why rank new path (path ++ []) made (eval made store) (sym (append-nil path)) (sym (eval_end made store (held_ends why rank path new made held))) held
  held_at new above holds path (branch row this that) made store why rank is stands =
      ⊎_elim
      (λ met. held_same why rank new ((path ++ row ∷ []) ++ rows_to this store) (path ++ rows_to (branch row this that) store) (eval is.0 store) (eval made store)
      (append_snoc path row (rows_to this store) ∙ ap (λ t. path ++ t) (sym (rows_yes row this that store met)))
      (made_met row is.0 is.1.0 made store is.1.1.2 met)
      (held_at new (branch row this that) true (path ++ row ∷ []) this is.0 store why rank is.1.1.0 (sym (eval_met row this that store met) ∙ stands)))
      (λ missed. held_same why rank new ((path ++ complement row ∷ []) ++ rows_to that store) (path ++ rows_to (branch row this that) store) (eval is.1.0 store) (eval made store)
      (append_snoc path (complement row) (rows_to that store) ∙ ap (λ t. path ++ t) (sym (rows_no row this that store missed)))
      (made_missed row is.0 is.1.0 made store is.1.1.2 missed)
      (held_at new (branch row this that) false (path ++ complement row ∷ []) that is.1.0 store why rank is.1.1.1 (sym (eval_missed row this that store missed) ∙ stands)))
      (meets_or_not row store)

  pub given_up_at : (new above : Plan R) (holds : Bool) (path : List Row) (old made : Plan R) (store : List ℤ) (cause : Cause)
      → IsWidened same ranks raised new above holds path old made → eval old store ≡ top cause → eval made store ≡ top cause
  given_up_at new above holds path bottom made store cause is stands = absurd (cc)
  given_up_at new above holds path (top given) made store cause is stands = rw is stands
  given_up_at new above holds path (leaf other next) made store cause is stands = absurd (cc)
  given_up_at new above holds path (branch row this that) made store cause is stands =
      ⊎_elim
      (λ met. sym (made_met row is.0 is.1.0 made store is.1.1.2 met)
      ∙ given_up_at new (branch row this that) true (path ++ row ∷ []) this is.0 store cause is.1.1.0 (sym (eval_met row this that store met) ∙ stands))
      (λ missed. sym (made_missed row is.0 is.1.0 made store is.1.1.2 missed)
      ∙ given_up_at new (branch row this that) false (path ++ complement row ∷ []) that is.1.0 store cause is.1.1.1 (sym (eval_missed row this that store missed) ∙ stands))
      (meets_or_not row store)

  -- ---- what a claim that stays says of the newer tree

  each_side : (rank : R) (path : List Row) (row : Row) (this that : Plan R) (store : List ℤ) (side : Option Bool) → settles path row ≡ side → MeetsAll store path
      → ((way : List Row) → MeetsAll store way → AtEach (BearsOut ranks rank) way this → IsAtMost ranks rank store (eval this store))
      → ((way : List Row) → MeetsAll store way → AtEach (BearsOut ranks rank) way that → IsAtMost ranks rank store (eval that store))
      → OnSide side (AtEach (BearsOut ranks rank) path this) (AtEach (BearsOut ranks rank) path that) (AtEach (BearsOut ranks rank) (path ++ row ∷ []) this × AtEach (BearsOut ranks rank) (path ++ complement row ∷ []) that)
      → IsAtMost ranks rank store (eval (branch row this that) store)
  each_side rank path row this that store (Some true) settle all first second each =
      subst (λ t. IsAtMost ranks rank store t) (sym (eval_met row this that store (settled_row_holds path row store settle all))) (first path all each)
  each_side rank path row this that store (Some false) settle all first second each =
      subst (λ t. IsAtMost ranks rank store t) (sym (eval_missed row this that store (settled_row_fails path row store settle all))) (second path all each)
  each_side rank path row this that store None settle all first second each =
      ⊎_elim
      (λ met. subst (λ t. IsAtMost ranks rank store t) (sym (eval_met row this that store met)) (first (path ++ row ∷ []) (meets_more store path row all met) each.0))
      (λ missed. subst (λ t. IsAtMost ranks rank store t) (sym (eval_missed row this that store missed)) (second (path ++ complement row ∷ []) (meets_more store path (complement row) all ((complement_met row.affine store).1 missed)) each.1))
      (meets_or_not row store)

  each_at : (rank : R) (path : List Row) (new : Plan R) (store : List ℤ) → MeetsAll store path → AtEach (BearsOut ranks rank) path new
      → IsAtMost ranks rank store (eval new store)
  each_at rank path bottom store all each = each
  each_at rank path (top cause) store all each = each
  each_at rank path (leaf why next) store all each = each store all
  each_at rank path (branch row this that) store all each =
      each_side rank path row this that store (settles path row) refl all (λ way meets. each_at rank way this store meets) (λ way meets. each_at rank way that store meets) each

  pub at_most : (new old made : Plan R) (store : List ℤ) (why : Why) (rank : R) → IsHeld ranks why rank (rows_to old store) new made
      → made ≡ leaf why rank → IsAtMost ranks rank store (eval new store)
  at_most new old made store why rank held is =
      ⊎_elim (λ stays. each_at rank (rows_to old store) new store (way_met old store) stays.1) (λ gone. let wrong : leaf why rank ≡ top Given = sym is ∙ gone.0 in absurd (cc)) held

module _ {R : Type 0} (same : R → R → Bool) (alike : (rank other : R) → IsTrue (same rank other) ↔ (rank ≡ other)) where
  -- ---- the first claim of a trimmed tree

  first_itself : (plan : Plan R) → first_of plan plan ≡ plan
  first_itself bottom = refl
  first_itself (top cause) = refl
  first_itself (leaf why rank) = refl
  first_itself (branch row this that) = refl

  first_of_node : (row : Row) (this that : Plan R) → first_of (first_claim this) (first_claim that) ≡ first_claim (node same row this that)
  first_of_node row this that = at (same_plan same this that) (plan_eq-Decides same alike this that).0
    where
      at : (t : Bool) → (IsTrue t → this ≡ that) → first_of (first_claim this) (first_claim that) ≡ first_claim (cond t this (branch row this that))
      at true equal = ap (λ t. first_of (first_claim this) (first_claim t)) (sym (equal refl)) ∙ first_itself (first_claim this)
      at false equal = refl

  first_side : (path : List Row) (row : Row) (this that : Plan R) (side : Option Bool)
      → ((way : List Row) → first_left way this ≡ first_claim (trimmed same way this))
      → ((way : List Row) → first_left way that ≡ first_claim (trimmed same way that))
      → on_side side (first_left path this) (first_left path that) (first_of (first_left (path ++ row ∷ []) this) (first_left (path ++ complement row ∷ []) that))
      ≡ first_claim (on_side side (trimmed same path this) (trimmed same path that) (node same row (trimmed same (path ++ row ∷ []) this) (trimmed same (path ++ complement row ∷ []) that)))
  first_side path row this that (Some true) first second = first path
  first_side path row this that (Some false) first second = second path
  first_side path row this that None first second =
      ap (λ t. first_of t (first_left (path ++ complement row ∷ []) that)) (first (path ++ row ∷ []))
      ∙ ap (λ t. first_of (first_claim (trimmed same (path ++ row ∷ []) this)) t) (second (path ++ complement row ∷ []))
      ∙ first_of_node row (trimmed same (path ++ row ∷ []) this) (trimmed same (path ++ complement row ∷ []) that)

  pub first_trimmed : (path : List Row) (new : Plan R) → first_left path new ≡ first_claim (trimmed same path new)
  first_trimmed path bottom = refl
  first_trimmed path (top cause) = refl
  first_trimmed path (leaf why rank) = refl
  first_trimmed path (branch row this that) =
      first_side path row this that (settles path row) (λ way. first_trimmed way this) (λ way. first_trimmed way that)
