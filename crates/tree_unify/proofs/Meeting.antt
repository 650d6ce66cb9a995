-- What stands where in joined trees.
use Rattle.std.proofs.Common.{◌≡◌, ◌↔◌, ℕ, ◌≤◌, ℤ, pos, ◌≤ℤ◌, Bool, true, false, cond, int_le, List, [], ◌∷◌, ◌++◌, Option, Some, None, IsTrue, refl, sym, ap, ◌∙◌, arith, ⊎_elim, ◌⊎◌, inl, inr}
use Rattle.std.proofs.lemmas.Int.{ints}
use Rattle.std.proofs.lemmas.List.Elements.{All-append, All-cons}
use Rattle.linear_cons.specs.Functions.{NumbersFit, complement_of, value_at}
use Rattle.linear_cons.specs.Rows.{Meets, MeetsAll, complement}
use Rattle.linear_cons.specs.Settling.{settles}
use Rattle.linear_cons.specs.declared.row.Row.{Row}
use Rattle.linear_cons.proofs.RowLaws.{complement_met}
use Rattle.linear_cons.proofs.Telling.{settled_row_holds, settled_row_fails}
use Rattle.decision_tree.specs.Equality.{same_plan}
use Rattle.decision_tree.specs.Evaluation.{eval}
use Rattle.decision_tree.specs.Laws.EqualityLaws.{plan_eq-Decides}
use Rattle.decision_tree.specs.Nodes.{node}
use Rattle.decision_tree.specs.Plans.{IsEnd, Plan, bottom, branch, leaf, size_of, top}
use Rattle.tree_unify.specs.Shapes.{GraftFits, grafted, on_side, trimmed_with}

least_at : (v : ℤ) (t : Bool) → int_le (pos 0) v ≡ t → pos 0 ≤ℤ v → t ≡ true
least_at v true is h = refl
least_at v false is h = absurd (omega (arith, ints))

below_at : (v : ℤ) (t : Bool) → int_le (pos 0) v ≡ t → (pos 0 ≤ℤ v → ⊥) → t ≡ false
below_at v true is h = absurd (h (omega (arith, ints)))
below_at v false is h = refl

-- the leaf on the side of a row that the store meets, and on the other one
pub eval_met : {R : Type 0} (row : Row) (this that : Plan R) (store : List ℤ) → Meets store row → eval (branch row this that) store ≡ eval this store
eval_met row this that store met = ap (λ t. cond t (eval this store) (eval that store)) (least_at (value_at row.affine store) _ refl met)

pub eval_missed : {R : Type 0} (row : Row) (this that : Plan R) (store : List ℤ) → (Meets store row → ⊥)
    → eval (branch row this that) store ≡ eval that store
eval_missed row this that store missed = ap (λ t. cond t (eval this store) (eval that store)) (below_at (value_at row.affine store) _ refl missed)

-- a store meets the row or it doesn't
pub meets_or_not : (row : Row) (store : List ℤ) → Meets store row ⊎ (Meets store row → ⊥)
meets_or_not row store = at _ refl
  where
    at : (t : Bool) → int_le (pos 0) (value_at row.affine store) ≡ t → Meets store row ⊎ (Meets store row → ⊥)
    at true is = inl (omega (arith, ints))
    at false is = inr (λ met. omega (arith, ints))

pub meets_more : (store : List ℤ) (path : List Row) (row : Row) → MeetsAll store path → Meets store row → MeetsAll store (path ++ row ∷ [])
meets_more store path row all met = All-append (λ row. Meets store row) path (row ∷ []) all (All-cons (λ row. Meets store row) row [] met (λ k d h. absurd (omega arith)))

-- a leaf stands at itself
pub eval_end : {R : Type 0} (plan : Plan R) (store : List ℤ) → IsEnd plan → eval plan store ≡ plan
eval_end bottom store end = refl
eval_end (top cause) store end = refl
eval_end (leaf why rank) store end = refl
eval_end (branch row this that) store end = absurd end

pub eval_is_end : {R : Type 0} (plan : Plan R) (store : List ℤ) → IsEnd (eval plan store)
eval_is_end bottom store = tt
eval_is_end (top cause) store = tt
eval_is_end (leaf why rank) store = tt
eval_is_end (branch row this that) store = at (int_le (pos 0) (value_at row.affine store)) (eval this store) (eval that store) (eval_is_end this store) (eval_is_end that store)
  where
    at : {R : Type 0} (t : Bool) (here there : Plan R) → IsEnd here → IsEnd there → IsEnd (cond t here there)
    at true here there first second = first
    at false here there first second = second

module _ {R : Type 0} (same : R → R → Bool) (alike : (rank other : R) → IsTrue (same rank other) ↔ (rank ≡ other)) where
  -- the joined sides are the node's, or both are equal
  node_eval_at : (t : Bool) (row : Row) (this that : Plan R) (store : List ℤ) → (IsTrue t → this ≡ that)
      → eval (cond t this (branch row this that)) store ≡ eval (branch row this that) store
  node_eval_at true row this that store equal =
      ⊎_elim (λ met. sym (eval_met row this that store met)) (λ missed. ap (λ t. eval t store) (equal refl) ∙ sym (eval_missed row this that store missed)) (meets_or_not row store)
  node_eval_at false row this that store equal = refl

  pub node_eval : (row : Row) (this that : Plan R) (store : List ℤ) → eval (node same row this that) store ≡ eval (branch row this that) store
  node_eval row this that store = node_eval_at (same_plan same this that) row this that store (plan_eq-Decides same alike this that).0

  trimmed_at : (f : Plan R → Plan R) (path : List Row) (row : Row) (this that : Plan R) (store : List ℤ) (side : Option Bool)
      → settles path row ≡ side → MeetsAll store path
      → ((way : List Row) → MeetsAll store way → eval (trimmed_with same f way this) store ≡ eval (f (eval this store)) store)
      → ((way : List Row) → MeetsAll store way → eval (trimmed_with same f way that) store ≡ eval (f (eval that store)) store)
      → eval (on_side side (trimmed_with same f path this) (trimmed_with same f path that) (node same row (trimmed_with same f (path ++ row ∷ []) this) (trimmed_with same f (path ++ complement row ∷ []) that))) store
      ≡ eval (f (eval (branch row this that) store)) store
  trimmed_at f path row this that store side is all first second = at side is
    where
      below : (t : Plan R) → t ≡ eval (branch row this that) store → eval (f t) store ≡ eval (f (eval (branch row this that) store)) store
      below t same_leaf = ap (λ t. eval (f t) store) same_leaf

      here : Meets store row → (way : List Row) → MeetsAll store way
          → eval (trimmed_with same f way this) store ≡ eval (f (eval (branch row this that) store)) store
      here met way meets = first way meets ∙ below (eval this store) (sym (eval_met row this that store met))

      there : (Meets store row → ⊥) → (way : List Row) → MeetsAll store way
          → eval (trimmed_with same f way that) store ≡ eval (f (eval (branch row this that) store)) store
      there missed way meets = second way meets ∙ below (eval that store) (sym (eval_missed row this that store missed))

      at : (side : Option Bool) → settles path row ≡ side
          → eval (on_side side (trimmed_with same f path this) (trimmed_with same f path that) (node same row (trimmed_with same f (path ++ row ∷ []) this) (trimmed_with same f (path ++ complement row ∷ []) that))) store
          ≡ eval (f (eval (branch row this that) store)) store
      at (Some true) settle = here (settled_row_holds path row store settle all) path all
      at (Some false) settle = there (settled_row_fails path row store settle all) path all
      at None settle =
          node_eval row _ _ store ∙ ⊎_elim
          (λ met. eval_met row _ _ store met ∙ here met (path ++ row ∷ []) (meets_more store path row all met))
          (λ missed. eval_missed row _ _ store missed ∙ there missed (path ++ complement row ∷ []) (meets_more store path (complement row) all ((complement_met row.affine store).1 missed)))
          (meets_or_not row store)

  -- a trimmed tree has, at each store that meets the path, what f gives for the tree's leaf
  pub trimmed_eval : (f : Plan R → Plan R) (path : List Row) (plan : Plan R) (store : List ℤ) → MeetsAll store path
      → eval (trimmed_with same f path plan) store ≡ eval (f (eval plan store)) store
  trimmed_eval f path bottom store all = refl
  trimmed_eval f path (top cause) store all = refl
  trimmed_eval f path (leaf why rank) store all = refl
  trimmed_eval f path (branch row this that) store all =
      trimmed_at f path row this that store (settles path row) refl all (λ way meets. trimmed_eval f way this store meets) (λ way meets. trimmed_eval f way that store meets)

  -- what a tree with other trees in place of its leaves has at a store, where that depends on the leaf alone
  pub grafted_eval : (graft : List Row → Plan R → Plan R) (met : Plan R → Plan R) (store : List ℤ)
      → ((path : List Row) (end : Plan R) → IsEnd end → MeetsAll store path → eval (graft path end) store ≡ met end)
      → (path : List Row) (plan : Plan R) → MeetsAll store path → eval (grafted same graft path plan) store ≡ met (eval plan store)
  grafted_eval graft met store leaves path bottom all = leaves path bottom tt all
  grafted_eval graft met store leaves path (top cause) all = leaves path (top cause) tt all
  grafted_eval graft met store leaves path (leaf why rank) all = leaves path (leaf why rank) tt all
  grafted_eval graft met store leaves path (branch row this that) all =
      node_eval row _ _ store ∙ ⊎_elim
      (λ here. eval_met row _ _ store here ∙ grafted_eval graft met store leaves (path ++ row ∷ []) this (meets_more store path row all here) ∙ ap met (sym (eval_met row this that store here)))
      (λ missed. eval_missed row _ _ store missed ∙ grafted_eval graft met store leaves (path ++ complement row ∷ []) that (meets_more store path (complement row) all ((complement_met row.affine store).1 missed)) ∙ ap met (sym (eval_missed row this that store missed)))
      (meets_or_not row store)

  -- a node has at least the nodes of each side
  node_size_at : (t : Bool) (row : Row) (this that : Plan R) → (IsTrue t → this ≡ that)
      → (size_of this ≤ size_of (cond t this (branch row this that))) × (size_of that ≤ size_of (cond t this (branch row this that)))
  node_size_at true row this that equal = (omega arith, rw (equal refl) (omega arith))
  node_size_at false row this that equal = (omega arith, omega arith)

  pub node_size : (row : Row) (this that : Plan R)
      → (size_of this ≤ size_of (node same row this that)) × (size_of that ≤ size_of (node same row this that))
  node_size row this that = node_size_at (same_plan same this that) row this that (plan_eq-Decides same alike this that).0

  -- trees of different sizes are not equal
  unlike_at : (t : Bool) → ((IsTrue t) → ⊥) → false ≡ t
  unlike_at true no_more = absurd (no_more refl)
  unlike_at false no_more = refl

  pub unlike : (m n : ℕ) (a b : Plan R) → m ≡ size_of a → n ≡ size_of b → (m ≡ n → ⊥) → false ≡ same_plan same a b
  unlike m n a b first second apart = unlike_at (same_plan same a b) (λ equal. apart (first ∙ ap size_of ((plan_eq-Decides same alike a b).0 equal) ∙ sym second))

  -- at a leaf stands what is put in its place
  pub grafted_end : (graft : List Row → Plan R → Plan R) (path : List Row) (end : Plan R) → IsEnd end → grafted same graft path end ≡ graft path end
  grafted_end graft path bottom ends = refl
  grafted_end graft path (top cause) ends = refl
  grafted_end graft path (leaf why rank) ends = refl
  grafted_end graft path (branch row this that) ends = absurd ends

  pub graft_fits_end : (Fits : List Row → Plan R → Type 0) (path : List Row) (end : Plan R) → IsEnd end → GraftFits same Fits path end ≡ Fits path end
  graft_fits_end Fits path bottom ends = refl
  graft_fits_end Fits path (top cause) ends = refl
  graft_fits_end Fits path (leaf why rank) ends = refl
  graft_fits_end Fits path (branch row this that) ends = absurd ends

  -- a node whose yes side is a leaf
  module _ (path : List Row) (row : Row) (this that : Plan R) (ends : IsEnd this) where
    pub leaf_beside : (graft : List Row → Plan R → Plan R)
        → node same row (graft (path ++ row ∷ []) this) (grafted same graft (path ++ complement row ∷ []) that) ≡ grafted same graft path (branch row this that)
    leaf_beside graft = rw (grafted_end graft (path ++ row ∷ []) this ends) refl

    pub leaf_beside_fits : (Fits : List Row → Plan R → Type 0) → Fits (path ++ row ∷ []) this → NumbersFit (complement_of row.affine)
        → GraftFits same Fits (path ++ complement row ∷ []) that → GraftFits same Fits path (branch row this that)
    leaf_beside_fits Fits here turned there = (rw (graft_fits_end Fits (path ++ row ∷ []) this ends) here, turned, there)

    pub fits_at_leaf : (Fits : List Row → Plan R → Type 0) → GraftFits same Fits path (branch row this that) → Fits (path ++ row ∷ []) this
    fits_at_leaf Fits fits = rw (graft_fits_end Fits (path ++ row ∷ []) this ends) at fits.0
