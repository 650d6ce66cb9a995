-- The way of a store through a tree, one node at a time.
use Rattle.std.proofs.Common.{◌≡◌, ◌↔◌, suc, ℤ, pos, ◌≤ℤ◌, ◌<ℤ◌, Bool, true, false, cond, int_le, List, ◌∷◌, Box, Global, refl, sym, ap, subst, arith}
use Rattle.std.proofs.lemmas.Int.{ints}
use Rattle.std.specs.List.{All}
use Rattle.std.proofs.lemmas.List.Elements.{All-cons}
use Rattle.linear_cons.specs.Functions.{PartsFit, value_at}
use Rattle.linear_cons.specs.declared.row.Row.{Row}
use Rattle.decision_tree.specs.Evaluation.{WayFits, eval, rows_met}
use Rattle.decision_tree.specs.Plans.{Plan, branch, plan_of}
use Rattle.decision_tree.specs.declared.tree.Tree.{Tree, Bottom, Top, Leaf, Node'}
use Rattle.decision_tree.specs.declared.tree.Tree.TheViews.{Node}

test_least : (v : ℤ) (t : Bool) → int_le (pos 0) v ≡ t → pos 0 ≤ℤ v → t ≡ true
test_least v true is h = refl
test_least v false is h = absurd (omega (arith, ints))

test_below : (v : ℤ) (t : Bool) → int_le (pos 0) v ≡ t → v <ℤ pos 0 → t ≡ false
test_below v true is h = absurd (omega (arith, ints))
test_below v false is h = refl

-- the two tell the same of a store as before the step
pub record SameWay {R : Type 0} (now before : Plan R) (store : List ℤ) : Type 0 where
  pub leaf : eval now store ≡ eval before store
  pub fits : WayFits now store ↔ WayFits before store

pub step_least : {R : Type 0} (row : Row) (this that : Plan R) (store : List ℤ) → pos 0 ≤ℤ value_at row.affine store → PartsFit row.affine store → SameWay this (branch row this that) store
step_least row this that store met fits =
    let test = test_least (value_at row.affine store) _ refl met in
    let Fit : List Row → Type 0 = All (λ row. PartsFit row.affine store) in
    let rows : rows_met (branch row this that) store ≡ row ∷ rows_met this store = ap (λ t. row ∷ cond t (rows_met this store) (rows_met that store)) test in record {
      leaf = sym (ap (λ t. cond t (eval this store) (eval that store)) test);
      fits = (
        λ rest. subst Fit (sym rows) (All-cons (λ row. PartsFit row.affine store) row (rows_met this store) fits rest),
        λ all. let way : Fit (row ∷ rows_met this store) = subst Fit rows all in λ k d h. way (suc k) d (omega arith),
      );
    }

pub step_below : {R : Type 0} (row : Row) (this that : Plan R) (store : List ℤ) → value_at row.affine store <ℤ pos 0 → PartsFit row.affine store → SameWay that (branch row this that) store
step_below row this that store met fits =
    let test = test_below (value_at row.affine store) _ refl met in
    let Fit : List Row → Type 0 = All (λ row. PartsFit row.affine store) in
    let rows : rows_met (branch row this that) store ≡ row ∷ rows_met that store = ap (λ t. row ∷ cond t (rows_met this store) (rows_met that store)) test in record {
      leaf = sym (ap (λ t. cond t (eval this store) (eval that store)) test);
      fits = (
        λ rest. subst Fit (sym rows) (All-cons (λ row. PartsFit row.affine store) row (rows_met that store) fits rest),
        λ all. let way : Fit (row ∷ rows_met that store) = subst Fit rows all in λ k d h. way (suc k) d (omega arith),
      );
    }

pub step_wide : {R : Type 0} (row : Row) (this that : Plan R) (store : List ℤ) → (PartsFit row.affine store → ⊥) → WayFits (branch row this that) store → ⊥
step_wide row this that store wide fits = wide (fits 0 row (omega arith))

-- what has no sides is the leaf itself, with no row on the way
pub way_ends : {R : Type 0} (tree : Tree R) (store : List ℤ) → ((row : Row) (y n : Box (Tree R) Global) → tree ≡ Node row y n → ⊥) → (plan_of tree ≡ eval (plan_of tree) store) × WayFits (plan_of tree) store
way_ends Bottom store none = (refl, λ k d h. absurd (omega arith))
way_ends (Top cause) store none = (refl, λ k d h. absurd (omega arith))
way_ends (Leaf why rank) store none = (refl, λ k d h. absurd (omega arith))
way_ends (Node' row p this q that) store none = absurd (none row (record { ptr = p.ptr; alloc = p.alloc; value = this }) (record { ptr = q.ptr; alloc = q.alloc; value = that }) refl)
