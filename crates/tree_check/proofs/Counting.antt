-- Trees with fewer leaves than a number can count.
use Rattle.std.proofs.Common.{◌≡◌, ◌≢◌, ℕ, ◌+◌, ◌<◌, ◌≤◌, inl, inr, min, List, length, map, get_or, sym, subst, arith}
use Rattle.std.proofs.lemmas.Bool.{cases_lt}
use Rattle.decision_tree.specs.declared.tree.Tree.{Tree}
use Rattle.decision_tree.specs.Plans.{leaves_of, plan_of}
use Rattle.tree_support.specs.Setting.{trees_in}
use Rattle.leaf_search.proofs.Following.{past_none}
use Rattle.tree_check.proofs.Surveying.{tree_at}

module _ {R : Type 0} (most : ℕ) where
  pub counted_more : (trees : List (Tree R)) (index : ℕ) (tree : Tree R) (count : ℕ) → index < length trees → tree ≡ get_or trees index tree
      → count ≡ min (leaves_of (plan_of tree)) most → count ≢ most
      → ((label : ℕ) → label < index → leaves_of (trees_in (map plan_of trees) label) < most)
      → (label : ℕ) → label < index + 1 → leaves_of (trees_in (map plan_of trees) label) < most
  counted_more trees index tree count low is counted fewer before label below = elim (cases_lt label index) [
    | inl earlier ↦ before label earlier
    | inr later ↦
        let here : index ≡ label = omega (arith, below, later) in
        subst (λ l. leaves_of (trees_in (map plan_of trees) l) < most) here
        (subst (λ plan. leaves_of plan < most) (sym (tree_at trees index tree low is)) (omega (arith, counted, fewer)))
  ]

  pub counted_all : (trees : List (Tree R)) (index : ℕ) → 1 < most → length trees ≤ index
      → ((label : ℕ) → label < index → leaves_of (trees_in (map plan_of trees) label) < most)
      → (label : ℕ) → leaves_of (trees_in (map plan_of trees) label) < most
  counted_all trees index one end each label = elim (cases_lt label index) [
    | inl earlier ↦ each label earlier
    | inr later ↦ subst (λ plan. leaves_of plan < most) (sym (past_none trees label (omega (arith, end, later)))) one
  ]
