-- What callers see of an arena: a list of trees, and places in it.
use Rattle.std.specs.Prelude.{◌≡◌, ℕ, ◌<◌, ◌^◌, ◌-◌, List, ◌++◌, length, min, slice_index_or}
use Rattle.linear_cons.specs.declared.row.Row.{Row}
use Rattle.decision_tree.specs.Plans.{Plan, bottom, branch, leaf, size_of, top}
use Rattle.tree_arena.specs.declared.node.NodeView.{NodeView}
use Rattle.tree_arena.specs.declared.node.NodeView.TheVariants.{Bottom, Top, Leaf, Node}
use Rattle.tree_arena.specs.declared.node.TreeRef.{TreeRef}

module _ {R : Type 0} where
  -- the tree at the place
  abbrev pub tree_at : List (Plan R) → ℕ → Plan R
  tree_at trees place = slice_index_or trees place bottom

  -- the number of nodes of the tree without sharing, or the type's last value where that is less
  abbrev pub capped_size : Plan R → ℕ
  capped_size plan = min (size_of plan) (2 ^ 64 - 1)

  -- the reference is to this tree
  pub record IsAt (trees : List (Plan R)) (at : TreeRef) (plan : Plan R) : Type 0 where
    pub within : at.place < length trees
    pub tree : tree_at trees at.place ≡ plan

  -- the tree is in the list
  pub record IsThere (trees : List (Plan R)) (plan : Plan R) : Type 0 where
    pub place : ℕ
    pub within : place < length trees
    pub tree : tree_at trees place ≡ plan

  -- the list goes on, so each reference keeps its tree
  pub record Extends (old new : List (Plan R)) : Type 0 where
    pub more : List (Plan R)
    pub is : new ≡ old ++ more

  -- no tree stands at two places
  abbrev pub AreDistinct : List (Plan R) → Type 0
  AreDistinct trees = (i j : ℕ) → i < length trees → j < length trees → tree_at trees i ≡ tree_at trees j → i ≡ j

  -- the sides of each tree are in the list
  abbrev pub AreClosed : List (Plan R) → Type 0
  AreClosed trees = (row : Row) (this that : Plan R) → IsThere trees (branch row this that) → IsThere trees this × IsThere trees that

  -- This stands at the root of the tree at the place; its sides are references to trees at places before it.
  abbrev pub Shows : List (Plan R) → ℕ → NodeView R → Plan R → Type 0
  Shows trees place Bottom plan = plan ≡ bottom
  Shows trees place (Top cause) plan = plan ≡ top cause.now
  Shows trees place (Leaf why rank) plan = plan ≡ leaf why.now rank.now
  Shows trees place (Node row this that) plan =
      (this.place < place) × (that.place < place) × (plan ≡ branch row.now (tree_at trees this.place) (tree_at trees that.place))
