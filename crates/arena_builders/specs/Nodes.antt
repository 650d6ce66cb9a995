-- The node at a place of an arena.
use Rattle.std.specs.Prelude.{◌≡◌, ◌<◌, List}
use Rattle.linear_cons.specs.declared.row.Row.{Row}
use Rattle.decision_tree.specs.Plans.{Plan, branch}
use Rattle.tree_arena.specs.declared.node.TreeRef.{TreeRef}
use Rattle.tree_arena.specs.Trees.{tree_at}

-- at the place stands a node with these sides, which stand before it
pub record HasSides {R : Type 0} (trees : List (Plan R)) (tree : TreeRef) (sides : TreeRef × TreeRef) : Type 0 where
  pub first : sides.0.place < tree.place
  pub second : sides.1.place < tree.place
  pub row : Row
  pub is : tree_at trees tree.place ≡ branch row (tree_at trees sides.0.place) (tree_at trees sides.1.place)

-- the row at the root of a tree
abbrev pub HasRow : {R : Type 0} → List (Plan R) → TreeRef → Row → Type 0
HasRow {R} trees tree row = (this : Plan R) × (that : Plan R) × (tree_at trees tree.place ≡ branch row this that)
