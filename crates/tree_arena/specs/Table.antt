-- The tables of an arena, seen as the list of the trees whose roots are their nodes.
use Rattle.std.specs.Prelude.{◌≡◌, ℕ, suc, ◌<◌, List, [], ◌∷◌, ◌++◌, length, map, slice_get, slice_index_or, Option, None, Some, ⊤}
use Rattle.std.specs.Map.{keys_of}
use Rattle.linear_cons.specs.declared.row.Row.{Row}
use Rattle.decision_tree.specs.Plans.{Plan, bottom, branch, leaf, top}
use Rattle.decision_tree.specs.declared.reason.Cause.{Cause}
use Rattle.decision_tree.specs.declared.reason.Why.{Why}
use Rattle.tree_arena.specs.declared.node.End as leaves
use Rattle.tree_arena.specs.declared.node.End.TheVariants.{Bottom, Top, Leaf}
use Rattle.tree_arena.specs.declared.node.Entry.{Entry}
use Rattle.tree_arena.specs.declared.node.Entry.TheVariants.{Branch, End as AtEnd}
use Rattle.tree_arena.specs.declared.node.RowKey.{RowKey}
use Rattle.tree_arena.specs.Trees.{capped_size, tree_at}

-- a node with its row or its leaf, and with its sides by their places
pub data Root (R : Type 0) : Type 0 where
  blank : Root R
  given_up : Cause → Root R
  claim : Why → R → Root R
  fork : Row → ℕ → ℕ → Root R

-- the number of its row or its leaf is below these
abbrev pub IsKnown : ℕ → ℕ → Entry → Type 0
IsKnown rows ends (AtEnd place) = place < ends
IsKnown rows ends (Branch row this that) = row < rows

abbrev pub AreKnown : ℕ → ℕ → List Entry → Type 0
AreKnown rows ends [] = ⊤
AreKnown rows ends (entry ∷ more) = IsKnown rows ends entry × AreKnown rows ends more

module _ {R : Type 0} where
  -- the tree of a node, by the trees before it
  abbrev pub tree_of : List (Plan R) → Root R → Plan R
  tree_of trees blank = bottom
  tree_of trees (given_up cause) = top cause
  tree_of trees (claim why rank) = leaf why rank
  tree_of trees (fork row this that) = branch row (tree_at trees this) (tree_at trees that)

  -- those trees and the trees of the nodes behind them, each by all before it
  abbrev pub trees_behind : List (Plan R) → List (Root R) → List (Plan R)
  trees_behind trees [] = trees
  trees_behind trees (root ∷ more) = trees_behind (trees ++ tree_of trees root ∷ []) more

  abbrev pub trees_of : List (Root R) → List (Plan R)
  trees_of roots = trees_behind [] roots

  -- the sides stand at places below n
  abbrev pub HasSidesBelow : ℕ → Root R → Type 0
  HasSidesBelow n (fork row this that) = (this < n) × (that < n)
  HasSidesBelow n blank = ⊤
  HasSidesBelow n (given_up cause) = ⊤
  HasSidesBelow n (claim why rank) = ⊤

  -- each node's sides stand before it, where the first of these stands at n
  abbrev pub AreFounded : ℕ → List (Root R) → Type 0
  AreFounded n [] = ⊤
  AreFounded n (root ∷ more) = HasSidesBelow n root × AreFounded (suc n) more

  -- the tree of a leaf
  abbrev pub plan_of_end : leaves.End R → Plan R
  plan_of_end Bottom = bottom
  plan_of_end (Top cause) = top cause
  plan_of_end (Leaf why rank) = leaf why rank

  -- ---- nodes by the numbers of their rows and leaves

  abbrev pub root_of_end : Option (leaves.End R) → Root R
  root_of_end None = blank
  root_of_end (Some Bottom) = blank
  root_of_end (Some (Top cause)) = given_up cause
  root_of_end (Some (Leaf why rank)) = claim why rank

  abbrev pub root_of_row : Option RowKey → ℕ → ℕ → Root R
  root_of_row None this that = blank
  root_of_row (Some key) this that = fork key.row this that

  abbrev pub root_of : List RowKey → List (leaves.End R) → Entry → Root R
  root_of rows ends (AtEnd place) = root_of_end (slice_get ends place)
  root_of rows ends (Branch row this that) = root_of_row (slice_get rows row) this that

  abbrev pub roots_of : List RowKey → List (leaves.End R) → List Entry → List (Root R)
  roots_of rows ends entries = map (root_of rows ends) entries

  -- Each node's row or leaf is in its table, its sides stand before it, and beside it stands the size of its tree.
  pub record IsTable (rows : List RowKey) (ends : List (leaves.End R)) (entries : List (Entry × ℕ)) : Type 0 where
    pub known : AreKnown (length rows) (length ends) (keys_of entries)
    pub founded : AreFounded 0 (roots_of rows ends (keys_of entries))
    pub sizes : (i : ℕ) (d : Entry × ℕ) → i < length entries
        → (slice_index_or entries i d).1 ≡ capped_size (tree_at (trees_of (roots_of rows ends (keys_of entries))) i)
