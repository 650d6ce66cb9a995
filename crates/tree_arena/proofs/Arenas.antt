-- What the methods of an arena answer, by what its tables tell.
use Rattle.std.proofs.Common.{◌≡◌, ◌∙◌, ℕ, ◌<◌, Bool, List, [], ◌++◌, Some, length, slice_index_or, slice_get, refl, sym, ap, ap₂, subst, append-nil, Decides, arith}
use Rattle.std.specs.Prelude.{Result, Ok, Err, OnErr}
use Rattle.std.specs.List.{IsDistinct}
use Rattle.std.specs.Map.{keys_of}
use Rattle.decision_tree.specs.Plans.{Plan, branch}
use Rattle.tree_arena.specs.Equality.{same_end}
use Rattle.tree_arena.specs.Noting.{IsNoted, IsNotedWith}
use Rattle.tree_arena.specs.Table.{HasSidesBelow, IsKnown, IsTable, Root, plan_of_end, root_of, root_of_end, root_of_row, roots_of, tree_of, trees_of}
use Rattle.tree_arena.specs.Trees.{AreClosed, AreDistinct, Extends, IsAt, IsThere, capped_size, tree_at}
use Rattle.tree_arena.specs.declared.node.End as leaves
use Rattle.tree_arena.specs.declared.node.End.TheVariants.{Bottom, Top, Leaf}
use Rattle.tree_arena.specs.declared.node.Entry.{Entry}
use Rattle.tree_arena.specs.declared.node.Entry.TheVariants.{Branch, End as AtEnd}
use Rattle.tree_arena.specs.declared.node.RowKey.{RowKey}
use Rattle.tree_arena.proofs.Entering.{closed, count, distinct, entered, extends, same_roots, shown, size_at, table_grown, table_noted, there}
use Rattle.tree_arena.proofs.Keys.{same_entry, same_key}
use Rattle.tree_arena.proofs.Once.{once_ends, once_nodes, once_rows}
use Rattle.tree_arena.proofs.Places.{StandOnce, below_get, grown, once_more}

-- a fact holds at an error
pub on_err : {A E : Type 0} {P : Type 0} (result : Result A E) → P → OnErr result P
on_err (Ok x) p = tt
on_err (Err e) p = p

module _ {R : Type 0} where
  -- These tables are those of the trees, and no part stands at two places of one.
  pub record AreTables (rows : List RowKey) (ends : List (leaves.End R)) (nodes : List (Entry × ℕ)) (trees : List (Plan R)) : Type 0 where
    pub table : IsTable rows ends nodes
    pub one_row : StandOnce rows
    pub one_end : StandOnce ends
    pub one_node : StandOnce (keys_of nodes)
    pub are : trees_of (roots_of rows ends (keys_of nodes)) ≡ trees

  -- the tables after a node was asked for that has this tree
  pub record AreEntered (trees : List (Plan R)) (plan : Plan R) (rows : List RowKey) (ends : List (leaves.End R)) (nodes : List (Entry × ℕ)) (place : ℕ) : Type 0 where
    pub table : IsTable rows ends nodes
    pub kept : Extends trees (trees_of (roots_of rows ends (keys_of nodes)))
    pub tree : IsAt (trees_of (roots_of rows ends (keys_of nodes))) (record { place = place }) plan
    pub there : IsThere trees plan → trees_of (roots_of rows ends (keys_of nodes)) ≡ trees

  -- the tables after one that came no further than its row or its leaf
  pub record AreKept (trees : List (Plan R)) (rows : List RowKey) (ends : List (leaves.End R)) (nodes : List (Entry × ℕ)) : Type 0 where
    pub table : IsTable rows ends nodes
    pub same : trees_of (roots_of rows ends (keys_of nodes)) ≡ trees

  pub kept_by : {trees : List (Plan R)} {rows : List RowKey} {ends : List (leaves.End R)} {nodes : List (Entry × ℕ)} → AreKept trees rows ends nodes
      → Extends trees (trees_of (roots_of rows ends (keys_of nodes)))
  kept_by {trees} kept = record { more = []; is = kept.same ∙ sym (append-nil trees) }

  pub tables : (same : R → R → Bool) → ((rank other : R) → Decides (same rank other) (rank ≡ other)) → {rows : List RowKey} {ends : List (leaves.End R)}
      {nodes : List (Entry × ℕ)} {trees : List (Plan R)} → IsTable rows ends nodes → IsDistinct same_key rows → IsDistinct (same_end same) ends
      → IsDistinct same_entry (keys_of nodes) → trees_of (roots_of rows ends (keys_of nodes)) ≡ trees → AreTables rows ends nodes trees
  tables same tells {rows} {ends} {nodes} table distinct_rows distinct_ends distinct_nodes are = record {
    table = table;
    one_row = once_rows rows distinct_rows;
    one_end = once_ends same tells ends distinct_ends;
    one_node = once_nodes nodes distinct_nodes;
    are = are;
  }

  -- ---- leaves

  end_tree : (trees : List (Plan R)) (end : leaves.End R) → tree_of trees (root_of_end (Some end)) ≡ plan_of_end end
  end_tree trees Bottom = refl
  end_tree trees (Top cause) = refl
  end_tree trees (Leaf why rank) = refl

  end_below : (n : ℕ) (end : leaves.End R) → HasSidesBelow n (root_of_end (Some end))
  end_below n Bottom = tt
  end_below n (Top cause) = tt
  end_below n (Leaf why rank) = tt

  end_size : (end : leaves.End R) → 1 ≡ capped_size (plan_of_end end)
  end_size Bottom = omega arith
  end_size (Top cause) = omega arith
  end_size (Leaf why rank) = omega arith

module _ {R : Type 0} {rows : List RowKey} {ends : List (leaves.End R)} {nodes : List (Entry × ℕ)} {trees : List (Plan R)}
    (all : AreTables rows ends nodes trees) where
  -- ---- the list of the trees

  pub tables_count : length trees ≡ length nodes
  tables_count = ap length (sym all.are) ∙ count rows ends nodes all.table all.one_row all.one_end all.one_node

  pub tables_distinct : AreDistinct trees
  tables_distinct = subst (λ (ts : List (Plan R)). AreDistinct ts) all.are (distinct rows ends nodes all.table all.one_row all.one_end all.one_node)

  pub tables_closed : AreClosed trees
  tables_closed = subst (λ (ts : List (Plan R)). AreClosed ts) all.are (closed rows ends nodes all.table all.one_row all.one_end all.one_node)

  pub tables_size : (place : ℕ) (d : Entry × ℕ) → place < length trees → (slice_index_or nodes place d).1 ≡ capped_size (tree_at trees place)
  tables_size = subst (λ (ts : List (Plan R)). (place : ℕ) (d : Entry × ℕ) → place < length ts → (slice_index_or nodes place d).1 ≡ capped_size (tree_at ts place))
      all.are (size_at rows ends nodes all.table all.one_row all.one_end all.one_node)

  -- ---- what is seen at a place

  seen : (entry : Entry) (size place : ℕ) → slice_get nodes place ≡ Some (entry, size) → place < length trees
      → (tree_of trees (root_of rows ends entry) ≡ tree_at trees place) × HasSidesBelow place (root_of rows ends entry) × IsKnown (length rows) (length ends) entry
  seen = subst (λ (ts : List (Plan R)). (entry : Entry) (size place : ℕ) → slice_get nodes place ≡ Some (entry, size) → place < length ts
      → (tree_of ts (root_of rows ends entry) ≡ tree_at ts place) × HasSidesBelow place (root_of rows ends entry) × IsKnown (length rows) (length ends) entry)
      all.are (shown rows ends nodes all.table all.one_row all.one_end all.one_node)

  pub number_low : {place number size : ℕ} → slice_get nodes place ≡ Some (AtEnd number, size) → place < length trees → number < length ends
  number_low {place} {number} {size} is low = (seen (AtEnd number) size place is low).2

  pub row_low : {place row this that size : ℕ} → slice_get nodes place ≡ Some (Branch row this that, size) → place < length trees → row < length rows
  row_low {place} {row} {this} {that} {size} is low = (seen (Branch row this that) size place is low).2

  pub seen_end : {place number size : ℕ} {end : leaves.End R} → slice_get nodes place ≡ Some (AtEnd number, size) → place < length trees
      → slice_get ends number ≡ Some end → tree_at trees place ≡ plan_of_end end
  seen_end {place} {number} {size} {end} is low at =
      sym (seen (AtEnd number) size place is low).0 ∙ ap (λ o. tree_of trees (root_of_end o)) at ∙ end_tree trees end

  pub seen_row : {place row this that size : ℕ} {key : RowKey} → slice_get nodes place ≡ Some (Branch row this that, size) → place < length trees
      → slice_get rows row ≡ Some key → (this < place) × (that < place) × (tree_at trees place ≡ branch key.row (tree_at trees this) (tree_at trees that))
  seen_row {place} {row} {this} {that} {size} {key} is low at =
      let node = seen (Branch row this that) size place is low in
      let sides : (this < place) × (that < place) = subst (λ o. let r : Root R = root_of_row o this that in HasSidesBelow place r) at node.1 in
      (sides.0, sides.1, sym node.0 ∙ ap (λ o. tree_of trees (root_of_row o this that)) at)

  -- ---- with more rows and leaves

  module _ {rows_now : List RowKey} {ends_now : List (leaves.End R)} (more : (m : List RowKey) × (rows_now ≡ rows ++ m))
      (others : (o : List (leaves.End R)) × (ends_now ≡ ends ++ o)) where
    trees_now : trees_of (roots_of rows_now ends_now (keys_of nodes)) ≡ trees
    trees_now =
        ap₂ (λ (r : List RowKey) (e : List (leaves.End R)). trees_of (roots_of r e (keys_of nodes))) more.1 others.1
        ∙ ap (λ (rs : List (Root R)). trees_of rs) (same_roots rows ends nodes all.table all.one_row all.one_end all.one_node more.0 others.0)
        ∙ all.are

    table_now : IsTable rows_now ends_now nodes
    table_now =
        subst (λ (r : List RowKey). IsTable r ends_now nodes) (sym more.1)
        (subst (λ (e : List (leaves.End R)). IsTable (rows ++ more.0) e nodes) (sym others.1)
        (table_grown rows ends nodes all.table all.one_row all.one_end all.one_node more.0 others.0))

    pub parts_kept : {nodes_now : List (Entry × ℕ)} → nodes_now ≡ nodes → AreKept trees rows_now ends_now nodes_now
    parts_kept same = record {
      table = subst (λ (ns : List (Entry × ℕ)). IsTable rows_now ends_now ns) (sym same) table_now;
      same = ap (λ (ns : List (Entry × ℕ)). trees_of (roots_of rows_now ends_now (keys_of ns))) same ∙ trees_now;
    }

    pub parts_entered : StandOnce rows_now → StandOnce ends_now → (entry : Entry) (size : ℕ) (plan : Plan R)
        → IsKnown (length rows_now) (length ends_now) entry → HasSidesBelow (length trees) (root_of rows_now ends_now entry)
        → tree_of trees (root_of rows_now ends_now entry) ≡ plan → size ≡ capped_size plan
        → {nodes_now : List (Entry × ℕ)} {place : ℕ} → IsNotedWith nodes nodes_now entry size place → AreEntered trees plan rows_now ends_now nodes_now place
    parts_entered one_row one_end entry size plan known below tree is_size {nodes_now} {place} noted =
        let old : List (Plan R) = trees_of (roots_of rows_now ends_now (keys_of nodes)) in
        let new : List (Plan R) = trees_of (roots_of rows_now ends_now (keys_of nodes_now)) in
        let root : Root R = root_of rows_now ends_now entry in
        let below_now : HasSidesBelow (length old) root = subst (λ (ts : List (Plan R)). HasSidesBelow (length ts) root) (sym trees_now) below in
        let tree_now : tree_of old root ≡ plan = ap (λ (ts : List (Plan R)). tree_of ts root) trees_now ∙ tree in
        let size_now : size ≡ capped_size (tree_of old root) = is_size ∙ ap capped_size (sym tree_now) in
        record {
          table = table_noted rows_now ends_now nodes table_now one_row one_end all.one_node entry size known below_now size_now nodes_now place noted;
          kept = subst (λ (ts : List (Plan R)). Extends ts new) trees_now
              (extends rows_now ends_now nodes table_now one_row one_end all.one_node entry size known below_now size_now nodes_now place noted);
          tree = subst (λ (p : Plan R). IsAt new (record { place = place }) p) tree_now
              (entered rows_now ends_now nodes table_now one_row one_end all.one_node entry size known below_now size_now nodes_now place noted);
          there = λ at. there rows_now ends_now nodes table_now one_row one_end all.one_node entry size known below_now size_now nodes_now place noted
              (subst (λ (ts : List (Plan R)). IsThere ts (tree_of old root)) (sym trees_now) (subst (λ (p : Plan R). IsThere trees p) (sym tree_now) at))
              ∙ trees_now;
        }

  no_row : (m : List RowKey) × (rows ≡ rows ++ m)
  no_row = ([], sym (append-nil rows))

  no_end : (o : List (leaves.End R)) × (ends ≡ ends ++ o)
  no_end = ([], sym (append-nil ends))

  -- ---- a leaf and a node more

  module _ {ends_now : List (leaves.End R)} {end : leaves.End R} {number : ℕ} (noted : IsNoted ends ends_now end number) where
    others : (o : List (leaves.End R)) × (ends_now ≡ ends ++ o)
    others = grown ends ends_now end number noted

    pub leaf_kept : {nodes_now : List (Entry × ℕ)} → nodes_now ≡ nodes → AreKept trees rows ends_now nodes_now
    leaf_kept same = parts_kept no_row others same

    pub leaf_entered : {nodes_now : List (Entry × ℕ)} {place : ℕ} → IsNotedWith nodes nodes_now (AtEnd number) 1 place
        → AreEntered trees (plan_of_end end) rows ends_now nodes_now place
    leaf_entered goes =
        let root : root_of rows ends_now (AtEnd number) ≡ root_of_end (Some end) = ap (λ o. root_of_end o) noted.at in
        parts_entered no_row others all.one_row (once_more ends ends_now end number all.one_end noted) (AtEnd number) 1 (plan_of_end end)
        (below_get ends_now number end noted.at) (subst (λ r. HasSidesBelow (length trees) r) (sym root) (end_below (length trees) end))
        (ap (λ r. tree_of trees r) root ∙ end_tree trees end) (end_size end) goes

  module _ {rows_now : List RowKey} {key : RowKey} {number : ℕ} (noted : IsNoted rows rows_now key number) where
    more : (m : List RowKey) × (rows_now ≡ rows ++ m)
    more = grown rows rows_now key number noted

    pub node_kept : {nodes_now : List (Entry × ℕ)} → nodes_now ≡ nodes → AreKept trees rows_now ends nodes_now
    node_kept same = parts_kept more no_end same

    pub node_entered : {this that size : ℕ} → this < length trees → that < length trees → size ≡ capped_size (branch key.row (tree_at trees this) (tree_at trees that))
        → {nodes_now : List (Entry × ℕ)} {place : ℕ} → IsNotedWith nodes nodes_now (Branch number this that) size place
        → AreEntered trees (branch key.row (tree_at trees this) (tree_at trees that)) rows_now ends nodes_now place
    node_entered {this} {that} {size} low_yes low_no is_size goes =
        let root : root_of rows_now ends (Branch number this that) ≡ root_of_row (Some key) this that = ap (λ o. root_of_row o this that) noted.at in
        parts_entered more no_end (once_more rows rows_now key number all.one_row noted) all.one_end (Branch number this that) size
        (branch key.row (tree_at trees this) (tree_at trees that)) (below_get rows_now number key noted.at)
        (subst (λ r. HasSidesBelow (length trees) r) (sym root) (low_yes, low_no)) (ap (λ r. tree_of trees r) root) is_size goes
