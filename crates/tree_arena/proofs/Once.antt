-- Each part of a table stands once.
use Rattle.std.proofs.Common.{◌≡◌, ℕ, Bool, List, Decides}
use Rattle.std.specs.List.{IsDistinct}
use Rattle.std.specs.Map.{keys_of}
use Rattle.tree_arena.specs.Equality.{same_end}
use Rattle.tree_arena.specs.Laws.EndLaws.{end_eq-Decides}
use Rattle.tree_arena.specs.declared.node.End as leaves
use Rattle.tree_arena.specs.declared.node.Entry.{Entry}
use Rattle.tree_arena.specs.declared.node.RowKey.{RowKey}
use Rattle.tree_arena.proofs.Keys.{entry_tells, key_tells, same_entry, same_key}
use Rattle.tree_arena.proofs.Places.{StandOnce, one_place}

pub once_rows : (rows : List RowKey) → IsDistinct same_key rows → StandOnce rows
once_rows rows unique x i j first second = one_place same_key key_tells rows x i j unique first second

pub once_nodes : (nodes : List (Entry × ℕ)) → IsDistinct same_entry (keys_of nodes) → StandOnce (keys_of nodes)
once_nodes nodes unique x i j first second = one_place same_entry entry_tells (keys_of nodes) x i j unique first second

pub once_ends : {R : Type 0} (same : R → R → Bool) (tells : (rank other : R) → Decides (same rank other) (rank ≡ other)) (ends : List (leaves.End R))
    → IsDistinct (same_end same) ends → StandOnce ends
once_ends same tells ends unique x i j first second = one_place (same_end same) (end_eq-Decides same tells) ends x i j unique first second
