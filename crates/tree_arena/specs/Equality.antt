-- When leaves of a table are equal, and what is fed to a hasher of a row and of a leaf.
use Rattle.std.specs.Prelude.{ℕ, ◌&&◌, Bool, true, false, List, ◌++◌}
use Rattle.std.specs.Hash as fed
use Rattle.linear_cons.specs.declared.row.Row.{Row}
use Rattle.decision_tree.specs.Equality.{same_cause, same_reason}
use Rattle.tree_arena.specs.declared.node.End.{End}
use Rattle.tree_arena.specs.declared.node.End.TheVariants.{Bottom, Top, Leaf}

-- the same kind, with equal parts
abbrev pub same_end : {R : Type 0} → (R → R → Bool) → End R → End R → Bool
same_end same Bottom Bottom = true
same_end same (Top cause) (Top other) = same_cause cause other
same_end same (Leaf why rank) (Leaf other second) = same_reason why other && same rank second
same_end same _ _ = false

abbrev pub input_of_row : Row → List (List ℕ)
input_of_row row = fed.i128 row.affine.constant

abbrev pub input_of_end : {R : Type 0} → (R → List (List ℕ)) → End R → List (List ℕ)
input_of_end input Bottom = fed.u8 0
input_of_end input (Top cause) = fed.u8 1
input_of_end input (Leaf why rank) = fed.u8 2 ++ input rank
