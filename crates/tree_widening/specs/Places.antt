-- Where a store stands in a tree, and what a claim there says of a newer tree.
use Rattle.std.specs.Prelude.{ℤ, pos, int_le, List, [], ◌∷◌, if◌then◌else◌}
use Rattle.linear_cons.specs.Functions.{value_at}
use Rattle.linear_cons.specs.Rows.{complement}
use Rattle.linear_cons.specs.declared.row.Row.{Row}
use Rattle.decision_tree.specs.Plans.{Plan, branch, leaf}
use Rattle.decision_tree.specs.declared.rank.Rank.{Ghosts as Ranks}

-- the rows on the store's way to its leaf: a node's own row on its yes side, the complement on its no side
abbrev pub rows_to : {R : Type 0} → Plan R → List ℤ → List Row
rows_to (branch row this that) store =
    if int_le (pos 0) (value_at row.affine store) then row ∷ rows_to this store else complement row ∷ rows_to that store
rows_to end store = []

-- the leaf makes a claim, whose rank doesn't exceed the other at the store
abbrev pub IsAtMost : {R : Type 0} → Ranks R → R → List ℤ → Plan R → Type 0
IsAtMost ranks rank store (leaf why next) = ranks.exceeds (ranks.rank_value next store) (ranks.rank_value rank store) → ⊥
IsAtMost ranks rank store end = ⊥
