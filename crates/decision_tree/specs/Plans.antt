-- Trees as pure data: their shape, rows and leaves, without the boxes' places in memory.
use Rattle.std.specs.Prelude.{ℕ, ◌+◌, Bool, true, false, Option, None, Some, ⊤}
use Rattle.linear_cons.specs.declared.row.Row.{Row}
use Rattle.decision_tree.specs.declared.reason.Cause.{Cause}
use Rattle.decision_tree.specs.declared.reason.Why.{Why}
use Rattle.decision_tree.specs.declared.tree.Tree.{Tree, Bottom, Top, Leaf, Node'}

pub data Plan (R : Type 0) : Type 0 where
  bottom : Plan R
  top : Cause → Plan R
  leaf : Why → R → Plan R
  branch : Row → Plan R → Plan R → Plan R

-- the plan of a tree
abbrev pub plan_of : {R : Type 0} → Tree R → Plan R
plan_of Bottom = bottom
plan_of (Top cause) = top cause
plan_of (Leaf why rank) = leaf why rank
plan_of (Node' row p this q that) = branch row (plan_of this) (plan_of that)

-- it has no sides: a claim, or none
abbrev pub IsEnd : {R : Type 0} → Plan R → Type 0
IsEnd (branch row this that) = ⊥
IsEnd end = ⊤

-- it makes a claim
abbrev pub is_defined : {R : Type 0} → Plan R → Bool
is_defined (leaf why rank) = true
is_defined _ = false

-- the rank of a claim
abbrev pub rank_of : {R : Type 0} → Plan R → Option R
rank_of (leaf why rank) = Some rank
rank_of _ = None

-- the number of nodes, leaves included
abbrev pub size_of : {R : Type 0} → Plan R → ℕ
size_of (branch row this that) = size_of this + size_of that + 1
size_of _ = 1

-- the number of leaves
abbrev pub leaves_of : {R : Type 0} → Plan R → ℕ
leaves_of (branch row this that) = leaves_of this + leaves_of that
leaves_of _ = 1
