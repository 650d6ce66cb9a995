-- What is asked of a tree that is made of another by leaving sides out.
use Rattle.std.specs.Prelude.{◌≡◌, ◌⊎◌, ◌≤◌, ℤ, List, Option, None, Some, Box}
use Rattle.std.specs.Global.{Global}
use Rattle.linear_cons.specs.declared.row.Row.{Row}
use Rattle.linear_cons.specs.Rows.{complement}
use Rattle.num_domain.specs.Domain.{AllMeet, IsStore, KeepsMeeting, NoneMeets}
use Rattle.decision_tree.specs.Evaluation.{eval}
use Rattle.decision_tree.specs.Plans.{Plan, branch, size_of}
use Rattle.tree_unify.specs.declared.pruning.Sides.{Sides}
use Rattle.tree_unify.specs.declared.pruning.Sides.TheVariants.{Both, No, Yes}

-- the row occurs in the tree, and the leaf does
abbrev pub HasRow : {R : Type 0} → Row → Plan R → Type 0
HasRow row (branch given this that) = (row ≡ given) ⊎ HasRow row this ⊎ HasRow row that
HasRow row end = ⊥

abbrev pub HasLeaf : {R : Type 0} → Plan R → Plan R → Type 0
HasLeaf end (branch row this that) = HasLeaf end this ⊎ HasLeaf end that
HasLeaf end other = end ≡ other

-- each row and each leaf of the one tree occurs in the other, which has as many nodes or more
pub record IsPartOf {R : Type 0} (made plan : Plan R) : Type 0 where
  pub rows : (row : Row) → HasRow row made → HasRow row plan
  pub leaves : (end : Plan R) → HasLeaf end made → HasLeaf end plan
  pub size : size_of made ≤ size_of plan

-- the two trees have the same leaf at each store of the set
abbrev pub SameLeaves : {R : Type 0} → (List ℤ → Type 0) → Plan R → Plan R → Type 0
SameLeaves has made plan = (store : List ℤ) → IsStore store → has store → eval made store ≡ eval plan store

-- the store is in what is left of a state, or no state was kept
abbrev pub IsLeft : {D : Type 0} → (D → List ℤ → Type 0) → Option (Box D Global) → List ℤ → Type 0
IsLeft has None store = Unit {0}
IsLeft has (Some state) store = has state.value store

-- what is left of a set at the sides of a node with the row: of the members that meet it, and of those that miss it
abbrev pub AreSides : {D : Type 0} → (D → List ℤ → Type 0) → Row → (List ℤ → Type 0) → Sides D → Type 0
AreSides has row set (Yes inside) = AllMeet row set × KeepsMeeting row set (IsLeft has inside)
AreSides has row set (No below) = NoneMeets row set × KeepsMeeting (complement row) set (IsLeft has below)
AreSides has row set (Both inside below) = KeepsMeeting row set (IsLeft has inside) × KeepsMeeting (complement row) set (IsLeft has below)
