-- A measure of a tree that falls as its yes side moves to its no side.
use Rattle.std.proofs.Common.{◌≡◌, ℕ, ◌+◌, ◌*◌, ◌<◌, ◌≤◌, List, [], ◌++◌, Box, Global, arith, refl}
use contract.BorrowLft.{◌⊑◌, ⊑_meet, ⊑_static}
use Rattle.linear_cons.specs.declared.row.Row.{Row}
use Rattle.decision_tree.specs.declared.tree.Tree.{Tree, Bottom, Top, Leaf, Node', size-Tree}
use Rattle.decision_tree.specs.declared.tree.Tree.TheViews.{Node, deep-Bottom, deep-Leaf, deep-Node', deep-Top}

-- the turns of the loop that takes a tree apart are at most this many
abbrev pub turns : {R : Type 0} → Tree R → ℕ
turns (Node' row p this q that) = 2 * turns this + turns that + 1
turns _ = 0

deep_enough : {R : Type 0} (tree : Tree R) → 1 ≤ size-Tree R tree
deep_enough {R} Bottom = omega (arith, deep-Bottom R)
deep_enough {R} (Top cause) = omega (arith, deep-Top R cause)
deep_enough {R} (Leaf why rank) = omega (arith, deep-Leaf R why rank)
deep_enough {R} (Node' row p this q that) = omega (arith, deep-Node' R row p this q that)

-- a leaf is less deep than a tree with sides
pub leaf_shallow : {R : Type 0} (end whole : Tree R) → turns end ≤ 0 → 1 ≤ turns whole → size-Tree R end < size-Tree R whole
leaf_shallow end Bottom leaf sides = absurd (omega arith)
leaf_shallow end (Top cause) leaf sides = absurd (omega arith)
leaf_shallow end (Leaf why rank) leaf sides = absurd (omega arith)
leaf_shallow {R} Bottom (Node' row p this q that) leaf sides = omega (arith, deep-Bottom R, deep-Node' R row p this q that, deep_enough this)
leaf_shallow {R} (Top cause) (Node' row p this q that) leaf sides = omega (arith, deep-Top R cause, deep-Node' R row p this q that, deep_enough this)
leaf_shallow {R} (Leaf why rank) (Node' row p this q that) leaf sides = omega (arith, deep-Leaf R why rank, deep-Node' R row p this q that, deep_enough this)
leaf_shallow (Node' s u l v r) (Node' row p this q that) leaf sides = absurd (omega arith)

-- what has no sides is a leaf
pub no_turns : {R : Type 0} (tree : Tree R) → ((row : Row) (y n : Box (Tree R) Global) → tree ≡ Node row y n → ⊥) → turns tree ≤ 0
no_turns Bottom none = omega arith
no_turns (Top cause) none = omega arith
no_turns (Leaf why rank) none = omega arith
no_turns (Node' row p this q that) none = absurd (none row (record { ptr = p.ptr; alloc = p.alloc; value = this }) (record { ptr = q.ptr; alloc = q.alloc; value = that }) refl)

-- a lifetime within another is within what the parts of a box of a tree name
extended : (κ l : List ℕ) → κ ⊑ l → κ ⊑ (l ++ [])
extended κ l within = ⊑_meet κ l [] within (⊑_static κ)

pub parts_within : (κ l : List ℕ) → κ ⊑ l → κ ⊑ ((l ++ []) ++ ((((l ++ []) ++ (((l ++ []) ++ []) ++ [])) ++ []) ++ (((((l ++ []) ++ []) ++ []) ++ ((((l ++ []) ++ []) ++ []) ++ [])) ++ [])))
parts_within κ l within =
    let once = extended κ l within in
    let thrice = extended κ _ (extended κ _ once) in
    ⊑_meet κ _ _ once (⊑_meet κ _ _ (extended κ _ (⊑_meet κ _ _ once thrice)) (extended κ _ (⊑_meet κ _ _ thrice (extended κ _ thrice))))
