-- Nodes by the numbers of their parts, and with their parts.
use Rattle.std.proofs.Common.{◌≡◌, ◌∙◌, ℕ, zero, suc, ◌<◌, ◌≤◌, List, [], ◌∷◌, ◌++◌, Some, map, length, slice_index_or, slice_get, refl, sym, ap, ap₂, arith}
use Rattle.linear_cons.specs.declared.row.Row.{Row}
use Rattle.tree_arena.specs.declared.node.End as leaves
use Rattle.tree_arena.specs.declared.node.End.TheVariants.{Bottom, Top, Leaf}
use Rattle.tree_arena.specs.declared.node.Entry.{Entry}
use Rattle.tree_arena.specs.declared.node.Entry.TheVariants.{Branch, End as AtEnd}
use Rattle.tree_arena.specs.declared.node.RowKey.{RowKey}
use Rattle.tree_arena.specs.Table.{AreKnown, IsKnown, Root, fork, root_of, root_of_end, root_of_row, roots_of}
use Rattle.tree_arena.proofs.Places.{get_front, get_there}

pub known_at : (rows ends : ℕ) (entries : List Entry) (i : ℕ) (d : Entry) → AreKnown rows ends entries → i < length entries → IsKnown rows ends (slice_index_or entries i d)
known_at rows ends [] i d known low = absurd (omega arith)
known_at rows ends (entry ∷ rest) zero d known low = known.0
known_at rows ends (entry ∷ rest) (suc i) d known low = known_at rows ends rest i d known.1 (omega arith)

pub known_more : (rows ends more others : ℕ) (entries : List Entry) → rows ≤ more → ends ≤ others → AreKnown rows ends entries → AreKnown more others entries
known_more rows ends more others [] r e known = known
known_more rows ends more others (AtEnd place ∷ rest) r e known = (omega (arith, known.0), known_more rows ends more others rest r e known.1)
known_more rows ends more others (Branch row this that ∷ rest) r e known = (omega (arith, known.0), known_more rows ends more others rest r e known.1)

pub known_push : (rows ends : ℕ) (entries : List Entry) (entry : Entry) → AreKnown rows ends entries → IsKnown rows ends entry → AreKnown rows ends (entries ++ entry ∷ [])
known_push rows ends [] entry known is = (is, tt)
known_push rows ends (first ∷ rest) entry known is = (known.0, known_push rows ends rest entry known.1 is)

pub map_push : {X Y : Type 0} (f : X → Y) (xs : List X) (x : X) → map f (xs ++ x ∷ []) ≡ map f xs ++ f x ∷ []
map_push f [] x = refl
map_push f (y ∷ xs) x = ap (λ t. f y ∷ t) (map_push f xs x)

pub map_length : {X Y : Type 0} (f : X → Y) (xs : List X) → length (map f xs) ≡ length xs
map_length f [] = refl
map_length f (x ∷ xs) = ap suc (map_length f xs)

pub map_at : {X Y : Type 0} (f : X → Y) (xs : List X) (i : ℕ) (d : X) (e : Y) → i < length xs → slice_index_or (map f xs) i e ≡ f (slice_index_or xs i d)
map_at f [] i d e low = absurd (omega arith)
map_at f (x ∷ xs) zero d e low = refl
map_at f (x ∷ xs) (suc i) d e low = map_at f xs i d e (omega arith)

pub some_there : {X : Type 0} (xs : List X) (i : ℕ) → i < length xs → (x : X) × (slice_get xs i ≡ Some x)
some_there [] i low = absurd (omega arith)
some_there (x ∷ xs) zero low = (x, refl)
some_there (x ∷ xs) (suc i) low = some_there xs i (omega arith)

entry_is : (row other this first that second : ℕ) → row ≡ other → this ≡ first → that ≡ second → Branch row this that ≡ Branch other first second
entry_is row other this first that second a b c = cc

module _ {R : Type 0} where
  -- ---- more parts change no node

  pub root_kept : (rows more : List RowKey) (ends others : List (leaves.End R)) (entry : Entry) → IsKnown (length rows) (length ends) entry
      → root_of (rows ++ more) (ends ++ others) entry ≡ root_of rows ends entry
  root_kept rows more ends others (AtEnd place) known = ap (λ o. root_of_end o) (get_front ends others place known)
  root_kept rows more ends others (Branch row this that) known = ap (λ o. root_of_row o this that) (get_front rows more row known)

  pub roots_kept : (rows more : List RowKey) (ends others : List (leaves.End R)) (entries : List Entry) → AreKnown (length rows) (length ends) entries
      → roots_of (rows ++ more) (ends ++ others) entries ≡ roots_of rows ends entries
  roots_kept rows more ends others [] known = refl
  roots_kept rows more ends others (entry ∷ rest) known =
      ap₂ (λ (a : Root R) (b : List (Root R)). a ∷ b) (root_kept rows more ends others entry known.0) (roots_kept rows more ends others rest known.1)

  -- ---- nodes with the same parts are the same

  same_ends : (end other : leaves.End R) → root_of_end (Some end) ≡ root_of_end (Some other) → end ≡ other
  same_ends Bottom Bottom is = refl
  same_ends (Top cause) (Top other) is = cc
  same_ends (Leaf why rank) (Leaf other second) is = cc
  same_ends _ _ is = absurd (cc)

  no_fork : (end : leaves.End R) (row : Row) (this that : ℕ) → root_of_end (Some end) ≡ fork row this that → ⊥
  no_fork Bottom row this that is = cc
  no_fork (Top cause) row this that is = cc
  no_fork (Leaf why rank) row this that is = cc

  same_forks : (key other : RowKey) (this that first second : ℕ) → root_of_row {R = R} (Some key) this that ≡ root_of_row (Some other) first second
      → (key ≡ other) × (this ≡ first) × (that ≡ second)
  same_forks key other this that first second is =
      let rows : key.row ≡ other.row = cc in
      (ap (λ (r : Row). let k : RowKey = record { row = r } in k) rows, cc, cc)

  module _ (rows : List RowKey) (ends : List (leaves.End R))
      (one_row : (key : RowKey) (i j : ℕ) → slice_get rows i ≡ Some key → slice_get rows j ≡ Some key → i ≡ j)
      (one_end : (end : leaves.End R) (i j : ℕ) → slice_get ends i ≡ Some end → slice_get ends j ≡ Some end → i ≡ j) where
    pub same_entries : (entry other : Entry) → IsKnown (length rows) (length ends) entry → IsKnown (length rows) (length ends) other
        → root_of rows ends entry ≡ root_of rows ends other → entry ≡ other
    same_entries (AtEnd a) (AtEnd b) la lb is =
        let x = get_there ends a Bottom la in
        let y = get_there ends b Bottom lb in
        let same = same_ends (slice_index_or ends a Bottom) (slice_index_or ends b Bottom)
        (ap (λ o. root_of_end o) (sym x) ∙ is ∙ ap (λ o. root_of_end o) y) in
        let places = one_end (slice_index_or ends b Bottom) a b (x ∙ ap (λ (e : leaves.End R). Some e) same) y in
        ap (λ n. AtEnd n) places
    same_entries (AtEnd a) (Branch row this that) la lb is =
        let key = some_there rows row lb in
        absurd (no_fork (slice_index_or ends a Bottom) key.0.row this that
        (ap (λ o. root_of_end o) (sym (get_there ends a Bottom la)) ∙ is ∙ ap (λ o. root_of_row o this that) key.1))
    same_entries (Branch row this that) (AtEnd b) la lb is =
        let key = some_there rows row la in
        absurd (no_fork (slice_index_or ends b Bottom) key.0.row this that
        (ap (λ o. root_of_end o) (sym (get_there ends b Bottom lb)) ∙ sym is ∙ ap (λ o. root_of_row o this that) key.1))
    same_entries (Branch row this that) (Branch other first second) la lb is =
        let x = some_there rows row la in
        let y = some_there rows other lb in
        let parts = same_forks x.0 y.0 this that first second
        (ap (λ o. root_of_row o this that) (sym x.1) ∙ is ∙ ap (λ o. root_of_row o first second) y.1) in
        let places = one_row y.0 row other (x.1 ∙ ap (λ (k : RowKey). Some k) parts.0) y.1 in
        entry_is row other this first that second places parts.1 parts.2
