-- Tables of nodes, and the trees that they stand for.
use Rattle.std.proofs.Common.{◌≡◌, ◌∙◌, ℕ, zero, suc, ◌+◌, ◌<◌, ◌≤◌, List, [], ◌∷◌, ◌++◌, length, slice_index_or, refl, sym, ap, ap₂, subst, append-nil, arith}
use Rattle.std.proofs.lemmas.List.{append_assoc}
use Rattle.linear_cons.specs.declared.row.Row.{Row}
use Rattle.decision_tree.specs.Plans.{Plan, bottom, branch, leaf, top}
use Rattle.tree_arena.specs.Table.{Root, blank, given_up, claim, fork, AreFounded, HasSidesBelow, tree_of, trees_behind, trees_of}
use Rattle.tree_arena.specs.Trees.{tree_at}

-- ---- lists

pub at_front : {X : Type 0} (xs ys : List X) (i : ℕ) (d : X) → i < length xs → slice_index_or (xs ++ ys) i d ≡ slice_index_or xs i d
at_front [] ys i d low = absurd (omega arith)
at_front (x ∷ xs) ys zero d low = refl
at_front (x ∷ xs) ys (suc i) d low = at_front xs ys i d (omega arith)

pub at_last : {X : Type 0} (xs : List X) (x d : X) → slice_index_or (xs ++ x ∷ []) (length xs) d ≡ x
at_last [] x d = refl
at_last (y ∷ xs) x d = at_last xs x d

pub length_more : {X : Type 0} (xs : List X) (x : X) → length (xs ++ x ∷ []) ≡ suc (length xs)
length_more [] x = refl
length_more (y ∷ xs) x = ap suc (length_more xs x)

pub length_front : {X : Type 0} (xs ys : List X) → length xs ≤ length (xs ++ ys)
length_front [] ys = omega arith
length_front (x ∷ xs) ys = let l = length_front xs ys in omega arith

module _ {R : Type 0} where
  -- ---- a node's tree by the trees before it

  pub tree_kept : (trees more : List (Plan R)) (entry : Root R) → HasSidesBelow (length trees) entry → tree_of (trees ++ more) entry ≡ tree_of trees entry
  tree_kept trees more blank below = refl
  tree_kept trees more (given_up cause) below = refl
  tree_kept trees more (claim why rank) below = refl
  tree_kept trees more (fork row this that) below =
      ap₂ (λ (a b : Plan R). branch row a b) (at_front trees more this bottom below.0) (at_front trees more that bottom below.1)

  -- ---- the trees of nodes

  -- the nodes behind only add trees
  pub record Adds (trees : List (Plan R)) (entries : List (Root R)) : Type 0 where
    pub more : List (Plan R)
    pub is : trees_behind trees entries ≡ trees ++ more

  pub adds : (trees : List (Plan R)) (entries : List (Root R)) → Adds trees entries
  adds trees [] = record { more = []; is = sym (append-nil trees) }
  adds trees (entry ∷ rest) =
      let after = adds (trees ++ tree_of trees entry ∷ []) rest in
      record { more = tree_of trees entry ∷ after.more; is = after.is ∙ append_assoc trees (tree_of trees entry ∷ []) after.more }

  pub trees_push : (trees : List (Plan R)) (entries : List (Root R)) (entry : Root R)
      → trees_behind trees (entries ++ entry ∷ []) ≡ trees_behind trees entries ++ tree_of (trees_behind trees entries) entry ∷ []
  trees_push trees [] entry = refl
  trees_push trees (first ∷ rest) entry = trees_push (trees ++ tree_of trees first ∷ []) rest entry

  pub trees_length : (trees : List (Plan R)) (entries : List (Root R)) → length (trees_behind trees entries) ≡ length trees + length entries
  trees_length trees [] = omega arith
  trees_length trees (entry ∷ rest) =
      let after = trees_length (trees ++ tree_of trees entry ∷ []) rest in
      let one = length_more trees (tree_of trees entry) in omega arith

  -- at each place stands the tree of its node
  pub stands : (trees : List (Plan R)) (entries : List (Root R)) (i : ℕ) (d : Root R) → AreFounded (length trees) entries → i < length entries
      → tree_at (trees_behind trees entries) (length trees + i) ≡ tree_of (trees_behind trees entries) (slice_index_or entries i d)
  stands trees [] i d founded low = absurd (omega arith)
  stands trees (entry ∷ rest) zero d founded low =
      let one = trees ++ tree_of trees entry ∷ [] in
      let after = adds one rest in
      let here : tree_at (trees_behind one rest) (length trees) ≡ tree_of trees entry =
      ap (λ t. tree_at t (length trees)) after.is
      ∙ at_front one after.more (length trees) bottom (let l = length_more trees (tree_of trees entry) in omega arith)
      ∙ at_last trees (tree_of trees entry) bottom in
      let there : tree_of (trees_behind one rest) entry ≡ tree_of trees entry =
      ap (λ t. tree_of t entry) (after.is ∙ append_assoc trees (tree_of trees entry ∷ []) after.more)
      ∙ tree_kept trees (tree_of trees entry ∷ after.more) entry founded.0 in
      let place : length trees + zero ≡ length trees = omega arith in
      ap (λ n. tree_at (trees_behind one rest) n) place ∙ here ∙ sym there
  stands trees (entry ∷ rest) (suc i) d founded low =
      let l = length_more trees (tree_of trees entry) in
      let place : length trees + suc i ≡ length (trees ++ tree_of trees entry ∷ []) + i = omega arith in
      ap (λ n. tree_at (trees_behind (trees ++ tree_of trees entry ∷ []) rest) n) place
      ∙ stands (trees ++ tree_of trees entry ∷ []) rest i d (subst (λ n. AreFounded n rest) (sym l) founded.1) (omega arith)

  pub sides_below : (n : ℕ) (entries : List (Root R)) (i : ℕ) (d : Root R) → AreFounded n entries → i < length entries
      → HasSidesBelow (n + i) (slice_index_or entries i d)
  sides_below n [] i d founded low = absurd (omega arith)
  sides_below n (entry ∷ rest) zero d founded low = let same : n ≡ n + zero = omega arith in subst (λ m. HasSidesBelow m entry) same founded.0
  sides_below n (entry ∷ rest) (suc i) d founded low =
      let same : suc n + i ≡ n + suc i = omega arith in
      subst (λ m. HasSidesBelow m (slice_index_or rest i d)) same (sides_below (suc n) rest i d founded.1 (omega arith))

  pub founded_push : (n : ℕ) (entries : List (Root R)) (entry : Root R) → AreFounded n entries → HasSidesBelow (n + length entries) entry
      → AreFounded n (entries ++ entry ∷ [])
  founded_push n [] entry founded below = let same : n + 0 ≡ n = omega arith in (subst (λ m. HasSidesBelow m entry) same below, tt)
  founded_push n (first ∷ rest) entry founded below =
      let same : n + length (first ∷ rest) ≡ suc n + length rest = omega arith in
      (founded.0, founded_push (suc n) rest entry founded.1 (subst (λ m. HasSidesBelow m entry) same below))

  -- ---- distinct nodes make distinct trees

  module _ (entries : List (Root R)) (founded : AreFounded 0 entries) (d : Root R)
      (one : (i j : ℕ) → i < length entries → j < length entries → slice_index_or entries i d ≡ slice_index_or entries j d → i ≡ j) where
    abbrev pub trees : List (Plan R)
    trees = trees_of entries

    abbrev pub node : ℕ → Root R
    node i = slice_index_or entries i d

    -- what a node with this tree is
    abbrev pub IsNode : Plan R → Root R → Type 0
    IsNode bottom e = e ≡ blank
    IsNode (top cause) e = e ≡ given_up cause
    IsNode (leaf why rank) e = e ≡ claim why rank
    IsNode (branch row this that) e = (a : ℕ) × (b : ℕ) × (e ≡ fork row a b) × (tree_at trees a ≡ this) × (tree_at trees b ≡ that)

    shape : (plan : Plan R) (e : Root R) → tree_of trees e ≡ plan → IsNode plan e
    shape plan blank is = subst (λ p. IsNode p blank) is refl
    shape plan (given_up cause) is = subst (λ p. IsNode p (given_up cause)) is refl
    shape plan (claim why rank) is = subst (λ p. IsNode p (claim why rank)) is refl
    shape plan (fork row this that) is = subst (λ p. IsNode p (fork row this that)) is (this, that, refl, refl, refl)

    pub stands_at : (i : ℕ) → i < length entries → tree_at trees i ≡ tree_of trees (node i)
    stands_at i low =
        let same : 0 + i ≡ i = omega arith in subst (λ n. tree_at trees n ≡ tree_of trees (node i)) same (stands [] entries i d founded low)

    pub shape_at : (plan : Plan R) (i : ℕ) → i < length entries → tree_at trees i ≡ plan → IsNode plan (node i)
    shape_at plan i low is = shape plan (node i) (sym (stands_at i low) ∙ is)

    pub below_at : (i : ℕ) (row : Row) (this that : ℕ) → i < length entries → node i ≡ fork row this that → (this < i) × (that < i)
    below_at i row this that low is =
        let same : 0 + i ≡ i = omega arith in
        subst (λ e. HasSidesBelow i e) is (subst (λ n. HasSidesBelow n (node i)) same (sides_below 0 entries i d founded low))

    -- two places with one tree are one
    pub same_place : (plan : Plan R) (i j : ℕ) → i < length entries → j < length entries → tree_at trees i ≡ plan → tree_at trees j ≡ plan → i ≡ j
    same_place bottom i j li lj ti tj = one i j li lj (shape_at bottom i li ti ∙ sym (shape_at bottom j lj tj))
    same_place (top cause) i j li lj ti tj = one i j li lj (shape_at (top cause) i li ti ∙ sym (shape_at (top cause) j lj tj))
    same_place (leaf why rank) i j li lj ti tj = one i j li lj (shape_at (leaf why rank) i li ti ∙ sym (shape_at (leaf why rank) j lj tj))
    same_place (branch row this that) i j li lj ti tj =
        let x = shape_at (branch row this that) i li ti in
        let y = shape_at (branch row this that) j lj tj in
        let bx = below_at i row x.0 x.1 li x.2 in
        let by = below_at j row y.0 y.1 lj y.2 in
        let left = same_place this x.0 y.0 (omega (arith, bx.0)) (omega (arith, by.0)) x.3 y.3 in
        let right = same_place that x.1 y.1 (omega (arith, bx.1)) (omega (arith, by.1)) x.4 y.4 in
        one i j li lj (x.2 ∙ ap₂ (λ (a b : ℕ). let e : Root R = fork row a b in e) left right ∙ sym y.2)

    -- a node whose tree stands at a place is the node of that place
    pub node_there : (e : Root R) (i : ℕ) → HasSidesBelow (length entries) e → i < length entries → tree_at trees i ≡ tree_of trees e → node i ≡ e
    node_there blank i below low is = shape_at bottom i low is
    node_there (given_up cause) i below low is = shape_at (top cause) i low is
    node_there (claim why rank) i below low is = shape_at (leaf why rank) i low is
    node_there (fork row this that) i below low is =
        let x = shape_at (branch row (tree_at trees this) (tree_at trees that)) i low is in
        let bx = below_at i row x.0 x.1 low x.2 in
        let left = same_place (tree_at trees this) x.0 this (omega (arith, bx.0)) below.0 x.3 refl in
        let right = same_place (tree_at trees that) x.1 that (omega (arith, bx.1)) below.1 x.4 refl in
        x.2 ∙ ap₂ (λ (a b : ℕ). let e : Root R = fork row a b in e) left right

-- the tree at a place is that of its node
pub standing : {R : Type 0} (entries : List (Root R)) → AreFounded 0 entries → (i : ℕ) → i < length entries
    → tree_at (trees_of entries) i ≡ tree_of (trees_of entries) (slice_index_or entries i blank)
standing entries founded i low =
    let same : 0 + i ≡ i = omega arith in
    subst (λ n. tree_at (trees_of entries) n ≡ tree_of (trees_of entries) (slice_index_or entries i blank)) same (stands [] entries i blank founded low)
