-- The shapes of joined trees, as definitions on plans, and beside each where the complements and ranks that it forms fit.
use Rattle.std.specs.Prelude.{◌≡◌, Bool, true, false, List, [], ◌∷◌, ◌++◌, Option, None, Some, ⊤, if◌then◌else◌}
use Rattle.linear_cons.specs.Functions.{NumbersFit, complement_of}
use Rattle.linear_cons.specs.Rows.{complement}
use Rattle.linear_cons.specs.Settling.{settles}
use Rattle.linear_cons.specs.declared.row.Row.{Row}
use Rattle.decision_tree.specs.Nodes.{node}
use Rattle.decision_tree.specs.Plans.{Plan, branch, is_defined, leaf}
use Rattle.decision_tree.specs.Alternatives.{Alternatives}
use Rattle.decision_tree.specs.declared.rank.Rank.{Ghosts as Ranks}
use Rattle.tree_unify.specs.Builds.{Build, formed}
use Rattle.tree_unify.specs.Choosing.{ChosenFits, chosen}
use Rattle.tree_unify.specs.declared.join.Join.{Join}
use Rattle.tree_unify.specs.declared.join.Join.TheVariants.{Both, Either, Later}

-- what stands on the side that is settled, and what is made of both sides where none is
abbrev pub on_side : {A : Type 0} → Option Bool → A → A → A → A
on_side (Some true) this that neither = this
on_side (Some false) this that neither = that
on_side None this that neither = neither

abbrev pub OnSide : Option Bool → Type 0 → Type 0 → Type 0 → Type 0
OnSide (Some true) This That Neither = This
OnSide (Some false) This That Neither = That
OnSide None This That Neither = Neither

module _ {R : Type 0} (same : R → R → Bool) where
  -- A tree trimmed by a path, with f's tree in place of each leaf that is left: at a row that the path settles its side is taken; else each
  -- side has the row or its complement on its path.
  abbrev pub trimmed_with : (Plan R → Plan R) → List Row → Plan R → Plan R
  trimmed_with f path (branch row this that) =
      on_side (settles path row) (trimmed_with f path this) (trimmed_with f path that)
      (node same row (trimmed_with f (path ++ row ∷ []) this) (trimmed_with f (path ++ complement row ∷ []) that))
  trimmed_with f path end = f end

  -- the complements that it forms fit, and what is asked of the leaves that are left
  abbrev pub TrimWithFits : (Plan R → Type 0) → List Row → Plan R → Type 0
  TrimWithFits Fits path (branch row this that) =
      OnSide (settles path row) (TrimWithFits Fits path this) (TrimWithFits Fits path that)
      (TrimWithFits Fits (path ++ row ∷ []) this × NumbersFit (complement_of row.affine)
      × TrimWithFits Fits (path ++ complement row ∷ []) that)
  TrimWithFits Fits path end = Fits end

  -- the tree trimmed by a path
  abbrev pub trimmed : List Row → Plan R → Plan R
  trimmed path plan = trimmed_with (λ end. end) path plan

  abbrev pub TrimFits : List Row → Plan R → Type 0
  TrimFits path plan = TrimWithFits (λ end. ⊤) path plan

  -- a tree's shape, with a tree in place of each leaf that depends on the leaf and its path
  abbrev pub grafted : (List Row → Plan R → Plan R) → List Row → Plan R → Plan R
  grafted graft path (branch row this that) =
      node same row (grafted graft (path ++ row ∷ []) this) (grafted graft (path ++ complement row ∷ []) that)
  grafted graft path end = graft path end

  -- the complements on its paths fit, and what is asked of the leaves
  abbrev pub GraftFits : (List Row → Plan R → Type 0) → List Row → Plan R → Type 0
  GraftFits Fits path (branch row this that) =
      GraftFits Fits (path ++ row ∷ []) this × NumbersFit (complement_of row.affine) × GraftFits Fits (path ++ complement row ∷ []) that
  GraftFits Fits path end = Fits path end

-- the second tree is asked at a leaf of the first: for `Either` where the leaf is undefined, for `Both` and `Later` where it is defined
abbrev pub asks_second : {R : Type 0} → Join → Plan R → Bool
asks_second Either end = if is_defined end then false else true
asks_second Both end = is_defined end
asks_second Later end = is_defined end

module _ {R : Type 0} (same : R → R → Bool) (where_greater : R → R → Alternatives) (greater_fits : R → R → Type 0) where
  -- What stands where a leaf of a first tree meets one of a second: `Either` has the second where it is defined, `Both` has the
  -- second, `Later` the one of the greater rank, the first on a tie, and the second where that is undefined.
  abbrev pub leaf_met : Join → Plan R → Plan R → Plan R
  leaf_met Both first second = second
  leaf_met Either first (leaf why rank) = leaf why rank
  leaf_met Either first second = first
  leaf_met Later (leaf why rank) (leaf other second) =
      chosen same (where_greater second rank) (leaf other second) (leaf why rank)
  leaf_met Later first second = second

  -- the numbers fit of the rank difference, and of its row's complement
  abbrev pub MetFits : Join → Plan R → Plan R → Type 0
  MetFits Later (leaf why rank) (leaf other second) =
      greater_fits second rank × ChosenFits (where_greater second rank)
  MetFits Later first second = ⊤
  MetFits Either first second = ⊤
  MetFits Both first second = ⊤

  -- what stands in place of a leaf of the first tree: where the second tree is asked it, trimmed by the leaf's path; else the leaf
  abbrev pub joined_at : Join → Plan R → List Row → Plan R → Plan R
  joined_at join second path end = if asks_second join end then trimmed_with same (leaf_met join end) path second else end

  abbrev pub JoinFits : Join → Plan R → List Row → Plan R → Type 0
  JoinFits join second path end = asks_second join end ≡ true → TrimWithFits same (MetFits join end) path second

  -- the first tree joined with the second
  abbrev pub joined : Join → Plan R → Plan R → Plan R
  joined join first second = grafted same (joined_at join second) [] first

  abbrev pub JoinedFits : Join → Plan R → Plan R → Type 0
  JoinedFits join first second = GraftFits same (JoinFits join second) [] first

-- ---- what is made on the way

-- a node of the row, whose no side is made already
abbrev pub beside : {R : Type 0} → (R → R → Bool) → Row → Build R → Plan R → Build R
beside same row this that = record { plan = node same row this.plan that; Fits = this.Fits; Room = this.Room }

module _ {R : Type 0} (same : R → R → Bool) (ranks : Ranks R) (join : Join) where
  -- what stands where a leaf meets another one
  abbrev pub meeting : Plan R → Plan R → Build R
  meeting end other =
      formed (leaf_met same ranks.where_greater ranks.greater_fits join end other) (MetFits same ranks.where_greater ranks.greater_fits join end other)

  -- the second tree trimmed by a path, with what stands where the leaf meets its leaves
  abbrev pub laying : Plan R → List Row → Plan R → Build R
  laying end path second =
      formed (trimmed_with same (leaf_met same ranks.where_greater ranks.greater_fits join end) path second)
      (TrimWithFits same (MetFits same ranks.where_greater ranks.greater_fits join end) path second)

  -- what stands in place of a leaf of the first tree
  abbrev pub replacing : Plan R → List Row → Plan R → Build R
  replacing second path end =
      formed (joined_at same ranks.where_greater ranks.greater_fits join second path end)
      (JoinFits same ranks.where_greater ranks.greater_fits join second path end)

  -- the first tree with what stands in place of each of its leaves
  abbrev pub grafting : Plan R → List Row → Plan R → Build R
  grafting second path first =
      formed (grafted same (joined_at same ranks.where_greater ranks.greater_fits join second) path first)
      (GraftFits same (JoinFits same ranks.where_greater ranks.greater_fits join second) path first)

  -- the first tree joined with the second
  abbrev pub joining : Plan R → Plan R → Build R
  joining first second = grafting second [] first
