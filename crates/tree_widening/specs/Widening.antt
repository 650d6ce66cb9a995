-- What stands in place of each leaf of a tree that is widened by a newer one.
use Rattle.std.specs.Prelude.{◌≡◌, ◌⊎◌, ℤ, Bool, true, false, List, [], ◌∷◌, ◌++◌, ⊤}
use Rattle.linear_cons.specs.Functions.{NumbersFit, complement_of}
use Rattle.linear_cons.specs.Rows.{MeetsAll, complement}
use Rattle.linear_cons.specs.declared.row.Row.{Row}
use Rattle.decision_tree.specs.Nodes.{node}
use Rattle.decision_tree.specs.Plans.{Plan, bottom, branch, leaf, top}
use Rattle.decision_tree.specs.declared.rank.Rank.{Ghosts as Ranks}
use Rattle.decision_tree.specs.declared.reason.Cause.TheVariants.{Given}
use Rattle.decision_tree.specs.declared.reason.Why.{Why}
use Rattle.tree_unify.specs.Shapes.{TrimWithFits}
use Rattle.tree_widening.specs.Leaves.{AtEach, AtOne, first_claim, first_left}
use Rattle.tree_widening.specs.Meeting.{MayBeMetWithOne}

-- ---- a leaf that makes a claim

module _ {R : Type 0} (ranks : Ranks R) where
  -- The newer tree's leaf tells against a claim of the rank: it makes none, or there may be a point on its way where its own rank exceeds.
  abbrev pub IsAgainst : R → List Row → Plan R → Type 0
  IsAgainst rank path (leaf why next) = MayBeMetWithOne path (ranks.where_greater next rank)
  IsAgainst rank path end = ⊤

  -- The newer tree's leaf bears a claim of the rank out: it makes one, whose rank exceeds at no store on its way.
  abbrev pub BearsOut : R → List Row → Plan R → Type 0
  BearsOut rank path (leaf why next) =
      (store : List ℤ) → MeetsAll store path → ranks.exceeds (ranks.rank_value next store) (ranks.rank_value rank store) → ⊥
  BearsOut rank path end = ⊥

  -- The claim stays, since each leaf of the newer tree on the path bears it out; or it is given up, since one of them tells against it.
  abbrev pub IsHeld : Why → R → List Row → Plan R → Plan R → Type 0
  IsHeld why rank path new made =
      ((made ≡ leaf why rank) × AtEach (BearsOut rank) path new) ⊎ ((made ≡ top Given) × AtOne (IsAgainst rank) path new)

-- ---- a leaf that makes no claim

module _ {R : Type 0} (raised : Row → R → R → R) where
  -- the rank as it is raised from the claim of the leaf beside it, which may make none
  abbrev pub raised_beside : Row → Plan R → R → R
  raised_beside row (leaf why below) rank = raised row below rank
  raised_beside row end rank = rank

  -- the newer claim, extrapolated along the row from the claim on the row's other side; without a newer claim none
  abbrev pub extrapolated : Row → Plan R → Plan R → Plan R
  extrapolated row beside (leaf why rank) = leaf why (raised_beside row beside rank)
  extrapolated row beside end = bottom

  -- What stands in place of a `bottom` on the side of the node that is above it: the newer tree's first claim on the path, extrapolated
  -- along the node's row, which is its complement on the no side. A tree that is a single leaf has no node above.
  abbrev pub grown : Plan R → Bool → List Row → Plan R → Plan R
  grown (branch row this that) true path new = extrapolated row (first_claim that) (first_left path new)
  grown (branch row this that) false path new = extrapolated (complement row) (first_claim this) (first_left path new)
  grown end holds path new = bottom

-- ---- the tree

module _ {R : Type 0} (same : R → R → Bool) (ranks : Ranks R) (raised : Row → R → R → R) where
  -- `made` is a tree widened by the newer one. It stands behind the path's rows, on a side of the node that is above it, or is the whole
  -- tree, which counts as above itself. Nodes stay, but for those whose sides become equal, and so does a leaf that was given up.
  abbrev pub IsWidened : Plan R → Plan R → Bool → List Row → Plan R → Plan R → Type 0
  IsWidened new above holds path (branch row this that) made =
      (yes_side : Plan R) × ((no_side : Plan R)
      × (IsWidened new (branch row this that) true (path ++ row ∷ []) this yes_side
      × IsWidened new (branch row this that) false (path ++ complement row ∷ []) that no_side
      × (made ≡ node same row yes_side no_side)))
  IsWidened new above holds path (leaf why rank) made = IsHeld ranks why rank path new made
  IsWidened new above holds path (top cause) made = made ≡ top cause
  IsWidened new above holds path bottom made = made ≡ grown raised above holds path new

  -- the one tree is the other, widened by the newer one
  abbrev pub IsWideningOf : Plan R → Plan R → Plan R → Type 0
  IsWideningOf old new made = IsWidened new old true [] old made

-- ---- where no number that may be formed is outside 128 bits

module _ {R : Type 0} (greater_fits : R → R → Type 0) where
  abbrev pub ExceedFits : R → Plan R → Type 0
  ExceedFits rank (leaf why next) = greater_fits next rank
  ExceedFits rank end = ⊤

module _ {R : Type 0} (raised_fits : Row → R → R → Type 0) where
  abbrev pub BesideFits : Row → Plan R → R → Type 0
  BesideFits row (leaf why below) rank = raised_fits row below rank
  BesideFits row end rank = ⊤

  abbrev pub ExtrapolatedFits : Row → Plan R → Plan R → Type 0
  ExtrapolatedFits row beside (leaf why rank) = BesideFits row beside rank
  ExtrapolatedFits row beside end = ⊤

module _ {R : Type 0} (same : R → R → Bool) where
  abbrev pub LeftFits : List Row → Plan R → Type 0
  LeftFits path new = TrimWithFits same (λ end. ⊤) path new

  abbrev pub GrownFits : (Row → R → R → Type 0) → Plan R → Bool → List Row → Plan R → Type 0
  GrownFits raised_fits (branch row this that) true path new =
      LeftFits path new × ExtrapolatedFits raised_fits row (first_claim that) (first_left path new)
  GrownFits raised_fits (branch row this that) false path new =
      LeftFits path new × NumbersFit (complement_of row.affine)
      × ExtrapolatedFits raised_fits (complement row) (first_claim this) (first_left path new)
  GrownFits raised_fits end holds path new = ⊤

module _ {R : Type 0} (same : R → R → Bool) (greater_fits : R → R → Type 0) (raised_fits : Row → R → R → Type 0) where
  abbrev pub WidenedFits : Plan R → Plan R → Bool → List Row → Plan R → Type 0
  WidenedFits new above holds path (branch row this that) =
      WidenedFits new (branch row this that) true (path ++ row ∷ []) this × NumbersFit (complement_of row.affine)
      × WidenedFits new (branch row this that) false (path ++ complement row ∷ []) that
  WidenedFits new above holds path (leaf why rank) = TrimWithFits same (ExceedFits greater_fits rank) path new
  WidenedFits new above holds path (top cause) = ⊤
  WidenedFits new above holds path bottom = GrownFits same raised_fits above holds path new

  abbrev pub WideningFits : Plan R → Plan R → Type 0
  WideningFits old new = WidenedFits new old true [] old
