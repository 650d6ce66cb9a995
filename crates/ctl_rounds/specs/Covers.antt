-- The cover of families: the first claim of theirs for each input.
use Rattle.std.specs.Prelude.{◌≡◌, ◌⊎◌, ◌≤◌, List, [], ◌∷◌, Option, None, Some, map}
use Rattle.step_meaning.specs.Syntax.{Statements}
use Rattle.control_flow.specs.Labels.{entry_of}
use Rattle.decision_tree.specs.Extent.{ComplementsFit, IsWhole}
use Rattle.decision_tree.specs.declared.affine_rank.AffineRank.{AffineRank}
use Rattle.decision_tree.specs.declared.family.Family.{Family}
use Rattle.decision_tree.specs.Plans.{Plan, bottom, size_of}
use Rattle.tree_unify.specs.Shapes.{JoinedFits, joined}
use Rattle.tree_unify.specs.declared.join.Join.TheVariants.{Either}
use Rattle.backward_transfer.specs.AffineShapes.{affine_ranks, same_rank}
use Rattle.tree_support.specs.Setting.{trees_in}
use Rattle.part_families.specs.Families.{IsUncut}

-- the claims of the first tree, and those of the second where it has none; and where the complements that this forms fit
abbrev pub either_of : Plan AffineRank → Plan AffineRank → Plan AffineRank
either_of first second = joined same_rank affine_ranks.where_greater affine_ranks.greater_fits Either first second

abbrev pub EitherFits : Plan AffineRank → Plan AffineRank → Type 0
EitherFits first second = JoinedFits same_rank affine_ranks.where_greater affine_ranks.greater_fits Either first second

-- A cover begins with the first tree of at most 4,096 nodes whose complements fit, and a later one is joined to it where the complements that
-- this forms fit and at most 4,096 nodes come of it. Any other tree is left out.
abbrev pub MayBegin : Plan AffineRank → Type 0
MayBegin tree = (size_of tree ≤ 4096) × ComplementsFit tree

abbrev pub MayJoin : Plan AffineRank → Plan AffineRank → Type 0
MayJoin cover tree = EitherFits cover tree × (size_of (either_of cover tree) ≤ 4096)

-- the cover so far, if one was begun, with one more tree
abbrev pub Extends : Option (Plan AffineRank) → Plan AffineRank → Option (Plan AffineRank) → Type 0
Extends None tree next = (MayBegin tree × (next ≡ Some tree)) ⊎ ((MayBegin tree → ⊥) × (next ≡ None))
Extends (Some cover) tree next = (MayJoin cover tree × (next ≡ Some (either_of cover tree))) ⊎ ((MayJoin cover tree → ⊥) × (next ≡ Some cover))

-- with each of the trees, in their order
abbrev pub Covers : Option (Plan AffineRank) → List (Plan AffineRank) → Option (Plan AffineRank) → Type 0
Covers begun [] cover = cover ≡ begun
Covers begun (tree ∷ more) cover = (next : Option (Plan AffineRank)) × Extends begun tree next × Covers next more cover

-- what a cover claims: nothing, where none was begun
abbrev pub claims_of : Option (Plan AffineRank) → Plan AffineRank
claims_of None = bottom
claims_of (Some cover) = cover

-- what the families say at the entry
abbrev pub at_entry : Statements → List (Family AffineRank) → List (Plan AffineRank)
at_entry body tops = map (λ family. trees_in family.trees (entry_of body)) tops

-- the tree is the cover of the families
abbrev pub IsCover : Statements → List (Family AffineRank) → Plan AffineRank → Type 0
IsCover body tops tree = (cover : Option (Plan AffineRank)) × Covers None (at_entry body tops) cover × (tree ≡ claims_of cover)

-- a leaf of the families' cover is undefined
abbrev pub LeavesOpen : Statements → List (Family AffineRank) → Type 0
LeavesOpen body tops = (cover : Plan AffineRank) × IsCover body tops cover × (IsWhole cover → ⊥)

-- no leaf of the family was given up, and its tree at the entry has at most 4,096 nodes
abbrev pub IsFitToBegin : Statements → Family AffineRank → Type 0
IsFitToBegin body family = IsUncut family × (size_of (trees_in family.trees (entry_of body)) ≤ 4096)
