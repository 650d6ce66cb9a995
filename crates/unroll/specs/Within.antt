-- How large the numbers in the trees of a level are, while the trees are made.
use Rattle.std.specs.Prelude.{◌≡◌, ℕ, zero, suc, ◌+◌, ◌-◌, ◌*◌, ◌^◌, ◌≤◌, Bool, true, false, length, ⊤}
use Rattle.linear_cons.specs.declared.row.Row.{Row}
use Rattle.linear_cons.specs.Sizes.{SizesAtMost}
use Rattle.decision_tree.specs.Plans.{Plan, bottom, branch, leaf, top}
use Rattle.decision_tree.specs.declared.affine_rank.AffineRank.{AffineRank}
use Rattle.decision_tree.specs.declared.reason.Why.{Why}
use Rattle.step_meaning.specs.Syntax.{Statements}
use Rattle.control_flow.specs.Edges.{is_head_by}
use Rattle.control_flow.specs.Labels.{action_at, all_labels}
use Rattle.control_flow.specs.Growth.{factor_at, growth_of, product_below}
use Rattle.unroll.specs.Levels.{counted}

-- each row of the tree is such, and each reason with its rank
abbrev pub EachIs : (Row → Type 0) → (Why → AffineRank → Type 0) → Plan AffineRank → Type 0
EachIs IsRow IsClaim (branch row this that) = IsRow row × EachIs IsRow IsClaim this × EachIs IsRow IsClaim that
EachIs IsRow IsClaim (leaf why rank) = IsClaim why rank
EachIs IsRow IsClaim bottom = ⊤
EachIs IsRow IsClaim (top cause) = ⊤

-- no number of the row is above a size that, times k, is at most `most`
pub record IsWithin (k most : ℕ) (row : Row) : Type 0 where
  pub size : ℕ
  pub sizes : SizesAtMost size row.affine
  pub small : size * k ≤ most

-- the rank is a number of steps, at most so many
pub record IsSteps (most : ℕ) (rank : AffineRank) : Type 0 where
  pub steps : ℕ
  pub few : steps ≤ most
  pub is : rank ≡ counted steps

-- so are all rows and ranks of a tree
abbrev pub AreWithin : ℕ → ℕ → ℕ → Plan AffineRank → Type 0
AreWithin k most steps plan = EachIs (IsWithin k most) (λ why. IsSteps steps) plan

-- numbers of trees within such bounds fit 128 bits, and those of the tree before a step
pub record IsNarrow (k most steps : ℕ) : Type 0 where
  pub some : 1 ≤ k
  pub small : most ≤ 2 ^ 100
  pub few : steps ≤ 2 ^ 100

-- the label, and the number of labels for one whose tree is made first: for label 0, and for that of a loop's test
abbrev pub place_by : Bool → ℕ → ℕ → ℕ
place_by true count label = count
place_by false count zero = count
place_by false count (suc label) = suc label

abbrev pub place_of : Statements → ℕ → ℕ
place_of body label = place_by (is_head_by (action_at body label)) (length (all_labels body)) label

-- the most steps of a claim at the label
abbrev pub steps_of : Statements → ℕ → ℕ → ℕ
steps_of body level label = (level + 1) * (length (all_labels body) + 1) - place_of body label

-- The rows of the label's tree have yet to be moved over the assignments at the labels before it: times the factors of these, their
-- numbers are at most the growth of the level. No rank is above the steps of the label.
pub record TellsNumbers (level : ℕ) (body : Statements) (label : ℕ) (plan : Plan AffineRank) : Type 0 where
  pub within : AreWithin (product_below (factor_at body) (place_of body label)) (growth_of body level) (steps_of body level label) plan
