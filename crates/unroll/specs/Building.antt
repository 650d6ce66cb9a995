-- What is known while the trees of a level are made.
use Rattle.std.specs.Prelude.{◌≡◌, ℕ, zero, suc, ◌≤◌, max, ◌⊎◌, Bool, true, false, Option, None, Some, List, length}
use Rattle.decision_tree.specs.Evaluation.{eval}
use Rattle.decision_tree.specs.Plans.{Plan, is_defined, leaf, size_of}
use Rattle.decision_tree.specs.declared.affine_rank.AffineRank.{AffineRank}
use Rattle.decision_tree.specs.declared.reason.Why.{Why}
use Rattle.step_meaning.specs.Outcome.{Store}
use Rattle.step_meaning.specs.Run.{EndsInTests, Longest}
use Rattle.step_meaning.specs.Step.{Configuration}
use Rattle.step_meaning.specs.Syntax.{Statements}
use Rattle.control_flow.specs.Edges.{configuration}
use Rattle.step_meaning.specs.Valid.{IsBody}
use Rattle.decision_tree.specs.Extent.{IsTreeOver, ComplementsFit}
use Rattle.backward_transfer.specs.AffineShapes.{tree_at}
use Rattle.unroll.specs.Levels.{RanksCount, counted}
use Rattle.control_flow.specs.Measures.{AreSizes}
use Rattle.unroll.specs.Within.{TellsNumbers}

-- The numbers that stand are those of the longest run, where all runs end with at most so many tests of a loop.
pub record Tells (limit : ℕ) (c : Configuration) (Stands : ℕ → Type 0) : Type 0 where
  pub ends : (n : ℕ) → Stands n → EndsInTests limit n c
  pub longest : (n : ℕ) → Stands n → Longest n c
  pub found : (n : ℕ) → EndsInTests limit n c → (k : ℕ) × (k ≤ n) × Stands k

-- the end claims the number of steps
abbrev pub ClaimsAt : Plan AffineRank → ℕ → Type 0
ClaimsAt end n = (why : Why) × (end ≡ leaf why (counted n))

-- what it claims is a number of steps
abbrev pub CountsAt : Plan AffineRank → Type 0
CountsAt end = (why : Why) (rank : AffineRank) → end ≡ leaf why rank → (n : ℕ) × (rank ≡ counted n)

-- one end claims one step more than the other, or neither claims anything
pub record IsBefore (end made : Plan AffineRank) : Type 0 where
  pub claims : (n : ℕ) → ClaimsAt end n → ClaimsAt made (suc n)
  pub none : is_defined end ≡ false → is_defined made ≡ false

-- it claims one step more than the greater of two claims, and nothing where one of them claims nothing
pub record IsBeforeBoth (first second made : Plan AffineRank) : Type 0 where
  pub claims : (n m : ℕ) → ClaimsAt first n → ClaimsAt second m → ClaimsAt made (suc (max n m))
  pub none : (is_defined first ≡ false) ⊎ (is_defined second ≡ false) → is_defined made ≡ false

-- At each store the tree tells what all runs from the label do, its ranks are numbers of steps, its complements fit, it speaks of no other
-- variables than the program, its numbers are those of the label, and it is no larger than the label's size.
pub record TellsTree (limit : ℕ) (body : Statements) (label : ℕ) (plan : Plan AffineRank) : Type 0 where
  pub tells : (s : Store) → length s ≡ 16 → Tells limit (configuration body label s) (ClaimsAt (eval plan s))
  pub ranks : RanksCount plan
  pub complements : ComplementsFit plan
  pub variables : (vars : ℕ) → IsBody vars body → IsTreeOver vars plan
  pub numbers : TellsNumbers limit body label plan
  pub small : (sizes : ℕ → ℕ → ℕ) → AreSizes body sizes → size_of plan ≤ sizes limit label

-- the tree of the label tells
abbrev pub TellsAt : ℕ → Statements → List (Plan AffineRank) → ℕ → Type 0
TellsAt limit body trees label = TellsTree limit body label (tree_at trees label)

-- the tests that are left behind a step, where it may be taken: that of a loop's test takes one
abbrev pub left_by : Bool → ℕ → Option ℕ
left_by true zero = None
left_by true (suc limit) = Some limit
left_by false limit = Some limit
