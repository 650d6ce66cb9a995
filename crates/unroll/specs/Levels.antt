-- What the trees of a level tell of the runs from a label.
use Rattle.std.specs.Prelude.{◌≡◌, ℕ, ◌<◌, ◌≤◌, pos, ◌↔◌, List, length, ⊤}
use Rattle.linear_cons.specs.Functions.{constant_of}
use Rattle.linear_cons.specs.Sizes.{SizesAtMost}
use Rattle.decision_tree.specs.Evaluation.{eval}
use Rattle.decision_tree.specs.Extent.{ComplementsFit, IsTreeOver}
use Rattle.decision_tree.specs.Plans.{Plan, bottom, branch, leaf, size_of, top}
use Rattle.decision_tree.specs.declared.affine_rank.AffineRank.{AffineRank}
use Rattle.decision_tree.specs.declared.reason.Why.{Why}
use Rattle.step_meaning.specs.Outcome.{Store}
use Rattle.step_meaning.specs.Run.{EndsInTests, Longest}
use Rattle.step_meaning.specs.Syntax.{Statements}
use Rattle.step_meaning.specs.Valid.{IsBody}
use Rattle.control_flow.specs.Edges.{configuration}
use Rattle.control_flow.specs.Labels.{all_labels}
use Rattle.backward_transfer.specs.AffineShapes.{tree_at}
use Rattle.control_flow.specs.Growth.{growth_of}
use Rattle.control_flow.specs.Measures.{AreSizes}

-- the rank that is the number everywhere
abbrev pub counted : ℕ → AffineRank
counted n = record { value = constant_of (pos n) }

-- at the store stands a claim of the number of steps
abbrev pub Claims : Plan AffineRank → Store → ℕ → Type 0
Claims plan store n = (why : Why) × (eval plan store ≡ leaf why (counted n))

-- each rank in the tree is a number of steps
abbrev pub RanksCount : Plan AffineRank → Type 0
RanksCount (branch row this that) = RanksCount this × RanksCount that
RanksCount (leaf why rank) = (n : ℕ) × (rank ≡ counted n)
RanksCount end = ⊤

-- no number in a row of the tree is above that in size
abbrev pub RowsAtMost : ℕ → Plan AffineRank → Type 0
RowsAtMost most (branch row this that) = SizesAtMost most row.affine × RowsAtMost most this × RowsAtMost most that
RowsAtMost most (leaf why rank) = ⊤
RowsAtMost most bottom = ⊤
RowsAtMost most (top cause) = ⊤

-- The trees tell exactly from where all runs end with so many tests of a loop, and how long the longest one is. A number of steps is claimed
-- exactly where the longest run has so many and all runs end with at most so many tests; so it is where all runs end in any number of steps
-- with at most so many tests. Each rank is a number of steps, the complements of the rows fit 128 bits, no tree speaks of other variables than
-- the program, no number in a row is above the growth of the level, and no tree is larger than the size of its label.
pub record IsLevel (tests : ℕ) (body : Statements) (trees : List (Plan AffineRank)) : Type 0 where
  pub labels : length trees ≡ length (all_labels body)
  pub exact : (label : ℕ) → label < length (all_labels body) → (store : Store) → length store ≡ 16 → (n : ℕ)
      → Claims (tree_at trees label) store n ↔ (EndsInTests tests n (configuration body label store) × Longest n (configuration body label store))
  pub claimed : (label : ℕ) → label < length (all_labels body) → (store : Store) → length store ≡ 16 → (n : ℕ)
      → EndsInTests tests n (configuration body label store) → (k : ℕ) × (k ≤ n) × Claims (tree_at trees label) store k
  pub ranks : (label : ℕ) → label < length (all_labels body) → RanksCount (tree_at trees label)
  pub complements : (label : ℕ) → label < length (all_labels body) → ComplementsFit (tree_at trees label)
  pub variables : (label : ℕ) → label < length (all_labels body) → (vars : ℕ) → IsBody vars body → IsTreeOver vars (tree_at trees label)
  pub numbers : (label : ℕ) → label < length (all_labels body) → RowsAtMost (growth_of body tests) (tree_at trees label)
  pub small : (label : ℕ) → label < length (all_labels body) → (sizes : ℕ → ℕ → ℕ) → AreSizes body sizes → size_of (tree_at trees label) ≤ sizes tests label
