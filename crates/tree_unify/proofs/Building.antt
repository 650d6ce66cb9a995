-- What a builder answers, by what its parts answered.
use Rattle.std.proofs.Common.{◌≡◌, ◌↔◌, ℕ, ◌<◌, ◌≤◌, Bool, List, [], ◌∷◌, ◌++◌, IsTrue, Result, Ok, Err, IsErr, sym, ap, ◌∙◌, arith}
use Rattle.std.proofs.lemmas.Bool.{true≢false}
use Rattle.std.specs.Global.{Box}
use Rattle.linear_cons.specs.Exact.{IsOutside}
use Rattle.linear_cons.specs.declared.exact.Wide.{Wide}
use Rattle.linear_cons.specs.Functions.{NumbersFit, complement_of}
use Rattle.linear_cons.specs.Rows.{complement}
use Rattle.linear_cons.specs.declared.row.Row.{Row}
use Rattle.decision_tree.specs.Nodes.{node}
use Rattle.decision_tree.specs.Plans.{IsEnd, Plan, branch, plan_of, size_of}
use Rattle.decision_tree.specs.declared.rank.Rank.{Ghosts as Ranks}
use Rattle.decision_tree.specs.declared.tree.Tree.{Tree}
use Rattle.tree_unify.specs.Builds.{Build, Builds}
use Rattle.tree_unify.specs.Shapes.{JoinFits, beside, grafting, joined_at, replacing}
use Rattle.tree_unify.specs.declared.join.Join.{Join}
use Rattle.tree_unify.specs.declared.fault.TreeFault.TheVariants.{Full as TooFull, Wide as TooWide}
use Rattle.tree_unify.specs.declared.walk.Stopped.{Stopped}
use Rattle.tree_unify.specs.declared.walk.Walk.{Walk}
use Rattle.tree_unify.proofs.Meeting.{fits_at_leaf, leaf_beside, leaf_beside_fits}

module _ {R : Type 0} (whole : Build R) (start : Walk) where
  -- the walk stopped, and what is claimed of its fault stands
  pub stopped_by : {new : Walk} {stopped : Stopped}
      → ((count : ℕ) → new.fault ≡ TooFull count → (65536 < count) × (whole.Room → size_of whole.plan ≤ 65536 → ⊥))
      → ((w : Wide) → new.fault ≡ TooWide w → whole.Fits → ⊥) → ((w : Wide) → new.fault ≡ TooWide w → IsOutside w)
      → Builds whole start new (Err stopped)
  stopped_by full wide operands = record {
    tree = tt;
    size = tt;
    small = tt;
    room = tt;
    trail = tt;
    fits = tt;
    full = full;
    wide = wide;
    operands = operands;
  }

  -- it stopped in a part, which is no larger than the whole, and fits and has room where the whole does
  pub stopped_in : {part : Build R} {old new : Walk} {stopped : Stopped} → Builds part old new (Err stopped)
      → size_of part.plan ≤ size_of whole.plan → (whole.Fits → part.Fits) → (whole.Room → part.Room) → Builds whole start new (Err stopped)
  stopped_in part least falls clears =
      stopped_by (λ count is. let more = part.full count is in (more.0, λ room small. more.1 (clears room) (omega (arith, least, small))))
      (λ w is fits. part.wide w is (falls fits)) part.operands

  -- it stopped at a number, or for want of memory
  pub stopped_at : {new : Walk} {stopped : Stopped} → ((count : ℕ) → new.fault ≡ TooFull count → ⊥)
      → ((w : Wide) → new.fault ≡ TooWide w → whole.Fits → ⊥) → ((w : Wide) → new.fault ≡ TooWide w → IsOutside w)
      → Builds whole start new (Err stopped)
  stopped_at full wide operands = stopped_by (λ count is. absurd (full count is)) wide operands

  -- the same at the exit of a `?`, whose result is known only to be an error
  pub handed_on : {new : Walk} {stopped : Stopped} (result : Result (Box (Tree R)) Stopped) → IsErr result
      → Builds whole start new (Err stopped) → Builds whole start new result
  handed_on (Ok made) failed built = absurd (true≢false (sym failed))
  handed_on (Err again) failed built = stopped_by built.full built.wide built.operands

  -- another builder was left to make the same tree
  pub passed_on : {part : Build R} {old new : Walk} (result : Result (Box (Tree R)) Stopped) → Builds part old new result → old.trail ≡ start.trail
      → part.plan ≡ whole.plan → (part.Fits → whole.Fits) → (whole.Fits → part.Fits) → (part.Room → whole.Room) → (whole.Room → part.Room)
      → Builds whole start new result
  passed_on (Ok made) built back same rises falls fills clears = record {
    tree = built.tree ∙ same;
    size = built.size;
    small = built.small;
    room = fills built.room;
    trail = built.trail ∙ back;
    fits = rises built.fits;
    full = tt;
    wide = tt;
    operands = tt;
  }
  passed_on (Err stopped) built back same rises falls fills clears = stopped_in built (rw same (omega arith)) falls clears

-- a node whose yes side is a leaf: its no side was made, and after that the node with what stands in the leaf's place
pub leaf_grafted : {R : Type 0} (same : R → R → Bool) (alike : (rank other : R) → IsTrue (same rank other) ↔ (rank ≡ other)) (ranks : Ranks R) (join : Join)
    (second : Plan R) (path : List Row) (row : Row) (this that : Plan R) {first last from start new : Walk} {other : Box (Tree R)}
    (result : Result (Box (Tree R)) Stopped) → IsEnd this → NumbersFit (complement_of row.affine)
    → Builds (grafting same ranks join second (path ++ complement row ∷ []) that) first last (Ok other)
    → Builds (beside same row (replacing same ranks join second (path ++ row ∷ []) this) (plan_of other.value)) from new result → from.trail ≡ start.trail
    → Builds (grafting same ranks join second path (branch row this that)) start new result
leaf_grafted same alike ranks join second path row this that result ends turned there built back =
    passed_on _ _ result built back
    (ap (λ t. node same row (joined_at same ranks.where_greater ranks.greater_fits join second (path ++ row ∷ []) this) t) there.tree
    ∙ leaf_beside same alike path row this that ends (joined_at same ranks.where_greater ranks.greater_fits join second))
    (λ here. leaf_beside_fits same alike path row this that ends (JoinFits same ranks.where_greater ranks.greater_fits join second) here turned there.fits)
    (λ fits. fits_at_leaf same alike path row this that ends (JoinFits same ranks.where_greater ranks.greater_fits join second) fits)
    (λ room. room) (λ room. room)
