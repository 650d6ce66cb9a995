-- What a builder of trees answers that makes them in an arena, as one record.
use Rattle.std.specs.Prelude.{◌≡◌, ℕ, ◌<◌, ◌≤◌, List, Result, IfOk, OnErr, OnOk}
use Rattle.linear_cons.specs.Exact.{IsOutside}
use Rattle.linear_cons.specs.declared.exact.Wide.{Wide}
use Rattle.linear_cons.specs.declared.row.Row.{Row}
use Rattle.decision_tree.specs.Plans.{Plan, size_of}
use Rattle.tree_unify.specs.Builds.{Build}
use Rattle.tree_unify.specs.declared.fault.TreeFault.TheVariants.{Full as TooFull, Wide as TooWide}
use Rattle.tree_unify.specs.declared.walk.Stopped.{Stopped}
use Rattle.tree_unify.specs.declared.walk.Walk.{Walk}
use Rattle.tree_arena.specs.declared.node.TreeRef.{TreeRef}
use Rattle.tree_arena.specs.Trees.{Extends, IsAt}

-- The tree is what is to be made exactly where its numbers fit and its trees have room; the arena goes on, and the walk is where it was, or
-- it knows the fault.
pub record BuildsIn {R : Type 0} (build : Build R) (old new : List (Plan R)) (way : List Row) (walk : Walk) (result : Result TreeRef Stopped) : Type 0 where
  pub kept : Extends old new
  pub tree : IfOk result (λ made. IsAt new made build.plan)
  pub small : OnOk result (size_of build.plan ≤ 65536)
  pub room : OnOk result build.Room
  pub trail : OnOk result (walk.trail ≡ way)
  pub fits : OnOk result build.Fits
  pub full : OnErr result ((count : ℕ) → walk.fault ≡ TooFull count → (65536 < count) × (build.Room → size_of build.plan ≤ 65536 → ⊥))
  pub wide : OnErr result ((w : Wide) → walk.fault ≡ TooWide w → build.Fits → ⊥)
  pub operands : OnErr result ((w : Wide) → walk.fault ≡ TooWide w → IsOutside w)
