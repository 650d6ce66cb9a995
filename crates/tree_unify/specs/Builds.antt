-- What a builder of trees makes, as one value, and what it answers, as one record.
use Rattle.std.specs.Prelude.{◌≡◌, ℕ, ◌<◌, ◌≤◌, Result, IfOk, OnErr, OnOk, ⊤}
use Rattle.std.specs.Global.{Box}
use Rattle.linear_cons.specs.Exact.{IsOutside}
use Rattle.linear_cons.specs.declared.exact.Wide.{Wide}
use Rattle.decision_tree.specs.Plans.{Plan, plan_of, size_of}
use Rattle.decision_tree.specs.declared.tree.Tree.{Tree}
use Rattle.tree_unify.specs.declared.fault.TreeFault.TheVariants.{Full as TooFull, Wide as TooWide}
use Rattle.tree_unify.specs.declared.walk.Stopped.{Stopped}
use Rattle.tree_unify.specs.declared.walk.Walk.{Walk}

-- the tree that is made, when the numbers formed on the way fit, and when the trees formed on the way have room
pub record Build (R : Type 0) : Type 1 where
  pub plan : Plan R
  pub Fits : Type 0
  pub Room : Type 0

-- a tree for which no other is formed, and one for which no number is either
abbrev pub formed : {R : Type 0} → Plan R → Type 0 → Build R
formed plan Fits = record { plan = plan; Fits = Fits; Room = ⊤ }

abbrev pub given : {R : Type 0} → Plan R → Build R
given plan = formed plan ⊤

-- The tree is what is to be made exactly where its numbers fit and its trees have room; the walk is where it was and knows the size, or it
-- knows the fault.
pub record Builds {R : Type 0} (build : Build R) (old new : Walk) (result : Result (Box (Tree R)) Stopped) : Type 0 where
  pub tree : IfOk result (λ made. plan_of made.value ≡ build.plan)
  pub size : IfOk result (λ made. new.size ≡ size_of (plan_of made.value))
  pub small : OnOk result (new.size ≤ 65536)
  pub room : OnOk result build.Room
  pub trail : OnOk result (new.trail ≡ old.trail)
  pub fits : OnOk result build.Fits
  pub full : OnErr result ((count : ℕ) → new.fault ≡ TooFull count → (65536 < count) × (build.Room → size_of build.plan ≤ 65536 → ⊥))
  pub wide : OnErr result ((w : Wide) → new.fault ≡ TooWide w → build.Fits → ⊥)
  pub operands : OnErr result ((w : Wide) → new.fault ≡ TooWide w → IsOutside w)
