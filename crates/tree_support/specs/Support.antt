-- When the leaves of a family are supported: no store meets any of their systems.
use Rattle.std.specs.Prelude.{ℕ, ◌<◌, All}
use Rattle.decision_tree.specs.declared.rank.Rank.{Ghosts as Ranks}
use Rattle.decision_tree.specs.Plans.{leaves_of}
use Rattle.tree_support.specs.Setting.{Setting, Trees}
use Rattle.constraint_stack.specs.Claims.{HasNoPoint, HasNoStore}
use Rattle.tree_support.specs.Systems.{systems}

module _ {R : Type 0} (ranks : Ranks R) where
  -- each leaf of the family is supported against the family itself
  abbrev pub IsSupported : Setting R → Trees R → Type 0
  IsSupported at family =
      (label place : ℕ) → place < leaves_of (family label) → All (HasNoStore ranks) (systems at family label place)

  -- each is so firmly
  abbrev pub IsFirm : Setting R → Trees R → Type 0
  IsFirm at family = (label place : ℕ) → place < leaves_of (family label) → All (HasNoPoint ranks) (systems at family label place)
