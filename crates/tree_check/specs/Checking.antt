-- What the check is asked and what it answers.
use Rattle.std.specs.Prelude.{List}
use Rattle.decision_tree.specs.declared.rank.Rank.{Ghosts as Ranks}
use Rattle.tree_support.specs.declared.dropped.Dropped.{Dropped}
use Rattle.tree_support.specs.Elimination.{Eliminates}
use Rattle.tree_support.specs.Setting.{Setting, Trees}
pub use Rattle.leaf_search.specs.Operands.{families_of}

module _ {R : Type 0} where
  -- some legal drops lead from the old family to the new
  abbrev pub WasCutShort : Ranks R → Setting R → Trees R → Trees R → Type 0
  WasCutShort ranks at old new = (drops : List Dropped) × Eliminates ranks at old drops new
