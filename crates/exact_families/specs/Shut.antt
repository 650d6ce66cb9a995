-- Shut systems: two of their rows clash, whatever alternative is taken, so no point meets them and no legal elimination goes by them.
use Rattle.std.specs.Prelude.{ℕ, List, All, Contains}
use Rattle.linear_cons.specs.declared.row.Row.{Row}
use Rattle.linear_cons.specs.declared.row.RowKind.{RowKind}
use Rattle.linear_cons.specs.declared.row.RowKind.TheVariants.{Never, Row as Kept}
use Rattle.linear_cons.specs.Rows.{AreOpposed}
use Rattle.decision_tree.specs.declared.affine_rank.AffineRank.{AffineRank}
use Rattle.tree_support.specs.Certificates.{affine_ranks}
use Rattle.constraint_stack.specs.Reasons.{IsWhole}
use Rattle.tree_support.specs.Setting.{Setting, Trees}
use Rattle.constraint_stack.specs.Claims.{choices, kinds_of, System}
use Rattle.tree_support.specs.Systems.{systems}

-- none of the constraints is impossible, and no two are opposed
pub record IsConsistent (kinds : List RowKind) : Type 0 where
  pub possible : Contains kinds Never → ⊥
  pub apart : (row other : Row) → Contains kinds (Kept row) → Contains kinds (Kept other) → AreOpposed row other → ⊥

-- no alternative of the system's claim is consistent with what it asks
abbrev pub IsShut : System AffineRank → Type 0
IsShut system = (choice : List RowKind) → Contains (choices affine_ranks system.claim) choice → IsConsistent (kinds_of affine_ranks system choice) → ⊥

-- each system of each leaf is shut, and each call that forms it stays within 128 bits
abbrev pub AllShut : Setting AffineRank → Trees AffineRank → Type 0
AllShut at family = (label place : ℕ) → All IsShut (systems at family label place)

abbrev pub AllWhole : Setting AffineRank → Trees AffineRank → Type 0
AllWhole at family = (label place : ℕ) → All (IsWhole affine_ranks) (systems at family label place)
