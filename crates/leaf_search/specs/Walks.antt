-- The walk over the leaves of another tree, behind what is asked before.
use Rattle.std.specs.Prelude.{◌≡◌, ◌⊎◌, ℕ, ℤ, pos, Bool, true, false, not, List, All, Contains, if◌then◌else◌, Option, None, Some, ⊤}
use Rattle.linear_cons.specs.declared.affine.Affine.{Affine}
use Rattle.linear_cons.specs.declared.row.Row.{Row}
use Rattle.linear_cons.specs.declared.row.RowKind.{RowKind}
use Rattle.linear_cons.specs.declared.row.RowKind.TheVariants.{Always, Never, Row as Kept}
use Rattle.linear_cons.specs.Functions.{coefficient, complement_of}
use Rattle.linear_cons.specs.Rows.{MeetsAll, MeetsKind, row_kind_of}
use Rattle.linear_cons.specs.Tightest.{IsCovered}
use Rattle.decision_tree.specs.Plans.{Plan, bottom, branch, leaf, top}
use Rattle.constraint_stack.specs.Claims.{System}
use Rattle.constraint_stack.specs.Forming.{Formed, exact}
use Rattle.constraint_stack.specs.Stacks.{all_asked, kinds}
use Rattle.tree_support.specs.Systems.{at_leaves, if_undefined, moved_by, unless_less}

-- what is asked on a side of a row: the row's function, or its complement
abbrev pub side_of : Affine → Bool → Affine
side_of a holds = if holds then a else complement_of a

-- what is set leaves the function as it is
abbrev pub IsKept : Option (ℕ × Affine) → Affine → Type 0
IsKept None a = ⊤
IsKept (Some (place, by)) a = coefficient a place ≡ pos 0

-- no store that meets the rows meets what is asked
abbrev pub Excludes : List Row → Formed → Type 0
Excludes rows a = (store : List ℤ) → MeetsAll store rows → MeetsKind store (row_kind_of (exact a)) → ⊥

-- the rows imply it by one row's linear part, unless it always holds
abbrev pub IsImplied : List Row → RowKind → Type 0
IsImplied rows Always = ⊤
IsImplied rows Never = ⊥
IsImplied rows (Kept row) = IsCovered rows row.affine

-- the rows imply the function's row on the side, moved back, and exclude the other side
pub record IsSettled (rows : List Row) (sets : Option (ℕ × Affine)) (a : Affine) (holds : Bool) : Type 0 where
  pub implied : IsImplied rows (row_kind_of (exact (moved_by sets (side_of a holds))))
  pub excluded : Excludes rows (moved_by sets (side_of a (not holds)))

-- it is so of whatever functions the rows are among the rows of
abbrev pub WhereAmong : List Row → (List Formed → Type 0) → Type 0
WhereAmong rows Is = (asks : List Formed) → All (λ row. Contains (kinds (all_asked asks)) (Kept row)) rows → Is asks

module _ {R : Type 0} where
  -- what refutes at a leaf: that it is undefined, or, where there is a limit, that its rank isn't less
  abbrev pub ending : ℕ → Option (ℕ × Affine) → Option R → Plan R → List Formed → List (System R)
  ending edge sets None = if_undefined edge
  ending edge sets (Some limit) = unless_less edge sets limit

  -- the systems of the tree's leaves, whose rows are moved back over what is set
  abbrev pub systems_behind : ℕ → Option (ℕ × Affine) → Option R → Plan R → List Formed → List (System R)
  systems_behind edge sets limit plan asks = at_leaves (moved_by sets) (ending edge sets limit) plan asks

  -- the rows lead to the part of a tree: they settle each row on its path, moved back
  abbrev pub LeadsTo : List Row → Option (ℕ × Affine) → Plan R → Plan R → Type 0
  LeadsTo rows sets (branch row this that) part =
      (part ≡ branch row this that)
      ⊎ ((IsSettled rows sets row.affine true × LeadsTo rows sets this part) ⊎ (IsSettled rows sets row.affine false × LeadsTo rows sets that part))
  LeadsTo rows sets bottom part = part ≡ bottom
  LeadsTo rows sets (top cause) part = part ≡ top cause
  LeadsTo rows sets (leaf why rank) part = part ≡ leaf why rank
