-- Families of trees for a program, and their numbers.
use Rattle.std.specs.Prelude.{◌≡◌, ℕ, suc, List, [], ◌∷◌, length, ⊤}
use Rattle.step_meaning.specs.Syntax.{Statements}
use Rattle.control_flow.specs.Labels.{all_labels}
use Rattle.decision_tree.specs.Extent.{ComplementsFit, IsTreeOver}
use Rattle.decision_tree.specs.declared.affine_rank.AffineRank.{AffineRank}
use Rattle.decision_tree.specs.declared.family.Family.{Family}
use Rattle.ctl_formula.specs.Formulas.{Ctl}
use Rattle.tree_support.specs.Setting.{Trees, trees_in}
use Rattle.exact_families.specs.Completeness.{IsComplete, NoneGivenUp}
use Rattle.formula_measures.specs.Measures.{IsWithinMeasures}
use Rattle.exact_families.specs.Narrowness.{IsNarrowAndComplete}
use Rattle.unroll.specs.Levels.{RowsAtMost}
use Rattle.normal_form.specs.Rows.{RowsAreOver}

-- the trees of a family by their labels
abbrev pub trees_of : Family AffineRank → Trees AffineRank
trees_of family = trees_in family.trees

-- the families have these numbers one after the other
abbrev pub AreNumberedFrom : ℕ → List (Family AffineRank) → Type 0
AreNumberedFrom k [] = ⊤
AreNumberedFrom k (family ∷ more) = (family.part ≡ k) × AreNumberedFrom (suc k) more

-- The family has a tree for each label of a program of `vars` variables with this body; its rows, ranks and picks speak of the variables
-- alone, and the complements of the rows fit 128 bits.
pub record IsFamilyFor (vars : ℕ) (body : Statements) (family : Family AffineRank) : Type 0 where
  pub labels : length family.trees ≡ length (all_labels body)
  pub over : (label : ℕ) → IsTreeOver vars (trees_of family label)
  pub complements : (label : ℕ) → ComplementsFit (trees_of family label)

-- no leaf of the family was given up
abbrev pub IsUncut : Family AffineRank → Type 0
IsUncut family = (label : ℕ) → NoneGivenUp (trees_of family label)

-- the formula is within the measures of the program, and its rows speak of no variable past those
abbrev pub IsWithin : ℕ → Statements → Ctl → Type 0
IsWithin vars body formula = IsWithinMeasures body formula × RowsAreOver vars formula

-- the family is as small and narrow as these tell, and defined wherever the formula holds
abbrev pub IsNarrowFor : ℕ → Statements → Ctl → Family AffineRank → Type 0
IsNarrowFor vars body formula family = IsNarrowAndComplete vars body formula (trees_of family)

-- no number in a row of the family's trees is above that in size
abbrev pub HasRowsWithin : ℕ → Family AffineRank → Type 0
HasRowsWithin most family = (label : ℕ) → RowsAtMost most (trees_of family label)

-- where none was, the family is defined wherever the formula holds
abbrev pub IsExact : Statements → Ctl → Family AffineRank → Type 0
IsExact body formula family = IsUncut family → IsComplete body formula (trees_of family)
