-- Families that show a formula, or its smaller parts.
use Rattle.std.specs.Prelude.{◌≡◌, ℕ, ◌+◌, ◌-◌, suc, ◌<◌, List, [], ◌∷◌, ◌++◌, All, drop, length, take, ⊤}
use Rattle.step_meaning.specs.Syntax.{statements}
use Rattle.step_meaning.specs.declared.program.Program.{Program}
use Rattle.ctl_formula.specs.Formulas.{Ctl, af_exit, always, both, either, exit, falsity, least, negation, never, next, not_exit, truth, until, weak}
use Rattle.ctl_formula.specs.Parts.{number_from}
use Rattle.decision_tree.specs.Extent.{IsWhole}
use Rattle.decision_tree.specs.declared.affine_rank.AffineRank.{AffineRank}
use Rattle.decision_tree.specs.declared.family.Family.{Family}
use Rattle.tree_check.specs.Checking.{families_of}
use Rattle.tree_support.specs.Elimination.{Eliminates}
use Rattle.tree_support.specs.declared.dropped.Dropped.{Dropped}
use Rattle.decision_tree.specs.Plans.{Plan}
use Rattle.tree_support.specs.Certificates.{affine_ranks, IsShown, ItselfIsShown, SmallerAreShown, operands_from}
use Rattle.tree_support.specs.Setting.{Setting, Trees, trees_in}
use Rattle.control_flow.specs.Told.{Told}
use Rattle.formula_measures.specs.Measures.{ctl_growth}
use Rattle.part_families.specs.Families.{AreNumberedFrom, HasRowsWithin, IsFamilyFor, IsNarrowFor, IsUncut, IsWithin, trees_of}
use Rattle.part_families.specs.declared.smaller.Shown.{Shown}
use Rattle.part_families.specs.declared.smaller.SmallerParts.{SmallerParts}
use Rattle.normal_form.specs.Operators.{HasNoNegation}
use Rattle.exact_families.specs.Completeness.{EachPart, IsComplete, IsLoopless}
use Rattle.exact_families.specs.Narrowness.{IsNarrowAndComplete}

-- The family, which has the number k, shows the formula over those of its operands.
pub record Shows (program : Program) (told : Told) (f : Ctl) (k : ℕ) (operands : List (Family AffineRank)) (family : Family AffineRank) : Type 0
  where
    pub shown : IsShown (statements program.body) told f (families_of operands) (trees_of family)
    pub number : family.part ≡ k
    pub fits : IsFamilyFor (length program.names) (statements program.body) family

-- the families with the numbers from k on are these
abbrev pub AreAt : (ℕ → Trees AffineRank) → ℕ → List (Family AffineRank) → Type 0
AreAt families k [] = ⊤
AreAt families k (family ∷ more) = (families k ≡ trees_of family) × AreAt families (suc k) more

-- how many operands a formula has
abbrev pub arity : Ctl → ℕ
arity truth = 0
arity falsity = 0
arity exit = 0
arity not_exit = 0
arity always = 0
arity never = 0
arity (least a) = 0
arity (negation f) = 1
arity (both f g) = 2
arity (either f g) = 2
arity (next all f) = 1
arity (until all f g) = 2
arity (weak all f g) = 2

-- the last operand comes behind its own smaller parts, and before these the first operand does, behind its own
abbrev pub in_order : List (Family AffineRank) → List (Family AffineRank) → List (Family AffineRank) → List (Family AffineRank)
in_order of_first operands of_second =
    of_first ++ (take (length operands - 1) operands ++ (of_second ++ drop (length operands - 1) operands))

-- the families of all smaller parts, in the order of their numbers
abbrev pub all_of : SmallerParts → List (Family AffineRank)
all_of found = in_order found.of_first.items found.operands.items found.of_second.items

-- The families show the smaller parts of the formula, where the first of these has the number k, in a program with `count` labels. Where the
-- formula is `AF exit` the family of the truth, its first operand, is defined at each label. In a plain program without loops each operand's family
-- is defined wherever the operand holds, if no leaf of any was given up, and so it is where the formula is within the measures of the program; then no number in a row of
-- any family is above the formula's growth.
pub record AreSmaller (program : Program) (told : Told) (count k : ℕ) (f : Ctl) (found : SmallerParts) : Type 0 where
  pub shown : (families : ℕ → Trees AffineRank) → AreAt families k (all_of found) → SmallerAreShown (statements program.body) told families k f
  pub operands : (families : ℕ → Trees AffineRank) → AreAt families k (all_of found) → families_of found.operands.items ≡ operands_from families k f
  pub number : found.number ≡ number_from k f
  pub each_part : k + length (all_of found) ≡ number_from k f
  pub part_numbers : AreNumberedFrom k (all_of found)
  pub fit : All (IsFamilyFor (length program.names) (statements program.body)) (all_of found)
  pub as_many : length found.operands.items ≡ arity f
  pub keeps : f ≡ af_exit → (label : ℕ) → label < count → IsWhole (families_of found.operands.items 0 label)
  pub complete : IsLoopless (statements program.body) → HasNoNegation f → All IsUncut (all_of found)
      → EachPart (IsComplete (statements program.body)) f (families_of found.operands.items)
  pub narrow : IsLoopless (statements program.body) → HasNoNegation f → IsWithin (length program.names) (statements program.body) f
      → EachPart (IsNarrowAndComplete (length program.names) (statements program.body)) f (families_of found.operands.items)
  pub numbers : IsLoopless (statements program.body) → HasNoNegation f → IsWithin (length program.names) (statements program.body) f
      → All (HasRowsWithin (ctl_growth (statements program.body) f)) (all_of found)

-- The families show the formula and its smaller parts, where the first of these has the number k. That of the truth is defined at each label. In a plain
-- program without loops that of the formula is defined wherever it holds, if no leaf of any was given up, or it is within the measures; then no number in a row of any family is
-- above the formula's growth.
pub record AreShown (program : Program) (told : Told) (count k : ℕ) (f : Ctl) (found : Shown) : Type 0 where
  pub shown : (families : ℕ → Trees AffineRank) → AreAt families k (found.smaller.items ++ found.whole ∷ [])
      → SmallerAreShown (statements program.body) told families k f × ItselfIsShown (statements program.body) told families k f
  pub number : found.whole.part ≡ number_from k f
  pub each_part : k + length found.smaller.items ≡ number_from k f
  pub part_numbers : AreNumberedFrom k found.smaller.items
  pub fit : All (IsFamilyFor (length program.names) (statements program.body)) (found.smaller.items ++ found.whole ∷ [])
  pub everywhere : f ≡ truth → (label : ℕ) → label < count → IsWhole (trees_of found.whole label)
  pub complete : IsLoopless (statements program.body) → HasNoNegation f → All IsUncut (found.smaller.items ++ found.whole ∷ [])
      → IsComplete (statements program.body) f (trees_of found.whole)
  pub narrow : IsLoopless (statements program.body) → HasNoNegation f → IsWithin (length program.names) (statements program.body) f
      → IsNarrowFor (length program.names) (statements program.body) f found.whole
  pub numbers : IsLoopless (statements program.body) → HasNoNegation f → IsWithin (length program.names) (statements program.body) f
      → All (HasRowsWithin (ctl_growth (statements program.body) f)) (found.smaller.items ++ found.whole ∷ [])

-- as many operands as the formula has, each with a tree for each of so many labels
abbrev pub AreOperandsOf : Ctl → ℕ → List (Family AffineRank) → Type 0
AreOperandsOf f count operands = (length operands ≡ arity f) × All (λ family. length family.trees ≡ count) operands

-- no legal elimination gives a leaf of the trees up
abbrev pub IsKeptWhole : Setting AffineRank → List (Plan AffineRank) → Type 0
IsKeptWhole at trees = (drops : List Dropped) (new : Trees AffineRank) → Eliminates affine_ranks at (trees_in trees) drops new → drops ≡ []
