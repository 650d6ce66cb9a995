-- The lines of a report on what fits 32 bits.
use Rattle.std.specs.Prelude.{◌≡◌, ◌⊎◌, ℕ, ℤ, pos, List, [], ◌∷◌, ◌++◌, codes}
use Rattle.linear_cons.specs.Functions.{constant_of}
use Rattle.linear_cons.specs.declared.row.Row.{Row}
use Rattle.linear_cons.specs.Rows.{MeetsAll}
use Rattle.decision_tree.specs.declared.affine_rank.AffineRank.{AffineRank}
use Rattle.decision_tree.specs.declared.reason.Why.TheVariants.{Atom}
use Rattle.decision_tree.specs.Evaluation.{eval}
use Rattle.decision_tree.specs.Extent.{IsTreeOver}
use Rattle.decision_tree.specs.Plans.{Plan, bottom, branch, is_defined, leaf, top}
use Rattle.int_fit.specs.Fitting.{AreInts}
use Rattle.report_text.specs.declared.line.Line.{Line}
use Rattle.report_text.specs.declared.line.Top.TheVariants.{Fits}
use Rattle.report_text.specs.Leaves.{AreLinesOf, claiming, claiming_nothing}
use Rattle.report_text.specs.Printed.{AreTextsOf, ended_lines, verdict_line}

-- Of lines those that are left out are met by no store whose first variables are numbers of 32 bits; the others are left, in their order.
pub data AreLeft (vars : ℕ) : List Line → List Line → Type 0 where
  none : AreLeft vars [] []
  stays : {line : Line} {lines left : List Line} → AreLeft vars lines left → AreLeft vars (line ∷ lines) (line ∷ left)
  goes : {line : Line} {lines left : List Line} → ((store : List ℤ) → AreInts vars store → ¬ MeetsAll store line.rows) → AreLeft vars lines left
      → AreLeft vars (line ∷ lines) left

-- the lines of the leaves: those that fit, and of those that claim nothing the ones that are left
pub record ListsFit (vars : ℕ) (tree : Plan AffineRank) (fits unknown : List Line) : Type 0 where
  pub lines : List Line
  pub lines_of : AreLinesOf Fits tree lines
  pub claimed : fits ≡ claiming lines
  pub left : AreLeft vars (claiming_nothing lines) unknown

-- the tree makes a claim where the other one does, and speaks of no more variables
pub record IsMadeOf (tree other : Plan AffineRank) : Type 0 where
  pub alike : (store : List ℤ) → is_defined (eval tree store) ≡ is_defined (eval other store)
  pub over : (vars : ℕ) → IsTreeOver vars other → IsTreeOver vars tree

-- these are the lines of a tree that is defined where the one is that was given
pub record AreFitLines (vars : ℕ) (tree : Plan AffineRank) (fits unknown : List Line) : Type 0 where
  pub made : Plan AffineRank
  pub made_of : IsMadeOf made tree
  pub lists : ListsFit vars made fits unknown

-- the lines of the text of such a report
abbrev pub fit_report_lines : (fits unknown : List (List ℕ)) → List (List ℕ)
fit_report_lines fits unknown = codes "fits:" ∷ (fits ++ (codes "unknown:" ∷ (unknown ++ verdict_line unknown ∷ [])))

-- the text is that of the report with these lines
pub record IsFitText (names : List (List ℕ)) (fits unknown : List Line) (text : List ℕ) : Type 0 where
  pub fits_texts : List (List ℕ)
  pub unknown_texts : List (List ℕ)
  pub fits_are : AreTextsOf names fits fits_texts
  pub unknown_are : AreTextsOf names unknown unknown_texts
  pub is : text ≡ ended_lines (fit_report_lines fits_texts unknown_texts)

-- What follows has no part in the headline.

-- the line was appended, or left out since no store meets its rows and the ranges
abbrev pub IsAddedIfMet : Line → List Row → List Line → List Line → Type 0
IsAddedIfMet line ranges old new =
    (new ≡ old ++ line ∷ []) ⊎ ((new ≡ old) × ((store : List ℤ) → MeetsAll store line.rows → ¬ MeetsAll store ranges))

-- the tree with one and the same claim in place of each, and without causes where nothing is claimed
abbrev pub plain : Plan AffineRank → Plan AffineRank
plain bottom = bottom
plain (top cause) = bottom
plain (leaf why rank) = leaf Atom (record { value = constant_of (pos 0) })
plain (branch row this that) = branch row (plain this) (plain that)
