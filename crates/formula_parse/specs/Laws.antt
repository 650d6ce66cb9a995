-- Laws of formulas' texts.
use Rattle.std.specs.Prelude.{◌≡◌, ℕ, List, Option, None, Some, length, ⊤}
use Rattle.source_lex.specs.declared.fault.LexFault.TheVariants.{BadByte, BigNumber, OpenComment, Memory as LexMemory}
use Rattle.ctl_formula.specs.Formulas.{Ctl}
use Rattle.normal_form.specs.Rows.{ComplementsFit, RowsAreOver}
use Rattle.formula_parse.specs.declared.fault.FormulaFault.{FormulaFault}
use Rattle.formula_parse.specs.declared.fault.FormulaFault.TheVariants.{Lex, Expected, Unknown, NotAffine, Limit, Memory}
use Rattle.formula_parse.specs.declared.fault.FormulaLimit.{FormulaLimit}
use Rattle.formula_parse.specs.Derives.{IsFormulaOf}
use Rattle.formula_parse.specs.FaultOf.{IsFaultOf}

-- a text is at most one formula
abbrev pub TextsAreUnique : Type 0
TextsAreUnique = (text : List ℕ) (names : List (List ℕ)) (f g : Ctl) → IsFormulaOf text names f → IsFormulaOf text names g → f ≡ g

-- the complement of each row of a formula that a text is fits 128 bits
abbrev pub ComplementsOfTextsFit : Type 0
ComplementsOfTextsFit = (text : List ℕ) (names : List (List ℕ)) (f : Ctl) → IsFormulaOf text names f → ComplementsFit f

-- it says nothing of the text
abbrev pub IsMemory : FormulaFault → Type 0
IsMemory (Memory error) = ⊤
IsMemory _ = ⊥

-- a text that is a formula has no fault
abbrev pub FormulasHaveNoFault : Type 0
FormulasHaveNoFault =
    (text : List ℕ) (names : List (List ℕ)) (f : Ctl) (fault : FormulaFault) → IsFormulaOf text names f → IsFaultOf text names fault → IsMemory fault

-- its rows speak of no variable past the names
abbrev pub TextsNameTheirVariables : Type 0
TextsNameTheirVariables = (text : List ℕ) (names : List (List ℕ)) (f : Ctl) → IsFormulaOf text names f → RowsAreOver (length names) f

-- the number of a fault, as its line says it, and its offset; want of memory is no fault of a text
abbrev pub numbered : FormulaFault → Option (ℕ × ℕ)
numbered (Lex (BadByte at)) = Some (1, at)
numbered (Lex (BigNumber at)) = Some (2, at)
numbered (Lex (OpenComment at)) = Some (3, at)
numbered (Lex (LexMemory error)) = None
numbered (Expected at) = Some (4, at)
numbered (Unknown at) = Some (5, at)
numbered (NotAffine at) = Some (16, at)
numbered (Limit FormulaLimit.Bytes at count) = Some (14, at)
numbered (Limit FormulaLimit.Nesting at count) = Some (10, at)
numbered (Limit FormulaLimit.Operators at count) = Some (11, at)
numbered (Memory error) = None

-- a text has at most one first fault: one number at one offset
abbrev pub FaultsAgree : Type 0
FaultsAgree =
    (text : List ℕ) (names : List (List ℕ)) (fault other : FormulaFault) (found there : ℕ × ℕ) → IsFaultOf text names fault → IsFaultOf text names other
    → numbered fault ≡ Some found → numbered other ≡ Some there → found ≡ there
