-- What is known of the texts of programs, of formulas and of lines.
use Rattle.std.specs.Prelude.{◌≡◌, ◌≢◌, ℕ, List, All}
use Rattle.normal_form.specs.Laws.{NormalFormsKeepVariables}
use Rattle.formula_parse.specs.Laws.{TextsAreUnique as FormulasAreUnique, TextsNameTheirVariables}
use Rattle.linear_cons.specs.declared.affine.Affine.{Affine}
use Rattle.line_text.specs.declared.claim.Claim.{Claim}
use Rattle.line_text.specs.Names.{AreNames}
use Rattle.line_text.specs.Spells.{OpensAsLine, Spells}
use Rattle.claim_line.specs.Tells.{Tells}
use Rattle.function_top.specs.ProgramText.{OwnNamesAreFewer, OwnNamesAreNames, OwnNamesAreUnique, ProgramsAreNamed, TextsAreUnique}

-- the line lacks the byte
abbrev pub LacksByte : ℕ → List ℕ → Type 0
LacksByte own line = All (λ byte. byte ≢ own) line

-- of the lines that say something over the names: none has the newline byte, code 10, and each says one condition and claim
pub record KnownLines (names : List (List ℕ)) : Type 0 where
  pub newline : (line : List ℕ) (condition : List Affine) (claim : Claim) → Spells names line condition claim → LacksByte 10 line
  pub one : (line : List ℕ) (condition other : List Affine) (claim claim' : Claim) → Spells names line condition claim
      → Spells names line other claim' → (condition ≡ other) × (claim ≡ claim')

-- of those that are a claim alone besides: none says it under a condition, and none has a colon, code 58
pub record KnownClaims (names : List (List ℕ)) : Type 0 where
  pub newline : (line : List ℕ) (claim : Claim) → Tells names line claim → LacksByte 10 line
  pub one : (line : List ℕ) (claim other : Claim) → Tells names line claim → Tells names line other → claim ≡ other
  pub apart : (line : List ℕ) (condition : List Affine) (claim other : Claim) → Tells names line claim → ¬ Spells names line condition other
  pub colon : (line : List ℕ) (claim : Claim) → Tells names line claim → LacksByte 58 line

-- a line that says anything opens as one
abbrev pub OpenAsLines : Type 0
OpenAsLines = (names : List (List ℕ)) (line : List ℕ) (condition : List Affine) (claim : Claim) → Spells names line condition claim → OpensAsLine line

pub record KnownTexts : Type 0 where
  pub unique : TextsAreUnique
  pub formulas : FormulasAreUnique
  pub named : ProgramsAreNamed
  pub own_unique : OwnNamesAreUnique
  pub own_named : OwnNamesAreNames
  pub own_fewer : OwnNamesAreFewer
  pub variables : TextsNameTheirVariables
  pub normal_variables : NormalFormsKeepVariables
  pub opening : OpenAsLines
  pub lines : (names : List (List ℕ)) → AreNames names → KnownLines names
  pub alone : (names : List (List ℕ)) → AreNames names → KnownClaims names
