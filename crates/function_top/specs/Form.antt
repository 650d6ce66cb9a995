-- Which lines the command writes at all, whatever it read: none but those that the headline speaks of and a few fixed ones. So nothing that
-- a person would take for a claim escapes the headline.
use Rattle.std.specs.Prelude.{◌≡◌, ◌⊎◌, ℕ, List, [], ◌++◌, Option, Some, Contains, codes}
use Rattle.step_meaning.specs.Syntax.{Statements}
use Rattle.function_top.specs.ProgramText.{IsProgramText}
use Rattle.linear_cons.specs.declared.affine.Affine.{Affine}
use Rattle.line_text.specs.declared.claim.Claim.{Claim}
use Rattle.line_text.specs.Spells.{Spells}
use Rattle.report_text.specs.declared.report.Explain.{Explain}
use Rattle.report_text.specs.declared.report.Header.{Header}
use Rattle.report_text.specs.Printed.{Head, exact_part, explain_part, head_text}
use Rattle.report_text.specs.Sections.{IsWholeLine}
use Rattle.claim_line.specs.Tells.{Tells}
use Rattle.function_top.specs.Call.{Call}
use Rattle.function_top.specs.Demo.{summary_lines}
use Rattle.function_top.specs.Refusals.{usage_line, fault_line}

-- the line says something over the names
pub record IsClaim (names : List (List ℕ)) (line : List ℕ) : Type 0 where
  pub condition : List Affine
  pub claim : Claim
  pub spells : Spells names line condition claim

-- the line is a claim alone over the names
pub record IsClaimAlone (names : List (List ℕ)) (line : List ℕ) : Type 0 where
  pub claim : Claim
  pub tells : Tells names line claim

-- the line is the head of a section, a header of the exact part, a line of the explanation, one of the summary of a demo program, or a verdict
pub data IsFrame : List ℕ → Type 0 where
  section : (head : Head) → IsFrame (head_text head)
  fits_head : IsFrame (codes "fits:")
  exact_head : (header : Header) (line : List ℕ) → Contains (exact_part header []) line → IsFrame line
  explanation : (explain : Explain) (line : List ℕ) → Contains (explain_part (Some explain)) line → IsFrame line
  summary : (number bytes labels proved : ℕ) (line : List ℕ) → Contains (summary_lines number bytes labels proved) line → IsFrame line
  all_verdict : IsFrame (codes "verdict: all inputs")
  some_verdict : IsFrame (codes "verdict: some inputs")

-- the line is that of refused words, or of a fault
pub data IsRefusal : List ℕ → Type 0 where
  words : IsRefusal usage_line
  program : (number offset : ℕ) → IsRefusal (fault_line (codes "program") number offset)
  formula : (number offset : ℕ) → IsRefusal (fault_line (codes "formula") number offset)

-- the line says something over some names, under a condition or alone; where the source told the text of a program, over that program's names
pub record IsClaimOn (left : Option (List ℕ)) (line : List ℕ) : Type 0 where
  pub names : List (List ℕ)
  pub says : IsClaim names line ⊎ IsClaimAlone names line
  pub own : (text : List ℕ) (declared : List (List ℕ)) (body : Statements) → left ≡ Some text → IsProgramText text declared body → names ≡ declared

-- the line is one that the command may write
abbrev pub IsKnown : Option (List ℕ) → List ℕ → Type 0
IsKnown left line = IsClaimOn left line ⊎ IsFrame line ⊎ IsRefusal line

-- each whole line of the bytes is such
abbrev pub HasKnownLines : Option (List ℕ) → List ℕ → Type 0
HasKnownLines left bytes = (line : List ℕ) → IsWholeLine bytes line → IsKnown left line

-- so are the bytes that the sink took in the call
abbrev pub Form : Call → Type 0
Form call = (before written : List ℕ) → call.taken ≡ Some before → call.taken_after ≡ Some (before ++ written) → HasKnownLines call.left written
