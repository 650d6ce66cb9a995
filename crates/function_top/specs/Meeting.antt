-- Which lines of a text an input meets.
use Rattle.std.specs.Prelude.{◌≡◌, ◌⊎◌, ◌↔◌, ℕ, pos, List, ◌∷◌, ◌++◌, length, All, Contains, IsPermutation, Option}
use Rattle.step_meaning.specs.Outcome.{Store}
use Rattle.step_meaning.specs.Run.{IsInput, start}
use Rattle.ctl_formula.specs.Satisfaction.{Sat}
use Rattle.linear_cons.specs.declared.affine.Affine.{Affine}
use Rattle.line_text.specs.declared.claim.Claim.{Claim}
use Rattle.line_text.specs.declared.claim.Claim.TheVariants.{Exactly}
use Rattle.line_text.specs.Spells.{MeetsCondition, Spells}
use Rattle.claim_line.specs.Tells.{Tells}
use Rattle.report_text.specs.declared.report.Stop.{Stop}
use Rattle.report_text.specs.Printed.{proved_head, ranked_head, unknown_head}
use Rattle.report_text.specs.Sections.{IsWholeLine, exact_head, exact_line, header_lines, lines_in, section_line}
use Rattle.function_top.specs.Exact.{EndsExactly}
use Rattle.function_top.specs.Shown.{header_of}
use Rattle.function_top.specs.Subject.{Subject}

-- the line says something over the names under a condition that the input meets
pub record IsMet (names : List (List ℕ)) (input : Store) (line : List ℕ) : Type 0 where
  pub condition : List Affine
  pub claim : Claim
  pub spells : Spells names line condition claim
  pub meets : MeetsCondition input condition

-- none of the lines is met
abbrev pub AreUnmet : List (List ℕ) → Store → List (List ℕ) → Type 0
AreUnmet names input lines = All (λ line. ¬ IsMet names input line) lines

-- exactly one of the lines is met: in some order they are that one and others that aren't
pub record MeetsOne (names : List (List ℕ)) (input : Store) (lines : List (List ℕ)) : Type 0 where
  pub line : List ℕ
  pub others : List (List ℕ)
  pub are : IsPermutation lines (line ∷ others)
  pub met : IsMet names input line
  pub unmet : AreUnmet names input others

-- of the text of a report each input meets exactly one line of the sections below the exact part together, and at most one of that part
pub record AreMetOnce (names : List (List ℕ)) (text : List ℕ) : Type 0 where
  pub together : (input : Store) → MeetsOne names input (lines_in (section_line proved_head) text
      ++ (lines_in (section_line ranked_head) text ++ lines_in (section_line unknown_head) text))
  pub exact : (input : Store) → AreUnmet names input (lines_in exact_line text) ⊎ MeetsOne names input (lines_in exact_line text)

-- one of the lines says the claim over the names under a condition that the input meets
pub record MeetsClaim (names : List (List ℕ)) (input : Store) (claim : Claim) (lines : List (List ℕ)) : Type 0 where
  pub line : List ℕ
  pub among : Contains lines line
  pub condition : List Affine
  pub spells : Spells names line condition claim
  pub meets : MeetsCondition input condition

-- by its header the exact part of the text allows so many tests of loops
abbrev pub AllowsTests : List ℕ → ℕ → Type 0
AllowsTests text tests = (stop : Option Stop) × (lines_in exact_head text ≡ header_lines (header_of tests stop))

-- An input meets a line `exactly n steps` of the text's exact part exactly where every run from it ends with at most as many tests of a loop as
-- the part allows, and the longest has n steps.
abbrev pub CountsExactly : Subject → List ℕ → Type 0
CountsExactly subject text =
    (tests : ℕ) → AllowsTests text tests → (input : Store) → IsInput (length subject.names) input → (n : ℕ)
    → MeetsClaim subject.names input (Exactly (pos n)) (lines_in exact_line text) ↔ EndsExactly subject.body tests input n

-- one of the lines says something over the names under a condition that the input meets
abbrev pub MeetsSome : List (List ℕ) → Store → List (List ℕ) → Type 0
MeetsSome names input lines = (claim : Claim) × MeetsClaim names input claim lines

-- an input meets a line of the text's proved section exactly where its start satisfies the formula
abbrev pub ProvesExactly : Subject → List ℕ → Type 0
ProvesExactly subject text =
    (input : Store) → IsInput (length subject.names) input
    → MeetsSome subject.names input (lines_in (section_line proved_head) text) ↔ Sat subject.formula (start subject.body input)

-- a whole line of the text is the claim alone
pub record TellsClaim (names : List (List ℕ)) (text : List ℕ) (claim : Claim) : Type 0 where
  pub line : List ℕ
  pub whole : IsWholeLine text line
  pub tells : Tells names line claim

-- The text tells `exactly n steps` of the input exactly where every run from it ends with at most so many tests of a loop, and the longest has n
-- steps.
abbrev pub TellsExactly : Subject → ℕ → Store → List ℕ → Type 0
TellsExactly subject tests input text = (n : ℕ) → TellsClaim subject.names text (Exactly (pos n)) ↔ EndsExactly subject.body tests input n
