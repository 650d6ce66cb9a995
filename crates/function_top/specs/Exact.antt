-- What is known exactly: for which inputs it is known how long the longest run is.
use Rattle.std.specs.Prelude.{◌≡◌, ◌⊎◌, ℕ, suc, ◌<◌, ◌≤◌, ◌^◌, ◌↔◌, List, Contains, Option, None, Some}
use Rattle.step_meaning.specs.Outcome.{Store}
use Rattle.step_meaning.specs.Plain.{IsPlain}
use Rattle.step_meaning.specs.Run.{EndsInTests, IsInput, Longest, start}
use Rattle.step_meaning.specs.Syntax.{Statements}
use Rattle.linear_cons.specs.Rows.{MeetsAll}
use Rattle.line_text.specs.declared.claim.Claim.{Claim}
use Rattle.decision_tree.specs.Plans.{Plan, plan_of}
use Rattle.decision_tree.specs.declared.affine_rank.AffineRank.{AffineRank}
use Rattle.decision_tree.specs.declared.reason.Cause.{Cause}
use Rattle.decision_tree.specs.declared.reason.Cause.TheVariants.{Given, Nodes, Point, Rows, Wide}
use Rattle.control_flow.specs.Fitting.{IsFitting}
use Rattle.control_flow.specs.Growth.{growth_of}
use Rattle.control_flow.specs.Measures.{IsHeavy, IsLight}
use Rattle.unroll.specs.Levels.{Claims, RanksCount, RowsAtMost}
use Rattle.unroll.specs.Refusals.{IsWide}
use Rattle.report_text.specs.declared.line.Line.{Line}
use Rattle.report_text.specs.Leaves.{MeetsOneLine, NoneOf}
use Rattle.report_text.specs.declared.report.Stop.{Stop}
use Rattle.report_text.specs.declared.report.Stop.TheVariants.{NotPlain, TooManyNodes, WideNumbers}
use Rattle.function_top.specs.declared.found.Exact.{Exact}
use Rattle.function_top.specs.declared.found.Exact.TheVariants.{Made, Unasked, Unmade}

-- every run from the input ends with at most so many tests of a loop, and the longest has n steps
pub record EndsExactly (body : Statements) (tests : ℕ) (input : Store) (n : ℕ) : Type 0 where
  pub ends : EndsInTests tests n (start body input)
  pub longest : Longest n (start body input)

-- The tree claims n steps for an input of a program of so many variables exactly where that is so, and nothing else. No level up to this one
-- has a weight above 65,536, and no number in a row of the tree is above the growth of this one.
pub record IsExactTree (vars : ℕ) (body : Statements) (tests : ℕ) (tree : Plan AffineRank) : Type 0 where
  pub light : (level : ℕ) → level ≤ tests → IsLight body level
  pub exact : (input : Store) → IsInput vars input → (n : ℕ) → Claims tree input n ↔ EndsExactly body tests input n
  pub ranks : RanksCount tree
  pub numbers : RowsAtMost (growth_of body tests) tree

-- A plain program whose numbers fit: the level of so many tests has a weight of at most 65,536, and a growth of at most 2^60.
pub record HasSmallLevels (body : Statements) (tests : ℕ) : Type 0 where
  pub fitting : IsFitting body
  pub light : IsLight body tests
  pub growth : growth_of body tests ≤ 2 ^ 60

-- the input meets a line of the list that claims this
pub record MeetsLine (input : Store) (claim : Claim) (lines : List Line) : Type 0 where
  pub line : Line
  pub among : Contains lines line
  pub meets : MeetsAll input line.rows
  pub claims : line.claim ≡ claim

-- whatever that is
abbrev pub MeetsSomeLine : Store → List Line → Type 0
MeetsSomeLine input lines = (claim : Claim) × MeetsLine input claim lines

-- the input meets the rows of none of the lines, or of exactly one
abbrev pub MeetsAtMostOneLine : Store → List Line → Type 0
MeetsAtMostOneLine input lines = NoneOf (λ (line : Line). MeetsAll input line.rows) lines ⊎ ((claim : Claim) × MeetsOneLine input claim lines)

-- why the level wasn't made: its weight is above 65,536; or it isn't, and its numbers may be wide
abbrev pub IsStopAt : Statements → ℕ → Stop → Type 0
IsStopAt body level TooManyNodes = IsHeavy body level
IsStopAt body level WideNumbers = IsLight body level × IsWide body level
IsStopAt body level NotPlain = ⊥

-- why no level was made: the program isn't plain, or level 0 wasn't
abbrev pub IsUnmade : Statements → Stop → Type 0
IsUnmade body TooManyNodes = IsPlain body × IsStopAt body 0 TooManyNodes
IsUnmade body WideNumbers = IsPlain body × IsStopAt body 0 WideNumbers
IsUnmade body NotPlain = ¬ IsPlain body

-- as many tests as the delay are allowed, or fewer where the next level wasn't made
abbrev pub AreTests : Statements → ℕ → ℕ → Option Stop → Type 0
AreTests body delay tests None = tests ≡ delay
AreTests body delay tests (Some stop) = (tests < delay) × IsStopAt body (suc tests) stop

-- What is known exactly of a program of so many variables: why nothing is; or a level, whose tree at the entry is exact.
abbrev pub IsExact : ℕ → Statements → ℕ → Exact → Type 0
IsExact vars body delay Unasked = ⊥
IsExact vars body delay (Unmade stop) = IsUnmade body stop
IsExact vars body delay (Made tests stop tree) = IsPlain body × AreTests body delay tests stop × IsExactTree vars body tests (plan_of tree)

-- why no further level was made, in the words of a report
abbrev pub stop_of : Option Cause → Option Stop
stop_of None = None
stop_of (Some (Nodes count)) = Some TooManyNodes
stop_of (Some (Wide operands)) = Some WideNumbers
stop_of (Some (Rows count)) = Some WideNumbers
stop_of (Some (Point num den)) = Some WideNumbers
stop_of (Some Given) = Some WideNumbers
