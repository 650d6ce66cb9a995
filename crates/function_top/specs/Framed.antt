-- The headline of framed runs: what the command writes of a program of functions is true of runs in which each call has a frame with a store of its own.
use Rattle.std.specs.Prelude.{◌≡◌, ℤ, pos, negsuc, ℕ, List, ◌++◌, length, map, Some, ⊤}
use Rattle.linear_cons.specs.declared.affine.Affine.{Affine}
use Rattle.linear_cons.specs.Functions.{value_at}
use Rattle.step_meaning.specs.Outcome.{Store}
use Rattle.step_meaning.specs.Run.{IsInput}
use Rattle.step_meaning.specs.Systems.{System, Longest}
use Rattle.ctl_formula.specs.Formulas.{Ctl, normal}
use Rattle.ctl_formula.specs.Systems as formulas
use Rattle.call_meaning.specs.declared.unit.Unit.{Unit}
use Rattle.call_meaning.specs.Frames.{start}
use Rattle.call_meaning.specs.Runs.{framed}
use Rattle.call_meaning.specs.Tables.{table_of}
use Rattle.call_inline.specs.Starts.{AreStores}
use Rattle.source_parse.specs.Derives.{IsUnitText}
use Rattle.ordinal_rank.specs.Systems.{EndsUnder}
use Rattle.line_text.specs.declared.claim.Claim.{Claim}
use Rattle.line_text.specs.declared.claim.Claim.TheVariants.{Exactly, Within, Holds, Ranked, Fits, Unknown}
use Rattle.line_text.specs.Spells.{MeetsCondition, Spells}
use Rattle.report_text.specs.Sections.{IsWholeLine}
use Rattle.claim_line.specs.Tells.{Tells}
use Rattle.input_text.specs.Input.{IsInputText}
use Rattle.command_words.specs.Order.{Ask, Task, analysis}
use Rattle.function_top.specs.Call.{Call}
use Rattle.function_top.specs.Subject.{IsSubject, Subject, asked_names}

-- the longest run from the state has exactly that many steps; none has fewer than 0
abbrev pub IsLongestIn : (S : System) → ℤ → S.State → Type 0
IsLongestIn S (pos n) c = Longest S n c
IsLongestIn S (negsuc n) c = ⊥

-- the formula, an until, holds there within so many steps
abbrev pub IsWithin : (S : System) → ℤ → Ctl → S.State → Type 0
IsWithin S (pos n) f c = formulas.Within S n f c
IsWithin S (negsuc n) f c = ⊥

-- The claim is true of the runs from the state, whose input this is: the longest has exactly so many steps; the formula holds there within the steps of the
-- bound; it holds there; or every run ends, bounded one after the other as the values of the functions say. Of what fits 32 bits nothing is said here.
abbrev pub IsTrueIn : (S : System) → Ctl → Claim → Store → S.State → Type 0
IsTrueIn S formula (Exactly number) input c = IsLongestIn S number c
IsTrueIn S formula (Within bound) input c = IsWithin S (value_at bound input) (normal formula) c
IsTrueIn S formula Holds input c = formulas.Sat S formula c
IsTrueIn S formula (Ranked functions) input c = EndsUnder S (map (λ function. value_at function input) functions) c
IsTrueIn S formula Fits input c = ⊤
IsTrueIn S formula Unknown input c = ⊤

-- The claim is true of the input's framed runs of the unit: whatever the frame of `main` has beside the input's numbers of its variables, and whatever
-- stands in new frames.
abbrev pub IsTrueOfFrames : Unit → Subject → Claim → Store → Type 0
IsTrueOfFrames unit subject claim input =
    (mine fresh : Store) → AreStores (length unit.names) mine input fresh
    → IsTrueIn (framed (table_of unit.funcs unit.names unit.body) fresh) subject.formula claim input
    (start (table_of unit.funcs unit.names unit.body) (length unit.funcs) mine)

-- whatever a whole line of the text says over the subject's names is true of the unit's framed runs from each input that meets the line's condition
abbrev pub IsTrueTextOfFrames : Unit → Subject → List ℕ → Type 0
IsTrueTextOfFrames unit subject text =
    (line : List ℕ) (condition : List Affine) (claim : Claim) → IsWholeLine text line → Spells subject.names line condition claim
    → (input : Store) → IsInput (length subject.names) input → MeetsCondition input condition → IsTrueOfFrames unit subject claim input

-- whatever a whole line of the text tells that is a claim alone is true of the input's framed runs of the unit
abbrev pub IsTrueAnswerOfFrames : Unit → Subject → Store → List ℕ → Type 0
IsTrueAnswerOfFrames unit subject input text =
    (line : List ℕ) (claim : Claim) → IsWholeLine text line → Tells subject.names line claim → IsTrueOfFrames unit subject claim input

-- Where the source told a text that is a unit, with a subject by what the words ask for, whatever a whole line among the bytes that the sink took in the call says
-- is true of the framed runs of that unit.
abbrev pub FramedHeadline : List (List ℕ) → Call → Type 0
FramedHeadline words call =
    (task : Task) (text before written : List ℕ) (subject : Subject) (unit : Unit) → Ask words (analysis task) → call.left ≡ Some text → IsSubject task text subject
    → IsUnitText text unit → call.taken ≡ Some before → call.taken_after ≡ Some (before ++ written) → IsTrueTextOfFrames unit subject written

-- the same where one input is asked for: of its framed runs
abbrev pub FramedAnswerHeadline : List (List ℕ) → Call → Type 0
FramedAnswerHeadline words call =
    (task : Task) (text before written asked : List ℕ) (subject : Subject) (unit : Unit) (input : Store) → Ask words (analysis task) → call.left ≡ Some text
    → IsSubject task text subject → IsUnitText text unit → task.input ≡ Some asked → IsInputText (asked_names subject) asked input
    → call.taken ≡ Some before → call.taken_after ≡ Some (before ++ written) → IsTrueAnswerOfFrames unit subject input written
