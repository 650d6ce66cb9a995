-- How what was found is shown: a report of the lines of its trees. Nothing here says that anything is true.
use Rattle.std.specs.Prelude.{◌≡◌, ℕ, List, [], Option, None, Some}
use Rattle.decision_tree.specs.Plans.{plan_of}
use Rattle.report_text.specs.declared.line.Line.{Line}
use Rattle.report_text.specs.declared.line.Top.TheVariants.{Exact as Counted}
use Rattle.report_text.specs.declared.report.Header.{Header}
use Rattle.report_text.specs.declared.report.Header.TheVariants.{Absent, Partial, Stopped, Whole}
use Rattle.report_text.specs.declared.report.Report.{Report}
use Rattle.report_text.specs.declared.report.Stop.{Stop}
use Rattle.report_text.specs.Leaves.{AreLinesOf, claiming, claiming_nothing}
use Rattle.report_text.specs.Ranked.{AreRefined}
use Rattle.function_top.specs.declared.found.Exact.{Exact}
use Rattle.function_top.specs.declared.found.Exact.TheVariants.{Made, Unasked, Unmade}
use Rattle.function_top.specs.declared.found.Found.{Found}

-- the header of a level, by why there is no further one
abbrev pub header_of : ℕ → Option Stop → Header
header_of tests None = Whole tests
header_of tests (Some stop) = Partial tests stop

-- there is no exact part; or the header tells why nothing is known exactly, and there are no lines; or how many tests of loops the lines below
-- it allow, which are those of what the tree claims
abbrev pub ShowsExact : Exact → Header → List Line → Type 0
ShowsExact Unasked header lines = (header ≡ Absent) × (lines ≡ [])
ShowsExact (Unmade stop) header lines = (header ≡ Stopped stop) × (lines ≡ [])
ShowsExact (Made tests stop tree) header lines =
    (header ≡ header_of tests stop) × ((all : List Line) × AreLinesOf Counted (plan_of tree) all × (lines ≡ claiming all))

-- The lines of the cover's leaves: what claims something is proved. For the rest the lines of the ordinal tree's leaves stand: what claims something ends by a
-- rank, and the rest is unknown.
pub record Shows (found : Found) (report : Report) : Type 0 where
  pub exact : ShowsExact found.exact report.header report.exact
  pub lines : List Line
  pub lines_of : AreLinesOf found.claims (plan_of found.cover) lines
  pub proved : report.proved ≡ claiming lines
  pub others : List Line
  pub others_of : AreRefined (plan_of found.ranked) (claiming_nothing lines) others
  pub ranked : report.ranked ≡ claiming others
  pub unknown : report.unknown ≡ claiming_nothing others
