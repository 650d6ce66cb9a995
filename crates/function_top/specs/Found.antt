-- What the analysis finds of a subject, before any of it is text.
use Rattle.std.specs.Prelude.{◌≡◌, ◌⊎◌, ◌↔◌, ◌≤◌, ◌^◌, ℕ, pos, true, List, length, Option, None, Some, IsSome}
use Rattle.step_meaning.specs.Outcome.{Store}
use Rattle.step_meaning.specs.Run.{IsInput, start}
use Rattle.step_meaning.specs.Countdown.{IsCountdown}
use Rattle.step_meaning.specs.Counts.{HasNoLoop}
use Rattle.step_meaning.specs.Syntax.{Statements}
use Rattle.linear_cons.specs.Functions.{constant_of}
use Rattle.decision_tree.specs.declared.affine_rank.AffineRank.{AffineRank}
use Rattle.decision_tree.specs.Evaluation.{eval}
use Rattle.decision_tree.specs.Extent.{IsWhole}
use Rattle.decision_tree.specs.Plans.{Plan, bottom, is_defined, plan_of, rank_of}
use Rattle.count_down.specs.Candidates.{last_steps}
use Rattle.count_down.specs.Trees.{ranked}
use Rattle.ctl_formula.specs.Formulas.{Ctl, truth, falsity, exit, not_exit, always, never, least, negation, both, either, next, until, weak, af_exit, normal}
use Rattle.ctl_formula.specs.Satisfaction.{Sat}
use Rattle.exact_families.specs.Completeness.{IsLoopless}
use Rattle.formula_measures.specs.Measures.{IsWithinMeasures, ctl_growth}
use Rattle.fitting_ways.specs.Factors.{HasSmallFactors}
use Rattle.fitting_ways.specs.Ways.{SmallWaysFit}
use Rattle.ctl_rounds.specs.Asked.{IsAdvised}
use Rattle.ctl_rounds.specs.Bounds.{FindsInputs}
use Rattle.ordinal_rank.specs.Families.{BoundsEnds}
use Rattle.report_text.specs.declared.line.Top.{Top}
use Rattle.report_text.specs.declared.line.Top.TheVariants.{Bound, Plain}
use Rattle.report_text.specs.Leaves.{claim_at}
use Rattle.report_text.specs.Ranked.{claim_of_both}
use Rattle.line_text.specs.declared.claim.Claim.{Claim}
use Rattle.function_top.specs.declared.found.Exact.{Exact}
use Rattle.function_top.specs.declared.found.Exact.TheVariants.{Unasked}
use Rattle.function_top.specs.declared.found.Found.{Found}
use Rattle.function_top.specs.Exact.{IsExact}
use Rattle.command_words.specs.Order.{Task}
use Rattle.function_top.specs.Subject.{Subject}
use Rattle.function_top.specs.TrueLine.{IsTrueOf}

-- what is claimed of a formula with this normal form: that it holds within so many steps where it is an until, and else that it holds
abbrev pub claims_for : Ctl → Top
claims_for truth = Plain
claims_for falsity = Plain
claims_for exit = Plain
claims_for not_exit = Plain
claims_for always = Plain
claims_for never = Plain
claims_for (least a) = Plain
claims_for (negation f) = Plain
claims_for (both f g) = Plain
claims_for (either f g) = Plain
claims_for (next all f) = Plain
claims_for (until all keep goal) = Bound
claims_for (weak all keep goal) = Plain

-- what the tree's leaf claims where an input stands is true of the input
abbrev pub IsTrueTree : Subject → Top → Plan AffineRank → Type 0
IsTrueTree subject claims tree =
    (input : Store) → IsInput (length subject.names) input → IsTrueOf subject (claim_at claims (eval tree input)) input

-- what is claimed of an input: what the cover claims where it stands, or where its leaf is undefined what the tree of ordinal ranks does
abbrev pub claim_found : Found → Store → Claim
claim_found found input = claim_of_both found.claims (plan_of found.cover) (plan_of found.ranked) input

-- Where no formula is asked about this is known exactly of the subject's program, for as many tests as the delay; and where one is, nothing is
-- known exactly.
abbrev pub IsExactPart : Option (List ℕ) → Subject → ℕ → Exact → Type 0
IsExactPart None subject delay exact = IsExact (length subject.names) subject.body delay exact
IsExactPart (Some text) subject delay exact = exact ≡ Unasked

-- the tree claims something of an input exactly where its start satisfies the formula
abbrev pub ClaimsExactly : Subject → Plan AffineRank → Type 0
ClaimsExactly subject tree =
    (input : Store) → IsInput (length subject.names) input → (is_defined (eval tree input) ≡ true) ↔ Sat subject.formula (start subject.body input)

-- A plain program without loops, whose numbers fit, and a formula: the normal form is within its measures, and the growth is at most 2^60.
pub record HasSmallMeasures (subject : Subject) : Type 0 where
  pub loopless : IsLoopless subject.body
  pub within : IsWithinMeasures subject.body (normal subject.formula)
  pub growth : ctl_growth subject.body (normal subject.formula) ≤ 2 ^ 60

-- Truth: what the cover claims is true, and where the tree of ordinal ranks makes a claim every run ends as it says. That tree makes none where a formula is
-- asked about, or the cover leaves no input open.
pub record IsTrueFound (task : Task) (subject : Subject) (found : Found) : Type 0 where
  pub claims : found.claims ≡ claims_for (normal subject.formula)
  pub holds : IsTrueTree subject found.claims (plan_of found.cover)
  pub ends : BoundsEnds (length subject.names) subject.body (plan_of found.ranked)
  pub unranked : IsSome task.formula ⊎ IsWhole (plan_of found.cover) → plan_of found.ranked ≡ bottom

-- Exactness: the exact part is exact. In a plain program without loops, whose numbers fit, and within its measures for the normal form, no satisfied input
-- is left without a claim; and where the growth is small too, the way of one of small numbers through the cover is found within 128 bits.
pub record IsExactFound (task : Task) (subject : Subject) (found : Found) : Type 0 where
  pub part : IsExactPart task.formula subject task.delay found.exact
  pub covers : IsLoopless subject.body → IsWithinMeasures subject.body (normal subject.formula) → ClaimsExactly subject (plan_of found.cover)
  pub ways : HasSmallMeasures subject → FindsInputs (length subject.names) subject.body subject.formula (plan_of found.cover)

-- Strength: where the formula in normal form is `AF exit`, the cover of a countdown program has no undefined leaf, and that of a program without loops is
-- one leaf, which promises the most steps of a path; and where the factors in front of the loop are small, the way of an input of small numbers through
-- the cover is found within 128 bits.
pub record IsStrongCover (normal_form : Ctl) (body : Statements) (cover : Plan AffineRank) : Type 0 where
  pub countdown : normal_form ≡ af_exit → IsCountdown body → IsWhole cover
  pub loopless : normal_form ≡ af_exit → HasNoLoop body → rank_of cover ≡ Some (ranked (constant_of (pos (last_steps body))))
  pub ways : normal_form ≡ af_exit → IsCountdown body → HasSmallFactors body → SmallWaysFit cover

-- Advice: where the formula in normal form is a whole `A[f U g]` the advisers are asked as long as a leaf of the cover is undefined, eight times at most, and
-- else never.
pub record IsAdvisedFor (normal_form : Ctl) (cover : Plan AffineRank) (turns : ℕ) : Type 0 where
  pub few : turns ≤ 8
  pub insists : IsAdvised normal_form → IsWhole cover ⊎ (turns ≡ 8)
  pub spares : ¬ IsAdvised normal_form → turns ≡ 0

-- all that is said of what was found
pub record IsFound (task : Task) (subject : Subject) (found : Found) : Type 0 where
  pub truth : IsTrueFound task subject found
  pub exactness : IsExactFound task subject found
  pub strength : IsStrongCover (normal subject.formula) subject.body (plan_of found.cover)
  pub advice : IsAdvisedFor (normal subject.formula) (plan_of found.cover) found.turns
