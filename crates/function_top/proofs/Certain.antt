-- What is certain to be claimed: of each input of a countdown program, and of one input of one with small factors.
use Rattle.std.proofs.Common.{◌≡◌, ◌≢◌, ℕ, ◌⊎◌, false, inl, inr, List, [], ◌∷◌, ◌++◌, All, None, refl, sym, ap, ◌∙◌}
use Rattle.std.proofs.lemmas.List.Elements.{All-append, All-cons, All-head, All-nil, All-tail}
use Rattle.step_meaning.specs.Countdown.{IsCountdown}
use Rattle.step_meaning.specs.Outcome.{Store}
use Rattle.ctl_formula.specs.Formulas.{af_exit, normal}
use Rattle.exact_families.proofs.Making.{which_leaf}
use Rattle.ctl_rounds.proofs.Exactly.{whole_defined}
use Rattle.linear_cons.specs.declared.affine.Affine.{Affine}
use Rattle.linear_cons.specs.Functions.{complement_of}
use Rattle.decision_tree.specs.declared.affine_rank.AffineRank.{AffineRank}
use Rattle.decision_tree.specs.Plans.{Plan, bottom, branch, leaf, plan_of, top}
use Rattle.decision_tree.specs.Evaluation.{eval}
use Rattle.decision_tree.specs.Extent.{IsWhole}
use Rattle.fitting_ways.specs.Factors.{HasSmallFactors}
use Rattle.line_text.specs.declared.claim.Claim.{Claim}
use Rattle.report_text.specs.declared.line.Line.{Line}
use Rattle.report_text.specs.declared.line.Top.{Top}
use Rattle.report_text.specs.declared.line.Top.TheVariants.{Bound, Exact as Counted, Fits, Plain}
use Rattle.report_text.specs.declared.report.Report.{Report}
use Rattle.ordinal_rank.specs.declared.ordinal.OrdinalRank.{OrdinalRank}
use Rattle.report_text.specs.Ranked.{AreRefined, done, more}
use Rattle.report_text.specs.Leaves.{AreLines, AreLinesOf, claim_of, claiming_nothing, is_unknown, leaves_below, none, skipped, stands}
use Rattle.function_top.specs.declared.status.Status.{Status}
use Rattle.function_top.specs.declared.status.Status.TheVariants.{AllInputs, SomeInputs}
use Rattle.function_top.specs.declared.found.Found.{Found}
use Rattle.function_top.specs.Output.{IsAnswerOn, IsDueOn, answered, refused, reported}
use Rattle.function_top.specs.Found.{IsFound}
use Rattle.function_top.specs.Known.{KnownTexts}
use Rattle.function_top.specs.OneInput.{IsToldOf, LeadsTo}
use Rattle.command_words.specs.Order.{Task}
use Rattle.function_top.specs.Shown.{Shows}
use Rattle.function_top.specs.Subject.{IsSubject, Subject}
use Rattle.function_top.proofs.ToldExactly.{numbers_small}
use Rattle.report_text.proofs.Frame.{Bytes}
use Rattle.function_top.proofs.Headline.{none_some, own_answer, own_report, refused_otherwise}

-- ---- countdown programs

-- the leaf claims something
abbrev Claims : List Affine × Claim → Type 0
Claims below = is_unknown below.1 ≡ false

-- a defined leaf claims something
claims_something : (claims : Top) (rank : AffineRank) → is_unknown (claim_of claims rank) ≡ false
claims_something Counted rank = refl
claims_something Bound rank = refl
claims_something Plain rank = refl
claims_something Fits rank = refl

-- a tree without an undefined leaf claims something at each leaf
all_claim : (claims : Top) (above : List Affine) (tree : Plan AffineRank) → IsWhole tree → All Claims (leaves_below (claim_of claims) above tree)
all_claim claims above bottom whole = absurd whole
all_claim claims above (top cause) whole = absurd whole
all_claim claims above (leaf why rank) whole = All-cons Claims (above, claim_of claims rank) [] (claims_something claims rank) (All-nil Claims)
all_claim claims above (branch row this that) whole =
    All-append Claims (leaves_below (claim_of claims) (above ++ row.affine ∷ []) this) (leaves_below (claim_of claims) (above ++ complement_of row.affine ∷ []) that)
    (all_claim claims (above ++ row.affine ∷ []) this whole.0) (all_claim claims (above ++ complement_of row.affine ∷ []) that whole.1)

none_unknown : {leaves : List (List Affine × Claim)} {lines : List Line} → AreLines leaves lines → All Claims leaves → claiming_nothing lines ≡ []
none_unknown none all = refl
none_unknown (skipped {path} {claim} {leaves} nowhere rest) all = none_unknown rest (All-tail Claims (path, claim) leaves all)
none_unknown (stands {path} {claim} {line} {leaves} {lines} is rest) all =
    let claims : is_unknown line.claim ≡ false = ap is_unknown is.claims ∙ All-head Claims (path, claim) leaves all in
    rw claims (none_unknown rest (All-tail Claims (path, claim) leaves all))

-- a tree without an undefined leaf leaves no input without a claim
whole_claims : (claims : Top) (tree : Plan AffineRank) (lines : List Line) → AreLinesOf claims tree lines → IsWhole tree → claiming_nothing lines ≡ []
whole_claims claims tree lines are whole = none_unknown are (all_claim claims [] tree whole)

-- nothing stands for no lines
nothing_refined : {ranked : Plan OrdinalRank} {lines others : List Line} → AreRefined ranked lines others → lines ≡ [] → others ≡ []
nothing_refined done empty = refl
nothing_refined (more here there) empty = absurd (cc)

-- so no line is unknown where the cover is whole
pub whole_known : (found : Found) (report : Report) → Shows found report → IsWhole (plan_of found.cover) → report.unknown ≡ []
whole_known found report shows whole =
    shows.unknown ∙ ap claiming_nothing (nothing_refined shows.others_of (whole_claims found.claims (plan_of found.cover) shows.lines shows.lines_of whole))

pub covered : (task : Task) (subject : Subject) (found : Found) (report : Report) → IsFound task subject found → Shows found report
    → normal subject.formula ≡ af_exit → IsCountdown subject.body → report.unknown ≡ []
covered task subject found report finds shows ends counts =
    whole_known found report shows (finds.strength.countdown ends counts)

-- nothing is left unknown of a countdown program, nor is one input of one where the factors are small
module _ (known : KnownTexts) (task : Task) (text : Bytes) (subject : Subject) (is : IsSubject task text subject) (ends : normal subject.formula ≡ af_exit)
    (counts : IsCountdown subject.body) where
  leads : {asked : Bytes} {input : Store} {status : Status} {turns : ℕ} {bytes : Bytes} → HasSmallFactors subject.body
      → (on : IsAnswerOn task text asked subject input status turns bytes) → (rank : AffineRank) × LeadsTo (plan_of on.found.cover) input rank
  leads {asked} {input} little on =
      let cover = plan_of on.found.cover in
      let there = which_leaf (eval cover input) (whole_defined input cover (on.analysed.finds.strength.countdown ends counts)) in
      let fits = on.analysed.finds.strength.ways ends counts little input (numbers_small subject.own asked input on.input_is) in
      (there.1, record { fits = fits; why = there.0; is = there.2 })

  told_claims : {asked : Bytes} {input : Store} {status : Status} {turns : ℕ} {bytes : Bytes} → HasSmallFactors subject.body
      → (on : IsAnswerOn task text asked subject input status turns bytes) → IsToldOf on.found input status on.claim → status ≢ SomeInputs
  told_claims little on (inl (all, claimed)) some = let clash : AllInputs ≡ SomeInputs = sym all ∙ some in cc
  told_claims little on (inr (is_lacking, inexact, lacks, nowhere, unknown)) some = let way = leads little on in lacks way.0 way.1

  pub due_covers : (task.input ≡ None) ⊎ HasSmallFactors subject.body → {status : Status} {advisers turns : ℕ} {bytes : Bytes}
      → IsDueOn task text status advisers turns bytes → status ≢ SomeInputs
  due_covers certain (reported own report whole on (inl (all, covers))) some = let clash : AllInputs ≡ SomeInputs = sym all ∙ some in cc
  due_covers certain (reported own report whole on (inr (is_lacking, lacks))) some =
      let here = own_report known task text subject is on in lacks (covered task subject here.found report here.analysed.finds here.shows ends counts)
  due_covers (inl whole) (answered asked own input one on) some = none_some task one whole
  due_covers (inr little) (answered asked own input one on) some =
      let here = own_answer known task text subject is on in told_claims little here here.told some
  due_covers certain {status} {advisers} {turns} {bytes} (refused refusal reason says unasked) some = refused_otherwise refusal status bytes says (inr some)
