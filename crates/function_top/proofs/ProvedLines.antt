-- An input meets a line that claims something exactly where the tree does.
use Rattle.std.proofs.Common.{◌≡◌, ◌↔◌, Bool, true, false, cond, not, List, [], ◌∷◌, length, Contains, All, refl, sym, ap, ◌∙◌, subst}
use Rattle.std.proofs.lemmas.Bool.{false≢true}
use Rattle.std.proofs.lemmas.List.Elements.{All-cons, All-contains, All-filter, All-nil}
use Rattle.step_meaning.specs.Outcome.{Store}
use Rattle.step_meaning.specs.Run.{IsInput, start}
use Rattle.ctl_formula.specs.Formulas.{normal}
use Rattle.ctl_formula.specs.Satisfaction.{Sat}
use Rattle.linear_cons.specs.Rows.{MeetsAll}
use Rattle.decision_tree.specs.Evaluation.{eval}
use Rattle.decision_tree.specs.Plans.{Plan, bottom, branch, is_defined, leaf, plan_of, top}
use Rattle.decision_tree.specs.declared.affine_rank.AffineRank.{AffineRank}
use Rattle.exact_families.specs.Completeness.{IsLoopless}
use Rattle.formula_measures.specs.Measures.{IsWithinMeasures}
use Rattle.line_text.specs.declared.claim.Claim.{Claim}
use Rattle.report_text.specs.declared.line.Line.{Line}
use Rattle.report_text.specs.declared.line.Top.{Top}
use Rattle.report_text.specs.declared.line.Top.TheVariants.{Bound, Exact, Fits, Plain}
use Rattle.report_text.specs.declared.report.Report.{Report}
use Rattle.report_text.specs.Leaves.{AreLinesOf, claim_at, claiming, is_unknown}
use Rattle.report_text.proofs.Standing.{one_line_met}
use Rattle.command_words.specs.Order.{Task}
use Rattle.function_top.specs.declared.found.Found.{Found}
use Rattle.function_top.specs.Exact.{MeetsLine, MeetsSomeLine}
use Rattle.function_top.specs.Found.{IsFound}
use Rattle.function_top.specs.Shown.{Shows}
use Rattle.function_top.specs.Subject.{Subject}
use Rattle.function_top.proofs.ExactLines.{claiming_meets}
use Rattle.function_top.proofs.OnlyMet.{met_is_one}

-- a leaf claims something
known_leaf : (claims : Top) (end : Plan AffineRank) → is_defined end ≡ true → is_unknown (claim_at claims end) ≡ false
known_leaf claims bottom own = absurd (false≢true own)
known_leaf claims (top cause) own = absurd (false≢true own)
known_leaf claims (branch row this that) own = absurd (false≢true own)
known_leaf Bound (leaf why rank) own = refl
known_leaf Plain (leaf why rank) own = refl
known_leaf Exact (leaf why rank) own = refl
known_leaf Fits (leaf why rank) own = refl

-- and nothing else does
known_end : (claims : Top) (end : Plan AffineRank) → is_unknown (claim_at claims end) ≡ false → is_defined end ≡ true
known_end claims bottom own = absurd (false≢true (sym own))
known_end claims (top cause) own = absurd (false≢true (sym own))
known_end claims (branch row this that) own = absurd (false≢true (sym own))
known_end claims (leaf why rank) own = refl

kept_known : (t : Bool) (line : Line) (lines : List Line) → is_unknown line.claim ≡ t → All (λ line. is_unknown line.claim ≡ false) lines
    → All (λ line. is_unknown line.claim ≡ false) (cond (not t) (line ∷ lines) lines)
kept_known true line lines is all = all
kept_known false line lines is all = All-cons (λ line. is_unknown line.claim ≡ false) line lines is all

all_known : (lines : List Line) → All (λ line. is_unknown line.claim ≡ false) (claiming lines)
all_known [] = All-nil (λ line. is_unknown line.claim ≡ false)
all_known (line ∷ lines) = kept_known (is_unknown line.claim) line (claiming lines) refl (all_known lines)

module _ (claims : Top) (tree : Plan AffineRank) (all lines : List Line) (are : AreLinesOf claims tree all) (shown : lines ≡ claiming all) (input : Store) where
  pub met_where_defined : MeetsSomeLine input lines ↔ (is_defined (eval tree input) ≡ true)
  met_where_defined = (to_defined, of_defined)
    where
      At : Line → Type 0
      At line = line.claim ≡ claim_at claims (eval tree input)

      to_defined : MeetsSomeLine input lines → is_defined (eval tree input) ≡ true
      to_defined meets =
          let found = meets.1 in
          let among = subst (λ ls. Contains ls found.line) shown found.among in
          let every = met_is_one (λ (line : Line). MeetsAll input line.rows) (λ (line : Line). line.claim ≡ claim_at claims (eval tree input)) all
          (one_line_met claims input tree all are) in
          let kept = All-filter (λ line. not (is_unknown line.claim)) (λ (line : Line). MeetsAll input line.rows → line.claim ≡ claim_at claims (eval tree input)) all every in
          let is = All-contains (λ (line : Line). MeetsAll input line.rows → line.claim ≡ claim_at claims (eval tree input)) (claiming all) found.line kept among found.meets in
          known_end claims (eval tree input)
          (ap is_unknown (sym is) ∙ All-contains (λ (line : Line). is_unknown line.claim ≡ false) (claiming all) found.line (all_known all) among)

      of_defined : is_defined (eval tree input) ≡ true → MeetsSomeLine input lines
      of_defined own =
          let claim : Claim = claim_at claims (eval tree input) in (
            claim,
            subst (MeetsLine input claim) (sym shown)
                (claiming_meets input claim (known_leaf claims (eval tree input) own) all (one_line_met claims input tree all are)),
          )

-- where what was found claims exactly, by satisfied inputs
pub met_by_satisfied : (task : Task) (subject : Subject) (found : Found) (report : Report) → IsFound task subject found → Shows found report
    → IsLoopless subject.body → IsWithinMeasures subject.body (normal subject.formula) → (input : Store) → IsInput (length subject.names) input
    → MeetsSomeLine input report.proved ↔ Sat subject.formula (start subject.body input)
met_by_satisfied task subject found report finds shows loopless within input is_input =
    let met = met_where_defined found.claims (plan_of found.cover) shows.lines report.proved shows.lines_of shows.proved input in
    let claimed = finds.exactness.covers loopless within input is_input in
    ((λ some. claimed.0 (met.0 some)), (λ sat. met.1 (claimed.1 sat)))
