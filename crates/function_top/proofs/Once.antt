-- How many lines of a report an input meets: exactly one of the sections, at most one of the exact part.
use Rattle.std.proofs.Common.{◌≡◌, ◌⊎◌, Bool, true, false, cond, not, inl, inr, List, [], ◌∷◌, ◌++◌, filter, sym, subst}
use Rattle.step_meaning.specs.Outcome.{Store}
use Rattle.linear_cons.specs.Rows.{MeetsAll}
use Rattle.decision_tree.specs.Evaluation.{eval}
use Rattle.decision_tree.specs.Plans.{plan_of}
use Rattle.report_text.specs.declared.line.Line.{Line}
use Rattle.report_text.specs.declared.line.Top.TheVariants.{Exact as Counted}
use Rattle.report_text.specs.declared.report.Header.{Header}
use Rattle.report_text.specs.declared.report.Report.{Report}
use Rattle.report_text.specs.Leaves.{MeetsOneLine, NoneOf, OneOf, claim_at, is_unknown}
use Rattle.report_text.proofs.StandIns.{none_held, none_kept, refined_line_met}
use Rattle.report_text.proofs.Standing.{one_line_met}
use Rattle.function_top.specs.declared.found.Exact.{Exact}
use Rattle.function_top.specs.declared.found.Exact.TheVariants.{Made, Unasked, Unmade}
use Rattle.function_top.specs.declared.found.Found.{Found}
use Rattle.function_top.specs.Exact.{MeetsAtMostOneLine}
use Rattle.function_top.specs.Found.{claim_found}
use Rattle.function_top.specs.Shown.{Shows, ShowsExact}

pub one_line : (found : Found) (report : Report) → Shows found report → (input : Store)
    → MeetsOneLine input (claim_found found input) (report.proved ++ (report.ranked ++ report.unknown))
one_line found report shows input =
    rw (shows.proved, shows.ranked, shows.unknown)
    (refined_line_met (plan_of found.ranked) input shows.lines shows.others shows.others_of found.claims (plan_of found.cover) shows.lines_of)

-- of a list of which exactly one is met at most one is met of what is kept
module _ {X : Type 0} (Met Is : X → Type 0) where
  here_kept : (t : Bool) (x : X) (rest : List X) → Met x → Is x → NoneOf Met rest
      → NoneOf Met (cond t (x ∷ rest) rest) ⊎ OneOf Met Is (cond t (x ∷ rest) rest)
  here_kept true x rest met is none = inr (inl (met, is, none))
  here_kept false x rest met is none = inl none

  behind : (t : Bool) (x : X) (rest : List X) → ¬ Met x → NoneOf Met rest ⊎ OneOf Met Is rest
      → NoneOf Met (cond t (x ∷ rest) rest) ⊎ OneOf Met Is (cond t (x ∷ rest) rest)
  behind t x rest unmet (inl none) = inl (none_held Met Is (λ y. t) t x rest unmet none)
  behind true x rest unmet (inr one) = inr (inr (unmet, one))
  behind false x rest unmet (inr one) = inr one

  module _ (keep : X → Bool) where
    at_most_left : (xs : List X) → OneOf Met Is xs → NoneOf Met (filter keep xs) ⊎ OneOf Met Is (filter keep xs)
    at_most_left [] one = absurd one
    at_most_left (x ∷ xs) (inl here) = here_kept (keep x) x (filter keep xs) here.0 here.1 (none_kept Met Is keep xs here.2)
    at_most_left (x ∷ xs) (inr later) = behind (keep x) x (filter keep xs) later.0 (at_most_left xs later.1)

at_most_shown : (exact : Exact) (header : Header) (lines : List Line) → ShowsExact exact header lines → (input : Store) → MeetsAtMostOneLine input lines
at_most_shown Unasked header lines shows input = subst (MeetsAtMostOneLine input) (sym shows.1) (inl tt)
at_most_shown (Unmade stop) header lines shows input = subst (MeetsAtMostOneLine input) (sym shows.1) (inl tt)
at_most_shown (Made tests stop tree) header lines shows input =
    let all = shows.1.0 in
    let claim = claim_at Counted (eval (plan_of tree) input) in
    subst (MeetsAtMostOneLine input) (sym shows.1.2)
    (elim (at_most_left (λ (line : Line). MeetsAll input line.rows) (λ (line : Line). line.claim ≡ claim) (λ line. not (is_unknown line.claim)) all
    (one_line_met Counted input (plan_of tree) all shows.1.1)) [
      | inl none ↦ inl none
      | inr one ↦ inr (claim, one)
    ])

pub at_most_one : (found : Found) (report : Report) → Shows found report → (input : Store) → MeetsAtMostOneLine input report.exact
at_most_one found report shows = at_most_shown found.exact report.header report.exact shows.exact
