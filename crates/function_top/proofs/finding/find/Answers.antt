use Rattle.std.proofs.Common.{rules, ◌≤◌, ◌^◌, ◌≢◌, ◌∙◌, length, ap, sym, subst, arith}
use Rattle.step_meaning.specs.Run.{start}
use Rattle.ctl_formula.specs.Mirror.{ctl}
use Rattle.ctl_formula.specs.Satisfaction.{Sat}
use Rattle.decision_tree.specs.Plans.{plan_of}
use Rattle.normal_form.specs.Operators.{HasNoNegation}
use Rattle.normal_form.proofs.NoNegation.{none_in_normal}
use Rattle.formula_measures.specs.Measures.{IsWithinMeasures, ctl_growth}
use Rattle.ctl_rounds.specs.Bounds.{CoversInputs, SatisfiesInputs}
use Rattle.ctl_rounds.proofs.Asking.{unasked}
use Rattle.report_text.specs.declared.line.Top.TheVariants.{Exact as Counted}
use Rattle.function_top.specs.Found.{IsAdvisedFor, IsStrongCover, IsTrueTree, claims_for}
use Rattle.function_top.specs.Subject.{subject_of}
use Rattle.function_top.proofs.Claiming.{claims_exactly, claims_true, no_exact_number}
use Rattle.function_top.proofs.finding.find.Goals as goal

pub returns-in_err-exact-clause-asked : goal.returns-in_err-exact-clause-asked
returns-in_err-exact-clause-asked g c = (0, omega (arith), unasked (λ a. (goal.Adviser-dyn g (a.vtable, a.value)).asked_of a.value) c.args.advisers.now.items, search rules)

pub returns-clause-finds : goal.returns-clause-finds
returns-clause-finds g c = λ own_names meant is.
    let subject = subject_of c.args.graph.now own_names meant in
    let cover = plan_of c.in_ok-cover.cover in
    let own = c.in_ok-cover.ensures in
    let mean_the_same = c.normal_forms_mean_the_same.ensures in
    let free = subst HasNoNegation (sym is) (none_in_normal meant) in
    record {
      truth = record {
        claims = c.claims_for.ensures ∙ ap claims_for is;
        holds = subst (λ claims. IsTrueTree subject claims cover) (sym c.claims_for.ensures)
            (claims_true mean_the_same subject cover (ctl c.args.formula.now) is own.satisfied own.bounded);
        ends = own.ends;
        unranked = own.unranked;
      };
      exactness = record {
        part = c.in_ok-exact.ensures.exact own_names meant;
        covers = λ loopless within.
            claims_exactly mean_the_same subject cover (subst (λ f. SatisfiesInputs (length subject.names) subject.body f cover) is own.satisfied)
            (subst (λ f. CoversInputs (length subject.names) subject.body f cover) is
            (own.narrow loopless free (subst (IsWithinMeasures subject.body) (sym is) within, c.requires.over)));
        ways = λ small input is_input numbers sat.
            own.narrow_ways small.loopless free (subst (IsWithinMeasures subject.body) (sym is) small.within, c.requires.over)
            (subst (λ f. ctl_growth subject.body f ≤ 2 ^ 60) (sym is) small.growth) input is_input numbers
            (subst (λ f. Sat f (start subject.body input)) (sym is) ((mean_the_same meant (start subject.body input)).1 sat));
      };
      strength = subst (λ f. IsStrongCover f subject.body cover) is own.strong;
      advice = subst (λ f. IsAdvisedFor f cover c.in_ok-cover.turns) is own.advised;
    }

pub returns-clause-printable : goal.returns-clause-printable
returns-clause-printable g c = record {
  exact = c.in_ok-exact.ensures.printable;
  claims = subst (λ claims. claims ≢ Counted) (sym c.claims_for.ensures) (no_exact_number (ctl c.args.formula.now));
  cover = c.in_ok-cover.ensures.printable;
  ranked = c.in_ok-cover.ensures.fit;
}
