use Rattle.std.proofs.Common.{◌≡◌, ◌≤◌, length, rules, refl, subst, sym, arith}
use Rattle.step_meaning.specs.Syntax.{statements}
use Rattle.control_flow.specs.Labels.{all_labels}
use Rattle.count_down.proofs.Leads.{all_weaken}
use Rattle.ctl_formula.specs.Formulas.{Ctl, until}
use Rattle.ctl_formula.specs.Mirror.{ctl}
use Rattle.decision_tree.specs.Extent.{ComplementsFit, IsTreeOver}
use Rattle.decision_tree.specs.Plans.{plan_of}
use Rattle.control_flow.specs.Told.{IsTrueOfReached, told_by}
use Rattle.ctl_rounds.specs.Certified.{Certifies, IsFamilyFor}
use Rattle.ctl_rounds.specs.Covers.{IsCover}
use Rattle.ctl_rounds.proofs.Asking.{unasked}
use Rattle.function_top.proofs.finding.covered.Given as given
use Rattle.function_top.proofs.finding.covered.Goals as goal

pub returns-in_err-inv-clause-asked : goal.returns-in_err-inv-clause-asked
returns-in_err-inv-clause-asked g c =
    (0, omega (arith), unasked (λ a. (goal.Adviser-dyn g (a.vtable, a.value)).asked_of a.value) c.args.advisers.now.items, search rules)

pub returns-in_err-cover-clause-asked : goal.returns-in_err-cover-clause-asked
returns-in_err-cover-clause-asked g c = let asked = c.in_ok-certificate.ensures.asked in (asked.0, asked.1, asked.2, search rules)

pub returns-in_err-ranked-clause-asked : goal.returns-in_err-ranked-clause-asked
returns-in_err-ranked-clause-asked g c = let asked = c.in_ok-certificate.ensures.asked in (asked.0, asked.1, asked.2, search rules)

pub cover-requires : goal.cover-requires
cover-requires g c =
    let program = c.args.graph.now in
    let body = statements program.body in
    let certificate = c.in_ok-certificate.certificate in
    let whole = c.in_ok-certificate.ensures.certified.whole in record {
      labels = all_weaken (IsFamilyFor (length program.names) body) (λ family. length family.trees ≡ length (all_labels body)) certificate.tops
          (λ family fit. fit.labels) whole;
    }

-- the tree is the cover of the program's certificate, and can be printed
covers : (g : given.Over) (c : goal.After-drop-inv-inside-2 g)
    → IsCover (statements c.args.graph.now.body) c.in_ok-certificate.certificate.tops (plan_of c.in_ok-cover.cover)
covers g c = c.in_ok-cover.ensures

printable : (g : given.Over) (c : goal.After-drop-inv-inside-2 g)
    → IsTreeOver (length c.args.graph.now.names) (plan_of c.in_ok-cover.cover) × ComplementsFit (plan_of c.in_ok-cover.cover)
printable g c =
    let program = c.args.graph.now in
    let told = told_by g.D.NumDomain.told_bounds g.D.NumDomain.told_rows g.D.NumDomain.seen_empty c.in_ok-inv.inv in
    let certificate = c.in_ok-certificate.certificate in
    c.covers_can_be_printed.ensures (length program.names) (statements program.body) told (ctl c.args.formula.now) certificate.parts certificate.tops
    c.in_ok-certificate.ensures.certified (plan_of c.in_ok-cover.cover) (covers g c)

pub returns-clause-printable : goal.returns-clause-printable
returns-clause-printable g c = let both = printable g c in record { over = both.0; complements = both.1 }

-- the certificate is one of the formula, over invariants that are true
certifies : (g : given.Over) (c : goal.After-drop-inv-inside-2 g) → (f : Ctl) → ctl c.args.formula.now ≡ f
    → Certifies (length c.args.graph.now.names) (statements c.args.graph.now.body)
    (told_by g.D.NumDomain.told_bounds g.D.NumDomain.told_rows g.D.NumDomain.seen_empty c.in_ok-inv.inv) f c.in_ok-certificate.certificate.parts
    c.in_ok-certificate.certificate.tops
certifies g c f is =
    subst (λ formula. Certifies (length c.args.graph.now.names) (statements c.args.graph.now.body)
    (told_by g.D.NumDomain.told_bounds g.D.NumDomain.told_rows g.D.NumDomain.seen_empty c.in_ok-inv.inv) formula c.in_ok-certificate.certificate.parts
    c.in_ok-certificate.certificate.tops) is c.in_ok-certificate.ensures.certified

true_of_reached : (g : given.Over) (c : goal.After-drop-inv-inside-2 g)
    → IsTrueOfReached (length c.args.graph.now.names) (statements c.args.graph.now.body)
    (told_by g.D.NumDomain.told_bounds g.D.NumDomain.told_rows g.D.NumDomain.seen_empty c.in_ok-inv.inv)
true_of_reached g c =
    c.invariants_tell_the_truth.ensures (length c.args.graph.now.names) (statements c.args.graph.now.body) c.in_ok-inv.inv c.in_ok-inv.ensures.members

pub returns-clause-satisfied : goal.returns-clause-satisfied
returns-clause-satisfied g c =
    let program = c.args.graph.now in
    let certificate = c.in_ok-certificate.certificate in
    c.covers_hold.ensures.satisfied (length program.names) (statements program.body)
    (told_by g.D.NumDomain.told_bounds g.D.NumDomain.told_rows g.D.NumDomain.seen_empty c.in_ok-inv.inv) program.valid.few program.valid.well_sorted
    (true_of_reached g c) (ctl c.args.formula.now) certificate.parts certificate.tops (certifies g c (ctl c.args.formula.now) refl)
    (plan_of c.in_ok-cover.cover) (covers g c)

pub returns-clause-bounded : goal.returns-clause-bounded
returns-clause-bounded g c = λ all keep goal is.
    let program = c.args.graph.now in
    let certificate = c.in_ok-certificate.certificate in
    c.covers_hold.ensures.bounded (length program.names) (statements program.body)
    (told_by g.D.NumDomain.told_bounds g.D.NumDomain.told_rows g.D.NumDomain.seen_empty c.in_ok-inv.inv) program.valid.few program.valid.well_sorted
    (true_of_reached g c) all keep goal certificate.parts certificate.tops (certifies g c (until all keep goal) is)
    (plan_of c.in_ok-cover.cover) (covers g c)

pub returns-clause-narrow : goal.returns-clause-narrow
returns-clause-narrow g c = λ loopless free within.
    c.in_ok-certificate.ensures.narrow loopless free within (plan_of c.in_ok-cover.cover) (covers g c)

pub returns-clause-narrow_ways : goal.returns-clause-narrow_ways
returns-clause-narrow_ways g c = λ loopless free within growth.
    c.in_ok-certificate.ensures.narrow_ways loopless free within growth (plan_of c.in_ok-cover.cover) (covers g c)

pub returns-clause-asked : goal.returns-clause-asked
returns-clause-asked g c = c.in_ok-certificate.ensures.asked

pub returns-clause-strong : goal.returns-clause-strong
returns-clause-strong g c = c.in_ok-certificate.ensures.strong (plan_of c.in_ok-cover.cover) (covers g c)

pub returns-clause-advised : goal.returns-clause-advised
returns-clause-advised g c =
    let asked = c.in_ok-certificate.ensures.asked in record {
      few = subst (λ n. n ≤ 8) (sym asked.3) asked.1;
      insists = λ advised. c.in_ok-certificate.ensures.turns advised (plan_of c.in_ok-cover.cover) (covers g c);
      spares = c.in_ok-certificate.ensures.unadvised;
    }
