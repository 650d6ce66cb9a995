use Rattle.std.proofs.Common.{◌≡◌, inl, inr, All, length, option_map, rules, subst, ap, sym, ◌∙◌, arith}
use Rattle.std.proofs.lemmas.List.Elements.{All-append}
use Rattle.step_meaning.specs.Syntax.{statements}
use Rattle.decision_tree.specs.Extent.{IsWhole}
use Rattle.decision_tree.specs.Plans.{plan_of, rank_of}
use Rattle.ctl_formula.specs.Mirror.{ctl}
use Rattle.fitting_ways.specs.Ways.{SmallWaysFit}
use Rattle.ctl_rounds.specs.Bounds.{CoversInputs, FindsInputs}
use Rattle.ctl_rounds.specs.Covers.{IsCover, IsFitToBegin, claims_of}
use Rattle.formula_measures.specs.Measures.{ctl_growth}
use Rattle.part_families.specs.Families.{HasRowsWithin, IsUncut}
use Rattle.ctl_rounds.specs.Finding.{FirstIs}
use Rattle.part_families.specs.Showing.{all_of}
use Rattle.ctl_rounds.proofs.Asking.{unasked}
use Rattle.ctl_rounds.proofs.CoverLaws.{is_the_cover}
use Rattle.ctl_rounds.proofs.analysis.analyse.Goals as goal

pub returns-in_err-transitions-clause-asked : goal.returns-in_err-transitions-clause-asked
returns-in_err-transitions-clause-asked g c =
    (0, omega (arith), unasked (λ adviser. (goal.Adviser-dyn g (adviser.vtable, adviser.value)).asked_of adviser.value) c.args.advisers.now.items, search rules)

pub returns-in_err-smaller-clause-asked : goal.returns-in_err-smaller-clause-asked
returns-in_err-smaller-clause-asked g c =
    (0, omega (arith), unasked (λ adviser. (goal.Adviser-dyn g (adviser.vtable, adviser.value)).asked_of adviser.value) c.args.advisers.now.items, search rules)

pub returns-clause-certified : goal.returns-clause-certified
returns-clause-certified g c =
    rw (c.certificate.ensures.parts, c.certificate.ensures.tops, c.in_ok-parts.ensures) c.in_ok-found.ensures.certified

pub returns-clause-asked : goal.returns-clause-asked
returns-clause-asked g c =
    let asked = c.in_ok-found.ensures.asked in
    (asked.0, asked.1, asked.2, c.certificate.ensures.turns ∙ asked.3)

pub returns-clause-turns : goal.returns-clause-turns
returns-clause-turns g c = λ advised cover is.
    let found = c.in_ok-found.found in
    let body = statements c.args.graph.now.body in
    let same : claims_of (option_map plan_of found.cover) ≡ cover =
    is_the_cover body found.tops.items (option_map plan_of found.cover) cover c.in_ok-found.ensures.covers
    (subst (λ tops. IsCover body tops cover) c.certificate.ensures.tops is) in
    elim (c.in_ok-found.ensures.turns advised) [
      | inl whole ↦ inl (subst IsWhole same whole)
      | inr turns ↦ inr (c.certificate.ensures.turns ∙ turns)
    ]

pub returns-clause-countdown : goal.returns-clause-countdown
returns-clause-countdown g c = λ formula counted cover is.
    let found = c.in_ok-found.found in
    let body = statements c.args.graph.now.body in
    subst IsWhole
    (is_the_cover body found.tops.items (option_map plan_of found.cover) cover c.in_ok-found.ensures.covers
    (subst (λ tops. IsCover body tops cover) c.certificate.ensures.tops is))
    (c.in_ok-found.ensures.countdown formula counted)

pub returns-clause-loopless : goal.returns-clause-loopless
returns-clause-loopless g c = λ formula free cover is.
    let found = c.in_ok-found.found in
    let body = statements c.args.graph.now.body in
    sym
    (ap rank_of
    (is_the_cover body found.tops.items (option_map plan_of found.cover) cover c.in_ok-found.ensures.covers
    (subst (λ tops. IsCover body tops cover) c.certificate.ensures.tops is)))
    ∙ c.in_ok-found.ensures.loopless formula free

pub returns-clause-ways : goal.returns-clause-ways
returns-clause-ways g c = λ formula counted little cover is.
    let found = c.in_ok-found.found in
    let body = statements c.args.graph.now.body in
    subst SmallWaysFit
    (is_the_cover body found.tops.items (option_map plan_of found.cover) cover c.in_ok-found.ensures.covers
    (subst (λ tops. IsCover body tops cover) c.certificate.ensures.tops is))
    (c.in_ok-found.ensures.ways formula counted little)

pub returns-clause-exact : goal.returns-clause-exact
returns-clause-exact g c = λ loopless free uncut begins cover is.
    let found = c.in_ok-found.found in
    let body = statements c.args.graph.now.body in
    subst (CoversInputs (length c.args.graph.now.names) body (ctl c.args.formula.now))
    (is_the_cover body found.tops.items (option_map plan_of found.cover) cover c.in_ok-found.ensures.covers
    (subst (λ tops. IsCover body tops cover) c.certificate.ensures.tops is))
    ((c.in_ok-found.ensures.exact loopless free).0 (subst (All IsUncut) (c.certificate.ensures.parts ∙ c.in_ok-parts.ensures) uncut)
    (subst (FirstIs (IsFitToBegin body)) c.certificate.ensures.tops begins))

pub returns-clause-narrow : goal.returns-clause-narrow
returns-clause-narrow g c = λ loopless free within cover is.
    let found = c.in_ok-found.found in
    let body = statements c.args.graph.now.body in
    subst (CoversInputs (length c.args.graph.now.names) body (ctl c.args.formula.now))
    (is_the_cover body found.tops.items (option_map plan_of found.cover) cover c.in_ok-found.ensures.covers
    (subst (λ tops. IsCover body tops cover) c.certificate.ensures.tops is))
    ((c.in_ok-found.ensures.exact loopless free).1 within)

pub returns-clause-narrow_ways : goal.returns-clause-narrow_ways
returns-clause-narrow_ways g c = λ loopless free within growth cover is.
    let found = c.in_ok-found.found in
    let body = statements c.args.graph.now.body in
    subst (FindsInputs (length c.args.graph.now.names) body (ctl c.args.formula.now))
    (is_the_cover body found.tops.items (option_map plan_of found.cover) cover c.in_ok-found.ensures.covers
    (subst (λ tops. IsCover body tops cover) c.certificate.ensures.tops is))
    ((c.in_ok-found.ensures.exact loopless free).2 within growth)

pub returns-clause-numbers : goal.returns-clause-numbers
returns-clause-numbers g c = λ loopless free within.
    let IsSuch = HasRowsWithin (ctl_growth (statements c.args.graph.now.body) (ctl c.args.formula.now)) in
    rw (c.certificate.ensures.parts, c.certificate.ensures.tops, c.in_ok-parts.ensures)
    (All-append IsSuch (all_of c.in_ok-smaller.smaller) c.in_ok-found.found.tops.items (c.in_ok-smaller.ensures.numbers loopless free within)
    (c.in_ok-found.ensures.numbers loopless free within))
