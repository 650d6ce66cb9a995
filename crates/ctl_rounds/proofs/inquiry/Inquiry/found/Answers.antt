use Rattle.std.proofs.Common.{inl, length, option_map, refl, rules, arith}
use Rattle.decision_tree.specs.Plans.{plan_of}
use Rattle.part_families.specs.Showing.{all_of}
use Rattle.ctl_rounds.proofs.Asking.{unasked}
use Rattle.step_meaning.specs.Syntax.{statements}
use Rattle.ctl_formula.specs.Mirror.{ctl}
use Rattle.ctl_rounds.specs.Covers.{claims_of}
use Rattle.part_families.specs.Families.{IsFamilyFor}
use Rattle.ctl_rounds.specs.Finding.{IsTop}
use Rattle.ctl_rounds.proofs.Exactly.{first_covers, first_covers_narrowly, first_finds_narrowly, first_of, whole_defined}
use Rattle.count_down.proofs.Leads.{all_weaken}
use Rattle.formula_measures.specs.Measures.{ctl_growth}
use Rattle.ctl_rounds.proofs.Certifying.{certified}
use Rattle.part_families.proofs.Numbers.{more_rows}
use Rattle.ctl_rounds.proofs.Single.{only_rows}
use Rattle.ctl_rounds.proofs.inquiry.Inquiry.found.Goals as goal

pub returns-in_err-family-clause-asked : goal.returns-in_err-family-clause-asked
returns-in_err-family-clause-asked g c =
    (0, omega (arith), unasked (λ adviser. (goal.Adviser-dyn g (adviser.vtable, adviser.value)).asked_of adviser.value) c.args.advisers.now.items, search rules)

pub returns-in_err-counted-in-Some-clause-asked : goal.returns-in_err-counted-in-Some-clause-asked
returns-in_err-counted-in-Some-clause-asked g c =
    (0, omega (arith), unasked (λ adviser. (goal.Adviser-dyn g (adviser.vtable, adviser.value)).asked_of adviser.value) c.args.advisers.now.items, search rules)

pub returns-in_ok-counted-in-Some-clause-asked : goal.returns-in_ok-counted-in-Some-clause-asked
returns-in_ok-counted-in-Some-clause-asked g c = (
  0,
  omega (arith),
  unasked (λ adviser. (goal.Adviser-dyn g (adviser.vtable, adviser.value)).asked_of adviser.value) c.args.advisers.now.items,
  c.in_ok-counted-in-Some.ensures.turns,
)

pub returns-in_ok-counted-in-Some-clause-certified : goal.returns-in_ok-counted-in-Some-clause-certified
returns-in_ok-counted-in-Some-clause-certified g c =
    let inquiry = c.args.self.now in
    let found = c.in_ok-counted-in-Some.field-0 in
    certified g.D.NumDomain inquiry c.requires.inquiry (all_of inquiry.smaller.now) refl found.tops.items (option_map plan_of found.cover)
    c.in_ok-counted-in-Some.ensures.found c.in_ok-counted-in-Some.ensures.some

pub returns-in_ok-counted-in-Some-clause-covers : goal.returns-in_ok-counted-in-Some-clause-covers
returns-in_ok-counted-in-Some-clause-covers g c = c.in_ok-counted-in-Some.ensures.found.firsts

pub returns-in_ok-sought-in-None-clause-certified : goal.returns-in_ok-sought-in-None-clause-certified
returns-in_ok-sought-in-None-clause-certified g c =
    let inquiry = c.args.self.now in
    let found = c.in_ok-sought-in-None.field-0 in
    certified g.D.NumDomain inquiry c.requires.inquiry (all_of inquiry.smaller.now) refl found.tops.items (option_map plan_of found.cover)
    c.in_ok-sought-in-None.ensures.found c.in_ok-sought-in-None.ensures.some

pub returns-in_ok-sought-in-None-clause-covers : goal.returns-in_ok-sought-in-None-clause-covers
returns-in_ok-sought-in-None-clause-covers g c = c.in_ok-sought-in-None.ensures.found.firsts

pub returns-in_ok-counted-in-Some-clause-exact : goal.returns-in_ok-counted-in-Some-clause-exact
returns-in_ok-counted-in-Some-clause-exact g c loopless free =
    let cover = claims_of (option_map plan_of c.in_ok-counted-in-Some.field-0.cover) in (
      (λ uncut begins input is sat. whole_defined input cover c.in_ok-counted-in-Some.ensures.whole),
      (λ within input is sat. whole_defined input cover c.in_ok-counted-in-Some.ensures.whole),
      (λ within growth input is small sat. c.in_ok-counted-in-Some.ensures.ways (inl loopless.free) input small),
    )

pub returns-in_ok-sought-in-None-clause-exact : goal.returns-in_ok-sought-in-None-clause-exact
returns-in_ok-sought-in-None-clause-exact g c loopless free =
    let inquiry = c.args.self.now in
    let program = inquiry.premises.now.graph.now in
    let found = c.in_ok-sought-in-None.field-0 in
    let begins = c.in_ok-sought-in-None.ensures.exact loopless free in (
      (λ uncut fit. first_covers (length program.names) (statements program.body) (ctl inquiry.formula.now) found.tops.items (option_map plan_of found.cover)
          (begins.0 uncut) fit
          (first_of (IsTop g.D.NumDomain inquiry) (IsFamilyFor (length program.names) (statements program.body)) (λ family top. top.fits) found.tops.items
          c.in_ok-sought-in-None.ensures.some c.in_ok-sought-in-None.ensures.found.families) c.in_ok-sought-in-None.ensures.found.firsts),
      (λ within. first_covers_narrowly (length program.names) (statements program.body) (ctl inquiry.formula.now) found.tops.items (option_map plan_of found.cover) within
          (begins.1 within) c.in_ok-sought-in-None.ensures.found.firsts),
      (λ within growth. first_finds_narrowly (length program.names) (statements program.body) (ctl inquiry.formula.now) found.tops.items (option_map plan_of found.cover) within
          growth (begins.1 within) c.in_ok-sought-in-None.ensures.found.firsts),
    )

pub returns-in_ok-sought-in-None-clause-ways : goal.returns-in_ok-sought-in-None-clause-ways
returns-in_ok-sought-in-None-clause-ways g c = λ formula counted little.
    let none = rw c.in-None.is at c.in_ok-family.ensures.none in
    absurd (none formula counted)

pub returns-in_ok-counted-in-Some-clause-numbers : goal.returns-in_ok-counted-in-Some-clause-numbers
returns-in_ok-counted-in-Some-clause-numbers g c loopless free within =
    let inquiry = c.args.self.now in
    more_rows 0 (ctl_growth (statements inquiry.premises.now.graph.now.body) (ctl inquiry.formula.now)) (omega arith)
    c.in_ok-counted-in-Some.field-0.tops.items (c.in_ok-counted-in-Some.ensures.numbers loopless.free)

pub returns-in_ok-sought-in-None-clause-numbers : goal.returns-in_ok-sought-in-None-clause-numbers
returns-in_ok-sought-in-None-clause-numbers g c loopless free within =
    let inquiry = c.args.self.now in
    let program = inquiry.premises.now.graph.now in
    let found = c.in_ok-sought-in-None.field-0 in
    only_rows (length program.names) (statements program.body) (ctl inquiry.formula.now) found.tops.items (c.in_ok-sought-in-None.ensures.alone loopless)
    (all_weaken (IsTop g.D.NumDomain inquiry) (IsFamilyFor (length program.names) (statements program.body)) found.tops.items (λ family top. top.fits)
    c.in_ok-sought-in-None.ensures.found.families)
    ((c.in_ok-sought-in-None.ensures.exact loopless free).1 within)
