use Rattle.std.proofs.Common.{inr, refl, sym, ◌∙◌}
use Rattle.std.proofs.lemmas.Bool.{false≢true}
use Rattle.control_flow.specs.Told.{Told, told_by}
use Rattle.ctl_formula.specs.Mirror.{ctl}
use Rattle.split_rounds.proofs.Lengthening.{kept, labels_of}
use Rattle.split_rounds.proofs.refining.refine.Goals as goal

pub is_open-requires : goal.is_open-requires
is_open-requires g c =
    let told : Told = told_by g.D.NumDomain.told_bounds g.D.NumDomain.told_rows g.D.NumDomain.seen_empty c.args.inv.now in record {
      labels = labels_of c.args.graph.now told c.args.certificate.now.parts (ctl c.args.formula.now) c.args.certificate.now.tops c.requires.certified;
    }

pub returns-then-not-is_af_exit-clause-refined : goal.returns-then-not-is_af_exit-clause-refined
returns-then-not-is_af_exit-clause-refined g c =
    let told : Told = told_by g.D.NumDomain.told_bounds g.D.NumDomain.told_rows g.D.NumDomain.seen_empty c.args.inv.now in
    kept c.args.graph.now told (ctl c.args.formula.now) c.args.certificate.now c.args.certificate.now c.requires.certified refl refl refl

pub returns-in_err-is_open-clause-refined : goal.returns-in_err-is_open-clause-refined
returns-in_err-is_open-clause-refined g c =
    let told : Told = told_by g.D.NumDomain.told_bounds g.D.NumDomain.told_rows g.D.NumDomain.seen_empty c.args.inv.now in
    kept c.args.graph.now told (ctl c.args.formula.now) c.args.certificate.now c.args.certificate.now c.requires.certified refl refl refl

pub returns-then-not-branch-clause-refined : goal.returns-then-not-branch-clause-refined
returns-then-not-branch-clause-refined g c =
    let told : Told = told_by g.D.NumDomain.told_bounds g.D.NumDomain.told_rows g.D.NumDomain.seen_empty c.args.inv.now in
    kept c.args.graph.now told (ctl c.args.formula.now) c.args.certificate.now c.args.certificate.now c.requires.certified refl refl refl

pub returns-in_err-transitions-clause-refined : goal.returns-in_err-transitions-clause-refined
returns-in_err-transitions-clause-refined g c =
    let told : Told = told_by g.D.NumDomain.told_bounds g.D.NumDomain.told_rows g.D.NumDomain.seen_empty c.args.inv.now in
    kept c.args.graph.now told (ctl c.args.formula.now) c.args.certificate.now c.args.certificate.now c.requires.certified refl refl refl

pub returns-then-not-has_loop-clause-refined : goal.returns-then-not-has_loop-clause-refined
returns-then-not-has_loop-clause-refined g c =
    let told : Told = told_by g.D.NumDomain.told_bounds g.D.NumDomain.told_rows g.D.NumDomain.seen_empty c.args.inv.now in
    kept c.args.graph.now told (ctl c.args.formula.now) c.args.certificate.now c.args.certificate.now c.requires.certified refl refl refl

pub returns-clause-whole : goal.returns-clause-whole
returns-clause-whole g c = inr (c.in_ok-is_open.ensures c.if-not-branch.false)

pub returns-clause-loopless : goal.returns-clause-loopless
returns-clause-loopless g c = λ loopless. absurd (false≢true (sym (c.has_loop.ensures loopless) ∙ c.if-not-has_loop.false))
