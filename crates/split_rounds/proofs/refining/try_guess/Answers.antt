use Rattle.std.proofs.Common.{refl}
use Rattle.ctl_formula.specs.Mirror.{ctl}
use Rattle.part_families.specs.Knowing.{told_on}
use Rattle.part_families.specs.Showing.{Shows}
use Rattle.split_rounds.proofs.Lengthening.{added, kept, labels_of}
use Rattle.split_rounds.proofs.refining.try_guess.Goals as goal

pub returns-in_err-family : goal.returns-in_err-family
returns-in_err-family g c =
    kept c.args.premises.now.graph.now (told_on g.D.NumDomain c.args.premises.now) (ctl c.args.formula.now) c.args.certificate.now c.args.certificate.now
    c.requires.certified refl refl refl

pub returns-in_default : goal.returns-in_default
returns-in_default g c =
    kept c.args.premises.now.graph.now (told_on g.D.NumDomain c.args.premises.now) (ctl c.args.formula.now) c.args.certificate.now c.args.certificate.now
    c.requires.certified refl refl refl

pub returns-in_err-add : goal.returns-in_err-add
returns-in_err-add g c =
    kept c.args.premises.now.graph.now (told_on g.D.NumDomain c.args.premises.now) (ctl c.args.formula.now) c.args.certificate.now c.add.new.self
    c.requires.certified c.add.ensures.parts c.in_err-add.ensures.kept c.add.ensures.turns

pub is_open-requires : goal.is_open-requires
is_open-requires g c =
    let shows : Shows c.args.premises.now.graph.now (told_on g.D.NumDomain c.args.premises.now) (ctl c.args.formula.now) 2 c.args.certificate.now.parts
    c.in-Some.family = rw c.in-Some.is at c.in_ok-family.ensures in
    let more = added c.args.premises.now.graph.now (told_on g.D.NumDomain c.args.premises.now) (ctl c.args.formula.now) c.requires.formula c.args.certificate.now
    c.add.new.self c.requires.certified c.in-Some.family shows c.add.ensures.parts c.in_ok-add.ensures.added c.add.ensures.turns in record {
      labels = labels_of c.args.premises.now.graph.now (told_on g.D.NumDomain c.args.premises.now) c.add.new.self.parts (ctl c.args.formula.now) c.add.new.self.tops
          more.certified;
    }

pub returns : goal.returns
returns g c =
    let shows : Shows c.args.premises.now.graph.now (told_on g.D.NumDomain c.args.premises.now) (ctl c.args.formula.now) 2 c.args.certificate.now.parts
    c.in-Some.family = rw c.in-Some.is at c.in_ok-family.ensures in
    added c.args.premises.now.graph.now (told_on g.D.NumDomain c.args.premises.now) (ctl c.args.formula.now) c.requires.formula c.args.certificate.now
    c.add.new.self c.requires.certified c.in-Some.family shows c.add.ensures.parts c.in_ok-add.ensures.added c.add.ensures.turns
