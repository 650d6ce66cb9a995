use Rattle.std.proofs.Common.{refl}
use Rattle.ctl_formula.specs.Mirror.{ctl}
use Rattle.part_families.specs.Knowing.{told_on}
use Rattle.split_rounds.proofs.Lengthening.{kept, refined_again}
use Rattle.split_rounds.proofs.refining.by_guesses.Goals as goal

pub loop-guess-init : goal.loop-guess-init
loop-guess-init g c =
    kept c.args.premises.now.graph.now (told_on g.D.NumDomain c.args.premises.now) (ctl c.args.formula.now) c.args.certificate.now c.args.certificate.now
    c.requires.certified refl refl refl

pub loop-guess-preserved : goal.loop-guess-preserved
loop-guess-preserved g c =
    refined_again c.args.premises.now.graph.now (told_on g.D.NumDomain c.args.premises.now) (ctl c.args.formula.now) c.args.certificate.now c.loop-guess.certificate
    c.try_guess.new.certificate c.loop-guess.invariant c.try_guess.ensures
