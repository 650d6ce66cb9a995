use Rattle.std.proofs.Common.{subst}
use Rattle.report_text.specs.Fitting.{AreLeft}
use Rattle.report_text.specs.Leaves.{claiming}
use Rattle.report_text.proofs.fitting.listed.Goals as goal

pub returns : goal.returns
returns c = record {
  lines = c.in_ok-lines.field-0;
  lines_of = c.in_ok-lines.ensures;
  claimed = c.in_ok-fits.ensures.claiming;
  left = subst (λ lines. AreLeft c.args.vars lines c.in_ok-unknown.unknown) c.in_ok-fits.ensures.nothing c.in_ok-unknown.ensures;
}
