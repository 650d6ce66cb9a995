use Rattle.decision_tree.specs.Plans.{plan_of}
use Rattle.report_text.proofs.fitting.fit_lines.Goals as goal

pub returns : goal.returns
returns c = record { made = plan_of c.in_ok-merged.merged; made_of = c.in_ok-merged.ensures.made; lists = c.in_ok-parts.ensures }
