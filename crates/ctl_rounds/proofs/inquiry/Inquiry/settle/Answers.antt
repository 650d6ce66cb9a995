use Rattle.std.proofs.Common.{sym, ◌∙◌}
use Rattle.std.proofs.lemmas.Bool.{false≢true}
use Rattle.ctl_rounds.proofs.inquiry.Inquiry.settle.Goals as goal

pub returns-clause-whole : goal.returns-clause-whole
returns-clause-whole g c whole = absurd (false≢true (sym c.if-is_whole.false ∙ c.is_whole.ensures.1 whole))
