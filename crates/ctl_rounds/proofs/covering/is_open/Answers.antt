use Rattle.std.proofs.Common.{◌≡◌, true, false}
use Rattle.std.proofs.lemmas.Bool.{false≢true}
use Rattle.decision_tree.specs.Plans.{plan_of}
use Rattle.ctl_rounds.proofs.covering.is_open.Goals as goal

pub returns : goal.returns
returns c = λ leaves. (
  plan_of c.in_ok-cover.cover,
  c.in_ok-cover.ensures,
  λ whole. let no : false ≡ true = rw (c.is_whole.ensures.1 whole) at leaves in absurd (false≢true no),
)
