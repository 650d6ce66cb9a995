use Rattle.std.proofs.Common.{refl}
use Rattle.linear_cons.proofs.KindLaws.{row_kind_unique}
use Rattle.decision_tree.proofs.rank.Comparison.only.Goals as goal

pub returns : goal.returns
returns c = rw (row_kind_unique c.args.a c.of.result c.of.ensures.normal) refl
