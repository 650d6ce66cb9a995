use Rattle.octagon_dom.proofs.EndSums.{sum_is}
use Rattle.octagon_dom.proofs.cells.sum.Goals as goal

pub returns : goal.returns
returns c = sum_is c.args.left c.args.right c.plus.result c.plus.ensures
