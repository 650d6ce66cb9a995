use Rattle.std.proofs.Common.{true, []}
use Rattle.decision_tree.specs.Evaluation.{eval}
use Rattle.tree_widening.proofs.Widened.{at_most, held_at}
use Rattle.tree_widening.proofs.laws.a_claim_that_stays_bounds_the_newer_one.Goals as goal

pub returns : goal.returns
returns g c old new made store why rank is stands stays =
    at_most g.R.PartialEq.eq g.met.R.Rank.equal_law g.R.Rank g.R.Extrapolates.raised new old (eval made store) store why rank (held_at g.R.PartialEq.eq g.met.R.Rank.equal_law g.R.Rank g.R.Extrapolates.raised new old true [] old made store why rank is stands) stays
