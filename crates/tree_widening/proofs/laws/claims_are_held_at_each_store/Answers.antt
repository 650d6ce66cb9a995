use Rattle.std.proofs.Common.{true, []}
use Rattle.tree_widening.proofs.Widened.{given_up_at, held_at}
use Rattle.tree_widening.proofs.laws.claims_are_held_at_each_store.Goals as goal

pub returns-clause-claims : goal.returns-clause-claims
returns-clause-claims g c old new made store why rank is stands = held_at g.R.PartialEq.eq g.met.R.Rank.equal_law g.R.Rank g.R.Extrapolates.raised new old true [] old made store why rank is stands

pub returns-clause-given_up : goal.returns-clause-given_up
returns-clause-given_up g c old new made store cause is stands = given_up_at g.R.PartialEq.eq g.met.R.Rank.equal_law g.R.Rank g.R.Extrapolates.raised new old true [] old made store cause is stands
