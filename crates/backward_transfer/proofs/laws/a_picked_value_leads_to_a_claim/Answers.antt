use Rattle.backward_transfer.proofs.PickedLeaves.{picked_claim}
use Rattle.backward_transfer.proofs.laws.a_picked_value_leads_to_a_claim.Goals as goal

pub returns : goal.returns
returns g c plan place lo hi store why rank low long own =
    picked_claim g.R.PartialEq.eq g.met.R.Rank.equal_law g.R.Rank.where_greater g.R.Rank.greater_fits g.R.Rank.substituted g.R.Rank.one_more
    c.either_has_the_first_defined_leaf.ensures.first c.either_has_the_first_defined_leaf.ensures.second c.either_has_the_first_defined_leaf.ensures.neither
    lo hi place plan store low long why rank own
