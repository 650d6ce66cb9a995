use Rattle.linear_forms.proofs.Counts.{spread_length}
use Rattle.linear_forms.proofs.SpreadCovering.{spread_covers}
use Rattle.linear_forms.proofs.SpreadExactness.{spread_exact}
use Rattle.linear_forms.proofs.laws.spreadings_cover.Goals as goal

pub returns : goal.returns
returns c = record { cover = spread_covers; exact = spread_exact; count = spread_length }
