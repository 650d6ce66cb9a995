use Rattle.decision_tree.proofs.Standing.{eval_is, met_below, standing}
use Rattle.decision_tree.proofs.laws.stores_stand_where_they_meet_the_path.Goals as goal

pub returns : goal.returns
returns g c = record { numbered = met_below; leaf = eval_is; path = standing }
