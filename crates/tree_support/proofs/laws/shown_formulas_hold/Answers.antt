use Rattle.tree_support.proofs.Soundness.{sound, sound_within}
use Rattle.tree_support.proofs.laws.shown_formulas_hold.Goals as goal

pub returns : goal.returns
returns c = record { satisfied = sound; bounded = sound_within }
