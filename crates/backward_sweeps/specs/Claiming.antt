-- Claims that are taken over from another part, with ranks counted anew.
use Rattle.std.specs.Prelude.{Option, None, Some}
use Rattle.decision_tree.specs.Nodes.{node}
use Rattle.decision_tree.specs.Plans.{Plan, branch, leaf}
use Rattle.decision_tree.specs.declared.affine_rank.AffineRank.{AffineRank}
use Rattle.decision_tree.specs.declared.reason.Why.{Why}
use Rattle.backward_transfer.specs.AffineShapes.{same_rank}
use Rattle.backward_sweeps.specs.Moving.{at_once}

-- the reason that is given, or else the leaf's own
abbrev pub reason : Option Why → Why → Why
reason (Some given) own = given
reason None own = own

-- each claim of the tree with the rank 0, for the reason that is given or else for its own
abbrev pub taken_over : Option Why → Plan AffineRank → Plan AffineRank
taken_over why (branch row this that) = node same_rank row (taken_over why this) (taken_over why that)
taken_over why (leaf own rank) = at_once (reason why own)
taken_over why end = end

-- the claims of the tree for this reason, and for their own
abbrev pub claimed : Why → Plan AffineRank → Plan AffineRank
claimed why plan = taken_over (Some why) plan

abbrev pub reranked : Plan AffineRank → Plan AffineRank
reranked plan = taken_over None plan
