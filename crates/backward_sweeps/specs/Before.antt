-- The tree before what is done at a label, by the trees of the labels that follow.
use Rattle.std.specs.Prelude.{Bool, true, false}
use Rattle.decision_tree.specs.Plans.{Plan}
use Rattle.decision_tree.specs.declared.affine_rank.AffineRank.{AffineRank}
use Rattle.backward_sweeps.specs.Moving.{AllFit, AreAllSmall, before_all}
use Rattle.backward_sweeps.specs.Picking.{AreSomeSmall, SomeFit, before_some}
use Rattle.control_flow.specs.declared.transition.Transition.{Transition}

-- the tree for all next states, or for some
abbrev pub before : Bool → Transition → Plan AffineRank → Plan AffineRank → Plan AffineRank
before true transition this that = before_all transition this that
before false transition this that = before_some transition this that

-- each tree that is formed on the way has at most 65,536 nodes
abbrev pub IsBeforeSmall : Bool → Transition → Plan AffineRank → Plan AffineRank → Type 0
IsBeforeSmall true transition this that = AreAllSmall transition this that
IsBeforeSmall false transition this that = AreSomeSmall transition this that

-- each function, rank, difference of ranks and complement that is formed on the way fits
abbrev pub BeforeFits : Bool → Transition → Plan AffineRank → Plan AffineRank → Type 0
BeforeFits true transition this that = AllFit transition this that
BeforeFits false transition this that = SomeFit transition this that
