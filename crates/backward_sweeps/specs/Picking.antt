-- The tree before what is done at a label, for some next state: the outcome of a free test and the number of a range are picked.
use Rattle.std.specs.Prelude.{ℤ, Option}
use Rattle.control_flow.specs.declared.edge.Choice.{Choice}
use Rattle.control_flow.specs.declared.edge.Choice.TheVariants.{Branch, None as NoChoice, Range}
use Rattle.decision_tree.specs.Plans.{Plan}
use Rattle.decision_tree.specs.declared.affine_rank.AffineRank.{AffineRank}
use Rattle.backward_transfer.specs.AffineShapes.{CutFits, affine_ranks, chosen_shape, cut, picked_shape, same_rank}
use Rattle.backward_transfer.specs.Chosen.{IsSomeSmall, SomeFits}
use Rattle.backward_transfer.specs.Picks.{ArePicksSmall, PickFits}
use Rattle.backward_transfer.specs.Values.{RootsFit, tried_values}
use Rattle.control_flow.specs.Transitions.{choice_in}
use Rattle.backward_sweeps.specs.Moving.{AllFit, AreAllSmall, before_all}
use Rattle.control_flow.specs.declared.transition.Transition.{Transition}
use Rattle.control_flow.specs.declared.transition.Transition.TheVariants.{Choose, Test}

-- before a test of which one outcome is picked; all else is as for all next states
abbrev pub before_outcome : Transition → Plan AffineRank → Plan AffineRank → Plan AffineRank
before_outcome (Test head choice holds fails to other) this that = cut (picked_shape this that)
before_outcome transition this that = before_all transition this that

-- before the assignment of a number between the ends of which one is picked; all else is as for all next states
abbrev pub before_value : Option ℤ → Option ℤ → Transition → Plan AffineRank → Plan AffineRank → Plan AffineRank
before_value lo hi (Choose place range choice cases to) this that = cut (chosen_shape lo hi place.number this)
before_value lo hi transition this that = before_all transition this that

-- by what may be chosen
abbrev pub before_choice : Choice → Transition → Plan AffineRank → Plan AffineRank → Plan AffineRank
before_choice NoChoice transition this that = before_all transition this that
before_choice Branch transition this that = before_outcome transition this that
before_choice (Range lo hi) transition this that = before_value lo hi transition this that

abbrev pub before_some : Transition → Plan AffineRank → Plan AffineRank → Plan AffineRank
before_some transition this that = before_choice (choice_in transition) transition this that

-- each tree that is formed on the way has at most 65,536 nodes
abbrev pub AreOutcomesSmall : Transition → Plan AffineRank → Plan AffineRank → Type 0
AreOutcomesSmall (Test head choice holds fails to other) this that =
    ArePicksSmall same_rank affine_ranks.where_greater affine_ranks.greater_fits affine_ranks.one_more 65536 this that
AreOutcomesSmall transition this that = AreAllSmall transition this that

abbrev pub AreValuesSmall : Option ℤ → Option ℤ → Transition → Plan AffineRank → Plan AffineRank → Type 0
AreValuesSmall lo hi (Choose place range choice cases to) this that =
    IsSomeSmall same_rank affine_ranks.where_greater affine_ranks.greater_fits affine_ranks.substituted affine_ranks.one_more 65536
    lo hi place.number this (tried_values lo hi place.number this)
AreValuesSmall lo hi transition this that = AreAllSmall transition this that

abbrev pub AreChoicesSmall : Choice → Transition → Plan AffineRank → Plan AffineRank → Type 0
AreChoicesSmall NoChoice transition this that = AreAllSmall transition this that
AreChoicesSmall Branch transition this that = AreOutcomesSmall transition this that
AreChoicesSmall (Range lo hi) transition this that = AreValuesSmall lo hi transition this that

abbrev pub AreSomeSmall : Transition → Plan AffineRank → Plan AffineRank → Type 0
AreSomeSmall transition this that = AreChoicesSmall (choice_in transition) transition this that

-- each function, rank and complement that is formed on the way fits
abbrev pub OutcomesFit : Transition → Plan AffineRank → Plan AffineRank → Type 0
OutcomesFit (Test head choice holds fails to other) this that =
    PickFits same_rank affine_ranks.where_greater affine_ranks.greater_fits affine_ranks.one_more affine_ranks.add_one_fits this that
    × CutFits (picked_shape this that)
OutcomesFit transition this that = AllFit transition this that

abbrev pub ValuesFit : Option ℤ → Option ℤ → Transition → Plan AffineRank → Plan AffineRank → Type 0
ValuesFit lo hi (Choose place range choice cases to) this that =
    RootsFit place.number this
    × SomeFits same_rank affine_ranks.where_greater affine_ranks.greater_fits affine_ranks.substituted affine_ranks.one_more
    affine_ranks.subst_fits affine_ranks.add_one_fits lo hi place.number this (tried_values lo hi place.number this)
    × CutFits (chosen_shape lo hi place.number this)
ValuesFit lo hi transition this that = AllFit transition this that

abbrev pub ChoicesFit : Choice → Transition → Plan AffineRank → Plan AffineRank → Type 0
ChoicesFit NoChoice transition this that = AllFit transition this that
ChoicesFit Branch transition this that = OutcomesFit transition this that
ChoicesFit (Range lo hi) transition this that = ValuesFit lo hi transition this that

abbrev pub SomeFit : Transition → Plan AffineRank → Plan AffineRank → Type 0
SomeFit transition this that = ChoicesFit (choice_in transition) transition this that
