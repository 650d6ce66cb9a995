use Rattle.std.proofs.Common.{◌≡◌, ℕ, Err, IfOk}
use Rattle.linear_cons.specs.declared.exact.Wide.{Wide}
use Rattle.decision_tree.specs.Plans.{plan_of}
use Rattle.tree_unify.specs.declared.fault.TreeFault.TheVariants.{Full as TooFull, Wide as TooWide}
use Rattle.control_flow.specs.declared.transition.Transition.TheVariants.{Test}
use Rattle.backward_sweeps.specs.Picking.{AreOutcomesSmall, OutcomesFit, before_outcome}
use Rattle.backward_sweeps.proofs.Reading.{two_carry}
use Rattle.backward_sweeps.proofs.moving.with_outcome.Goals as goal

pub returns-in-Test-clause-tree : goal.returns-in-Test-clause-tree
returns-in-Test-clause-tree c =
    two_carry c.args.trees.now (Test c.in-Test.is_head c.in-Test.choice c.in-Test.holds c.in-Test.fails c.in-Test.yes c.in-Test.no) c.args.transition.now c.in-Test.is c.index-trees-yes.result c.index-trees-yes.is c.index-trees-no.result c.index-trees-no.is c.requires
    (λ a this that. IfOk c.back_pick.result (λ tree. plan_of tree ≡ before_outcome a this that)) c.back_pick.ensures.tree

pub returns-in-Test-clause-full : goal.returns-in-Test-clause-full
returns-in-Test-clause-full c =
    two_carry c.args.trees.now (Test c.in-Test.is_head c.in-Test.choice c.in-Test.holds c.in-Test.fails c.in-Test.yes c.in-Test.no) c.args.transition.now c.in-Test.is c.index-trees-yes.result c.index-trees-yes.is c.index-trees-no.result c.index-trees-no.is c.requires
    (λ a this that. (count : ℕ) → c.back_pick.result ≡ Err (TooFull count) → AreOutcomesSmall a this that → ⊥)
    (λ count is small. (c.back_pick.ensures.full count is).1 small)

pub returns-in-Test-clause-wide : goal.returns-in-Test-clause-wide
returns-in-Test-clause-wide c =
    two_carry c.args.trees.now (Test c.in-Test.is_head c.in-Test.choice c.in-Test.holds c.in-Test.fails c.in-Test.yes c.in-Test.no) c.args.transition.now c.in-Test.is c.index-trees-yes.result c.index-trees-yes.is c.index-trees-no.result c.index-trees-no.is c.requires
    (λ a this that. (w : Wide) → c.back_pick.result ≡ Err (TooWide w) → OutcomesFit a this that → ⊥)
    (λ w is fits. c.back_pick.ensures.wide w is fits.0 fits.1)
