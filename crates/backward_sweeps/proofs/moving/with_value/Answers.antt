use Rattle.std.proofs.Common.{◌≡◌, ℕ, Err, IfOk, refl}
use Rattle.linear_cons.specs.declared.exact.Wide.{Wide}
use Rattle.decision_tree.specs.Plans.{plan_of}
use Rattle.tree_unify.specs.declared.fault.TreeFault.TheVariants.{Full as TooFull, Wide as TooWide}
use Rattle.control_flow.specs.declared.transition.Transition.TheVariants.{Choose}
use Rattle.backward_sweeps.specs.Picking.{AreValuesSmall, ValuesFit, before_value}
use Rattle.backward_sweeps.proofs.Reading.{one_carries}
use Rattle.backward_sweeps.proofs.moving.with_value.Goals as goal

pub returns-in-Choose-clause-tree : goal.returns-in-Choose-clause-tree
returns-in-Choose-clause-tree c =
    one_carries c.args.trees.now (Choose c.in-Choose.place c.in-Choose.range c.in-Choose.choice c.in-Choose.cases c.in-Choose.to) c.args.transition.now c.in-Choose.is c.index-trees-to.result c.index-trees-to.is refl c.requires
    (λ a this that. IfOk c.back_some.result (λ tree. plan_of tree ≡ before_value c.args.lo c.args.hi a this that)) c.back_some.ensures.tree

pub returns-in-Choose-clause-full : goal.returns-in-Choose-clause-full
returns-in-Choose-clause-full c =
    one_carries c.args.trees.now (Choose c.in-Choose.place c.in-Choose.range c.in-Choose.choice c.in-Choose.cases c.in-Choose.to) c.args.transition.now c.in-Choose.is c.index-trees-to.result c.index-trees-to.is refl c.requires
    (λ a this that. (count : ℕ) → c.back_some.result ≡ Err (TooFull count) → AreValuesSmall c.args.lo c.args.hi a this that → ⊥)
    (λ count is small. (c.back_some.ensures.full count is).1 small)

pub returns-in-Choose-clause-wide : goal.returns-in-Choose-clause-wide
returns-in-Choose-clause-wide c =
    one_carries c.args.trees.now (Choose c.in-Choose.place c.in-Choose.range c.in-Choose.choice c.in-Choose.cases c.in-Choose.to) c.args.transition.now c.in-Choose.is c.index-trees-to.result c.index-trees-to.is refl c.requires
    (λ a this that. (w : Wide) → c.back_some.result ≡ Err (TooWide w) → ValuesFit c.args.lo c.args.hi a this that → ⊥)
    (λ w is fits. c.back_some.ensures.wide w is fits.0 fits.1 fits.2)
