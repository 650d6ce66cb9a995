use Rattle.std.proofs.Common.{◌≡◌, ℕ, Err, IfOk, sym, subst, refl, arith}
use Rattle.linear_cons.specs.declared.exact.Wide.{Wide}
use Rattle.decision_tree.specs.Plans.{plan_of}
use Rattle.tree_unify.specs.declared.fault.TreeFault.TheVariants.{Full as TooFull, Wide as TooWide}
use Rattle.control_flow.specs.declared.transition.Transition.TheVariants.{Assign, Choose, Pass, Test}
use Rattle.backward_transfer.specs.AffineShapes.{cut, tested_shape}
use Rattle.backward_sweeps.specs.Moving.{AllFit, AreAllSmall, AreTestsSmall, TestsFit, before_all}
use Rattle.backward_sweeps.proofs.Reading.{one_carries, two_carry}
use Rattle.backward_sweeps.proofs.moving.for_all.Goals as goal

pub returns-in_ok-tree-in-Dead-clause-tree : goal.returns-in_ok-tree-in-Dead-clause-tree
returns-in_ok-tree-in-Dead-clause-tree c = rw c.in-Dead.is c.in_ok-tree-in-Dead.ensures

pub returns-in-Pass-clause-tree : goal.returns-in-Pass-clause-tree
returns-in-Pass-clause-tree c =
    one_carries c.args.trees.now (Pass c.in-Pass.to) c.args.transition.now c.in-Pass.is c.index-trees-to.result c.index-trees-to.is refl c.requires
    (λ a this that. IfOk c.back_skip.result (λ tree. plan_of tree ≡ before_all a this that)) c.back_skip.ensures.tree

pub returns-in-Pass-clause-full : goal.returns-in-Pass-clause-full
returns-in-Pass-clause-full c =
    one_carries c.args.trees.now (Pass c.in-Pass.to) c.args.transition.now c.in-Pass.is c.index-trees-to.result c.index-trees-to.is refl c.requires
    (λ a this that. (count : ℕ) → c.back_skip.result ≡ Err (TooFull count) → AreAllSmall a this that → ⊥)
    (λ count is small. let large = (c.back_skip.ensures.full count is).1 in absurd (omega (arith, large, small)))

pub returns-in-Pass-clause-wide : goal.returns-in-Pass-clause-wide
returns-in-Pass-clause-wide c =
    one_carries c.args.trees.now (Pass c.in-Pass.to) c.args.transition.now c.in-Pass.is c.index-trees-to.result c.index-trees-to.is refl c.requires
    (λ a this that. (w : Wide) → c.back_skip.result ≡ Err (TooWide w) → AllFit a this that → ⊥)
    (λ w is fits. c.back_skip.ensures.wide w is fits.0 fits.1)

pub returns-in-Assign-clause-tree : goal.returns-in-Assign-clause-tree
returns-in-Assign-clause-tree c =
    one_carries c.args.trees.now (Assign c.in-Assign.place c.in-Assign.value c.in-Assign.to) c.args.transition.now c.in-Assign.is c.index-trees-to-in-Assign.result c.index-trees-to-in-Assign.is refl c.requires
    (λ a this that. IfOk c.back_assign.result (λ tree. plan_of tree ≡ before_all a this that)) c.back_assign.ensures.tree

pub returns-in-Assign-clause-full : goal.returns-in-Assign-clause-full
returns-in-Assign-clause-full c =
    one_carries c.args.trees.now (Assign c.in-Assign.place c.in-Assign.value c.in-Assign.to) c.args.transition.now c.in-Assign.is c.index-trees-to-in-Assign.result c.index-trees-to-in-Assign.is refl c.requires
    (λ a this that. (count : ℕ) → c.back_assign.result ≡ Err (TooFull count) → AreAllSmall a this that → ⊥)
    (λ count is small. let large = (c.back_assign.ensures.full count is).1 in absurd (omega (arith, large, small)))

pub returns-in-Assign-clause-wide : goal.returns-in-Assign-clause-wide
returns-in-Assign-clause-wide c =
    one_carries c.args.trees.now (Assign c.in-Assign.place c.in-Assign.value c.in-Assign.to) c.args.transition.now c.in-Assign.is c.index-trees-to-in-Assign.result c.index-trees-to-in-Assign.is refl c.requires
    (λ a this that. (w : Wide) → c.back_assign.result ≡ Err (TooWide w) → AllFit a this that → ⊥)
    (λ w is fits. c.back_assign.ensures.wide w is fits.0 fits.1)

pub returns-in-Choose-clause-tree : goal.returns-in-Choose-clause-tree
returns-in-Choose-clause-tree c =
    one_carries c.args.trees.now (Choose c.in-Choose.place c.in-Choose.range c.in-Choose.choice c.in-Choose.cases c.in-Choose.to) c.args.transition.now c.in-Choose.is c.index-trees-to-in-Choose.result c.index-trees-to-in-Choose.is refl c.requires
    (λ a this that. IfOk c.back_range.result (λ tree. plan_of tree ≡ before_all a this that)) c.back_range.ensures.tree

pub returns-in-Choose-clause-full : goal.returns-in-Choose-clause-full
returns-in-Choose-clause-full c =
    one_carries c.args.trees.now (Choose c.in-Choose.place c.in-Choose.range c.in-Choose.choice c.in-Choose.cases c.in-Choose.to) c.args.transition.now c.in-Choose.is c.index-trees-to-in-Choose.result c.index-trees-to-in-Choose.is refl c.requires
    (λ a this that. (count : ℕ) → c.back_range.result ≡ Err (TooFull count) → AreAllSmall a this that → ⊥)
    (λ count is small. (c.back_range.ensures.full count is).1 small)

pub returns-in-Choose-clause-wide : goal.returns-in-Choose-clause-wide
returns-in-Choose-clause-wide c =
    one_carries c.args.trees.now (Choose c.in-Choose.place c.in-Choose.range c.in-Choose.choice c.in-Choose.cases c.in-Choose.to) c.args.transition.now c.in-Choose.is c.index-trees-to-in-Choose.result c.index-trees-to-in-Choose.is refl c.requires
    (λ a this that. (w : Wide) → c.back_range.result ≡ Err (TooWide w) → AllFit a this that → ⊥)
    (λ w is fits. c.back_range.ensures.wide w is fits.0 fits.1)

pub returns-in-Test-clause-tree : goal.returns-in-Test-clause-tree
returns-in-Test-clause-tree c =
    two_carry c.args.trees.now (Test c.in-Test.is_head c.in-Test.choice c.in-Test.holds c.in-Test.fails c.in-Test.yes c.in-Test.no) c.args.transition.now c.in-Test.is c.index-trees-yes.result c.index-trees-yes.is c.index-trees-no.result c.index-trees-no.is c.requires
    (λ a this that. IfOk c.back_test.result (λ tree. plan_of tree ≡ before_all a this that))
    (subst (λ rows. IfOk c.back_test.result (λ tree. plan_of tree ≡ cut (tested_shape (plan_of c.index-trees-yes.result) (plan_of c.index-trees-no.result) rows c.in-Test.fails.items)))
    c.deref.ensures.value
    (subst (λ rows. IfOk c.back_test.result (λ tree. plan_of tree ≡ cut (tested_shape (plan_of c.index-trees-yes.result) (plan_of c.index-trees-no.result) c.deref.result.now rows)))
    c.deref-in-Test.ensures.value c.back_test.ensures.tree))

pub returns-in-Test-clause-full : goal.returns-in-Test-clause-full
returns-in-Test-clause-full c =
    two_carry c.args.trees.now (Test c.in-Test.is_head c.in-Test.choice c.in-Test.holds c.in-Test.fails c.in-Test.yes c.in-Test.no) c.args.transition.now c.in-Test.is c.index-trees-yes.result c.index-trees-yes.is c.index-trees-no.result c.index-trees-no.is c.requires
    (λ a this that. (count : ℕ) → c.back_test.result ≡ Err (TooFull count) → AreAllSmall a this that → ⊥)
    (λ count is small.
    let fails = subst (λ rows. AreTestsSmall (plan_of c.index-trees-yes.result) (plan_of c.index-trees-no.result) c.in-Test.holds.items rows) (sym c.deref-in-Test.ensures.value) small in
    let both = subst (λ rows. AreTestsSmall (plan_of c.index-trees-yes.result) (plan_of c.index-trees-no.result) rows c.deref-in-Test.result.now) (sym c.deref.ensures.value) fails in
    (c.back_test.ensures.full count is).1 both.0 both.1)

pub returns-in-Test-clause-wide : goal.returns-in-Test-clause-wide
returns-in-Test-clause-wide c =
    two_carry c.args.trees.now (Test c.in-Test.is_head c.in-Test.choice c.in-Test.holds c.in-Test.fails c.in-Test.yes c.in-Test.no) c.args.transition.now c.in-Test.is c.index-trees-yes.result c.index-trees-yes.is c.index-trees-no.result c.index-trees-no.is c.requires
    (λ a this that. (w : Wide) → c.back_test.result ≡ Err (TooWide w) → AllFit a this that → ⊥)
    (λ w is fits.
    let fail = subst (λ rows. TestsFit (plan_of c.index-trees-yes.result) (plan_of c.index-trees-no.result) c.in-Test.holds.items rows) (sym c.deref-in-Test.ensures.value) fits in
    let both = subst (λ rows. TestsFit (plan_of c.index-trees-yes.result) (plan_of c.index-trees-no.result) rows c.deref-in-Test.result.now) (sym c.deref.ensures.value) fail in
    c.back_test.ensures.wide w is both.0 both.1)
