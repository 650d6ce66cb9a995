use Rattle.std.proofs.lemmas.Grind.{common_steps}
use Rattle.std.proofs.Common.{◌≡◌, false, length, sym, ap, subst, ◌∙◌, arith}
use Rattle.decision_tree.specs.declared.affine_rank.AffineRank.{AffineRank}
use Rattle.decision_tree.specs.declared.tree.Tree.{Tree}
use Rattle.std.proofs.Common.{List}
use Rattle.backward_transfer.specs.AffineShapes.{plans}
use Rattle.backward_transfer.proofs.Putting.{written_back}
use Rattle.control_flow.specs.Transitions.{is_idle}
use Rattle.backward_sweeps.specs.Remaking.{AreEndsStarted, AreKept, AreRemadeFrom, parts_of}
use Rattle.backward_sweeps.proofs.Passing.{ends_started, still_remade}
use Rattle.backward_sweeps.proofs.sweep.kept.Given as given
use Rattle.backward_sweeps.proofs.sweep.kept.Goals as goal

-- the trees of the pass are answered
passed : (g : given.Over) (c : goal.After-of g) → c.of.result ≡ plans c.follow.new.trees
passed g c =
    let long : c.in_ok-trees.trees.len ≡ length c.follow.new.trees = sym c.deref_mut.ensures.len ∙ sym c.in_ok-follow.ensures.labels in
    c.of.ensures ∙ ap plans (written_back c.in_ok-trees.trees.len c.follow.new.trees _ long)

-- and so are those of the sweeps
swept_on : (g : given.Over) (c : goal.After-of-2 g) → c.of-2.result ≡ plans c.run.new.trees
swept_on g c =
    let long : c.in_ok-trees.trees.len ≡ length c.run.new.trees = sym c.deref_mut-2.ensures.len ∙ sym c.run.ensures.trees in
    c.of-2.ensures ∙ ap plans (written_back c.in_ok-trees.trees.len c.run.new.trees _ long)

pub returns-then-not-has_head-clause-remade : goal.returns-then-not-has_head-clause-remade
returns-then-not-has_head-clause-remade g c free =
    let parts = parts_of c.args.operands.now in
    subst (λ t. AreRemadeFrom 0 false parts c.args.transitions.now t) (sym (passed g c))
    (still_remade 0 c.in_ok-follow.field-0 parts c.args.transitions.now (plans c.follow.new.trees) c.in_ok-follow.ensures.remade)

pub returns-clause-started : goal.returns-clause-started
returns-clause-started g c =
    let parts = parts_of c.args.operands.now in
    let transitions = c.args.transitions.now in
    subst (λ t. AreEndsStarted parts transitions t) (sym (swept_on g c))
    (ends_started parts transitions (plans c.in_ok-trees.trees.items) (plans c.run.new.trees) c.in_ok-trees.ensures.ends
    (subst (λ (list : List (Tree AffineRank)). AreKept is_idle transitions (plans list) (plans c.run.new.trees)) c.deref_mut-2.ensures.value c.in_ok-run.ensures.ends))

pub returns-then-not-has_head-clause-labels : goal.returns-then-not-has_head-clause-labels
returns-then-not-has_head-clause-labels g c = grind (arith, common_steps)

pub returns-then-not-has_head-clause-started : goal.returns-then-not-has_head-clause-started
returns-then-not-has_head-clause-started g c = grind (arith, common_steps)

pub returns-clause-labels : goal.returns-clause-labels
returns-clause-labels g c = grind (arith, common_steps)

pub returns-clause-remade : goal.returns-clause-remade
returns-clause-remade g c = grind (arith, common_steps)
