use Rattle.std.proofs.Common.{◌≡◌, suc, [], Err, sym, ap, subst, arith}
use Rattle.decision_tree.specs.Evaluation.{eval}
use Rattle.decision_tree.specs.Plans.{Plan, plan_of, size_of}
use Rattle.decision_tree.specs.declared.affine_rank.AffineRank.{AffineRank}
use Rattle.unroll.specs.Building.{IsBefore}
use Rattle.unroll.specs.Levels.{RanksCount}
use Rattle.decision_tree.specs.Extent.{ComplementsFit, IsTreeOver}
use Rattle.backward_transfer.specs.AffineShapes.{affine_ranks, cut, same_rank, stepped_shape}
use Rattle.backward_transfer.proofs.Making.{trimmed_size}
use Rattle.unroll.proofs.Bounding.{stepped_size}
use Rattle.unroll.proofs.Ranking.{stepped_count}
use Rattle.unroll.proofs.Standing.{stepped_before, trimmed_complements}
use Rattle.unroll.specs.Within.{AreWithin}
use Rattle.unroll.proofs.Variables.{stepped_over}
use Rattle.unroll.proofs.WithinTrees.{stepped_fits, stepped_within}
use Rattle.unroll.proofs.Refusing.{same_error}
use Rattle.unroll.proofs.moving.passed.Goals as goal

pub returns-clause-before : goal.returns-clause-before
returns-clause-before c s =
    let plan = plan_of c.args.behind.now in
    let is : plan_of c.in_ok-tree.tree ≡ cut (stepped_shape plan) = c.in_ok-tree.ensures.tree in
    subst (λ (t : Plan AffineRank). IsBefore (eval plan s) (eval t s)) (sym is) (stepped_before plan s)

pub returns-clause-ranks : goal.returns-clause-ranks
returns-clause-ranks c ranks =
    let plan = plan_of c.args.behind.now in
    let is : plan_of c.in_ok-tree.tree ≡ cut (stepped_shape plan) = c.in_ok-tree.ensures.tree in
    subst RanksCount (sym is) (stepped_count plan ranks)

pub returns-clause-complements : goal.returns-clause-complements
returns-clause-complements c =
    let shape = stepped_shape (plan_of c.args.behind.now) in
    let is : plan_of c.in_ok-tree.tree ≡ cut shape = c.in_ok-tree.ensures.tree in
    subst ComplementsFit (sym is) (trimmed_complements [] shape c.in_ok-tree.ensures.rows)

pub returns-clause-variables : goal.returns-clause-variables
returns-clause-variables c vars ranks over =
    let plan = plan_of c.args.behind.now in
    let is : plan_of c.in_ok-tree.tree ≡ cut (stepped_shape plan) = c.in_ok-tree.ensures.tree in
    subst (IsTreeOver vars) (sym is) (stepped_over vars plan ranks over)

pub returns-clause-small : goal.returns-clause-small
returns-clause-small c =
    let plan = plan_of c.args.behind.now in
    let is : plan_of c.in_ok-tree.tree ≡ cut (stepped_shape plan) = c.in_ok-tree.ensures.tree in
    let made = ap size_of is in
    let less = trimmed_size same_rank [] (stepped_shape plan) in
    let most = stepped_size same_rank affine_ranks.one_more plan in
    omega (arith, made, less, most)

pub returns-in_err-tree-clause-full : goal.returns-in_err-tree-clause-full
returns-in_err-tree-clause-full c count is =
    let plan = plan_of c.args.behind.now in
    let most = stepped_size same_rank affine_ranks.one_more plan in
    let more = (c.in_err-tree.ensures.full count (ap Err (same_error _ _ _ c.from_residual.ensures.1 is))).1 in
    omega (arith, most, more)

pub returns-clause-within : goal.returns-clause-within
returns-clause-within c k most steps within =
    let plan = plan_of c.args.behind.now in
    let is : plan_of c.in_ok-tree.tree ≡ cut (stepped_shape plan) = c.in_ok-tree.ensures.tree in
    subst (AreWithin k most (suc steps)) (sym is) (stepped_within k most steps plan within)

pub returns-in_err-tree-clause-wide : goal.returns-in_err-tree-clause-wide
returns-in_err-tree-clause-wide c operands k most steps narrow within is =
    let fits = stepped_fits k most steps narrow (plan_of c.args.behind.now) within in
    c.in_err-tree.ensures.wide operands (ap Err (same_error _ _ _ c.from_residual.ensures.1 is)) fits.0 fits.1
