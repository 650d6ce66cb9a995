use Rattle.std.proofs.Common.{◌≡◌, suc, [], Err, slice_set, sym, ap, subst, arith}
use Rattle.linear_cons.specs.Functions.{value_at}
use Rattle.decision_tree.specs.Evaluation.{eval}
use Rattle.decision_tree.specs.Plans.{Plan, plan_of, size_of}
use Rattle.decision_tree.specs.declared.affine_rank.AffineRank.{AffineRank}
use Rattle.unroll.specs.Building.{IsBefore}
use Rattle.unroll.specs.Levels.{RanksCount}
use Rattle.decision_tree.specs.Extent.{ComplementsFit, IsTreeOver}
use Rattle.backward_transfer.specs.AffineShapes.{affine_ranks, assigned_shape, cut, same_rank}
use Rattle.backward_transfer.proofs.Making.{trimmed_size}
use Rattle.unroll.proofs.Bounding.{assigned_size}
use Rattle.unroll.proofs.Ranking.{assigned_count}
use Rattle.unroll.proofs.Standing.{assigned_before, trimmed_complements}
use Rattle.unroll.specs.Within.{AreWithin}
use Rattle.unroll.proofs.Variables.{assigned_over}
use Rattle.unroll.proofs.WithinTrees.{assigned_fits, assigned_within}
use Rattle.unroll.proofs.Refusing.{same_error}
use Rattle.unroll.proofs.moving.assigned.Goals as goal

pub returns-clause-before : goal.returns-clause-before
returns-clause-before c s long =
    let plan = plan_of c.args.behind.now in
    let is : plan_of c.in_ok-tree.tree ≡ cut (assigned_shape c.args.place.number c.args.value.now plan) = c.in_ok-tree.ensures.tree in
    subst (λ (t : Plan AffineRank). IsBefore (eval plan (slice_set s c.args.place.number (value_at c.args.value.now s))) (eval t s)) (sym is)
    (assigned_before c.args.place.number c.args.value.now plan s c.args.place.low long)

pub returns-clause-ranks : goal.returns-clause-ranks
returns-clause-ranks c ranks =
    let plan = plan_of c.args.behind.now in
    let is : plan_of c.in_ok-tree.tree ≡ cut (assigned_shape c.args.place.number c.args.value.now plan) = c.in_ok-tree.ensures.tree in
    subst RanksCount (sym is) (assigned_count c.args.place.number c.args.value.now plan c.args.place.low ranks)

pub returns-clause-complements : goal.returns-clause-complements
returns-clause-complements c =
    let shape = assigned_shape c.args.place.number c.args.value.now (plan_of c.args.behind.now) in
    let is : plan_of c.in_ok-tree.tree ≡ cut shape = c.in_ok-tree.ensures.tree in
    subst ComplementsFit (sym is) (trimmed_complements [] shape c.in_ok-tree.ensures.rows)

pub returns-clause-variables : goal.returns-clause-variables
returns-clause-variables c vars own ranks over =
    let by = c.args.value.now in
    let plan = plan_of c.args.behind.now in
    let is : plan_of c.in_ok-tree.tree ≡ cut (assigned_shape c.args.place.number by plan) = c.in_ok-tree.ensures.tree in
    subst (IsTreeOver vars) (sym is) (assigned_over vars c.args.place.number by plan c.args.place.low own ranks over)

pub returns-clause-small : goal.returns-clause-small
returns-clause-small c =
    let plan = plan_of c.args.behind.now in
    let shape = assigned_shape c.args.place.number c.args.value.now plan in
    let is : plan_of c.in_ok-tree.tree ≡ cut shape = c.in_ok-tree.ensures.tree in
    let made = ap size_of is in
    let less = trimmed_size same_rank [] shape in
    let most = assigned_size same_rank affine_ranks.substituted affine_ranks.one_more c.args.place.number c.args.value.now plan in
    omega (arith, made, less, most)

pub returns-in_err-tree-clause-full : goal.returns-in_err-tree-clause-full
returns-in_err-tree-clause-full c count is =
    let plan = plan_of c.args.behind.now in
    let most = assigned_size same_rank affine_ranks.substituted affine_ranks.one_more c.args.place.number c.args.value.now plan in
    let more = (c.in_err-tree.ensures.full count (ap Err (same_error _ _ _ c.from_residual.ensures.1 is))).1 in
    omega (arith, most, more)

pub returns-clause-within : goal.returns-clause-within
returns-clause-within c k most steps within =
    let by = c.args.value.now in
    let plan = plan_of c.args.behind.now in
    let is : plan_of c.in_ok-tree.tree ≡ cut (assigned_shape c.args.place.number by plan) = c.in_ok-tree.ensures.tree in
    subst (AreWithin k most (suc steps)) (sym is) (assigned_within k most steps c.args.place.number c.args.place.low by plan within)

pub returns-in_err-tree-clause-wide : goal.returns-in_err-tree-clause-wide
returns-in_err-tree-clause-wide c operands k most steps narrow within is =
    let fits = assigned_fits k most steps c.args.place.number c.args.place.low c.args.value.now narrow (plan_of c.args.behind.now) within in
    c.in_err-tree.ensures.wide operands (ap Err (same_error _ _ _ c.from_residual.ensures.1 is)) fits.0 fits.1
