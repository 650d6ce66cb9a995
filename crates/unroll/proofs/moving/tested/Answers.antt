use Rattle.std.proofs.Common.{◌≡◌, ℕ, suc, ◌*◌, ◌≤◌, true, false, List, [], Err, sym, ap, subst, ◌∙◌, arith}
use Rattle.linear_cons.specs.declared.row.Row.{Row}
use Rattle.linear_forms.specs.Spreading.{spread_of}
use Rattle.decision_tree.specs.Evaluation.{eval}
use Rattle.decision_tree.specs.Plans.{Plan, plan_of, size_of}
use Rattle.decision_tree.specs.declared.affine_rank.AffineRank.{AffineRank}
use Rattle.step_meaning.specs.Syntax.{Expression}
use Rattle.unroll.specs.Building.{IsBefore, IsBeforeBoth}
use Rattle.unroll.specs.Doing.{AreOf}
use Rattle.unroll.specs.Levels.{RanksCount}
use Rattle.decision_tree.specs.Extent.{ComplementsFit, IsTreeOver}
use Rattle.control_flow.specs.Measures.{anywhere}
use Rattle.backward_transfer.specs.AffineShapes.{CutFits, affine_ranks, cut, same_rank, tested_shape}
use Rattle.backward_transfer.proofs.Making.{trimmed_size}
use Rattle.unroll.proofs.LaterSizes.{shape_full, shape_size}
use Rattle.unroll.proofs.Ranking.{tested_count}
use Rattle.unroll.proofs.Standing.{both_before, first_before, second_before, trimmed_complements}
use Rattle.backward_transfer.specs.Tests.{ComplementFits, EnabledFits, TestAsks}
use Rattle.control_flow.specs.Growth.{greatest_of_conjunctions}
use Rattle.unroll.specs.Plain.{IsFittingTest}
use Rattle.unroll.specs.Within.{AreWithin, IsNarrow}
use Rattle.unroll.proofs.GrownLabels.{asked_within}
use Rattle.unroll.proofs.Variables.{tested_over}
use Rattle.unroll.proofs.WithinTrees.{tested_fits, tested_within}
use Rattle.unroll.proofs.Refusing.{same_error}
use Rattle.unroll.proofs.moving.tested.Goals as goal

made_is : (this that made : Plan AffineRank) (e : Expression) (holds fails : List (List Row)) → AreOf e holds fails
    → made ≡ cut (tested_shape this that holds fails) → made ≡ cut (tested_shape this that (spread_of anywhere e true) (spread_of anywhere e false))
made_is this that made e holds fails of is =
    is ∙ ap (λ (list : List (List Row)). cut (tested_shape this that list fails)) of.0
    ∙ ap (λ (list : List (List Row)). cut (tested_shape this that (spread_of anywhere e true) list)) of.1

pub returns-clause-both : goal.returns-clause-both
returns-clause-both c s met also =
    let this = plan_of c.args.yes.now in
    let that = plan_of c.args.no.now in
    subst (λ (t : Plan AffineRank). IsBeforeBoth (eval this s) (eval that s) (eval t s)) (sym c.in_ok-tree.ensures.tree)
    (both_before this that c.args.holds.now c.args.fails.now s met also)

pub returns-clause-holds : goal.returns-clause-holds
returns-clause-holds c s met missed =
    let this = plan_of c.args.yes.now in
    subst (λ (t : Plan AffineRank). IsBefore (eval this s) (eval t s)) (sym c.in_ok-tree.ensures.tree)
    (first_before this (plan_of c.args.no.now) c.args.holds.now c.args.fails.now s met missed)

pub returns-clause-fails : goal.returns-clause-fails
returns-clause-fails c s missed met =
    let that = plan_of c.args.no.now in
    subst (λ (t : Plan AffineRank). IsBefore (eval that s) (eval t s)) (sym c.in_ok-tree.ensures.tree)
    (second_before (plan_of c.args.yes.now) that c.args.holds.now c.args.fails.now s missed met)

pub returns-clause-ranks : goal.returns-clause-ranks
returns-clause-ranks c first second =
    let this = plan_of c.args.yes.now in
    let that = plan_of c.args.no.now in
    subst RanksCount (sym c.in_ok-tree.ensures.tree) (tested_count this that c.args.holds.now c.args.fails.now first second)

pub returns-clause-complements : goal.returns-clause-complements
returns-clause-complements c =
    let shape = tested_shape (plan_of c.args.yes.now) (plan_of c.args.no.now) c.args.holds.now c.args.fails.now in
    subst ComplementsFit (sym c.in_ok-tree.ensures.tree) (trimmed_complements [] shape c.in_ok-tree.ensures.rows)

pub returns-clause-variables : goal.returns-clause-variables
returns-clause-variables c e vars of sorted one two first second =
    let this = plan_of c.args.yes.now in
    let that = plan_of c.args.no.now in
    let is = made_is this that (plan_of c.in_ok-tree.tree) e c.args.holds.now c.args.fails.now of c.in_ok-tree.ensures.tree in
    subst (IsTreeOver vars) (sym is) (tested_over vars this that e sorted one two first second)

pub returns-clause-small : goal.returns-clause-small
returns-clause-small c e of fits first second =
    let this = plan_of c.args.yes.now in
    let that = plan_of c.args.no.now in
    let is = made_is this that (plan_of c.in_ok-tree.tree) e c.args.holds.now c.args.fails.now of c.in_ok-tree.ensures.tree in
    let made = ap size_of is in
    let less = trimmed_size same_rank [] (tested_shape this that (spread_of anywhere e true) (spread_of anywhere e false)) in
    let most = shape_size e fits this that first second in
    omega (arith, made, less, most)

pub returns-in_err-tree-clause-full : goal.returns-in_err-tree-clause-full
returns-in_err-tree-clause-full c e count of fits first second is =
    shape_full e fits (plan_of c.args.yes.now) (plan_of c.args.no.now) first second c.args.holds.now c.args.fails.now of.0 of.1
    (c.in_err-tree.ensures.full count (ap Err (same_error _ _ _ c.from_residual.ensures.1 is))).1

-- the rows of a test times k are within, by its conjunctions
asked_by : (e : Expression) (holds fails : List (List Row)) → AreOf e holds fails → (k most : ℕ) → greatest_of_conjunctions holds * k ≤ most
    → greatest_of_conjunctions (spread_of anywhere e true) * k ≤ most
asked_by e holds fails of k most small = subst (λ (list : List (List Row)). greatest_of_conjunctions list * k ≤ most) of.0 small

pub returns-clause-within : goal.returns-clause-within
returns-clause-within c e k most steps of fits small first second =
    let this = plan_of c.args.yes.now in
    let that = plan_of c.args.no.now in
    let is = made_is this that (plan_of c.in_ok-tree.tree) e c.args.holds.now c.args.fails.now of c.in_ok-tree.ensures.tree in
    subst (AreWithin k most (suc steps)) (sym is)
    (tested_within k most steps this that first second (spread_of anywhere e true) (spread_of anywhere e false)
    (asked_within e fits k most (asked_by e c.args.holds.now c.args.fails.now of k most small)))

-- the numbers of a test of these rows fit
fitting_test : (e : Expression) → IsFittingTest e → (k most steps : ℕ) → IsNarrow k most steps → greatest_of_conjunctions (spread_of anywhere e true) * k ≤ most
    → (this that : Plan AffineRank) → AreWithin k most steps this → AreWithin k most steps that → (holds fails : List (List Row))
    → holds ≡ spread_of anywhere e true → fails ≡ spread_of anywhere e false
    → TestAsks ComplementFits (EnabledFits same_rank affine_ranks.where_greater affine_ranks.greater_fits affine_ranks.one_more affine_ranks.add_one_fits this that) fails holds
    × CutFits (tested_shape this that holds fails)
fitting_test e fits k most steps narrow small this that first second holds fails one two =
    let Fits = λ (yes_rows no_rows : List (List Row)).
    TestAsks ComplementFits (EnabledFits same_rank affine_ranks.where_greater affine_ranks.greater_fits affine_ranks.one_more affine_ranks.add_one_fits this that) no_rows yes_rows
    × CutFits (tested_shape this that yes_rows no_rows) in
    subst (λ (list : List (List Row)). Fits list fails) (sym one)
    (subst (λ (list : List (List Row)). Fits (spread_of anywhere e true) list) (sym two)
    (tested_fits k most steps this that first second (spread_of anywhere e true) (spread_of anywhere e false) (asked_within e fits k most small) narrow))

pub returns-in_err-tree-clause-wide : goal.returns-in_err-tree-clause-wide
returns-in_err-tree-clause-wide c e operands k most steps of fits narrow small first second is =
    let fit = fitting_test e fits k most steps narrow (asked_by e c.args.holds.now c.args.fails.now of k most small) (plan_of c.args.yes.now) (plan_of c.args.no.now)
    first second c.args.holds.now c.args.fails.now of.0 of.1 in
    c.in_err-tree.ensures.wide operands (ap Err (same_error _ _ _ c.from_residual.ensures.1 is)) fit.0 fit.1
