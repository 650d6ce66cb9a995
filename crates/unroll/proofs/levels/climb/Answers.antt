use Rattle.std.proofs.Common.{◌≡◌, ℕ, suc, ◌+◌, Option, None, Some, List, sym, subst, ◌∙◌, arith}
use Rattle.std.specs.Prelude.{IfSome, IsSomeAnd}
use Rattle.decision_tree.specs.Plans.{Plan}
use Rattle.decision_tree.specs.declared.affine_rank.AffineRank.{AffineRank}
use Rattle.decision_tree.specs.declared.family.Family.{Family}
use Rattle.step_meaning.specs.Syntax.{Statements, statements}
use Rattle.backward_transfer.specs.AffineShapes.{plans}
use Rattle.control_flow.specs.Actions.{AtAll}
use Rattle.unroll.specs.Building.{TellsAt}
use Rattle.unroll.specs.Levels.{IsLevel}
use Rattle.control_flow.specs.Measures.{IsLight}
use Rattle.control_flow.specs.Sizing.{HasSizes}
use Rattle.unroll.proofs.LevelSizes.{light_up}
use Rattle.unroll.proofs.Levelling.{is_level}
use Rattle.backward_transfer.proofs.Putting.{plans_length}
use Rattle.unroll.proofs.Refusing.{cause_in}
use Rattle.unroll.proofs.levels.climb.Goals as goal

level_in : (family : Option (Family AffineRank)) (tests made : ℕ) (body : Statements) (trees : List (Plan AffineRank))
    → IsSomeAnd family (λ (f : Family AffineRank). f.trees ≡ trees) → tests ≡ made → IsLevel made body trees → IfSome family (λ (f : Family AffineRank). IsLevel tests body f.trees)
level_in None tests made body trees is same level = tt
level_in (Some family) tests made body trees is same level = subst (λ n. IsLevel n body family.trees) (sym same) (subst (IsLevel made body) (sym is) level)

pub returns-in-Err-clause-level : goal.returns-in-Err-clause-level
returns-in-Err-clause-level c =
    let body = statements c.args.graph.now.body in
    let trees = c.loop-made.level.trees.items in
    level_in c.unrolled_to.result.family c.unrolled_to.result.tests c.loop-made.made body (plans trees) c.unrolled_to.ensures.family c.unrolled_to.ensures.tests
    (is_level c.loop-made.made body (plans trees) (plans_length trees ∙ c.loop-made.invariant.1) c.loop-made.invariant.2)

pub returns-in-Err-clause-light : goal.returns-in-Err-clause-light
returns-in-Err-clause-light c some level few =
    let same = c.unrolled_to.ensures.tests in
    c.loop-made.invariant.4 level (omega (arith, few, same))

pub returns-in-Err-clause-cause : goal.returns-in-Err-clause-cause
returns-in-Err-clause-cause c =
    let body = statements c.args.graph.now.body in
    cause_in body c.unrolled_to.result.family c.unrolled_to.result.tests c.loop-made.made c.unrolled_to.result.stopped c.in_ok-cause-in-Err.cause
    (plans c.loop-made.level.trees.items) c.unrolled_to.ensures.family c.unrolled_to.ensures.tests c.unrolled_to.ensures.stopped
    (c.in_ok-cause-in-Err.ensures body (suc c.loop-made.made) (c.in-Err.ensures.refusal c.loop-made.made (let test = c.loop-made-test.true in let most = c.ranges.tests in omega (arith, test, most)) c.loop-made.invariant.3 c.loop-made.invariant.2))

pub loop-made-init : goal.loop-made-init
loop-made-init c =
    let body = statements c.args.graph.now.body in (
      c.requires.sizes_count,
      c.requires.count,
      c.requires.tells,
      c.requires.sizes,
      λ level few. let nought : 0 ≡ level = omega (arith, few) in subst (IsLight body) nought c.requires.light,
    )

pub loop-made-preserved : goal.loop-made-preserved
loop-made-preserved c =
    let body = statements c.args.graph.now.body in
    let one : suc c.loop-made.made ≡ c.loop-made.made + 1 = omega arith in (
      c.in-Ok.ensures.sizes_count,
      c.in-Ok.ensures.count,
      subst (λ n. AtAll body (TellsAt n body (plans c.in-Ok.more.trees.items))) one (c.in-Ok.ensures.tells c.loop-made.made c.loop-made.invariant.2),
      subst (λ n. HasSizes body n c.in-Ok.more.sizes.items) one (c.in-Ok.ensures.sizes c.loop-made.made c.loop-made.invariant.3),
      λ level few. light_up body c.loop-made.made c.loop-made.invariant.4 (c.in-Ok.ensures.light c.loop-made.made c.loop-made.invariant.3) level (omega (arith, few)),
    )

pub returns-clause-level : goal.returns-clause-level
returns-clause-level c =
    let body = statements c.args.graph.now.body in
    let trees = c.loop-made.level.trees.items in
    let end = c.loop-made-test.false in
    let most = c.loop-made.auto.made-end in
    let last : c.loop-made.made ≡ c.args.tests = omega (arith, end, most) in
    level_in c.unrolled_to-2.result.family c.unrolled_to-2.result.tests c.loop-made.made body (plans trees) c.unrolled_to-2.ensures.family (c.unrolled_to-2.ensures.tests ∙ sym last)
    (is_level c.loop-made.made body (plans trees) (plans_length trees ∙ c.loop-made.invariant.1) c.loop-made.invariant.2)

pub returns-clause-light : goal.returns-clause-light
returns-clause-light c some level few =
    let end = c.loop-made-test.false in
    let most = c.loop-made.auto.made-end in
    let same = c.unrolled_to-2.ensures.tests in
    c.loop-made.invariant.4 level (omega (arith, few, same, end, most))
