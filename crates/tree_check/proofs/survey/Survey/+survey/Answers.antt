use Rattle.std.proofs.Common.{List, map, refl, ⊎_elim, ◌++◌, ◌∷◌, [], arith}
use Rattle.std.proofs.lemmas.Grind.{common_steps}
use Rattle.decision_tree.specs.Plans.{bottom, plan_of, top}
use Rattle.constraint_stack.specs.Forming.{Formed, given}
use Rattle.tree_support.specs.Setting.{trees_in}
use Rattle.constraint_stack.specs.Claims.{HasNoStore}
use Rattle.tree_support.proofs.Lists.{all_none}
use Rattle.constraint_stack.specs.Stacks.{all_asked}
use Rattle.leaf_search.specs.Walks.{side_of}
use Rattle.constraint_stack.proofs.Choosing.{held_same}
use Rattle.tree_check.proofs.Surveying.{ahead_longer, surveyed_before, surveyed_beyond, surveyed_both, surveyed_nowhere, surveyed_undefined, surveyed_wholly}
use Rattle.tree_check.proofs.survey.Survey.+survey.Goals as goal

pub refute-returns-in_ok-refute_behind-in-Node-2-clause-surveyed :
    goal.refute-returns-in_ok-refute_behind-in-Node-2-clause-surveyed
refute-returns-in_ok-refute_behind-in-Node-2-clause-surveyed g t c at is_at asks held within narrowed =
    let near = rw c.deref.ensures at c.in_ok-refute_behind-in-Node.ensures.surveyed at is_at asks held within narrowed in
    let again = held_same (all_asked asks) c.args.progress.now.stack c.refute_behind.new.progress.stack c.in_ok-refute_behind-in-Node.ensures.same held in
    let still = held_same (all_asked within) c.args.progress.now.narrow c.refute_behind.new.progress.narrow c.in_ok-refute_behind-in-Node.ensures.narrow narrowed in
    let far = rw c.deref-in-Node.ensures at c.in_ok-refute_behind-in-Node-2.ensures.surveyed at is_at asks again within still in
    let count = rw c.deref.ensures at c.in_ok-refute_behind-in-Node.ensures.passed in
    rw c.in-Node.is
    (surveyed_both g.R.Rank at (trees_in (map plan_of c.args.self.now.stand.family.now)) c.args.self.now.stand.label c.args.self.now.span c.in-Node.row (plan_of c.in-Node.yes.value) (plan_of c.in-Node.no.value) asks within c.args.progress.now.passed c.refute_behind.new.progress.passed c.args.progress.now.refuted.items c.refute_behind.new.progress.refuted.items c.refute_behind-in-Node.new.progress.refuted.items count near far)

pub refute-returns-in_ok-refute_leaf-in-Leaf-clause-surveyed :
    goal.refute-returns-in_ok-refute_leaf-in-Leaf-clause-surveyed
refute-returns-in_ok-refute_leaf-in-Leaf-clause-surveyed g t c at is_at asks held within narrowed =
    rw c.in-Leaf.is (c.in_ok-refute_leaf-in-Leaf.ensures.surveyed at is_at asks held within)

pub refute-returns-in-Bottom-clause-surveyed : goal.refute-returns-in-Bottom-clause-surveyed
refute-returns-in-Bottom-clause-surveyed g t c at is_at asks held within narrowed =
    ⊎_elim
    (λ is. rw is (surveyed_undefined g.R.Rank at (trees_in (map plan_of c.args.self.now.stand.family.now)) c.args.self.now.stand.label c.args.self.now.span bottom asks within c.args.progress.now.passed c.args.progress.now.refuted.items refl (all_none (HasNoStore g.R.Rank))))
    (λ is. rw is.1 (surveyed_undefined g.R.Rank at (trees_in (map plan_of c.args.self.now.stand.family.now)) c.args.self.now.stand.label c.args.self.now.span (top is.0) asks within c.args.progress.now.passed c.args.progress.now.refuted.items refl (all_none (HasNoStore g.R.Rank))))
    c.in-Bottom.is

pub refute_behind-returns-in-Bottom-clause-surveyed : goal.refute_behind-returns-in-Bottom-clause-surveyed
refute_behind-returns-in-Bottom-clause-surveyed g t c at is_at asks held within narrowed =
    let behind : List Formed = asks ++ given (side_of c.args.row.now.affine c.args.holds) ∷ [] in
    let inside : List Formed = within ++ given (side_of c.args.row.now.affine c.args.holds) ∷ [] in
    ⊎_elim
    (λ is. rw is (surveyed_undefined g.R.Rank at (trees_in (map plan_of c.args.self.now.stand.family.now)) c.args.self.now.stand.label c.args.self.now.span bottom behind inside c.args.progress.now.passed c.args.progress.now.refuted.items refl (all_none (HasNoStore g.R.Rank))))
    (λ is. rw is.1 (surveyed_undefined g.R.Rank at (trees_in (map plan_of c.args.self.now.stand.family.now)) c.args.self.now.stand.label c.args.self.now.span (top is.0) behind inside c.args.progress.now.passed c.args.progress.now.refuted.items refl (all_none (HasNoStore g.R.Rank))))
    c.in-Bottom.is

pub refute_behind-returns-then-skips-clause-surveyed :
    goal.refute_behind-returns-then-skips-clause-surveyed
refute_behind-returns-then-skips-clause-surveyed g t c at is_at asks held within narrowed =
    let before = rw c.deref.ensures.value at c.skips.ensures.before c.if-skips.true in
    surveyed_before g.R.Rank at (trees_in (map plan_of c.args.self.now.stand.family.now)) c.args.self.now.stand.label c.args.self.now.span (plan_of c.args.side.now) (asks ++ given (side_of c.args.row.now.affine c.args.holds) ∷ []) (within ++ given (side_of c.args.row.now.affine c.args.holds) ∷ []) c.args.progress.now.passed c.args.progress.now.refuted.items before

pub refute_behind-returns-then-not-branch-clause-surveyed :
    goal.refute_behind-returns-then-not-branch-clause-surveyed
refute_behind-returns-then-not-branch-clause-surveyed g t c at is_at asks held within narrowed =
    surveyed_nowhere g.R.Rank at (trees_in (map plan_of c.args.self.now.stand.family.now)) c.args.self.now.stand.label c.args.self.now.span (plan_of c.args.side.now) (asks ++ given (side_of c.args.row.now.affine c.args.holds) ∷ []) (within ++ given (side_of c.args.row.now.affine c.args.holds) ∷ []) c.args.progress.now.passed c.args.progress.now.refuted.items
    (c.in_ok-enter.ensures.nowhere c.if-not-branch.true asks held)

pub refute_behind-returns-clause-surveyed : goal.refute_behind-returns-clause-surveyed
refute_behind-returns-clause-surveyed g t c at is_at asks held within narrowed =
    c.in_ok-refute_within.ensures.surveyed at is_at (asks ++ given (side_of c.args.row.now.affine c.args.holds) ∷ []) (c.in_ok-enter.ensures.held c.if-not-branch.false asks held) within narrowed

pub refute_within-returns-then-not-self-clause-surveyed : goal.refute_within-returns-then-not-self-clause-surveyed
refute_within-returns-then-not-self-clause-surveyed g t c at is_at asks held within narrowed =
    surveyed_wholly g.R.Rank at (trees_in (map plan_of c.args.self.now.stand.family.now)) c.args.self.now.stand.label c.args.self.now.span (plan_of c.args.side.now) asks within (within ++ given (side_of c.args.row.now.affine c.args.holds) ∷ []) c.args.progress.now.passed c.args.progress.now.refuted.items c.refute.new.progress.refuted.items
    c.if-not-self.true (c.in_ok-refute.ensures.surveyed at is_at asks held within narrowed)

pub refute_within-returns-then-not-branch-clause-surveyed : goal.refute_within-returns-then-not-branch-clause-surveyed
refute_within-returns-then-not-branch-clause-surveyed g t c at is_at asks held within narrowed =
    surveyed_beyond g.R.Rank at (trees_in (map plan_of c.args.self.now.stand.family.now)) c.args.self.now.stand.label c.args.self.now.span (plan_of c.args.side.now) asks (within ++ given (side_of c.args.row.now.affine c.args.holds) ∷ []) c.args.progress.now.passed c.args.progress.now.refuted.items
    c.if-not-self.false (c.in_ok-enter.ensures.nowhere c.if-not-branch.true within narrowed)

pub refute_within-returns-clause-surveyed : goal.refute_within-returns-clause-surveyed
refute_within-returns-clause-surveyed g t c at is_at asks held within narrowed =
    c.in_ok-refute-2.ensures.surveyed at is_at asks held (within ++ given (side_of c.args.row.now.affine c.args.holds) ∷ []) (c.in_ok-enter.ensures.held c.if-not-branch.false within narrowed)

pub refute_within-overflow_add-progress : goal.refute_within-overflow_add-progress
refute_within-overflow_add-progress g c = grind (arith, common_steps)

pub refute_behind-led-progress-requires : goal.refute_behind-led-progress-requires
refute_behind-led-progress-requires g t c =
    ahead_longer c.args.self.now.stand c.args.progress.now.ahead c.args.progress.now.stack.rows c.enter.new.stack.rows c.in_ok-enter.ensures.longer.0 c.requires.ahead
