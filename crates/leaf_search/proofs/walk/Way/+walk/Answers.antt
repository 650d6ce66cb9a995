use Rattle.std.proofs.Common.{⊎_elim, ◌*◌, ◌<◌, ◌≤◌, ◌++◌, ◌∷◌, [], arith}
use Rattle.decision_tree.specs.Plans.{plan_of, size_of}
use Rattle.tree_support.specs.Systems.{moved_by}
use Rattle.constraint_stack.specs.Stacks.{all_asked}
use Rattle.leaf_search.specs.Walks.{side_of}
use Rattle.constraint_stack.proofs.Choosing.{held_same}
use Rattle.leaf_search.proofs.Leading.{leads_searched, leads_size}
use Rattle.leaf_search.proofs.Walking.{bottom_searched, nowhere_behind, searched_first, searched_then, top_searched}
use Rattle.leaf_search.proofs.walk.Way.+walk.Goals as goal

pub refute-returns-then-branch-clause-searched : goal.refute-returns-then-branch-clause-searched
refute-returns-then-branch-clause-searched g t c asks held =
    let here = rw (c.if-branch.true, c.deref.ensures) at c.in_ok-refute_behind-in-Node.ensures.searched asks held in
    rw c.in-Node.is (searched_first g.R.Rank _ _ _ here)

pub refute-returns-in_ok-refuted-in-Node-clause-searched :
    goal.refute-returns-in_ok-refuted-in-Node-clause-searched
refute-returns-in_ok-refuted-in-Node-clause-searched g t c asks held =
    let none = rw (c.if-branch.false, c.deref.ensures) at c.in_ok-refute_behind-in-Node.ensures.searched asks held in
    let again = held_same (all_asked asks) c.args.stack.now c.refute_behind.new.stack (c.in_ok-refute_behind-in-Node.ensures.same) held in
    let rest = rw c.deref-in-Node.ensures at c.in_ok-refuted-in-Node.ensures.searched asks again in
    rw c.in-Node.is (searched_then g.R.Rank _ _ c.in_ok-refuted-in-Node.refuted c.refute_behind.new.found _ none rest)

pub refute-returns-in_ok-refuted-in-Bottom-clause-searched :
    goal.refute-returns-in_ok-refuted-in-Bottom-clause-searched
refute-returns-in_ok-refuted-in-Bottom-clause-searched g t c asks held =
    let tried = c.in_ok-refuted-in-Bottom.ensures (all_asked asks) held in
    ⊎_elim
    (λ is. rw is (bottom_searched g.R.Rank c.args.self.now.edge c.args.self.now.sets c.args.self.now.limit asks c.in_ok-refuted-in-Bottom.refuted c.check.new.found tried))
    (λ is. rw is.1 (top_searched g.R.Rank is.0 c.args.self.now.edge c.args.self.now.sets c.args.self.now.limit asks c.in_ok-refuted-in-Bottom.refuted c.check.new.found tried))
    c.in-Bottom.is

pub refute_behind-returns-then-not-branch-clause-searched :
    goal.refute_behind-returns-then-not-branch-clause-searched
refute_behind-returns-then-not-branch-clause-searched g t c asks held =
    nowhere_behind g.R.Rank c.args.self.now.edge c.args.self.now.sets c.args.self.now.limit (plan_of c.args.side.now) (asks ++ moved_by c.args.self.now.sets (side_of c.args.row.now.affine c.args.holds) ∷ [])
    (c.in_ok-enter.ensures.nowhere c.if-not-branch.true asks held)

pub refute_behind-returns-clause-searched : goal.refute_behind-returns-clause-searched
refute_behind-returns-clause-searched g t c asks held =
    leads_searched g.R.Rank c.args.self.now.edge c.args.self.now.sets c.args.self.now.limit c.enter.new.stack.rows c.enter.new.stack.wide c.in_ok-refuted.refuted
    c.refute.new.found (plan_of c.args.side.now) (plan_of c.led-part.result.now) c.led-part.ensures c.in_ok-refuted.ensures.searched
    (asks ++ moved_by c.args.self.now.sets (side_of c.args.row.now.affine c.args.holds) ∷ []) (c.in_ok-enter.ensures.held c.if-not-branch.false asks held)

pub refute_behind-refute-requires : goal.refute_behind-refute-requires
refute_behind-refute-requires g t c κs within =
    let smaller : size_of (plan_of c.led-part.result.now) ≤ size_of (plan_of c.args.side.now) =
    leads_size c.args.self.now.sets c.enter.new.stack.rows (plan_of c.args.side.now) (plan_of c.led-part.result.now) c.led-part.ensures in
    let step : 2 * size_of (plan_of c.led-part.result.now) < t = rw (← c.decreases) (omega (arith, smaller)) in
    (step, (within, c.requires))
