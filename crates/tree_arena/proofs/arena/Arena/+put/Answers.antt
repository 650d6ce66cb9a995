use Rattle.std.proofs.Common.{◌≡◌, ◌∙◌}
use Rattle.decision_tree.specs.Plans.{branch, plan_of}
use Rattle.tree_arena.specs.Trees.{IsAt, IsThere}
use Rattle.tree_arena.proofs.Entering.{at_kept}
use Rattle.tree_arena.proofs.arena.Arena.+put.Goals as goal

pub returns-in_err-no-in-Node-clause-there : goal.returns-in_err-no-in-Node-clause-there
returns-in_err-no-in-Node-clause-there g t c there =
    let sides = c.sides_are_there.ensures c.in-Node.row (plan_of c.in-Node.yes.value) (plan_of c.in-Node.no.value) (rw c.in-Node.is at there) in
    let first : c.put.new.self ≡ c.args.self.now = c.put.ensures.there (rw c.deref.ensures sides.0) in
    c.put-in-Node.ensures.there (rw (c.deref-in-Node.ensures, first) sides.1) ∙ first

pub returns-in_ok-no-in-Node-clause-tree : goal.returns-in_ok-no-in-Node-clause-tree
returns-in_ok-no-in-Node-clause-tree g t c =
    let yes : IsAt c.put.new.self c.in_ok-yes-in-Node.yes (plan_of c.in-Node.yes.value) = rw (← c.deref.ensures) c.in_ok-yes-in-Node.ensures.tree in
    let no : IsAt c.put-in-Node.new.self c.in_ok-no-in-Node.no (plan_of c.in-Node.no.value) = rw (← c.deref-in-Node.ensures) c.in_ok-no-in-Node.ensures.tree in
    let later = at_kept c.put.new.self c.put-in-Node.new.self c.in_ok-yes-in-Node.yes (plan_of c.in-Node.yes.value) c.put-in-Node.ensures.kept yes in
    rw (c.in-Node.is, ← c.deref-in-Node-2.ensures, ← later.tree, ← no.tree) c.node.ensures.tree

pub returns-in_ok-no-in-Node-clause-there : goal.returns-in_ok-no-in-Node-clause-there
returns-in_ok-no-in-Node-clause-there g t c there =
    let sides = c.sides_are_there.ensures c.in-Node.row (plan_of c.in-Node.yes.value) (plan_of c.in-Node.no.value) (rw c.in-Node.is at there) in
    let first : c.put.new.self ≡ c.args.self.now = c.put.ensures.there (rw c.deref.ensures sides.0) in
    let second : c.put-in-Node.new.self ≡ c.args.self.now = c.put-in-Node.ensures.there (rw (c.deref-in-Node.ensures, first) sides.1) ∙ first in
    let yes : IsAt c.put.new.self c.in_ok-yes-in-Node.yes (plan_of c.in-Node.yes.value) = rw (← c.deref.ensures) c.in_ok-yes-in-Node.ensures.tree in
    let no : IsAt c.put-in-Node.new.self c.in_ok-no-in-Node.no (plan_of c.in-Node.no.value) = rw (← c.deref-in-Node.ensures) c.in_ok-no-in-Node.ensures.tree in
    let later = at_kept c.put.new.self c.put-in-Node.new.self c.in_ok-yes-in-Node.yes (plan_of c.in-Node.yes.value) c.put-in-Node.ensures.kept yes in
    let whole : IsThere c.put-in-Node.new.self (branch c.in-Node.row (plan_of c.in-Node.yes.value) (plan_of c.in-Node.no.value)) = rw second (rw c.in-Node.is at there) in
    c.node.ensures.there (rw (c.deref-in-Node-2.ensures, later.tree, no.tree) whole) ∙ second
