use Rattle.std.proofs.Common.{◌≡◌, ap, arith}
use Rattle.concrete_syntax.specs.Mirror.{statement as statement_of, items as items_of}
use Rattle.concrete_syntax.specs.Trees as tree
use Rattle.elaboration.specs.Levels.{rest_level, items_levels}
use Rattle.elaboration.proofs.Weights.{items_weight}
use Rattle.elaboration.proofs.Deepest.{from_first, items_above}
use Rattle.elaboration.proofs.levels.+statement_levels.Goals as goal

pub items_levels-loop-left-init : goal.items_levels-loop-left-init
items_levels-loop-left-init t c = (from_first c.args.level _ (items_above c.args.level (items_of c.args.tree.now)), omega arith, omega arith)

pub items_levels-loop-left-preserved : goal.items_levels-loop-left-preserved
items_levels-loop-left-preserved t c =
    let here = c.loop-left.here in
    let s = statement_of c.in-Statement.first.value in
    let rest = items_of c.in-Statement.rest.value in
    let split : items_of c.loop-left.left.now ≡ tree.statement s rest = ap items_of c.in-Statement.is in
    let levels = ap (items_levels here) split in
    let weight = ap items_weight split in
    let own = rw (c.deref.ensures) at c.in_ok-statement_levels-in-Statement.ensures in
    let behind : c.rest_level-here.result ≡ rest_level here s = rw (c.deref-in-Statement.ensures) at c.rest_level-here.ensures in
    let next = ap (λ l. items_levels l rest) behind in
    let above = items_above (rest_level here s) rest in
    rw (c.deref-left-in-Statement.ensures) (
      omega (arith, c.max-most-in-Statement.ensures, own, c.max-most-in-Statement-2.ensures, behind, levels, next, above, c.loop-left.invariant.0),
      omega (arith, c.max-most-in-Statement-2.ensures),
      omega (arith, weight, c.loop-left.invariant.2),
    )
