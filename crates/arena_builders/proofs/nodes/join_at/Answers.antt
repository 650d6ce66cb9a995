use Rattle.std.proofs.Common.{◌≡◌, ◌∙◌, sym, subst}
use Rattle.decision_tree.specs.Nodes.{node}
use Rattle.linear_cons.specs.declared.row.Row.{Row}
use Rattle.tree_unify.specs.Builds.{given}
use Rattle.tree_arena.specs.Trees.{tree_at}
use Rattle.arena_builders.specs.BuildsIn.{BuildsIn}
use Rattle.arena_builders.proofs.Joined.{one_row}
use Rattle.arena_builders.proofs.nodes.join_at.Goals as goal

pub returns : goal.returns
returns g c row has =
    let arena = c.args.arena.now in
    let rows : c.in-Node.row.now ≡ row = one_row _ _ _ _ _ _ (sym c.in-Node.ensures.2 ∙ has.2) in
    subst (λ (r : Row). BuildsIn (given (node g.R.PartialEq.eq r (tree_at arena c.args.yes.place) (tree_at arena c.args.no.place))) arena c.join_sides.new.arena
    c.args.walk.now.trail c.join_sides.new.walk c.join_sides.result) rows c.join_sides.ensures
