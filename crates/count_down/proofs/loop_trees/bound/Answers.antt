use Rattle.std.proofs.Common.{◌≡◌, pos, SFits, to_z, to_z-of_z, arith}
use Rattle.std.specs.Int.{w128}
use Rattle.std.proofs.lemmas.Int.{to_z_pos}
use Rattle.count_down.proofs.Modest.{bound_fits, next_fits, turns_fit}
use Rattle.count_down.proofs.loop_trees.bound.Goals as goal

pub shifted-requires : goal.shifted-requires
shifted-requires c = next_fits c.args.function.now c.requires.modest

pub multiple-requires : goal.multiple-requires
multiple-requires c =
    let short = c.requires.turn in
    let turn : to_z w128 c.args.turn ≡ pos c.args.turn = to_z_pos w128 c.args.turn (omega arith) in
    rw (turn, c.shifted.ensures) (turns_fit c.args.function.now c.args.turn short c.requires.modest)

pub shifted-requires-2 : goal.shifted-requires-2
shifted-requires-2 c =
    let short = c.requires.turn in
    let range : SFits w128 c.args.rest = c.ranges.rest in
    let turn : to_z w128 c.args.turn ≡ pos c.args.turn = to_z_pos w128 c.args.turn (omega arith) in
    let made = rw (turn, c.shifted.ensures) at c.multiple.ensures in
    rw made (simp to_z-of_z (bound_fits c.args.function.now c.args.turn c.args.rest short c.requires.modest c.requires.rest))
