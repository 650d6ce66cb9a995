use Rattle.std.proofs.Common.{length, sym, ap, subst}
use Rattle.call_meaning.specs.Tables.{commands}
use Rattle.call_inline.specs.Laws.Standing.{AllGoBelow}
use Rattle.call_inline.proofs.Allowing.{main_below}
use Rattle.call_inline.proofs.room.check_labels.Goals as goal

pub room_behind-requires-clause-calls : goal.room_behind-requires-clause-calls
room_behind-requires-clause-calls c =
    let unit = c.args.unit.now in
    subst (λ k. AllGoBelow k (commands unit.body)) (sym (ap length c.items-main.ensures)) (main_below unit.func_names unit.funcs unit.names unit.body unit.valid)
