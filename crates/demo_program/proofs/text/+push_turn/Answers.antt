use Rattle.std.proofs.Common.{rules}
use Rattle.demo_program.proofs.Turning.{turn_pushed}
use Rattle.demo_program.proofs.text.+push_turn.Goals as goal

pub returns : goal.returns
returns t c =
    turn_pushed c.args.text.now.items _ _ _ _ c.args.left c.args.first (search rules) c.in_ok-extend_from_slice-2.ensures.items
    (rw c.from.ensures at c.in_ok-push_numeral.ensures.text) c.in_ok-extend_from_slice-3.ensures.items c.in_ok-push_turn.ensures
