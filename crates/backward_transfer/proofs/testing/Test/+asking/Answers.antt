use Rattle.std.proofs.Common.{◌+◌, ◌<◌, sym, ◌∙◌}
use Rattle.linear_cons.specs.Rows.{complement}
use Rattle.tree_unify.proofs.Building.{handed_on, stopped_in}
use Rattle.tree_unify.proofs.Meeting.{node_size}
use Rattle.backward_transfer.proofs.Parts.{joined}
use Rattle.backward_transfer.proofs.Trying.{rows_left, settle_falls}
use Rattle.backward_transfer.proofs.testing.Test.+asking.Goals as goal

pub ask_next-returns-in-Some : goal.ask_next-returns-in-Some
ask_next-returns-in-Some g t c = rw c.in-Some.ensures.cases.0 (rw c.items.ensures at c.ask_rows.ensures)

pub ask_rows-returns-in_err-first-in-None : goal.ask_rows-returns-in_err-first-in-None
ask_rows-returns-in_err-first-in-None g t c =
    let part = rw c.in_ok-down_by-in-None.ensures.down at c.in_err-first-in-None.ensures in
    rw (c.in-Some.ensures.cases.0, sym c.in-None.ensures) (handed_on _ _ c.from_residual-in_err-first-in-None.result c.from_residual-in_err-first-in-None.ensures.0 (stopped_in _ _ part (node_size g.R.PartialEq.eq g.met.R.Rank.equal_law _ _ _).0 (λ fits. fits.0) (λ room. room.0)))

pub ask_rows-returns-in-Err-ask_next : goal.ask_rows-returns-in-Err-ask_next
ask_rows-returns-in-Err-ask_next g t c =
    let way = c.in_default-turn.ensures.turned c.args.walk.now.trail c.in-Some.row.now (c.in_ok-first-in-None.ensures.trail ∙ c.in_ok-down_by-in-None.ensures.down) in
    let part = rw way at c.in-Err-ask_next.ensures in
    rw (c.in-Some.ensures.cases.0, sym c.in-None.ensures) (stopped_in _ _ part (node_size g.R.PartialEq.eq g.met.R.Rank.equal_law _ _ _).1 (λ fits. fits.2) (λ room. room.2))

pub ask_rows-returns-in-Ok : goal.ask_rows-returns-in-Ok
ask_rows-returns-in-Ok g t c =
    let at = c.in_ok-first-in-None.ensures.trail ∙ c.in_ok-down_by-in-None.ensures.down in
    let way = c.in_default-turn.ensures.turned c.args.walk.now.trail c.in-Some.row.now at in
    let first = rw c.in_ok-down_by-in-None.ensures.down at c.in_ok-first-in-None.ensures in
    let second = rw way at c.in-Ok.ensures in
    let between = c.in_default-turn.ensures.fits c.args.walk.now.trail c.in-Some.row.now at in
    let back = c.up.ensures.shortened c.args.walk.now.trail (complement c.in-Some.row.now) (c.in-Ok.ensures.trail ∙ way) in
    rw (c.in-Some.ensures.cases.0, sym c.in-None.ensures) (joined _ _ _ _ first between second c.join_by.ensures back)

pub settle-ask_next-requires : goal.settle-ask_next-requires
settle-ask_next-requires g t c κs within =
    let low = settle_falls c.args.holds c.args.found c.args.walk.now.trail c.deref.result.now c.args.self.now.no_rows.now c.in-None.is (c.deref.ensures.value ∙ c.in-Ok.ensures) in
    let step : rows_left c.deref.result.now + 1 + 0 < t = rw (← c.decreases) low in
    (step, within)

pub settle-returns-in-Ok : goal.settle-returns-in-Ok
settle-returns-in-Ok g t c =
    let left = c.deref.ensures.value ∙ c.in-Ok.ensures in
    let apart = sym c.one_held.ensures ∙ c.if-one_held.false in
    rw (c.in-None.is, apart) (rw left at c.ask_next.ensures)
