use Rattle.std.proofs.Common.{◌≡◌, Some, rules, true}
use Rattle.std.proofs.lemmas.Fn.{filter_same}
use Rattle.linear_cons.specs.Settling.{settles}
use Rattle.poly_dom.proofs.AddedRows.{added_row, added_told, untold}
use Rattle.poly_dom.proofs.adding.add.Goals as goal

pub returns-in-Some-true : goal.returns-in-Some-true
returns-in-Some-true c =
    let told : settles c.args.rows.now.items c.args.row.now ≡ Some true = cc in
    added_told _ _ c.requires told

pub returns : goal.returns
returns c =
    let kept = filter_same _ (untold c.args.row.now) _ (λ given b f call. search rules) _ _ c.retain.ensures.filtered in
    added_row _ _ c.retain.new.self.items c.make_room.new.rows.items _ c.requires kept c.make_room.ensures c.in_ok-push.ensures.items
