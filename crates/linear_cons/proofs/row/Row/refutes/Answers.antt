use Rattle.std.proofs.Common.{◌≡◌, length, rules}
use Rattle.linear_cons.proofs.Telling.{refuted}
use Rattle.linear_cons.proofs.row.Row.refutes.Goals as goal

pub returns : goal.returns
returns c =
    let long : length c.args.self.now.affine.coef ≡ 16 = search rules in
    refuted c.args.self.now c.args.other.now c.opposed.result long c.opposed.ensures
