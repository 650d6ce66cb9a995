use Rattle.std.proofs.Common.{◌∙◌, sym}
use Rattle.forward_inv.proofs.Holding.{no_rows}
use Rattle.forward_inv.proofs.keeping.has_no_row.Goals as goal

pub returns : goal.returns
returns c truth = no_rows c.args.rows.now (sym c.is_empty.ensures ∙ truth)
