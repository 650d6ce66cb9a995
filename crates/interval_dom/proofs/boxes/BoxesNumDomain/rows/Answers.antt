use Rattle.std.proofs.Common.{◌∙◌, ap, arith, map}
use Rattle.linear_cons.specs.declared.row.Row.{Row}
use Rattle.interval_dom.specs.Boxes.{bounds_of, rows_of}
use Rattle.num_domain.proofs.LineLaws.{if_ok_more}
use Rattle.interval_dom.proofs.LineRows.{rows_listed}
use Rattle.interval_dom.proofs.boxes.BoxesNumDomain.rows.Goals as goal

pub returns-clause-each : goal.returns-clause-each
unfolding rows_of
returns-clause-each c =
    if_ok_more c.listed.result _ _
    (λ rows is. ap (λ t. map (λ (row : Row). row.affine) t) is ∙ rows_listed 16 (bounds_of c.args.self.now) (omega arith))
    c.listed.ensures.rows
