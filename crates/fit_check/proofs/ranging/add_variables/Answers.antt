use Rattle.std.proofs.Common.{List, ◌++◌, append-nil, ap, sym, ◌∙◌}
use Rattle.linear_cons.specs.declared.row.RowKind.{RowKind}
use Rattle.linear_cons.specs.Ends.{exactly}
use Rattle.linear_cons.specs.Functions.{variable_at}
use Rattle.fit_check.specs.Ranges.{own_rows}
use Rattle.fit_check.proofs.Safe.{no_variable, one_plus}
use Rattle.fit_check.proofs.ranging.add_variables.Goals as goal

pub loop-place-init : goal.loop-place-init
loop-place-init c = sym (append-nil c.args.kinds.now.items) ∙ ap (λ (rows : List RowKind). c.args.kinds.now.items ++ rows) (sym no_variable)

pub loop-place-preserved : goal.loop-place-preserved
loop-place-preserved c =
    let form = c.exactly.ensures ∙ ap exactly c.var.ensures in
    c.in_ok-add_form.ensures
    ∙ ap (λ form. c.loop-place.kinds.items ++ own_rows form) form
    ∙ ap (λ (rows : List RowKind). rows ++ own_rows (exactly (variable_at c.loop-place.place))) c.loop-place.invariant
    ∙ one_plus c.loop-place.place c.args.kinds.now.items
