use Rattle.std.proofs.Common.{negsuc}
use Rattle.linear_cons.specs.Functions.{multiple_of}
use Rattle.linear_forms.proofs.Known.{formed, unformed}
use Rattle.fit_check.proofs.ranging.negated.Goals as goal

pub returns-in-Ok : goal.returns-in-Ok
returns-in-Ok c =
    rw (c.end_multiple.ensures, c.end_multiple-in-Ok.ensures) (formed _ _ (multiple_of c.args.form.now.affine (negsuc 0)) _ _ c.in-Ok.is c.scale.ensures.exact)

pub returns-in-Err : goal.returns-in-Err
returns-in-Err c =
    rw c.constant.ensures (unformed _ _ (multiple_of c.args.form.now.affine (negsuc 0)) _ _ c.in-Err.is c.scale.ensures.exact)
