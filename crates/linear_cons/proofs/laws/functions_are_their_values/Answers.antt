use Rattle.linear_cons.proofs.Forms.{affine_ext}
use Rattle.linear_cons.proofs.laws.functions_are_their_values.Goals as goal

pub returns : goal.returns
returns c = affine_ext
