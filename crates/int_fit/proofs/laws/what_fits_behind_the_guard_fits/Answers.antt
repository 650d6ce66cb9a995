use Rattle.int_fit.proofs.Guarded.{fits_behind}
use Rattle.int_fit.proofs.laws.what_fits_behind_the_guard_fits.Goals as goal

pub returns : goal.returns
returns c = fits_behind
