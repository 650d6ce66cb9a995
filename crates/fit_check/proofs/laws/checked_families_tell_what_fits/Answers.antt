use Rattle.fit_check.proofs.Fitted.{family_fits}
use Rattle.fit_check.proofs.laws.checked_families_tell_what_fits.Goals as goal

pub returns : goal.returns
returns c = family_fits
