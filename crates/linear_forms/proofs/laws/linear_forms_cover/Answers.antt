use Rattle.linear_forms.proofs.Covering.{linear_covers}
use Rattle.linear_forms.proofs.Exactness.{linear_exact, only_named}
use Rattle.linear_forms.proofs.laws.linear_forms_cover.Goals as goal

pub returns : goal.returns
returns c = record { cover = linear_covers; exact = linear_exact; named = only_named }
