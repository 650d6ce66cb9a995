use Rattle.report_text.proofs.Cutting.{section_front}
use Rattle.report_text.proofs.laws.a_front_is_cut_into_fronts.Goals as goal

pub returns : goal.returns
returns c = λ front rest role. section_front role front rest
