use Rattle.source_parse.proofs.Parsed.{programs_clean}
use Rattle.source_parse.proofs.laws.a_program_has_no_fault.Goals as goal

pub returns : goal.returns
returns c = programs_clean c.trees_are_unique.ensures c.programs_have_no_fault.ensures
