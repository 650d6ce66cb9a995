use Rattle.std.proofs.Common.{◌+◌, ◌*◌}
use Rattle.case_text.proofs.formulas.+reading.Given as goal

abbrev pub decreases-read_part : goal.decreases-read_part
decreases-read_part l = 3 * l.levels

abbrev pub decreases-read_operand : goal.decreases-read_operand
decreases-read_operand l = 3 * l.levels + 1

abbrev pub decreases-read_path : goal.decreases-read_path
decreases-read_path l = 3 * l.levels + 2
