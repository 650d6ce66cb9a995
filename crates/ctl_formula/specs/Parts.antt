-- The numbers of a formula's parts: operands before their operator, and the first before the second, so the whole comes last.
use Rattle.std.specs.Prelude.{ℕ, zero, suc, Option, None, Some}
use Rattle.ctl_formula.specs.Formulas.{Ctl, truth, falsity, exit, not_exit, always, never, least, negation, both, either, next, until, weak}

-- the number of the formula itself, where the first of its parts has the number k
abbrev pub number_from : ℕ → Ctl → ℕ
number_from k truth = k
number_from k falsity = k
number_from k exit = k
number_from k not_exit = k
number_from k always = k
number_from k never = k
number_from k (least a) = k
number_from k (negation f) = suc (number_from k f)
number_from k (both f g) = suc (number_from (suc (number_from k f)) g)
number_from k (either f g) = suc (number_from (suc (number_from k f)) g)
number_from k (next all f) = suc (number_from k f)
number_from k (until all f g) = suc (number_from (suc (number_from k f)) g)
number_from k (weak all f g) = suc (number_from (suc (number_from k f)) g)

-- the number of an operand by its place, 0 for the first and 1 for the second; past the last there is none
abbrev pub operand_from : ℕ → Ctl → ℕ → Option ℕ
operand_from k (negation f) zero = Some (number_from k f)
operand_from k (both f g) zero = Some (number_from k f)
operand_from k (both f g) (suc zero) = Some (number_from (suc (number_from k f)) g)
operand_from k (either f g) zero = Some (number_from k f)
operand_from k (either f g) (suc zero) = Some (number_from (suc (number_from k f)) g)
operand_from k (next all f) zero = Some (number_from k f)
operand_from k (until all f g) zero = Some (number_from k f)
operand_from k (until all f g) (suc zero) = Some (number_from (suc (number_from k f)) g)
operand_from k (weak all f g) zero = Some (number_from k f)
operand_from k (weak all f g) (suc zero) = Some (number_from (suc (number_from k f)) g)
operand_from k formula place = None
