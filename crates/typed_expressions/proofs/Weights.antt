-- Weights of operands and of what stands behind them, as measures of a walk: each weighs more than its parts.
use Rattle.std.proofs.Common.{ℕ, ◌+◌}
use Rattle.concrete_syntax.specs.Trees.{Operand, operand_at, OperandKind, signed, parentheses, Link, operation, division, Tail, ended, further}

abbrev mutual
  pub operand_weight : Operand → ℕ
  operand_weight (operand_at at kind) = operand_kind_weight kind

  pub operand_kind_weight : OperandKind → ℕ
  operand_kind_weight (signed prefix e) = 1 + operand_weight e
  operand_kind_weight (parentheses e more) = 1 + operand_weight e + tail_weight more
  operand_kind_weight _ = 0

  pub link_weight : Link → ℕ
  link_weight (operation op e) = 1 + operand_weight e
  link_weight (division sign d) = 0

  pub tail_weight : Tail → ℕ
  tail_weight ended = 0
  tail_weight (further link more) = 1 + link_weight link + tail_weight more
