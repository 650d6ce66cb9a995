-- Weights of trees, as measures of a walk: each tree weighs more than its parts.
use Rattle.std.proofs.Common.{ℕ, ◌+◌}
use Rattle.formula_syntax.specs.Trees.{Factor, factor_at, FactorKind, number, name, signed, summed, Tail, ended, further, Part, prefixed, quantified, truth, exit, compared, grouped, Chain, done, joined}

abbrev mutual
  pub factor_weight : Factor → ℕ
  factor_weight (factor_at at kind) = kind_weight kind

  pub kind_weight : FactorKind → ℕ
  kind_weight (number z) = 1
  kind_weight (name x) = 1
  kind_weight (signed negative e) = 1 + factor_weight e
  kind_weight (summed e more) = 1 + factor_weight e + tail_weight more

  pub tail_weight : Tail → ℕ
  tail_weight ended = 1
  tail_weight (further op e more) = 1 + factor_weight e + tail_weight more

abbrev mutual
  pub part_weight : Part → ℕ
  part_weight (prefixed p f) = 1 + part_weight f
  part_weight (quantified all f c weak g d) = 3 + part_weight f + chain_weight c + part_weight g + chain_weight d
  part_weight (truth b) = 1
  part_weight exit = 1
  part_weight (compared left c right) = 1
  part_weight (grouped at f c) = 2 + part_weight f + chain_weight c

  pub chain_weight : Chain → ℕ
  chain_weight done = 1
  chain_weight (joined k f more) = 2 + part_weight f + chain_weight more
