-- How many operators a formula has, and whether a negation is one of them.
use Rattle.std.specs.Prelude.{ℕ, ◌+◌, ⊤}
use Rattle.ctl_formula.specs.Formulas.{Ctl, truth, falsity, exit, not_exit, always, never, least, negation, both, either, next, until, weak}

-- each case but `true`, `false` and `exit` counts one
abbrev pub operators : Ctl → ℕ
operators truth = 0
operators falsity = 0
operators exit = 0
operators not_exit = 1
operators always = 1
operators never = 1
operators (least a) = 1
operators (negation f) = 1 + operators f
operators (both f g) = 1 + operators f + operators g
operators (either f g) = 1 + operators f + operators g
operators (next all f) = 1 + operators f
operators (until all f g) = 1 + operators f + operators g
operators (weak all f g) = 1 + operators f + operators g

-- a negation stands nowhere
abbrev pub HasNoNegation : Ctl → Type 0
HasNoNegation truth = ⊤
HasNoNegation falsity = ⊤
HasNoNegation exit = ⊤
HasNoNegation not_exit = ⊤
HasNoNegation always = ⊤
HasNoNegation never = ⊤
HasNoNegation (least a) = ⊤
HasNoNegation (negation f) = ⊥
HasNoNegation (both f g) = HasNoNegation f × HasNoNegation g
HasNoNegation (either f g) = HasNoNegation f × HasNoNegation g
HasNoNegation (next all f) = HasNoNegation f
HasNoNegation (until all f g) = HasNoNegation f × HasNoNegation g
HasNoNegation (weak all f g) = HasNoNegation f × HasNoNegation g
