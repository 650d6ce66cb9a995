use Rattle.std.proofs.Common.{inl, inr, sym, ◌∙◌}
use Rattle.ctl_formula.specs.Mirror.{ctl}
use Rattle.tree_check.specs.Rounds.{setting_on}
use Rattle.tree_check.proofs.Narrowing.{some_is}
use Rattle.tree_check.proofs.rounds.Premises.picks_values.Goals as goal

pub returns-in-Range : goal.returns-in-Range
returns-in-Range g c none = inl (some_is (setting_on g.D.NumDomain c.args.self.now) (ctl c.args.self.now.formula.now) ∙ sym c.is_existential.ensures ∙ none)

pub returns-in_default : goal.returns-in_default
returns-in_default g c none = inr (λ lo hi same. c.in_default.not-Range lo hi (c.choice.ensures ∙ same))
