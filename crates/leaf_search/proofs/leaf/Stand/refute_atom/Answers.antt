use Rattle.std.proofs.Common.{sym, ◌∙◌}
use Rattle.linear_cons.specs.Functions.{complement_of}
use Rattle.constraint_stack.specs.Forming.{given}
use Rattle.leaf_search.proofs.Leaving.{atom_fails, atom_tried}
use Rattle.leaf_search.proofs.leaf.Stand.refute_atom.Goals as goal

pub returns-in-Some-clause-searched : goal.returns-in-Some-clause-searched
returns-in-Some-clause-searched g c at is_at asks held =
    atom_tried g.R.Rank at c.args.self.now.part is_at.formula asks c.args.self.now.label c.in-Some.function c.in_ok-refuted.refuted c.refute_with.new.found (sym c.function.ensures ∙ c.in-Some.is)
    (c.in_ok-refuted.ensures.tried asks held (given (complement_of c.in-Some.function)) c.complement.ensures)

pub returns-clause-searched : goal.returns-clause-searched
returns-clause-searched g c at is_at asks held =
    atom_fails g.R.Rank at c.args.self.now.part is_at.formula asks c.args.self.now.label c.in_ok-refuted-2.refuted c.refute_plain.new.found (sym c.function.ensures ∙ c.in_default.is)
    (sym c.holds_at.ensures ∙ c.if-holds_at.false) (c.in_ok-refuted-2.ensures.tried asks held)
