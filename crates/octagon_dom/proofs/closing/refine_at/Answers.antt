use Rattle.octagon_dom.proofs.closing.refine_at.Goals as goal

pub returns-in-Some-clause-keeps : goal.returns-in-Some-clause-keeps
returns-in-Some-clause-keeps c store below lies met = c.state.ensures.keeps store below (c.in-Some.ensures.keeps store lies met)
