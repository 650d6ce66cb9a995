use Rattle.octagon_dom.proofs.Members.{twin_holds}
use Rattle.octagon_dom.proofs.meeting.enter.Goals as goal

pub returns-in-Some-clause-keeps : goal.returns-in-Some-clause-keeps
returns-in-Some-clause-keeps c store below met =
    let stated = c.in-Some.stated in
    let holds = c.in-Some.ensures.keeps store met in
    c.lower-in-Some.ensures.keeps store (c.lower.ensures.keeps store below holds)
    (twin_holds store stated.high stated.low c.turned.result c.turned-in-Some.result _ c.turned.ensures c.turned-in-Some.ensures holds)

pub returns-in-Some-clause-inside : goal.returns-in-Some-clause-inside
returns-in-Some-clause-inside c store below = c.lower.ensures.inside store (c.lower-in-Some.ensures.inside store below)
