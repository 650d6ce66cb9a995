use Rattle.std.proofs.Common.{arith}
use Rattle.tree_check.specs.Rounds.{setting_on}
use Rattle.tree_check.proofs.Telling.{elsewhere_next}
use Rattle.tree_check.proofs.rounds.Premises.leading.Goals as goal
use Rattle.tree_check.proofs.rounds.Premises.leading.Goals.{then-leads, else-leads}

pub loop-number-preserved : goal.loop-number-preserved
loop-number-preserved g c = elim c.if-leads.branch [
  | then-leads w ↦ rw w.count-is (
    (let low = c.loop-number.invariant.0 in omega (arith, low)),
    λ none number d later below. absurd (omega (arith, none)),
  )
  | else-leads w ↦ rw w.count-is (
    (let low = c.loop-number.invariant.0 in omega (arith, low)),
    λ none. elsewhere_next g.R.Rank (setting_on g.D.NumDomain c.args.self.now) c.args.drops.now c.args.from c.loop-number.number c.args.label _
        (omega arith) (c.leads.ensures w.if-leads.false) (c.loop-number.invariant.1 none),
  )
]

pub returns : goal.returns
returns g c none number d later low =
    let end = c.loop-number-test.false in
    c.loop-number.invariant.1 none number d later (omega (arith, low, end))
